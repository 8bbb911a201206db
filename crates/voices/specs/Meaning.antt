-- The meaning of a unit and the laws that every unit keeps. A unit hears one X at a time, of which `quiet` is the silent
-- one: a plain unit hears frames. It answers a frame each time.
use Rattle.std.specs.Prelude.{◌≡◌, ℕ, ◌≤◌, List, ◌++◌, length, take, replicate}
use Rattle.frames.specs.Samples.{silence}
use Rattle.frames.specs.declared.samples.Frame.{Frame}

-- How many frames late the unit is; what it makes of a list that it hears from rest; and what it makes of one that it
-- hears from its state now.
pub record Meaning (X : Type 0) : Type 0 where
  pub late : ℕ
  pub voice : List X → List Frame
  pub present : List X → List Frame

pub record Lawful {X : Type 0} (quiet : X) (m : Meaning X) : Type 0 where
  -- a unit is at most 63 frames late
  pub late_bound : m.late ≤ 63
  -- both voices keep the length
  pub voice_length : (x : List X) → length (m.voice x) ≡ length x
  pub present_length : (x : List X) → length (m.present x) ≡ length x
  -- the voice of a list begins with the voice of each beginning of it
  pub voice_begins : (x y : List X) → take (length x) (m.voice (x ++ y)) ≡ m.voice x
  -- the voice of k silent frames and then x is k silent frames and then the voice of x
  pub voice_waits : (k : ℕ) (x : List X) → m.voice (replicate k quiet ++ x) ≡ replicate k silence ++ m.voice x
