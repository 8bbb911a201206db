-- The values that the settings of each kind can have.
use Rattle.std.specs.Prelude.{◌≡◌, ℕ, ◌%◌, ◌≤◌}

-- A fir has an odd number of taps, at most 31.
abbrev pub FirRange : ℕ → Type 0
FirRange count = (count % 2 ≡ 1) × (count ≤ 31)

-- A limit looks at most 63 frames ahead, and its ceiling is a sample above 0.
abbrev pub LimitRange : ℕ → ℕ → Type 0
LimitRange lookahead ceiling = (lookahead ≤ 63) × (1 ≤ ceiling) × (ceiling ≤ 32767)

abbrev pub PanRange : ℕ → Type 0
PanRange position = position ≤ 256

abbrev pub DelayRange : ℕ → Type 0
DelayRange frames = frames ≤ 63
