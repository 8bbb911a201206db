-- That every WAVE reel keeps the laws of a reel: a proof, which no reader of the definitions needs.
use Rattle.std.specs.Prelude.{◌≡◌, ℕ, ◌+◌, ◌*◌, ◌≤◌, List, length, Some, None, ◌==◌, nat_le, nat_lt, refl}
use Rattle.std.proofs.Common.{arith}
use Rattle.frames.specs.Samples.{silence}
use Rattle.reels.specs.Tracks.{ReelLaws}
use Rattle.std.proofs.lemmas.Bool.{and_parts, cond_both, cond-false, cond-true, le-ltb, leb-true}
use Rattle.std.specs.Option.{unwrap_or}
use Rattle.wave.specs.Parts.{frame_at, frame_count, frames_in, inside, is_file_length, part_frame, part_frames}
use Rattle.wave.specs.Reel.{part_of, wave_tracks}
use Rattle.wave.specs.declared.parts.TrackPart.{TrackPart}

few_counted : (size : ℕ) → unwrap_or (frame_count size) 0 ≤ 2147483647
few_counted size =
    cond_both (is_file_length size) (Some (frames_in size)) None (λ o. unwrap_or o 0 ≤ 2147483647)
    (λ e. omega (arith, leb-true (frames_in size) 1048576 (and_parts (size == 44 + 4 * frames_in size) (nat_le (frames_in size) 1048576) e).1))
    (λ _. omega arith)

few_frames : (bytes : List ℕ) (p : TrackPart) → part_frames bytes p ≤ 2147483647
few_frames bytes p = cond_both (inside (length bytes) p) (unwrap_or (frame_count p.length) 0) 0 (λ k. k ≤ 2147483647) (λ _. few_counted p.length) (λ _. omega arith)

past_last : (bytes : List ℕ) (p : TrackPart) (n : ℕ) → part_frames bytes p ≤ n → part_frame bytes p n ≡ silence
past_last bytes p n h = cond-false (nat_lt n (part_frames bytes p)) (frame_at bytes (p.start + 44 + 4 * n)) silence (le-ltb n (part_frames bytes p) h)

pub wave_lawful : (bytes : List ℕ) (parts : List TrackPart) → ReelLaws (wave_tracks bytes parts)
wave_lawful bytes parts = record {
  bounded = λ track. cond_both (nat_lt track 8) (part_frames bytes (part_of parts track)) 0 (λ k. k ≤ 2147483647) (λ _. few_frames bytes (part_of parts track)) (λ _. omega arith);
  eight = λ track h. cond-false (nat_lt track 8) (part_frames bytes (part_of parts track)) 0 (le-ltb track 8 h);
  silent = λ track n h. cond_both (nat_lt track 8) (part_frame bytes (part_of parts track) n) silence (λ f. f ≡ silence)
      (λ e. let c = cond-true (nat_lt track 8) (part_frames bytes (part_of parts track)) 0 e in past_last bytes (part_of parts track) n (omega arith)) (λ _. refl);
}
