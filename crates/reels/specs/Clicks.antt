-- The click reel.
use Rattle.std.specs.Prelude.{◌+◌, ◌*◌, cond, pos, negsuc, ◌==◌, nat_lt}
use Rattle.frames.specs.Samples.{silence}
use Rattle.frames.specs.declared.samples.Frame.{Frame}
use Rattle.reels.specs.Tracks.{Tracks}

-- The one frame of a click track that is not silent: 16,000 and −16,000.
abbrev pub click : Frame
click = record { left = pos 16000; right = negsuc 15999 }

-- Track t, of 0 to 7, is 8t + 1 frames long and silent but for frame 8t.
abbrev pub clicks : Tracks
clicks = record {
  length_of = λ track. cond (nat_lt track 8) (8 * track + 1) 0;
  frame_of = λ track n. cond (nat_lt track 8) (cond (n == 8 * track) click silence) silence;
}
