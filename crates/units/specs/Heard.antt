-- What a ring of past frames holds.
use Rattle.std.specs.Prelude.{ℕ, ◌+◌, ◌%◌, cond, nat_lt, slice_index_or}
use Rattle.frames.specs.Samples.{silence}
use Rattle.frames.specs.declared.samples.Frame.{Frame}
use Rattle.units.specs.declared.past.Past.{Past}

-- The frame of k frames before the newest: the newest is at the place `at`, and each older one a place further round.
-- What lies 64 frames back and more is not kept, and silent here.
unfoldable pub heard : Past → ℕ → Frame
heard past k = cond (nat_lt k 64) (slice_index_or past.frames ((past.at + k) % 64) silence) silence
