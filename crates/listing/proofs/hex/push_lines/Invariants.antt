use Rattle.std.proofs.Common.{◌≡◌, ◌+◌, ◌*◌, ◌≤◌, ◌++◌, take, vec_items, vec_len, vec_capacity}
use Rattle.listing.proofs.hex.push_lines.Given as goal
use Rattle.listing.specs.Hex.{frame_lines}

abbrev pub invariant-loop-f : goal.invariant-loop-f
invariant-loop-f l =
    (vec_items l.out ≡ vec_items l.initial.out ++ frame_lines (take l.f-index l.frames))
    × (vec_len l.out ≡ vec_len l.initial.out + 9 * l.f-index)
    × (vec_capacity l.initial.out ≤ vec_capacity l.out)
