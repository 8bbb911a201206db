-- The two kinds of value that go along the lines.
use Rattle.std.specs.Prelude.{ℕ, ◌+◌, ◌/◌, ◌%◌, ◌^◌, min, max, Bool, List, ◌==◌, bit_or, slice_index}
use Rattle.patch.specs.Sweeps.{Kind}

-- Latenesses: from 0, the larger of two, and each node adds its unit's. (No sum reaches 65,535.)
abbrev pub lateness_kind : List ℕ → Kind ℕ
lateness_kind units = record { start = 0; join = max; step = λ v x. min (x + slice_index units v) 65535 }

-- Sets of nodes as numbers of 16 bits, bit v for node v: from the empty set, the union of two, and each node adds itself.
abbrev pub feeders_kind : Kind ℕ
feeders_kind = record { start = 0; join = bit_or; step = λ v x. bit_or x (2 ^ v) }

-- Is w in a set?
abbrev pub in_set : ℕ → ℕ → Bool
in_set set w = (set / 2 ^ w % 2) == 1
