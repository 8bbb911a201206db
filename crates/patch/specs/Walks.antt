-- Numbers each of which names the next.
use Rattle.std.specs.Prelude.{ℕ, zero, suc, List, [], ◌∷◌, Some, None, Option}
use Rattle.patch.specs.Inputs.{next_after}
use Rattle.patch.specs.declared.inputs.walking.LinesInto.{LinesInto}

-- From `at` on, at most so many.
abbrev pub walk : (ℕ → Option ℕ) → ℕ → Option ℕ → List ℕ
walk next zero at = []
walk next (suc n) None = []
walk next (suc n) (Some i) = i ∷ walk next n (next i)

-- Those that a walk has yet to give; there are at most 48 lines, each named by an earlier one.
abbrev pub numbers_left : LinesInto → List ℕ
numbers_left s = walk (next_after s.inputs.now) 49 s.at
