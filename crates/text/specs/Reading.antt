-- The definition of reading: lines in order, each through its checks in order.
use Rattle.std.specs.Prelude.{◌≡◌, ℕ, ◌+◌, Bool, false, cond, not, ◌&&◌, ◌||◌, ◌⊎◌, List, [], ◌∷◌, length, Ok, Err, Result, ◌==◌, nat_le, nat_lt}
use Rattle.session.specs.Contents.{Contents, no_contents}
use Rattle.words.specs.Bytes.{known_run}
use Rattle.words.specs.Pieces.{is_nil, nothing_follows, split}
use Rattle.text.specs.Turning.{Turned, has_held, whole_turn}
use Rattle.words.specs.Words.{Cursor, line_words}
use Rattle.words.specs.declared.faults.ReadFault.{ReadFault}
use Rattle.words.specs.declared.faults.ReadFault.TheVariants.{Byte, Long, NoMemory, Rest, Space}
use Rattle.text.specs.declared.stages.Stage.{Stage}
use Rattle.text.specs.declared.stages.Stage.TheVariants.{Head}

-- One check, and then the next.
abbrev pub passes : {X Y : Type 0} → Result X ReadFault → (X → Result Y ReadFault) → Result Y ReadFault
passes (Ok x) f = f x
passes (Err e) f = Err e

-- The bytes of a line: all are known, and it is not the last piece, which no 0A ends.
abbrev pub bytes_check : ℕ → List ℕ → Bool → Result (Unit {0}) ReadFault
bytes_check row line last = cond (last || nat_lt (known_run line) (length line)) (Err (Byte (record { line = row; column = known_run line + 1 }))) (Ok tt)

-- The spaces: a word stands wherever one should begin, the first at column c.
unfoldable pub spaces_check : ℕ → ℕ → List (List ℕ) → Result (Unit {0}) ReadFault
spaces_check row c [] = Ok tt
spaces_check row c (p ∷ ps) = cond (length p == 0) (Err (Space (record { line = row; column = c }))) (spaces_check row (c + length p + 1) ps)

abbrev pub value_of : {X : Type 0} → Result (X × Cursor) ReadFault → Result X ReadFault
value_of (Ok p) = Ok p.0
value_of (Err e) = Err e

-- A whole line.
abbrev pub line_read : ℕ → Stage → Contents → List ℕ → Bool → Result Turned ReadFault
line_read row stage c line last =
    passes (bytes_check row line last) (λ _. passes (spaces_check row 1 (split 32 line)) (λ _. value_of (whole_turn stage c (line_words row line))))

-- After `end` there is only the empty piece after its 0A.
abbrev pub closed : {X : Type 0} → ℕ → List (List ℕ) → X → Result X ReadFault
closed row rest c = cond (nothing_follows rest) (Ok c) (Err (Rest (record { line = row + 1; column = 1 })))

-- The lines from line `row` on.
unfoldable pub lines_read : ℕ → Stage → Contents → List (List ℕ) → Result Contents ReadFault
lines_read row stage c [] = Err (Byte (record { line = row; column = 1 }))
lines_read row stage c (line ∷ rest) =
    passes (line_read row stage c line (is_nil rest)) (λ t. cond t.ended (closed row rest t.held) (lines_read (row + 1) t.stage t.held rest))

-- What a text gives: what the session holds, or the first check that fails.
abbrev pub reading : List ℕ → Result Contents ReadFault
reading text = cond (nat_le (length text) 16384) (lines_read 1 Head no_contents (split 10 text)) (Err Long)

-- Whether a line is all right and holds a node or a line.
abbrev pub line_holds : Result Turned ReadFault → Bool
line_holds (Ok t) = has_held t
line_holds (Err e) = false

abbrev pub held_by_then : Result Turned ReadFault → (Turned → Bool) → Bool
held_by_then (Ok t) later = has_held t || (not t.ended && later t)
held_by_then (Err e) later = false

-- Whether the lines from line `row` on are all right up to one that holds a node or a line.
unfoldable pub some_held : ℕ → Stage → Contents → List (List ℕ) → Bool
some_held row stage c [] = false
some_held row stage c (line ∷ rest) = held_by_then (line_read row stage c line (is_nil rest)) (λ t. some_held (row + 1) t.stage t.held rest)

-- Whether memory may be wanted for a text: it is not too long, and its lines are all right up to the first node's.
abbrev pub may_want : List ℕ → Bool
may_want text = nat_le (length text) 16384 && some_held 1 Head no_contents (split 10 text)

-- A call does what the definition says, or it wants memory where May holds.
abbrev pub GivesOrWants : {T X : Type 0} → (T → X) → Result T ReadFault → Result X ReadFault → Type 0 → Type 0
GivesOrWants f (Ok t) spec May = spec ≡ Ok (f t)
GivesOrWants f (Err e) spec May = (spec ≡ Err e) ⊎ ((e ≡ NoMemory) × May)
