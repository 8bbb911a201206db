-- Induction and recursion along the lines of a plan whose nodes can be placed.
use Rattle.std.proofs.Common.{◌≡◌, ℕ, zero, suc, ◌<◌, length, ap, arith}
use Rattle.session.specs.Plan.{KeepsRules, Plan, line}
use Rattle.signals.proofs.Lines.{EachInto}
use Rattle.signals.specs.Patches.{Ordered}

-- What passes from the starts of all lines into a node on to the node holds of every node.
module _ (p : Plan) (place : ℕ → ℕ) (rules : KeepsRules p) (order : Ordered p place) (P : ℕ → Type 0)
    (on : (v : ℕ) → v < length p.nodes → EachInto p v (λ i. P (line p i).start) → P v) where
  up_to : (k v : ℕ) → place v < k → v < length p.nodes → P v
  up_to zero v h l = absurd (omega arith)
  up_to (suc k) v h l =
      on v l (λ i b e. up_to k (line p i).start (omega (arith, order.before i b, ap place e)) (rules.starts i b))

  pub from_starts : (v : ℕ) → v < length p.nodes → P v
  from_starts v l = up_to (suc (place v)) v (omega arith) l

-- The values that a rule gives each node from those of the starts of its lines in, after k rounds.
abbrev pub rounds : {A : Type 0} → A → ((ℕ → A) → ℕ → A) → ℕ → ℕ → A
rounds first rule zero v = first
rounds first rule (suc k) v = rule (rounds first rule k) v

-- A node's value once all nodes before it have theirs.
abbrev pub settled : {A : Type 0} → (ℕ → ℕ) → A → ((ℕ → A) → ℕ → A) → ℕ → A
settled place first rule v = rounds first rule (suc (place v)) v

-- A rule looks only at the starts of a node's lines in.
abbrev pub LooksBack : {A : Type 0} → Plan → ((ℕ → A) → ℕ → A) → Type 0
LooksBack {A} p rule =
    (f g : ℕ → A) (v : ℕ) → EachInto p v (λ i. f (line p i).start ≡ g (line p i).start) → rule f v ≡ rule g v

module _ {A : Type 0} (p : Plan) (place : ℕ → ℕ) (order : Ordered p place) (first : A) (rule : (ℕ → A) → ℕ → A) (looks : LooksBack p rule) where
  settles : (k j v : ℕ) → place v < k → place v < j → rounds first rule k v ≡ rounds first rule j v
  settles zero j v h l = absurd (omega arith)
  settles (suc k) zero v h l = absurd (omega arith)
  settles (suc k) (suc j) v h l =
      looks (rounds first rule k) (rounds first rule j) v (λ i b e.
      settles k j (line p i).start (omega (arith, order.before i b, ap place e)) (omega (arith, order.before i b, ap place e)))

  -- The settled values meet the rule.
  pub meets_rule : (v : ℕ) → settled place first rule v ≡ rule (settled place first rule) v
  meets_rule v =
      looks (rounds first rule (place v)) (settled place first rule) v (λ i b e.
      settles (place v) (suc (place (line p i).start)) (line p i).start (omega (arith, order.before i b, ap place e)) (omega arith))
