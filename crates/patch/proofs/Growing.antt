-- How an order grows.
use Rattle.std.proofs.Common.{◌≡◌, ℕ, zero, suc, ◌+◌, ◌-◌, ◌<◌, List, [], ◌∷◌, ◌++◌, length, Some, None, Option, sym, refl, ap, ◌∙◌, arith}
use Rattle.patch.specs.Placing.{can_follow, grown, lowest, order_of}
use Rattle.session.specs.Plan.{Plan}
use Rattle.std.proofs.lemmas.List.{length_push}

abbrev pub grown_by : Plan → ℕ → List ℕ → Option ℕ → List ℕ
grown_by p m order None = order
grown_by p m order (Some v) = grown p m (order ++ v ∷ [])

pub grown_next : (p : Plan) (m : ℕ) (order : List ℕ) → grown p (suc m) order ≡ grown_by p m order (lowest (can_follow p order) (length p.nodes))
grown_next p m order = go (lowest (can_follow p order) (length p.nodes))
  where
    go : (o : Option ℕ) → elim o [ None ↦ order | Some v ↦ grown p m (order ++ v ∷ []) ] ≡ grown_by p m order o
    go None = refl
    go (Some v) = refl

pub grows : (p : Plan) (m k : ℕ) (order : List ℕ) (v : ℕ) → m ≡ suc k → lowest (can_follow p order) (length p.nodes) ≡ Some v
    → grown p m order ≡ grown p k (order ++ v ∷ [])
grows p m k order v s e = ap (λ n. grown p n order) s ∙ (grown_next p k order ∙ ap (grown_by p k order) e)

pub stays : (p : Plan) (m : ℕ) (order : List ℕ) → lowest (can_follow p order) (length p.nodes) ≡ None → grown p m order ≡ order
stays p zero order e = refl
stays p (suc m) order e = grown_next p m order ∙ ap (grown_by p m order) e

-- An order that grows to the whole, one node further.
pub grows_on : (p : Plan) (order more : List ℕ) (v : ℕ) → grown p (length p.nodes - length order) order ≡ order_of p
    → length order < length p.nodes → lowest (can_follow p order) (length p.nodes) ≡ Some v → more ≡ order ++ v ∷ []
    → grown p (length p.nodes - length more) more ≡ order_of p
grows_on p order more v whole short next longer =
    let long : length more ≡ length order + 1 = ap length longer ∙ length_push order v in
    let left : length p.nodes - length order ≡ suc (length p.nodes - length more) = omega arith in
    ap (grown p (length p.nodes - length more)) longer
    ∙ (sym (grows p (length p.nodes - length order) (length p.nodes - length more) order v left next) ∙ whole)
