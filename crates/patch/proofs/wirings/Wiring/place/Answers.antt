use Rattle.std.proofs.Common.{◌≡◌, ◌-◌, true, [], length, sym, ap, ◌∙◌, subst, arith}
use Rattle.patch.proofs.Following.{follows, next_none, next_some}
use Rattle.patch.proofs.Growing.{grows_on, stays}
use Rattle.patch.proofs.Placed.{Sound, room, sound_none, sound_push}
use Rattle.patch.proofs.wirings.Wiring.place.Goals as goal
use Rattle.patch.specs.Orders.{listed}
use Rattle.patch.specs.Placing.{can_follow, grown, order_of}
use Rattle.patch.specs.Wirings.{wired}
use Rattle.std.proofs.lemmas.List.{length_push}

pub loop-v-init : goal.loop-v-init
loop-v-init c =
    let p = wired c.args.self.now in
    let whole : length p.nodes - 0 ≡ length p.nodes = omega arith in
    subst (λ xs. Sound p xs × (grown p (length p.nodes - length xs) xs ≡ order_of p)) (sym c.empty-order.ensures)
    (sound_none p, ap (λ m. grown p m []) whole)

pub push-requires : goal.push-requires
push-requires c =
    let f = c.in-Some.ensures in
    let p = wired c.args.self.now in
    let order = listed c.loop-v.order in
    record {
      node = omega (arith, c.args.self.now.rules.few_nodes, f.0);
      room = omega (arith, c.args.self.now.rules.few_nodes, room p order c.in-Some.v c.loop-v.invariant.0 f.0 (follows p order c.in-Some.v f.1.new f.1.hears));
    }

pub loop-v-smaller : goal.loop-v-smaller
loop-v-smaller c =
    let f = c.in-Some.ensures in
    let p = wired c.args.self.now in
    let order = listed c.loop-v.order in
    omega (
      arith,
      ap length c.push.ensures ∙ length_push order c.in-Some.v,
      room p order c.in-Some.v c.loop-v.invariant.0 f.0 (follows p order c.in-Some.v f.1.new f.1.hears),
    )

pub loop-v-preserved : goal.loop-v-preserved
loop-v-preserved c =
    let f = c.in-Some.ensures in
    let p = wired c.args.self.now in
    let order = listed c.loop-v.order in
    let v = c.in-Some.v in
    let before = c.loop-v.invariant in
    let can : can_follow p order v ≡ true = follows p order v f.1.new f.1.hears in (
      subst (Sound p) (sym c.push.ensures) (sound_push p order v before.0 f.0 can),
      grows_on p order (listed c.push.new.self) v before.1 (room p order v before.0 f.0 can) (next_some p order (length p.nodes) v f) c.push.ensures,
    )

pub returns : goal.returns
returns c =
    let p = wired c.args.self.now in
    let order = listed c.loop-v.order in
    sym (stays p _ order (next_none p order (length p.nodes) c.in_default.ensures)) ∙ c.loop-v.invariant.1
