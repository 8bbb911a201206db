use Rattle.std.proofs.Common.{◌≡◌, suc, ◌+◌, ◌-◌, ◌<◌, ◌++◌, drop, take, set, Ok, sym, ap, ◌∙◌, arith, w16, SFits, rules}
use Rattle.std.proofs.lemmas.List.{set-append_left, length-take-le, take-append-drop}
use Rattle.std.proofs.lemmas.Result.{err_from_is_err_and}
use Rattle.std.proofs.lemmas.Int.{to_z-of_z}
use Rattle.forms.proofs.Taps.{taps_end, taps_more, taps_stop}
use Rattle.forms.proofs.kinds.fill.Goals as goal
use Rattle.forms.specs.Forms.{taps_form}
use Rattle.words.specs.Words.{cursor}

pub loop-tap-init : goal.loop-tap-init
loop-tap-init c =
    let z : c.args.count - 0 ≡ c.args.count = omega arith in
    ap (λ n. taps_form 0 n (take c.from.result c.args.taps.now ++ drop c.args.count c.args.taps.now) (cursor c.args.words.now)) z
    ∙ ap (λ l. taps_form 0 c.args.count l (cursor c.args.words.now)) (ap (λ n. take n c.args.taps.now ++ drop c.args.count c.args.taps.now) c.from.ensures ∙ take-append-drop c.args.count c.args.taps.now)

pub returns-in_err-tap : goal.returns-in_err-tap
returns-in_err-tap c =
    let p = err_from_is_err_and c.from_residual.result c.from_residual.ensures.1 in
    let i = c.loop-tap.tap-index in
    let all = c.loop-tap.tap-items ++ drop c.args.count c.args.taps.now in
    let few : i < c.args.count = search (rules, arith, length-take-le, c.loop-tap-test.true, c.loop-tap.auto, c.told-taps, c.requires, c.from.ensures) in
    let n : c.args.count - i ≡ suc (c.args.count - (i + 1)) = omega arith in
    rw (p.1, p.2) (sym (ap (λ m. taps_form i m all (cursor c.loop-tap.words)) n
    ∙ taps_stop i _ all (cursor c.loop-tap.words) _ c.in_err-tap.ensures.value) ∙ c.loop-tap.invariant)

pub loop-tap-preserved : goal.loop-tap-preserved
loop-tap-preserved c =
    let i = c.loop-tap.tap-index in
    let rest = drop c.args.count c.args.taps.now in
    let all = c.loop-tap.tap-items ++ rest in
    let g = c.in_ok-tap.field-0 in
    let f : SFits w16 c.in_ok-tap.field-0 = search rules in
    let few : i < c.args.count = search (rules, arith, length-take-le, c.loop-tap-test.true, c.loop-tap.auto, c.told-taps, c.requires, c.from.ensures) in
    let n : c.args.count - i ≡ suc (c.args.count - (i + 1)) = omega arith in
    ap (λ z. taps_form (i + 1) (c.args.count - (i + 1)) (set c.loop-tap.tap-items i z ++ rest) (cursor c.gain.new.words)) (to_z-of_z w16 g f)
    ∙ ap (λ l. taps_form (i + 1) (c.args.count - (i + 1)) l (cursor c.gain.new.words)) (sym (set-append_left c.loop-tap.tap-items rest i g (search (rules, arith, c.loop-tap-test.true, c.loop-tap.auto))))
    ∙ sym (ap (λ m. taps_form i m all (cursor c.loop-tap.words)) n ∙ taps_more i _ all (cursor c.loop-tap.words) g _ c.in_ok-tap.ensures.value)
    ∙ c.loop-tap.invariant

pub returns : goal.returns
returns c =
    let i = c.loop-tap.tap-index in
    let all = c.loop-tap.tap-items ++ drop c.args.count c.args.taps.now in
    let n : c.args.count - i ≡ 0 = search (rules, arith, length-take-le, c.loop-tap-test.false, c.loop-tap.auto, c.told-taps, c.requires, c.from.ensures) in
    ap (λ n. Ok (c.loop-tap.tap-items ++ drop n c.args.taps.now, cursor c.loop-tap.words)) c.from.ensures ∙ sym (taps_end i all (cursor c.loop-tap.words)) ∙ ap (λ m. taps_form i m all (cursor c.loop-tap.words)) (sym n) ∙ c.loop-tap.invariant
