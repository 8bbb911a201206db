use Rattle.std.proofs.Common.{◌≡◌, ◌+◌, ◌++◌, length, drop, set, pos, sym, ap, ◌∙◌, ap₂, arith}
use Rattle.console.proofs.Filling.{after_more, out_length, out_more, set_next}
use Rattle.console.proofs.desks.Desk.fill.Goals as goal
use Rattle.console.specs.Desks.{desk_plan}
use Rattle.patch.specs.Patches.{delay_of, ordered_nodes}
use Rattle.playing.specs.Tape.{on_tape}
use Rattle.playing.specs.Work.{after_frames, Deck, deck, frame_work, frames_out}
use Rattle.std.proofs.lemmas.List.{append-nil, drop_all}

pub loop-k-preserved : goal.loop-k-preserved
loop-k-preserved g c =
    let d = c.args.self.now in
    let p = desk_plan d in
    let order = ordered_nodes d.patch in
    let delay = delay_of d.patch in
    let reel = g.L.Reel.tracks c.args.reel.now in
    let n = c.args.n in
    let k = c.loop-k.k in
    let first = deck (g.R.Rack.units c.args.rack.now) c.args.tape.now in
    let out = c.args.out.now in
    let h = c.fill_frame.ensures in
    let now : deck (g.R.Rack.units c.fill_frame.new.rack) c.fill_frame.new.tape ≡ after_frames p order delay reel (k + 1) n first =
    h.deck ∙ ap (frame_work p order delay reel (n + k)) c.loop-k.invariant.0 ∙ sym (after_more p order delay reel k n first) in (
      now,
      ap₂ (λ o f. set o k f) c.loop-k.invariant.1 (h.frame ∙ ap (λ (x : Deck). on_tape x.tape 0 (pos (n + k))) now)
          ∙ set_next (frames_out p order delay reel k n first) out k _ (out_length p order delay reel k n first) c.loop-k-test.true
          ∙ ap (λ l. l ++ drop (k + 1) out) (sym (out_more p order delay reel k n first)),
    )

pub returns : goal.returns
returns g c =
    let d = c.args.self.now in
    let p = desk_plan d in
    let order = ordered_nodes d.patch in
    let delay = delay_of d.patch in
    let reel = g.L.Reel.tracks c.args.reel.now in
    let n = c.args.n in
    let k = c.loop-k.k in
    let first = deck (g.R.Rack.units c.args.rack.now) c.args.tape.now in
    let all : k ≡ length c.args.out.now = omega arith in
    record {
      deck = c.loop-k.invariant.0 ∙ ap (λ j. after_frames p order delay reel j n first) all;
      out = c.loop-k.invariant.1 ∙ ap₂ (λ j rest. frames_out p order delay reel j n first ++ rest) all (drop_all k c.args.out.now (omega (arith, all))) ∙ append-nil (frames_out p order delay reel (length c.args.out.now) n first);
    }
