use Rattle.std.proofs.Common.{◌≡◌, ◌≤◌, None, refl, arith, rules}
use Rattle.mixing.proofs.lengths.longest.Goals as goal
use Rattle.mixing.specs.Lengths.{longest, source_length}
use Rattle.reels.specs.Tracks.{ReelLaws, Tracks}
use Rattle.session.specs.declared.nodes.Node.{Node}
use Rattle.session.specs.declared.nodes.Source.{Source}
use Rattle.session.specs.declared.nodes.Source.TheVariants.{Bus, Track}
use Rattle.std.proofs.lemmas.Grind.{common_steps}
use Rattle.std.proofs.lemmas.List.Recursion.{max_bounds, max_least}

first : Node
first = record { source = Bus; unit = None }

-- no source is longer than a track may be
source_bound : (reel : Tracks) → ReelLaws reel → (s : Source) → source_length reel s ≤ 2147483647
source_bound reel laws (Track track) = laws.bounded track
source_bound reel laws Bus = omega arith

pub returns : goal.returns
returns g c =
    let reel = g.L.Reel.tracks c.args.reel.now in
    let laws = g.L.Reel.lawful c.args.reel.now in
    let nodes = c.args.nodes.now in
    let of = λ (n : Node). source_length reel n.source in
    let bounds = max_bounds (longest reel) of refl (λ _ _. refl) nodes in
    let least = max_least (longest reel) of refl (λ _ _. refl) nodes first c.unwrap_or.result (search rules) in
    let length : c.unwrap_or.result ≡ longest reel nodes = grind (arith, common_steps, bounds, least) in
    let bound = max_least (longest reel) of refl (λ _ _. refl) nodes first 2147483647 (λ i h. source_bound reel laws _) in
    record { length = length; bound = omega arith }
