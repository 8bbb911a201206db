-- How long a mix is.
use Rattle.std.specs.Prelude.{ℕ, List}
use Rattle.reels.specs.Tracks.{Tracks}
use Rattle.session.specs.declared.nodes.Node.{Node}
use Rattle.session.specs.declared.nodes.Source.{Source}
use Rattle.session.specs.declared.nodes.Source.TheVariants.{Bus, Track}
use Rattle.voices.specs.Kinds.{greatest}

-- A track's length; a bus has none.
abbrev pub source_length : Tracks → Source → ℕ
source_length reel (Track track) = reel.length_of track
source_length reel Bus = 0

-- The greatest length among the tracks of some nodes; 0 without any.
abbrev pub longest : Tracks → List Node → ℕ
longest reel nodes = greatest (λ n. source_length reel n.source) nodes
