-- Scripts: what a session text says, line by line, and how it is spelt.
use Rattle.std.specs.Prelude.{◌≡◌, ℕ, ◌+◌, ◌%◌, ◌<◌, ◌≤◌, true, List, [], ◌∷◌, ◌++◌, map, length, replicate, ℤ, pos, Some, None, codes, decimal, Option, slice_set}
use Rattle.std.specs.Int.Signed.{mag}
use Rattle.session.specs.Contents.{Contents, Effect, bypass_fits, delay, fir, limit, line_fits, no_contents, node_fits, pan, trim_fits, unit_fits, with_bypass, with_line, with_node, with_rate, with_trim, with_unit}
use Rattle.session.specs.declared.nodes.Line.{Line}
use Rattle.session.specs.declared.nodes.Node.{Node}
use Rattle.session.specs.declared.nodes.Source.{Source}
use Rattle.session.specs.declared.nodes.Source.TheVariants.{Track, Bus}
use Rattle.std.specs.List.{flat_map, AllByRecursion}
use Rattle.std.specs.Fmt.{signed_decimal}

-- A unit's kind, as a unit line has it.
pub data Sort : Type 0 where
  a_fir : (taps : List ℤ) → Sort
  a_limit : (lookahead ceiling : ℕ) → Sort
  a_pan : (position : ℕ) → Sort
  a_delay : (frames : ℕ) → Sort

-- A unit line or a layer line.
pub data Setup : Type 0 where
  sets : (unit : ℕ) → Sort → Setup
  trims : (unit : ℕ) (gain : ℤ) → Setup
  bypasses : (unit : ℕ) → Setup

-- A session line, unit and layer lines, node lines, line lines, and `end`.
pub record Script : Type 0 where
  pub rate : ℕ
  pub setups : List Setup
  pub nodes : List Node
  pub lines : List Line

-- The words of each line.
abbrev pub sort_words : Sort → List (List ℕ)
sort_words (a_fir taps) = codes "fir" ∷ decimal (length taps) ∷ map signed_decimal taps
sort_words (a_limit lookahead ceiling) = codes "limit" ∷ decimal lookahead ∷ decimal ceiling ∷ []
sort_words (a_pan position) = codes "pan" ∷ decimal position ∷ []
sort_words (a_delay frames) = codes "delay" ∷ decimal frames ∷ []

abbrev pub setup_words : Setup → List (List ℕ)
setup_words (sets s k) = codes "unit" ∷ decimal s ∷ sort_words k
setup_words (trims s gain) = codes "layer" ∷ decimal s ∷ codes "trim" ∷ signed_decimal gain ∷ []
setup_words (bypasses s) = codes "layer" ∷ decimal s ∷ codes "bypass" ∷ []

abbrev pub source_words : Source → List (List ℕ)
source_words (Track track) = codes "track" ∷ decimal track ∷ []
source_words Bus = codes "bus" ∷ []

abbrev pub unit_words : Option ℕ → List (List ℕ)
unit_words None = []
unit_words (Some s) = codes "unit" ∷ decimal s ∷ []

abbrev pub node_words : ℕ → Node → List (List ℕ)
node_words v n = codes "node" ∷ decimal v ∷ (source_words n.source ++ unit_words n.unit)

abbrev pub link_words : Line → List (List ℕ)
link_words l = codes "line" ∷ decimal l.start ∷ decimal l.end ∷ signed_decimal l.gain ∷ []

abbrev pub session_words : ℕ → List (List ℕ)
session_words rate = codes "session" ∷ codes "1" ∷ decimal rate ∷ []

abbrev pub end_words : List (List ℕ)
end_words = codes "end" ∷ []

-- Nodes are numbered from v on.
unfoldable pub nodes_words : ℕ → List Node → List (List (List ℕ))
nodes_words v [] = []
nodes_words v (n ∷ ns) = node_words v n ∷ nodes_words (v + 1) ns

abbrev pub script_words : Script → List (List (List ℕ))
script_words s = session_words s.rate ∷ (map setup_words s.setups ++ (nodes_words 0 s.nodes ++ (map link_words s.lines ++ (end_words ∷ []))))

-- Further words, each after a space.
unfoldable pub spaced : List (List ℕ) → List ℕ
spaced [] = []
spaced (w ∷ ws) = 32 ∷ (w ++ spaced ws)

-- A line: words with single spaces between, and 0A.
abbrev pub line_bytes : List (List ℕ) → List ℕ
line_bytes [] = []
line_bytes (w ∷ ws) = w ++ spaced ws

abbrev pub spelt_line : List (List ℕ) → List ℕ
spelt_line ws = line_bytes ws ++ 10 ∷ []

abbrev pub spelt : Script → List ℕ
spelt s = flat_map spelt_line (script_words s)

-- A gain is from -32768 to 32767.
abbrev pub IsGain : ℤ → Type 0
IsGain z = mag z ≤ 32767

-- The taps at the front of 31 places.
unfoldable pub put_from : ℕ → List ℤ → List ℤ → List ℤ
put_from i [] places = places
put_from i (g ∷ gs) places = put_from (i + 1) gs (slice_set places i g)

abbrev pub made : Sort → Effect
made (a_fir taps) = fir (put_from 0 taps (replicate 31 (pos 0))) (length taps)
made (a_limit lookahead ceiling) = limit lookahead ceiling
made (a_pan position) = pan position
made (a_delay frames) = delay frames

abbrev pub SortRanges : Sort → Type 0
SortRanges (a_fir taps) = (length taps ≤ 31) × (length taps % 2 ≡ 1) × AllByRecursion IsGain taps
SortRanges (a_limit lookahead ceiling) = (lookahead ≤ 63) × (1 ≤ ceiling) × (ceiling ≤ 32767)
SortRanges (a_pan position) = position ≤ 256
SortRanges (a_delay frames) = frames ≤ 63

-- A unit is set once, to a kind that is for it; a layer is given once, for a unit that is set.
abbrev pub SetupFits : Contents → Setup → Type 0
SetupFits c (sets s k) = (unit_fits c s (made k) ≡ true) × SortRanges k
SetupFits c (trims s gain) = (s ≤ 7) × (trim_fits c s ≡ true) × IsGain gain
SetupFits c (bypasses s) = (s ≤ 7) × (bypass_fits c s ≡ true)

abbrev pub after_setup : Contents → Setup → Contents
after_setup c (sets s k) = with_unit c s (made k)
after_setup c (trims s gain) = with_trim c s gain
after_setup c (bypasses s) = with_bypass c s

abbrev pub SourceRange : Source → Type 0
SourceRange (Track track) = track ≤ 7
SourceRange Bus = Unit {0}

abbrev pub UnitRange : Option ℕ → Type 0
UnitRange None = Unit {0}
UnitRange (Some s) = s ≤ 7

-- At most 16 nodes, each with a unit that is set and no other node's, or with none.
abbrev pub NodeFits : Contents → Node → Type 0
NodeFits c n = (node_fits c n ≡ true) × SourceRange n.source × UnitRange n.unit

-- At most 48 lines, each from a declared node to one that is no track.
abbrev pub LinkFits : Contents → Line → Type 0
LinkFits c l = (line_fits c l ≡ true) × (l.start ≤ 15) × (l.end ≤ 15) × IsGain l.gain

-- Each line fits what the lines before it say.
abbrev pub AllFit : {X : Type 0} → (Contents → X → Type 0) → (Contents → X → Contents) → Contents → List X → Type 0
AllFit Fits after c [] = Unit {0}
AllFit Fits after c (x ∷ xs) = Fits c x × AllFit Fits after (after c x) xs

abbrev pub after_all : {X : Type 0} → (Contents → X → Contents) → Contents → List X → Contents
after_all after c [] = c
after_all after c (x ∷ xs) = after_all after (after c x) xs

abbrev pub with_setups : Script → Contents
with_setups s = after_all after_setup (with_rate no_contents s.rate) s.setups

abbrev pub with_nodes : Script → Contents
with_nodes s = after_all with_node (with_setups s) s.nodes

-- What a script says.
abbrev pub said : Script → Contents
said s = after_all with_line (with_nodes s) s.lines

-- A rate in range, at least one node, and every line fits the lines before it.
pub record WellFormed (s : Script) : Type 0 where
  pub least_rate : 8000 ≤ s.rate
  pub most_rate : s.rate ≤ 192000
  pub some_node : 0 < length s.nodes
  pub setups_fit : AllFit SetupFits after_setup (with_rate no_contents s.rate) s.setups
  pub nodes_fit : AllFit NodeFits with_node (with_setups s) s.nodes
  pub lines_fit : AllFit LinkFits with_line (with_nodes s) s.lines
