-- A session's nodes and lines as plain lists, and the rules that they keep.
use Rattle.std.specs.Prelude.{◌≡◌, ℕ, ◌<◌, ◌≤◌, Bool, true, false, List, length, pos, Some, None, filter, nat_eq, slice_index_or}
use Rattle.session.specs.declared.nodes.Line.{Line}
use Rattle.session.specs.declared.nodes.Node.{Node}
use Rattle.session.specs.declared.nodes.Source.{Source}
use Rattle.session.specs.declared.nodes.Source.TheVariants.{Track, Bus}
use Rattle.std.specs.List.{range_with_len}

-- Nodes are numbered from 0, and so are lines; node 0 is the output.
pub record Plan : Type 0 where
  pub nodes : List Node
  pub lines : List Line

-- Node v; past the last, a bus without a unit.
abbrev pub node : Plan → ℕ → Node
node p v = slice_index_or p.nodes v (record { source = Bus; unit = None })

-- Line i's start, end and gain.
abbrev pub line : Plan → ℕ → Line
line p i = slice_index_or p.lines i (record { start = 0; end = 0; gain = pos 0 })

-- The numbers of the lines that end at node v, in order.
abbrev pub lines_into : Plan → ℕ → List ℕ
lines_into p v = filter (λ i. nat_eq (line p i).end v) (range_with_len 0 (length p.lines))

abbrev pub is_bus : Source → Bool
is_bus (Track track) = false
is_bus Bus = true

-- The rules of nodes and lines: at most 16 nodes and 48 lines; a line joins declared nodes and ends at no track; no unit
-- serves two nodes.
pub record KeepsRules (p : Plan) : Type 0 where
  pub few_nodes : length p.nodes ≤ 16
  pub few_lines : length p.lines ≤ 48
  pub starts : (i : ℕ) → i < length p.lines → (line p i).start < length p.nodes
  pub ends : (i : ℕ) → i < length p.lines → (line p i).end < length p.nodes
  pub ends_at_bus : (i : ℕ) → i < length p.lines → is_bus (node p (line p i).end).source ≡ true
  pub one_node : (v w s : ℕ) → v < length p.nodes → w < length p.nodes → (node p v).unit ≡ Some s → (node p w).unit ≡ Some s → v ≡ w
