-- What a session or a draft holds, in plain numbers, and what each change makes of it.
use Rattle.std.specs.Prelude.{ℕ, Bool, true, false, not, ◌&&◌, List, [], ◌∷◌, ◌++◌, map, length, get_or, replicate, ℤ, is_some, Some, None, Option, ◌==◌, nat_le, nat_lt, slice_index_or, slice_set}
use Rattle.session.specs.Held.{Held}
use Rattle.session.specs.Plan.{is_bus}
use Rattle.session.specs.declared.nodes.Line.{Line}
use Rattle.session.specs.declared.nodes.Node.{Node}
use Rattle.session.specs.declared.nodes.Source.TheVariants.{Bus}
use Rattle.session.specs.declared.settings.Kind.{Kind}
use Rattle.session.specs.declared.settings.Kind.TheVariants.{Fir, Limit, Pan, Delay}
use Rattle.session.specs.declared.settings.Setting.{Setting}
use Rattle.std.specs.List.{list_any}
use Rattle.std.specs.Option.{option_map}

-- A kind with its numbers: a fir's 31 places for taps and how many it has, a limit's lookahead and ceiling, a pan's
-- position, a delay's frames.
pub data Effect : Type 0 where
  fir : (taps : List ℤ) (count : ℕ) → Effect
  limit : (lookahead ceiling : ℕ) → Effect
  pan : (position : ℕ) → Effect
  delay : (frames : ℕ) → Effect

abbrev pub effect : Kind → Effect
effect (Fir k) = fir k.taps k.count
effect (Limit k) = limit k.lookahead k.ceiling
effect (Pan k) = pan k.position
effect (Delay k) = delay k.frames

-- A unit's entry: what it is set to, and the layers that are given for it.
pub record Entry : Type 0 where
  pub set_to : Option Effect
  pub trim : Option ℤ
  pub bypass : Bool

-- A unit that is not set.
abbrev pub bare : Entry
bare = record { set_to = None; trim = None; bypass = false }

abbrev pub entry : Setting → Entry
entry e = record { set_to = option_map effect e.kind; trim = e.trim; bypass = e.bypass }

pub record Contents : Type 0 where
  pub rate : ℕ
  pub nodes : List Node
  pub lines : List Line
  pub entries : List Entry

abbrev pub contents : Held → Contents
contents h = record { rate = h.rate; nodes = h.plan.nodes; lines = h.plan.lines; entries = map entry h.settings }

-- No node, line or setting, rate 0.
abbrev pub no_contents : Contents
no_contents = record { rate = 0; nodes = []; lines = []; entries = replicate 8 bare }

-- The entry of unit s.
abbrev pub entry_at : Contents → ℕ → Entry
entry_at c s = slice_index_or c.entries s bare

abbrev pub is_set : Contents → ℕ → Bool
is_set c s = is_some (entry_at c s).set_to

abbrev pub has_trim : Contents → ℕ → Bool
has_trim c s = is_some (entry_at c s).trim

abbrev pub has_bypass : Contents → ℕ → Bool
has_bypass c s = (entry_at c s).bypass

-- Which units a kind is for.
abbrev pub fits_unit : ℕ → Effect → Bool
fits_unit s (fir taps count) = nat_lt s 2
fits_unit s (limit lookahead ceiling) = nat_le 2 s && nat_lt s 4
fits_unit s (pan position) = nat_le 4 s && nat_lt s 6
fits_unit s (delay frames) = nat_le 6 s && nat_lt s 8

abbrev pub names_unit : ℕ → Option ℕ → Bool
names_unit s None = false
names_unit s (Some u) = u == s

-- Whether some node has unit s.
abbrev pub used : List Node → ℕ → Bool
used ns s = list_any (λ n. names_unit s n.unit) ns

-- Whether v is the number of a node that is a bus.
abbrev pub bus_at : Contents → ℕ → Bool
bus_at c v = nat_lt v (length c.nodes) && is_bus (get_or c.nodes v (record { source = Bus; unit = None })).source

-- Rates go from 8,000 to 192,000.
abbrev pub rate_fits : ℕ → Bool
rate_fits r = nat_le 8000 r && nat_le r 192000

-- A unit is set once, to a kind that is for it.
abbrev pub unit_fits : Contents → ℕ → Effect → Bool
unit_fits c s e = fits_unit s e && not (is_set c s)

-- Each layer is given once, for a unit that is set.
abbrev pub trim_fits : Contents → ℕ → Bool
trim_fits c s = is_set c s && not (has_trim c s)

abbrev pub bypass_fits : Contents → ℕ → Bool
bypass_fits c s = is_set c s && not (has_bypass c s)

-- A node's unit is set, and no other node has it.
abbrev pub free : Contents → Option ℕ → Bool
free c None = true
free c (Some s) = is_set c s && not (used c.nodes s)

abbrev pub node_fits : Contents → Node → Bool
node_fits c n = nat_lt (length c.nodes) 16 && free c n.unit

-- A line joins declared nodes and ends at no track.
abbrev pub line_fits : Contents → Line → Bool
line_fits c l = nat_lt (length c.lines) 48 && (nat_lt l.start (length c.nodes) && bus_at c l.end)

abbrev pub with_rate : Contents → ℕ → Contents
with_rate c r = record { rate = r; nodes = c.nodes; lines = c.lines; entries = c.entries }

-- One entry changed, and all else as it was.
abbrev pub with_entry : Contents → ℕ → Entry → Contents
with_entry c s e = record { rate = c.rate; nodes = c.nodes; lines = c.lines; entries = slice_set c.entries s e }

abbrev pub set_entry : Entry → Effect → Entry
set_entry e k = record { set_to = Some k; trim = e.trim; bypass = e.bypass }

abbrev pub trimmed : Entry → ℤ → Entry
trimmed e gain = record { set_to = e.set_to; trim = Some gain; bypass = e.bypass }

abbrev pub bypassed : Entry → Entry
bypassed e = record { set_to = e.set_to; trim = e.trim; bypass = true }

abbrev pub with_unit : Contents → ℕ → Effect → Contents
with_unit c s k = with_entry c s (set_entry (entry_at c s) k)

abbrev pub with_trim : Contents → ℕ → ℤ → Contents
with_trim c s gain = with_entry c s (trimmed (entry_at c s) gain)

abbrev pub with_bypass : Contents → ℕ → Contents
with_bypass c s = with_entry c s (bypassed (entry_at c s))

abbrev pub with_node : Contents → Node → Contents
with_node c n = record { rate = c.rate; nodes = c.nodes ++ n ∷ []; lines = c.lines; entries = c.entries }

abbrev pub with_line : Contents → Line → Contents
with_line c l = record { rate = c.rate; nodes = c.nodes; lines = c.lines ++ l ∷ []; entries = c.entries }

-- A draft that can be a session: it has a rate and a node.
abbrev pub ready : Contents → Bool
ready c = nat_lt 0 c.rate && nat_lt 0 (length c.nodes)
