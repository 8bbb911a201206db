-- The forms of the lines, word by word.
use Rattle.std.specs.Prelude.{ℕ, zero, suc, ◌+◌, ◌%◌, Bool, cond, not, ◌&&◌, List, [], ◌∷◌, length, replicate, ℤ, pos, Some, None, Ok, codes, Option, Result, ◌==◌, nat_lt, slice_set}
use Rattle.session.specs.Contents.{Contents, Effect, bus_at, delay, fir, has_bypass, has_trim, is_set, limit, pan, used, with_bypass, with_trim}
use Rattle.session.specs.declared.nodes.Line.{Line}
use Rattle.session.specs.declared.nodes.Node.{Node}
use Rattle.session.specs.declared.nodes.Source.{Source}
use Rattle.session.specs.declared.nodes.Source.TheVariants.{Track, Bus}
use Rattle.words.specs.Parsing.{Parse, ◌>>=◌, ◌>>◌, ask, gain_word, give, keyword, no_more, number_in, ranged, refuse, word}
use Rattle.words.specs.Words.{Cursor, Item, is_name, is_one}
use Rattle.words.specs.declared.faults.ReadFault.{ReadFault}
use Rattle.words.specs.declared.faults.ReadFault.TheVariants.{Fit, Form, Full, Number}
use Rattle.forms.specs.declared.roles.Role.{Role}
use Rattle.forms.specs.declared.roles.Role.TheVariants.{NewUnit, SetUnit, FreeUnit, NextNode, AnyNode, BusNode}

-- Units are numbered to 7, and nodes to 15.
abbrev pub role_most : Role → ℕ
role_most NewUnit = 7
role_most SetUnit = 7
role_most FreeUnit = 7
role_most NextNode = 15
role_most AnyNode = 15
role_most BusNode = 15

-- Whether a number fits earlier lines in its role: a unit that is not set, or is set, or is set and no node's; the next
-- node's number, a declared node, or a declared node that is no track.
abbrev pub role_fits : Contents → Role → ℕ → Bool
role_fits c NewUnit s = not (is_set c s)
role_fits c SetUnit s = is_set c s
role_fits c FreeUnit s = is_set c s && not (used c.nodes s)
role_fits c NextNode v = v == length c.nodes
role_fits c AnyNode v = nat_lt v (length c.nodes)
role_fits c BusNode v = bus_at c v

-- A unit's or a node's number.
abbrev pub numbered : Contents → Role → Parse ℕ
numbered c role = word >>= (λ w. number_in 0 (role_most role) w >>= (λ n. ask (role_fits c role n) (Fit w.place) >> give n))

-- `session 1 R`
abbrev pub session_form : Parse ℕ
session_form = word >>= (λ w. ask (is_one w.word) (Form w.place) >> (ranged 8000 192000 >>= (λ rate. no_more >> give rate)))

-- n gains, from place i on.
unfoldable pub taps_form : ℕ → ℕ → List ℤ → Parse (List ℤ)
taps_form i zero taps = give taps
taps_form i (suc n) taps = gain_word >>= (λ g. taps_form (i + 1) n (slice_set taps i g))

-- The number of taps: odd, from 1 to 31.
abbrev pub count_form : Parse ℕ
count_form = word >>= (λ w. number_in 1 31 w >>= (λ n. ask (n % 2 == 1) (Number w.place) >> give n))

-- `fir T H..`: the taps stand at the front of 31 places, and the others hold 0.
abbrev pub fir_form : Parse Effect
fir_form = keyword (codes "fir") >> (count_form >>= (λ n. taps_form 0 n (replicate 31 (pos 0)) >>= (λ taps. give (fir taps n))))

abbrev pub limit_form : Parse Effect
limit_form = keyword (codes "limit") >> (ranged 0 63 >>= (λ a. ranged 1 32767 >>= (λ c. give (limit a c))))

abbrev pub pan_form : Parse Effect
pan_form = keyword (codes "pan") >> (ranged 0 256 >>= (λ p. give (pan p)))

abbrev pub delay_form : Parse Effect
delay_form = keyword (codes "delay") >> (ranged 0 63 >>= (λ k. give (delay k)))

-- The kind that unit s has to have.
abbrev pub kind_form : ℕ → Parse Effect
kind_form s = cond (nat_lt s 2) fir_form (cond (nat_lt s 4) limit_form (cond (nat_lt s 6) pan_form delay_form))

-- `unit S KIND ..`
abbrev pub unit_form : Contents → Parse (ℕ × Effect)
unit_form c = numbered c NewUnit >>= (λ s. kind_form s >>= (λ e. no_more >> give (s, e)))

abbrev pub trim_form : Contents → ℕ → Item → Parse Contents
trim_form c s w = ask (not (has_trim c s)) (Fit w.place) >> (gain_word >>= (λ g. no_more >> give (with_trim c s g)))

abbrev pub bypass_form : Contents → ℕ → Item → Parse Contents
bypass_form c s w = ask (not (has_bypass c s)) (Fit w.place) >> (no_more >> give (with_bypass c s))

abbrev pub given_layer : Contents → ℕ → Item → Parse Contents
given_layer c s w = cond (is_name (codes "trim") w.word) (trim_form c s w) (cond (is_name (codes "bypass") w.word) (bypass_form c s w) (refuse (Form w.place)))

-- `layer S trim G` and `layer S bypass`
abbrev pub layer_form : Contents → Parse Contents
layer_form c = numbered c SetUnit >>= (λ s. word >>= given_layer c s)

abbrev pub source_form : Parse Source
source_form = word >>= (λ w. cond (is_name (codes "bus") w.word) (give Bus) (cond (is_name (codes "track") w.word) (ranged 0 7 >>= (λ q. give (Track q))) (refuse (Form w.place))))

abbrev pub some_unit : Contents → Parse (Option ℕ)
some_unit c = keyword (codes "unit") >> (numbered c FreeUnit >>= (λ s. no_more >> give (Some s)))

abbrev pub unit_or_none : Contents → Cursor → List Item → Result (Option ℕ × Cursor) ReadFault
unit_or_none c k [] = Ok (None, k)
unit_or_none c k (w ∷ ws) = some_unit c k

-- ` unit S` may follow.
abbrev pub unit_part : Contents → Parse (Option ℕ)
unit_part c k = unit_or_none c k k.items

-- `node N bus` and `node N track Q`
abbrev pub node_form : Contents → Parse Node
node_form c = numbered c NextNode >> (source_form >>= (λ s. unit_part c >>= (λ u. give (record { source = s; unit = u }))))

abbrev pub joined_form : Contents → Parse Line
joined_form c = numbered c AnyNode >>= (λ a. numbered c BusNode >>= (λ b. gain_word >>= (λ g. no_more >> give (record { start = a; end = b; gain = g }))))

-- `line A B G`, where fewer than 48 lines are held
abbrev pub line_form : Contents → Item → Parse Line
line_form c w = ask (nat_lt (length c.lines) 48) (Full w.place) >> joined_form c
