-- What a whole line's words are.
use Rattle.std.proofs.Common.{◌≡◌, List, Some}
use Rattle.session.specs.Contents.{Contents}
use Rattle.text.proofs.Grammar.{Done, Ends, Head, ends_asked, ends_done, ends_map, ends_none, ends_word}
use Rattle.text.proofs.Turned.{LayerRest, LinkRest, NodeRest, SessionRest, UnitRest, ends_layer, ends_link, ends_node, ends_session, ends_unit}
use Rattle.text.specs.Stages.{first_of, is_end, next_stage}
use Rattle.text.specs.Turning.{Turned, turn, whole_turn}
use Rattle.text.specs.declared.stages.First as firsts
use Rattle.text.specs.declared.stages.First.TheVariants.{Session, Unit, Layer, Node, Line, End, Other}
use Rattle.text.specs.declared.stages.Stage.{Stage}
use Rattle.words.specs.Words.{Item, Spelling}
use Rattle.words.specs.declared.faults.ReadFault.TheVariants.{First as NotDue}

abbrev pub TurnRest : firsts.First → Contents → Contents → List Spelling → Type 0
TurnRest Session c d ws = SessionRest c d ws
TurnRest Unit c d ws = UnitRest c d ws
TurnRest Layer c d ws = LayerRest c d ws
TurnRest Node c d ws = NodeRest c d ws
TurnRest Line c d ws = LinkRest c d ws
TurnRest End c d ws = Done c d ws
TurnRest Other c d ws = ⊥

ends_turn : (first : firsts.First) (c : Contents) (w : Item) → Ends (turn first c w) (TurnRest first c)
ends_turn Session c w = ends_session c
ends_turn Unit c w = ends_unit c
ends_turn Layer c w = ends_layer c
ends_turn Node c w = ends_node c
ends_turn Line c w = ends_link c w
ends_turn End c w = ends_done c
ends_turn Other c w = ends_none (NotDue w.place)

abbrev pub TurnWords : Stage → Contents → Spelling → Turned → List Spelling → Type 0
TurnWords st c w t vs =
    (next : Stage) × (next_stage st (first_of w) ≡ Some next) × ((d : Contents) × (t ≡ record { stage = next; held = d; ended = is_end (first_of w) }) × TurnRest (first_of w) c d vs)

pub ends_whole : (st : Stage) (c : Contents) → Ends (whole_turn st c) (Head (TurnWords st c))
ends_whole st c =
    ends_word _ (TurnWords st c)
    (λ w. ends_asked (next_stage st (first_of w.word)) (NotDue w.place) _ _
    (λ next. ends_map (turn (first_of w.word) c w) (λ d. record { stage = next; held = d; ended = is_end (first_of w.word) }) (TurnRest (first_of w.word) c) (ends_turn (first_of w.word) c w)))
