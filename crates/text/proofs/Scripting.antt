-- A text is read just where it is the spelling of a well-formed script.
use Rattle.std.proofs.Common.{◌≡◌, ℕ, ◌+◌, ◌<◌, ◌≤◌, Bool, true, false, cond, leb, List, [], ◌∷◌, ◌++◌, map, length, Some, Ok, Err, codes, MatchBool, Result, sym, refl, ap, ◌∙◌, subst, ap₂, ⊎_elim, ltb, arith}
use Rattle.session.specs.Contents.{Contents, no_contents, ready, with_line, with_node, with_rate}
use Rattle.session.specs.declared.nodes.Line as links
use Rattle.session.specs.declared.nodes.Node as nodes
use Rattle.std.proofs.ByRecursion.{All-append}
use Rattle.std.proofs.lemmas.Option.{none-some, same_Some}
use Rattle.std.proofs.lemmas.List.{length_push}
use Rattle.std.proofs.lemmas.Bool.{and_from, cond-true, false≢true, le-leb, leb-true, lt-ltb}
use Rattle.std.specs.List.{AllByRecursion}
use Rattle.text.proofs.Commands.{FirstIs, end_complete, first_is, good_end, good_link, good_node, good_session, good_setup, layer_sound, link_complete, link_sound, node_complete, node_sound, session_complete, session_sound, setup_complete, unit_sound}
use Rattle.text.proofs.Grammar.{not_ok}
use Rattle.text.proofs.Joining.{Free, join, join_split, line_join, lines_join, split_join}
use Rattle.text.proofs.Lines.{lines_end, lines_more}
use Rattle.text.proofs.Linewise.{Good, Says, free_line, line_complete, line_sound, same_words}
use Rattle.text.proofs.Wholes.{TurnRest}
use Rattle.text.specs.Accepted.{Accepts}
use Rattle.text.specs.Reading.{GivesOrWants, closed, line_read, lines_read, may_want, passes, reading}
use Rattle.text.specs.Scripts.{AllFit, LinkFits, NodeFits, Script, Setup, SetupFits, WellFormed, after_all, after_setup, bypasses, end_words, line_bytes, link_words, node_words, nodes_words, said, script_words, session_words, sets, setup_words, spelt, trims, with_nodes, with_setups}
use Rattle.text.specs.Stages.{first_of, is_end, next_stage}
use Rattle.text.specs.Turning.{Turned}
use Rattle.turns.specs.Turns.{wants_memory}
use Rattle.text.specs.declared.stages.First as firsts
use Rattle.text.specs.declared.stages.First.TheVariants.{Session, Unit, Layer, Node, Line, End, Other}
use Rattle.text.specs.declared.stages.Stage.{Stage}
use Rattle.text.specs.declared.stages.Stage.TheVariants.{Head, Units, Nodes, Lines}
use Rattle.words.specs.Bytes.{all_letters}
use Rattle.words.specs.Pieces.{is_nil, nothing_follows, split}
use Rattle.words.specs.Words.{Spelling, name, spelling}
use Rattle.words.specs.declared.faults.ReadFault.{ReadFault}
use Rattle.words.specs.declared.faults.ReadFault.TheVariants.{Rest as Follows, Long}

abbrev pub pieces_of : List (List (List ℕ)) → List (List ℕ)
pieces_of ls = map line_bytes ls ++ ([] ∷ [])

-- line lines and `end`
abbrev pub tail_words : List links.Line → List (List (List ℕ))
tail_words xs = map link_words xs ++ (end_words ∷ [])

-- what is left of a script among lines, among nodes, among units and at the head
abbrev pub RestLines : Contents → List (List ℕ) → Contents → Type 0
RestLines c ls h = (xs : List links.Line) × AllFit LinkFits with_line c xs × (h ≡ after_all with_line c xs) × (ls ≡ pieces_of (tail_words xs))

abbrev pub RestNodes : Contents → List (List ℕ) → Contents → Type 0
RestNodes c ls h =
    (ns : List nodes.Node) × (xs : List links.Line) × AllFit NodeFits with_node c ns × AllFit LinkFits with_line (after_all with_node c ns) xs
    × (h ≡ after_all with_line (after_all with_node c ns) xs) × (ls ≡ pieces_of (nodes_words (length c.nodes) ns ++ tail_words xs))

abbrev pub RestUnits : Contents → List (List ℕ) → Contents → Type 0
RestUnits c ls h =
    (ss : List Setup) × (ns : List nodes.Node) × (xs : List links.Line) × (0 < length ns) × AllFit SetupFits after_setup c ss
    × AllFit NodeFits with_node (after_all after_setup c ss) ns × AllFit LinkFits with_line (after_all with_node (after_all after_setup c ss) ns) xs
    × (h ≡ after_all with_line (after_all with_node (after_all after_setup c ss) ns) xs) × (ls ≡ pieces_of (map setup_words ss ++ (nodes_words (length c.nodes) ns ++ tail_words xs)))

abbrev pub RestHead : Contents → List (List ℕ) → Contents → Type 0
RestHead c ls h = (r : ℕ) × (8000 ≤ r) × (r ≤ 192000) × (us : List (List ℕ)) × (ls ≡ line_bytes (session_words r) ∷ us) × RestUnits (with_rate c r) us h

abbrev pub Rest : Stage → Contents → List (List ℕ) → Contents → Type 0
Rest Head = RestHead
Rest Units = RestUnits
Rest Nodes = RestNodes
Rest Lines = RestLines

same_nodes : (c : Contents) (x : Setup) → (after_setup c x).nodes ≡ c.nodes
same_nodes c (sets s k) = refl
same_nodes c (trims s g) = refl
same_nodes c (bypasses s) = refl

closed_sound : (row : ℕ) (ls : List (List ℕ)) (d h : Contents) → closed row ls d ≡ Ok h → (ls ≡ [] ∷ []) × (h ≡ d)
closed_sound row ls d h e = go (nothing_follows ls) refl e
  where
    only : (ls : List (List ℕ)) → nothing_follows ls ≡ true → ls ≡ [] ∷ []
    only [] n = absurd (false≢true n)
    only ([] ∷ []) n = refl
    only ([] ∷ (q ∷ qs)) n = absurd (false≢true n)
    only ((b ∷ p) ∷ qs) n = absurd (false≢true n)

    ok_same : {x y : Contents} → ◌≡◌ {A = Result Contents ReadFault} (Ok x) (Ok y) → x ≡ y
    ok_same e = cc

    go : (b : Bool) → nothing_follows ls ≡ b → cond b (Ok d) (Err (Follows (record { line = row + 1; column = 1 }))) ≡ Ok h → (ls ≡ [] ∷ []) × (h ≡ d)
    go true n e = (only ls n, sym (ok_same e))
    go false n e = absurd (not_ok e)

module _ (c : Contents) (row : ℕ) (ls : List (List ℕ)) (h : Contents) where
  abbrev After : firsts.First → Stage → Contents → Type 0
  After f next d = MatchBool (is_end f) (closed row ls d ≡ Ok h) (Rest next d ls h)

  module _ (ps : List (List ℕ)) (w : Spelling) (vs : List Spelling) (e : map spelling ps ≡ w ∷ vs) where
    -- the line is these words
    is_line : (v : Spelling) (qs : List (List ℕ)) → w ≡ v → v ∷ vs ≡ map spelling qs → line_bytes ps ≡ line_bytes qs
    is_line v qs a b = ap line_bytes (same_words ps qs (e ∙ ap (λ z. z ∷ vs) a ∙ b))

    by_setup : (d : Contents) (next : Stage) → Units ≡ next → (x : Setup) → SetupFits c x → d ≡ after_setup c x → line_bytes ps ≡ line_bytes (setup_words x) → Rest next d ls h → RestUnits c (line_bytes ps ∷ ls) h
    by_setup d next n x f de l r =
        let q : RestUnits (after_setup c x) ls h = subst (λ y. RestUnits y ls h) de (subst (λ s. Rest s d ls h) (sym n) r) in
        (x ∷ q.0, q.1, q.2, q.3, (f, q.4), q.5, q.6, q.7, ap₂ ◌∷◌ l (q.8 ∙ ap (λ ns. pieces_of (map setup_words q.0 ++ (nodes_words (length ns) q.1 ++ tail_words q.2))) (same_nodes c x)))

    by_node : (d : Contents) (next : Stage) → Nodes ≡ next → (n : nodes.Node) → NodeFits c n → d ≡ with_node c n → line_bytes ps ≡ line_bytes (node_words (length c.nodes) n) → Rest next d ls h
        → (ns : List nodes.Node) × (xs : List links.Line) × (0 < length ns) × AllFit NodeFits with_node c ns × AllFit LinkFits with_line (after_all with_node c ns) xs
        × (h ≡ after_all with_line (after_all with_node c ns) xs) × (line_bytes ps ∷ ls ≡ pieces_of (nodes_words (length c.nodes) ns ++ tail_words xs))
    unfolding nodes_words
    by_node d next n m f de l r =
        let q : RestNodes (with_node c m) ls h = subst (λ y. RestNodes y ls h) de (subst (λ s. Rest s d ls h) (sym n) r) in
        (m ∷ q.0, q.1, omega arith, (f, q.2), q.3, q.4, ap₂ ◌∷◌ l (q.5 ∙ ap (λ k. pieces_of (nodes_words k q.0 ++ tail_words q.1)) (length_push c.nodes m)))

    by_link : (d : Contents) (next : Stage) → Lines ≡ next → (x : links.Line) → LinkFits c x → d ≡ with_line c x → line_bytes ps ≡ line_bytes (link_words x) → Rest next d ls h → RestLines c (line_bytes ps ∷ ls) h
    by_link d next n x f de l r =
        let q : RestLines (with_line c x) ls h = subst (λ y. RestLines y ls h) de (subst (λ s. Rest s d ls h) (sym n) r) in
        (x ∷ q.0, (f, q.1), q.2, ap₂ ◌∷◌ l q.3)

    by_end : (d : Contents) → d ≡ c → line_bytes ps ≡ line_bytes end_words → closed row ls d ≡ Ok h → RestLines c (line_bytes ps ∷ ls) h
    by_end d de l r = let q = closed_sound row ls d h r in ([], tt, q.1 ∙ de, ap₂ ◌∷◌ l q.0)

    -- among nodes, lines or the end may follow at once
    no_nodes : RestLines c (line_bytes ps ∷ ls) h → RestNodes c (line_bytes ps ∷ ls) h
    unfolding nodes_words
    no_nodes q = ([], q.0, tt, q.1, q.2, q.3)

    end_line : vs ≡ [] → FirstIs End w → line_bytes ps ≡ line_bytes end_words
    unfolding spelling all_letters
    end_line n fw = is_line (name (codes "end")) end_words fw (ap (λ z. name (codes "end") ∷ z) n)

    step : (st : Stage) (f : firsts.First) (next : Stage) (d : Contents) → FirstIs f w → next_stage st f ≡ Some next → TurnRest f c d vs → After f next d → Rest st c (line_bytes ps ∷ ls) h
    step Head Session next d fw n t a =
        let s = session_sound c d vs t in
        (s.0, s.1, s.2, ls, ap (λ z. z ∷ ls) (is_line _ (session_words s.0) fw s.4), subst (λ y. RestUnits y ls h) s.3 (subst (λ s. Rest s d ls h) (sym (same_Some _ _ n)) a))
    step Head Unit next d fw n t a = absurd (none-some _ n)
    step Head Layer next d fw n t a = absurd (none-some _ n)
    step Head Node next d fw n t a = absurd (none-some _ n)
    step Head Line next d fw n t a = absurd (none-some _ n)
    step Head End next d fw n t a = absurd (none-some _ n)
    step Head Other next d fw n t a = absurd (none-some _ n)
    step Units Session next d fw n t a = absurd (none-some _ n)
    step Units Unit next d fw n t a = let s = unit_sound c d vs t in by_setup d next (same_Some _ _ n) s.0 s.1 s.2 (is_line _ (setup_words s.0) fw s.3) a
    step Units Layer next d fw n t a = let s = layer_sound c d vs t in by_setup d next (same_Some _ _ n) s.0 s.1 s.2 (is_line _ (setup_words s.0) fw s.3) a
    step Units Node next d fw n t a = let s = node_sound c d vs t in let q = by_node d next (same_Some _ _ n) s.0 s.1 s.2 (is_line _ (node_words (length c.nodes) s.0) fw s.3) a in ([], q.0, q.1, q.2, tt, q.3, q.4, q.5, q.6)
    step Units Line next d fw n t a = absurd (none-some _ n)
    step Units End next d fw n t a = absurd (none-some _ n)
    step Units Other next d fw n t a = absurd (none-some _ n)
    step Nodes Session next d fw n t a = absurd (none-some _ n)
    step Nodes Unit next d fw n t a = absurd (none-some _ n)
    step Nodes Layer next d fw n t a = absurd (none-some _ n)
    step Nodes Node next d fw n t a = let s = node_sound c d vs t in let q = by_node d next (same_Some _ _ n) s.0 s.1 s.2 (is_line _ (node_words (length c.nodes) s.0) fw s.3) a in (q.0, q.1, q.3, q.4, q.5, q.6)
    step Nodes Line next d fw n t a = let s = link_sound c d vs t in no_nodes (by_link d next (same_Some _ _ n) s.0 s.1 s.2 (is_line _ (link_words s.0) fw s.3) a)
    step Nodes End next d fw n t a = no_nodes (by_end d t.0 (end_line t.1 fw) a)
    step Nodes Other next d fw n t a = absurd (none-some _ n)
    step Lines Session next d fw n t a = absurd (none-some _ n)
    step Lines Unit next d fw n t a = absurd (none-some _ n)
    step Lines Layer next d fw n t a = absurd (none-some _ n)
    step Lines Node next d fw n t a = absurd (none-some _ n)
    step Lines Line next d fw n t a = let s = link_sound c d vs t in (by_link d next (same_Some _ _ n) s.0 s.1 s.2 (is_line _ (link_words s.0) fw s.3) a)
    step Lines End next d fw n t a = (by_end d t.0 (end_line t.1 fw) a)
    step Lines Other next d fw n t a = absurd (none-some _ n)

  sound_line : (st : Stage) (l : List ℕ) → ((row : ℕ) (st : Stage) (d : Contents) → lines_read row st d ls ≡ Ok h → Rest st d ls h) → (r : Result Turned ReadFault) → line_read row st c l (is_nil ls) ≡ r
      → passes r (λ t. cond t.ended (closed row ls t.held) (lines_read (row + 1) t.stage t.held ls)) ≡ Ok h → Rest st c (l ∷ ls) h
  sound_line st l ih (Err f) e q = absurd (not_ok q)
  sound_line st l ih (Ok t) e q =
      let s = (line_sound row st c l (is_nil ls) t e).1 in
      let w = s.0 in
      let next = s.3.0 in
      let d = s.3.2.0 in
      let q' : cond (is_end (first_of w)) (closed row ls d) (lines_read (row + 1) next d ls) ≡ Ok h = subst (λ (t : Turned). cond t.ended (closed row ls t.held) (lines_read (row + 1) t.stage t.held ls) ≡ Ok h) s.3.2.1 q in
      subst (λ z. Rest st c (z ∷ ls) h) (line_join (split 32 l) ∙ join_split 32 l)
      (step (split 32 l) w s.1 s.2 st (first_of w) next d (first_is w) s.3.1 s.3.2.2 (after (is_end (first_of w)) next d q'))
    where
      after : (b : Bool) (next : Stage) (d : Contents) → cond b (closed row ls d) (lines_read (row + 1) next d ls) ≡ Ok h → MatchBool b (closed row ls d ≡ Ok h) (Rest next d ls h)
      after true next d q = q
      after false next d q = ih (row + 1) next d q

pub rest_sound : (ls : List (List ℕ)) (h : Contents) (row : ℕ) (st : Stage) (c : Contents) → lines_read row st c ls ≡ Ok h → Rest st c ls h
unfolding lines_read
rest_sound [] h row st c e = absurd (not_ok e)
rest_sound (l ∷ ls) h row st c e = sound_line c row ls h st l (rest_sound ls h) (line_read row st c l (is_nil ls)) refl e

-- the other way round
more_follows : {X : Type 0} (xs : List X) (y : X) → is_nil (xs ++ (y ∷ [])) ≡ false
more_follows [] y = refl
more_follows (x ∷ xs) y = refl

module _ (row : ℕ) (st : Stage) (c : Contents) (w : List ℕ) (ws : List (List ℕ)) (ls : List (List (List ℕ))) where
  go_on : (next : Stage) (d : Contents) → AllByRecursion Good (w ∷ ws) → Says st c (w ∷ ws) (record { stage = next; held = d; ended = false }) → lines_read row st c (pieces_of ((w ∷ ws) ∷ ls)) ≡ lines_read (row + 1) next d (pieces_of ls)
  go_on next d g s =
      lines_more row st c (line_bytes (w ∷ ws)) (pieces_of ls) (record { stage = next; held = d; ended = false })
      (ap (line_read row st c (line_bytes (w ∷ ws))) (more_follows (map line_bytes ls) []) ∙ line_complete row st c w ws _ g s) refl

pub tail_complete : (xs : List links.Line) (row : ℕ) (st : Stage) (c : Contents) → next_stage st Line ≡ Some Lines → next_stage st End ≡ Some st → AllFit LinkFits with_line c xs → lines_read row st c (pieces_of (tail_words xs)) ≡ Ok (after_all with_line c xs)
tail_complete [] row st c a b f =
    lines_end row st c (line_bytes end_words) ([] ∷ []) (record { stage = st; held = c; ended = true }) (line_complete row st c _ _ _ good_end (end_complete c st b)) refl
tail_complete (x ∷ xs) row st c a b f =
    go_on row st c _ _ (tail_words xs) Lines (with_line c x) (good_link c x f.0) (link_complete c st a x f.0) ∙ tail_complete xs (row + 1) Lines (with_line c x) refl refl f.1

pub nodes_complete : (ns : List nodes.Node) (xs : List links.Line) (row : ℕ) (c : Contents) → AllFit NodeFits with_node c ns → AllFit LinkFits with_line (after_all with_node c ns) xs
    → lines_read row Nodes c (pieces_of (nodes_words (length c.nodes) ns ++ tail_words xs)) ≡ Ok (after_all with_line (after_all with_node c ns) xs)
unfolding nodes_words
nodes_complete [] xs row c f g = tail_complete xs row Nodes c refl refl g
nodes_complete (n ∷ ns) xs row c f g =
    go_on row Nodes c _ _ (nodes_words (length c.nodes + 1) ns ++ tail_words xs) Nodes (with_node c n) (good_node c n f.0) (node_complete c Nodes refl n f.0)
    ∙ ap (λ k. lines_read (row + 1) Nodes (with_node c n) (pieces_of (nodes_words k ns ++ tail_words xs))) (sym (length_push c.nodes n))
    ∙ nodes_complete ns xs (row + 1) (with_node c n) f.1 g

first_node : (ns : List nodes.Node) (xs : List links.Line) (row : ℕ) (c : Contents) → 0 < length ns → AllFit NodeFits with_node c ns → AllFit LinkFits with_line (after_all with_node c ns) xs
    → lines_read row Units c (pieces_of (nodes_words (length c.nodes) ns ++ tail_words xs)) ≡ Ok (after_all with_line (after_all with_node c ns) xs)
unfolding nodes_words
first_node [] xs row c s f g = absurd (omega arith)
first_node (n ∷ ns) xs row c s f g =
    go_on row Units c _ _ (nodes_words (length c.nodes + 1) ns ++ tail_words xs) Nodes (with_node c n) (good_node c n f.0) (node_complete c Units refl n f.0)
    ∙ ap (λ k. lines_read (row + 1) Nodes (with_node c n) (pieces_of (nodes_words k ns ++ tail_words xs))) (sym (length_push c.nodes n))
    ∙ nodes_complete ns xs (row + 1) (with_node c n) f.1 g

units_complete : (ss : List Setup) (ns : List nodes.Node) (xs : List links.Line) (row : ℕ) (c : Contents) → 0 < length ns → AllFit SetupFits after_setup c ss
    → AllFit NodeFits with_node (after_all after_setup c ss) ns → AllFit LinkFits with_line (after_all with_node (after_all after_setup c ss) ns) xs
    → lines_read row Units c (pieces_of (map setup_words ss ++ (nodes_words (length c.nodes) ns ++ tail_words xs))) ≡ Ok (after_all with_line (after_all with_node (after_all after_setup c ss) ns) xs)
units_complete [] ns xs row c s f g k = first_node ns xs row c s g k
units_complete (x ∷ ss) ns xs row c s f g k =
    one x f.0
    ∙ ap (λ ms. lines_read (row + 1) Units (after_setup c x) (pieces_of (map setup_words ss ++ (nodes_words (length ms) ns ++ tail_words xs)))) (sym (same_nodes c x))
    ∙ units_complete ss ns xs (row + 1) (after_setup c x) s f.1 g k
  where
    rest : List (List (List ℕ))
    rest = map setup_words ss ++ (nodes_words (length c.nodes) ns ++ tail_words xs)

    one : (x : Setup) → SetupFits c x → lines_read row Units c (pieces_of (setup_words x ∷ rest)) ≡ lines_read (row + 1) Units (after_setup c x) (pieces_of rest)
    one (sets t k) f = go_on row Units c _ _ rest Units (after_setup c (sets t k)) (good_setup c (sets t k) f) (setup_complete c (sets t k) f)
    one (trims t g) f = go_on row Units c _ _ rest Units (after_setup c (trims t g)) (good_setup c (trims t g) f) (setup_complete c (trims t g) f)
    one (bypasses t) f = go_on row Units c _ _ rest Units (after_setup c (bypasses t)) (good_setup c (bypasses t) f) (setup_complete c (bypasses t) f)

pub lines_complete : (s : Script) → WellFormed s → lines_read 1 Head no_contents (pieces_of (script_words s)) ≡ Ok (said s)
lines_complete s f =
    go_on 1 Head no_contents _ _ (map setup_words s.setups ++ (nodes_words 0 s.nodes ++ tail_words s.lines)) Units (with_rate no_contents s.rate) (good_session s.rate f.most_rate) (session_complete no_contents s.rate f.least_rate f.most_rate)
    ∙ units_complete s.setups s.nodes s.lines 2 (with_rate no_contents s.rate) f.some_node f.setups_fit f.nodes_fit f.lines_fit

-- no line of a script has 0A inside
free_tail : (xs : List links.Line) (c : Contents) → AllFit LinkFits with_line c xs → AllByRecursion (Free 10) (map line_bytes (tail_words xs))
free_tail [] c f = (free_line end_words good_end, tt)
free_tail (x ∷ xs) c f = (free_line (link_words x) (good_link c x f.0), free_tail xs (with_line c x) f.1)

free_nodes : (ns : List nodes.Node) (xs : List links.Line) (c : Contents) → AllFit NodeFits with_node c ns → AllFit LinkFits with_line (after_all with_node c ns) xs → AllByRecursion (Free 10) (map line_bytes (nodes_words (length c.nodes) ns ++ tail_words xs))
unfolding nodes_words
free_nodes [] xs c f g = free_tail xs c g
free_nodes (n ∷ ns) xs c f g =
    (free_line (node_words (length c.nodes) n) (good_node c n f.0), subst (λ k. AllByRecursion (Free 10) (map line_bytes (nodes_words k ns ++ tail_words xs))) (length_push c.nodes n) (free_nodes ns xs (with_node c n) f.1 g))

free_units : (ss : List Setup) (ns : List nodes.Node) (xs : List links.Line) (c : Contents) → AllFit SetupFits after_setup c ss → AllFit NodeFits with_node (after_all after_setup c ss) ns
    → AllFit LinkFits with_line (after_all with_node (after_all after_setup c ss) ns) xs → AllByRecursion (Free 10) (map line_bytes (map setup_words ss ++ (nodes_words (length c.nodes) ns ++ tail_words xs)))
free_units [] ns xs c f g k = free_nodes ns xs c g k
free_units (x ∷ ss) ns xs c f g k =
    (free_line (setup_words x) (good_setup c x f.0), subst (λ ms. AllByRecursion (Free 10) (map line_bytes (map setup_words ss ++ (nodes_words (length ms) ns ++ tail_words xs)))) (same_nodes c x) (free_units ss ns xs (after_setup c x) f.1 g k))

split_script : (s : Script) → WellFormed s → split 10 (spelt s) ≡ pieces_of (script_words s)
split_script s f =
    ap (split 10) (lines_join (script_words s))
    ∙ split_join 10 (map line_bytes rest ++ ([] ∷ [])) (line_bytes (session_words s.rate)) (free_line (session_words s.rate) (good_session s.rate f.most_rate))
    (All-append _ (map line_bytes rest) ([] ∷ []) (free_units s.setups s.nodes s.lines (with_rate no_contents s.rate) f.setups_fit f.nodes_fit f.lines_fit) (tt, tt))
  where
    rest : List (List (List ℕ))
    rest = map setup_words s.setups ++ (nodes_words 0 s.nodes ++ tail_words s.lines)

scripts_complete : (s : Script) → WellFormed s → length (spelt s) ≤ 16384 → reading (spelt s) ≡ Ok (said s)
scripts_complete s f l = cond-true (leb (length (spelt s)) 16384) _ _ (le-leb (length (spelt s)) 16384 l) ∙ ap (lines_read 1 Head no_contents) (split_script s f) ∙ lines_complete s f

scripts_sound : (text : List ℕ) (h : Contents) → reading text ≡ Ok h → (s : Script) × WellFormed s × (text ≡ spelt s) × (length text ≤ 16384) × (h ≡ said s)
scripts_sound text h e = go (leb (length text) 16384) refl e
  where
    go : (b : Bool) → leb (length text) 16384 ≡ b → cond b (lines_read 1 Head no_contents (split 10 text)) (Err Long) ≡ Ok h → (s : Script) × WellFormed s × (text ≡ spelt s) × (length text ≤ 16384) × (h ≡ said s)
    go false l e = absurd (not_ok e)
    go true l e =
        let r = rest_sound (split 10 text) h 1 Head no_contents e in
        let u = r.5 in
        let s : Script = record { rate = r.0; setups = u.0; nodes = u.1; lines = u.2 } in (
          s,
          record { least_rate = r.1; most_rate = r.2; some_node = u.3; setups_fit = u.4; nodes_fit = u.5; lines_fit = u.6 },
          sym (join_split 10 text) ∙ ap (join 10) (r.4 ∙ ap (λ z. line_bytes (session_words r.0) ∷ z) u.8) ∙ sym (lines_join (script_words s)),
          leb-true (length text) 16384 l,
          u.7,
        )

-- what is accepted, by the definition of reading
pub accepts : {T : Type 0} (text : List ℕ) (held : Contents) (r : Result T ReadFault) → GivesOrWants (λ _. held) r (reading text) (may_want text ≡ true) → Accepts r text held
accepts text held (Ok t) g = let s = scripts_sound text held g in (s.0, (s.1, s.3, s.2), s.4)
accepts text held (Err e) g = λ m s f. ⊎_elim
    (λ h. not_ok (sym h ∙ ap reading f.2 ∙ scripts_complete s f.0 (subst (λ z. length z ≤ 16384) f.2 f.1)))
    (λ w. false≢true (sym m ∙ ap wants_memory w.0))
    g

-- what an accepted text holds has a rate and a node
kept : {X Y : Type 0} (f : Contents → Y) (after : Contents → X → Contents) → ((c : Contents) (x : X) → f (after c x) ≡ f c) → (xs : List X) (c : Contents) → f (after_all after c xs) ≡ f c
kept f after k [] c = refl
kept f after k (x ∷ xs) c = kept f after k xs (after c x) ∙ k c x

same_rate : (c : Contents) (x : Setup) → (after_setup c x).rate ≡ c.rate
same_rate c (sets s k) = refl
same_rate c (trims s g) = refl
same_rate c (bypasses s) = refl

all_nodes : (ns : List nodes.Node) (c : Contents) → length (after_all with_node c ns).nodes ≡ length c.nodes + length ns
all_nodes [] c = omega arith
all_nodes (n ∷ ns) c = let h = all_nodes ns (with_node c n) in let p = length_push c.nodes n in omega arith

ready_said : (s : Script) → WellFormed s → ready (said s) ≡ true
ready_said s f =
    let r : (said s).rate ≡ s.rate = kept (λ c. c.rate) with_line (λ c x. refl) s.lines (with_nodes s) ∙ kept (λ c. c.rate) with_node (λ c x. refl) s.nodes (with_setups s) ∙ kept (λ c. c.rate) after_setup same_rate s.setups (with_rate no_contents s.rate) in
    let n : (said s).nodes ≡ (with_nodes s).nodes = kept (λ c. c.nodes) with_line (λ c x. refl) s.lines (with_nodes s) in
    let least = f.least_rate in
    let some = f.some_node in
    let many = all_nodes s.nodes (with_setups s) in
    and_from _ _ (ap (ltb 0) r ∙ lt-ltb 0 s.rate (omega arith)) (ap (λ ns. ltb 0 (length ns)) n ∙ lt-ltb 0 (length (with_nodes s).nodes) (omega arith))

-- so a draft is a session after the lines of a text that is not too long
pub ready_lines : (text : List ℕ) (d : Contents) → length text ≤ 16384 → lines_read 1 Head no_contents (split 10 text) ≡ Ok d → ready d ≡ true
ready_lines text d l e = let s = scripts_sound text d (cond-true _ _ _ (le-leb (length text) 16384 l) ∙ e) in ap ready s.4 ∙ ready_said s.0 s.1
