-- The bounds that a run waits for are those of what it found last.
use Rattle.std.proofs.Common.{◌≡◌, ℕ, true, false, ◌&&◌, cond, List, [], ◌∷◌, ℤ, length, nat_lt, refl, ◌∙◌, All, Option}
use Rattle.std.proofs.lemmas.Bool.{and_parts}
use Rattle.signed_clause.specs.Ranges.{is_nil}
use Rattle.signed_clause.specs.Clauses.{Literals, box_of}
use Rattle.ground_form.specs.declared.ground.Ground.{Ground}
use Rattle.ground_form.specs.WellMade.{IsWellMade}
use Rattle.log_form.specs.declared.line.Line.{Line}
use Rattle.log_form.specs.declared.line.Line.TheVariants.{Axiom, Chain, Bound, Use, Found, Decide, Empty}
use Rattle.log_form.specs.Acceptance.{Made, clause_at, bounds, after, made_from, made}
use Rattle.log_form.specs.Acceptance as acceptance
use Rattle.log_check.specs.Soundness.{IsSound}
use Rattle.log_check.proofs.Steps.{sound_step, sound_start}
use Rattle.run_law.specs.Replay.{State, Mode, Going, Conflict, AtFound, Closed, start, top_boxes, is_going, acts, are_sets_within, is_settled, are_quiet, none_empty, may_explain, mode_by, mode_by_bounds, led_back, react, learned, is_split, may_stand, changed, next, run_from, is_run, state_from, state_of}
use Rattle.run_law.specs.Lines.{HasSets}
use Rattle.run_law.proofs.LineSets.{has_clause, first_has, rest_has}
use Rattle.run_law.proofs.FewDecisions.{run_line}

-- but for what was found and not yet asked to be beaten
abbrev pub IsWaiting : Ground → Option (List ℤ) → Mode → List Literals → Type 0
IsWaiting g found Going cs = cs ≡ bounds g found
IsWaiting g found (Conflict n) cs = cs ≡ bounds g found
IsWaiting g found AtFound cs = Unit {0}
IsWaiting g found Closed cs = Unit {0}

in_any : (g : Ground) (found : Option (List ℤ)) (mode : Mode) (cs : List Literals) →
    cs ≡ bounds g found → IsWaiting g found mode cs
in_any g found Going cs h = h
in_any g found (Conflict n) cs h = h
in_any g found AtFound cs h = tt
in_any g found Closed cs h = tt

pub in_going : (g : Ground) (found : Option (List ℤ)) (mode : Mode) (cs : List Literals) →
    is_going mode ≡ true → IsWaiting g found mode cs → cs ≡ bounds g found
in_going g found Going cs e h = h
in_going g found (Conflict n) cs e h = absurd cc
in_going g found AtFound cs e h = absurd cc
in_going g found Closed cs e h = absurd cc

-- a chain changes no bound
learned-bounds : (k : ℕ) (c : Literals) (s : State) → (learned k c s).bounds ≡ s.bounds
learned-bounds k c s =
    elim (is_nil c) as (λ b. (cond b (record s { mode = Closed; learnt = c ∷ s.learnt })
    (react k c (led_back c s))).bounds ≡ s.bounds) [ true ↦ refl | false ↦ refl ]

explained : (g : Ground) (m : Made) (s : State) (n k : ℕ) (steps : List (ℕ × ℕ)) (c : Literals)
    (mode : Mode) → may_explain m s n steps c mode ≡ true → IsWaiting g m.found mode s.bounds →
    IsWaiting g m.found (learned k c s).mode (learned k c s).bounds
explained g m s n k steps c Going h w = absurd cc
explained g m s n k steps c (Conflict j) h w =
    in_any g m.found (learned k c s).mode (learned k c s).bounds (learned-bounds k c s ∙ w)
explained g m s n k steps c AtFound h w = absurd cc
explained g m s n k steps c Closed h w = absurd cc

line_waits : (g : Ground) (m : Made) (s : State) (l : Line) → may_stand g m s l ≡ true →
    IsWaiting g m.found s.mode s.bounds →
    IsWaiting g (after g m l).found (next g m s l).mode (next g m s l).bounds
unfolding may_stand changed after
line_waits g m s (Axiom k c) h w =
    let p = and_parts (is_going s.mode) (are_sets_within g.domains c && acts (top_boxes s) c) h in
    in_any g m.found (mode_by (top_boxes s) (length m.clauses) c) s.bounds
    (in_going g m.found s.mode s.bounds p.0 w)
line_waits g m s (Use i) h w =
    let c = clause_at m.clauses i in
    let p = and_parts (is_going s.mode) (acts (top_boxes s) c) h in
    in_any g m.found (mode_by (top_boxes s) i c) s.bounds
    (in_going g m.found s.mode s.bounds p.0 w)
line_waits g m s (Decide x half) h w =
    let box = box_of (top_boxes s) x in
    let p = and_parts (is_going s.mode) (none_empty (top_boxes s) && (are_quiet g.cons (top_boxes s)
    && (is_settled s && (nat_lt x g.search && is_split half box)))) h in
    in_going g m.found s.mode s.bounds p.0 w
line_waits g m s (Found a) h w = tt
line_waits g m s (Bound values) h w =
    let cs = bounds g m.found in
    in_any g m.found (mode_by_bounds (top_boxes s) (length m.clauses) cs) cs refl
line_waits g m s (Chain chain c) h w =
    explained g m s chain.first (length m.clauses) chain.steps c s.mode h w
line_waits g m s (Empty x) h w = tt

lines_wait : (g : Ground) (m : Made) (s : State) (ls : List Line) → run_from g m s ls ≡ true →
    IsWaiting g m.found s.mode s.bounds →
    IsWaiting g (made_from g m ls).found (state_from g m s ls).mode
    (state_from g m s ls).bounds
lines_wait g m s [] h w = w
lines_wait g m s (l ∷ ls) h w =
    let p = run_line g m s l ls h in
    lines_wait g (after g m l) (next g m s l) ls p.rest (line_waits g m s l p.stands w)

pub run_waits : (g : Ground) (ls : List Line) → is_run g ls ≡ true →
    IsWaiting g (made g ls).found (state_of g ls).mode (state_of g ls).bounds
run_waits g ls h = lines_wait g acceptance.start (start g) ls h refl

-- ---- and what it made is sound

lines_sound : (g : Ground) (m : Made) (s : State) (ls : List Line) → IsWellMade g →
    All (λ l. HasSets l) ls → run_from g m s ls ≡ true → IsSound g m → IsSound g (made_from g m ls)
lines_sound g m s [] w f h t = t
lines_sound g m s (l ∷ ls) w f h t =
    let p = run_line g m s l ls h in
    lines_sound g (after g m l) (next g m s l) ls w (rest_has l ls f) p.rest
    (sound_step g m l w (has_clause l (first_has l ls f)) t p.accepted)

pub run_sound : (g : Ground) (ls : List Line) → IsWellMade g → All (λ l. HasSets l) ls →
    is_run g ls ≡ true → IsSound g (made g ls)
run_sound g ls w f h = lines_sound g acceptance.start (start g) ls w f h (sound_start g)
