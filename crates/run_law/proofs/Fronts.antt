-- Fronts of runs, and a line more.
use Rattle.std.proofs.Common.{◌≡◌, ℕ, zero, suc, true, false, ◌&&◌, List, [], ◌∷◌, ◌++◌, take, refl, sym, ap, ◌∙◌}
use Rattle.std.proofs.Math.Bool.{and-true, and_assoc}
use Rattle.std.proofs.lemmas.Bool.{and_parts, and_from}
use Rattle.signed_clause.specs.Ranges.{is_nil}
use Rattle.ground_form.specs.declared.ground.Ground.{Ground}
use Rattle.log_form.specs.declared.line.Line.{Line}
use Rattle.log_form.specs.Acceptance.{Made, may_come, after, accepted_from, accepted, made_from, made}
use Rattle.log_form.specs.Acceptance as acceptance
use Rattle.run_law.specs.Replay.{State, start, may_stand, next, run_from, is_run, state_from, state_of}

-- ---- a run is accepted

accepted_too : (g : Ground) (m : Made) (s : State) (ls : List Line) → run_from g m s ls ≡ true →
    accepted_from g m ls ≡ true
accepted_too g m s [] h = refl
accepted_too g m s (l ∷ ls) h =
    let rest = run_from g (after g m l) (next g m s l) ls in
    let p = and_parts (may_come g m l) (may_stand g m s l && rest) h in
    let q = and_parts (may_stand g m s l) rest p.1 in
    and_from (may_come g m l) (accepted_from g (after g m l) ls) p.0
    (accepted_too g (after g m l) (next g m s l) ls q.1)

pub run_accepted : (g : Ground) (ls : List Line) → is_run g ls ≡ true → accepted g ls ≡ true
run_accepted g ls h = accepted_too g acceptance.start (start g) ls h

-- ---- fronts

front_from : (g : Ground) (m : Made) (s : State) (ls : List Line) (n : ℕ) →
    run_from g m s ls ≡ true → run_from g m s (take n ls) ≡ true
front_from g m s ls zero h = refl
front_from g m s [] (suc n) h = refl
front_from g m s (l ∷ ls) (suc n) h =
    let n' = after g m l in
    let s' = next g m s l in
    let p = and_parts (may_come g m l) (may_stand g m s l && run_from g n' s' ls) h in
    let q = and_parts (may_stand g m s l) (run_from g n' s' ls) p.1 in
    let rest = run_from g n' s' (take n ls) in
    and_from (may_come g m l) (may_stand g m s l && rest) p.0
    (and_from (may_stand g m s l) rest q.0 (front_from g n' s' ls n q.1))

pub run_front : (g : Ground) (ls : List Line) (n : ℕ) → is_run g ls ≡ true →
    is_run g (take n ls) ≡ true
run_front g ls n h = front_from g acceptance.start (start g) ls n h

-- ---- a line more

made_behind : (g : Ground) (m : Made) (ls : List Line) (l : Line) →
    made_from g m (ls ++ l ∷ []) ≡ after g (made_from g m ls) l
made_behind g m [] l = refl
made_behind g m (k ∷ ls) l = made_behind g (after g m k) ls l

pub made_more : (g : Ground) (ls : List Line) (l : Line) →
    made g (ls ++ l ∷ []) ≡ after g (made g ls) l
made_more g ls l = made_behind g acceptance.start ls l

state_behind : (g : Ground) (m : Made) (s : State) (ls : List Line) (l : Line) →
    state_from g m s (ls ++ l ∷ []) ≡ next g (made_from g m ls) (state_from g m s ls) l
state_behind g m s [] l = refl
state_behind g m s (k ∷ ls) l = state_behind g (after g m k) (next g m s k) ls l

pub state_more : (g : Ground) (ls : List Line) (l : Line) →
    state_of g (ls ++ l ∷ []) ≡ next g (made g ls) (state_of g ls) l
state_more g ls l = state_behind g acceptance.start (start g) ls l

run_behind : (g : Ground) (m : Made) (s : State) (ls : List Line) (l : Line) →
    run_from g m s (ls ++ l ∷ [])
    ≡ (run_from g m s ls && (may_come g (made_from g m ls) l
    && may_stand g (made_from g m ls) (state_from g m s ls) l))
run_behind g m s [] l = ap (λ b. may_come g m l && b) (and-true (may_stand g m s l))
run_behind g m s (k ∷ ls) l =
    let m' = after g m k in
    let s' = next g m s k in
    let last = may_come g (made_from g m' ls) l
    && may_stand g (made_from g m' ls) (state_from g m' s' ls) l in
    let more = run_behind g m' s' ls l in
    ap (λ b. may_come g m k && (may_stand g m s k && b)) more
    ∙ ap (λ b. may_come g m k && b) (sym (and_assoc (may_stand g m s k) (run_from g m' s' ls) last))
    ∙ sym (and_assoc (may_come g m k) (may_stand g m s k && run_from g m' s' ls) last)

pub run_more : (g : Ground) (ls : List Line) (l : Line) →
    is_run g (ls ++ l ∷ [])
    ≡ (is_run g ls && (may_come g (made g ls) l && may_stand g (made g ls) (state_of g ls) l))
run_more g ls l = run_behind g acceptance.start (start g) ls l

-- ---- the first line

stale : (g : Ground) (m : Made) (s : State) (ls : List Line) → s.fresh ≡ false →
    (state_from g m s ls).fresh ≡ false
stale g m s [] h = h
stale g m s (l ∷ ls) h = stale g (after g m l) (next g m s l) ls refl

pub run_fresh : (g : Ground) (ls : List Line) → (state_of g ls).fresh ≡ is_nil ls
run_fresh g [] = refl
run_fresh g (l ∷ ls) =
    stale g (after g acceptance.start l) (next g acceptance.start (start g) l) ls refl

pub ruleset laws_of_more = (run_more, made_more, state_more)
