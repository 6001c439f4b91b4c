-- Where a search stands behind a learnt clause.
use Rattle.std.proofs.Common.{◌≡◌, ◌⊎◌, inl, inr, ℕ, ◌-◌, Bool, true, false, ◌||◌, cond, List, [], ◌∷◌, ◌++◌, length, refl, sym, ap, ◌∙◌, arith, subst, All, Option, Some, is_some}
use Rattle.std.specs.Prelude.{unwrap_or}
use Rattle.std.specs.List.{Contains}
use Rattle.std.proofs.lemmas.List.{get_or_push, length_push}
use Rattle.std.proofs.lemmas.List.Elements.{Contains-push, Contains-append_left, All-cons, All-push}
use Rattle.signed_clause.specs.Ranges.{is_nil}
use Rattle.signed_clause.specs.Clauses.{Boxes, Literals, false_in, IsClause}
use Rattle.ground_form.specs.declared.ground.Ground.{Ground}
use Rattle.numbered_clauses.specs.declared.chain.Chain as chains
use Rattle.fd_store.specs.Levels.{Stack, reacted}
use Rattle.fd_store.specs.Undo.{dropped}
use Rattle.learn_clauses.specs.Walk.{walk_from, back_to}
use Rattle.learn_clauses.specs.Learnt.{IsDroppedBy}
use Rattle.log_form.specs.declared.line.Line.{Line}
use Rattle.log_form.specs.declared.line.Line.TheVariants.{Chain}
use Rattle.log_form.specs.Acceptance.{Made, clause_at, has_empty, after, made}
use Rattle.log_form.specs.Acceptance as acceptance
use Rattle.run_law.specs.Replay.{State, Mode, Going, Conflict, Closed, top_boxes, leads_back, mode_by, react, learned, led_back, changed, next, is_run, state_of}
use Rattle.run_law.specs.Replay as replay
use Rattle.run_law.proofs.Fronts.{made_more}
use Rattle.run_law.proofs.LineSets.{one_more}
use Rattle.run_law.proofs.WalkLines.{walk_follows}
use Rattle.bound_search.specs.Awaited.{Awaited, keeping}
use Rattle.bound_search.specs.Standing.{IsRun, clauses_of, IsNumbered, AreAdded, AreWatched, IsAt}
use Rattle.bound_search.proofs.MoreLines.{run_of, IsBehind, at_with, numbered_more, AreKept}

-- ---- one clause more is watched

clauses_of-push : (added : List (ℕ × Literals)) (p : ℕ × Literals) →
    clauses_of (added ++ p ∷ []) ≡ clauses_of added ++ p.1 ∷ []
clauses_of-push [] p = refl
clauses_of-push (q ∷ added) p = ap (λ (cs : List Literals). q.1 ∷ cs) (clauses_of-push added p)

added_still : (added : List (ℕ × Literals)) (p : ℕ × Literals) (c : Literals) →
    Contains (clauses_of added) c → Contains (clauses_of (added ++ p ∷ [])) c
added_still added p c h =
    subst (λ (ds : List Literals). Contains ds c) (sym (clauses_of-push added p))
    (Contains-append_left (clauses_of added) (p.1 ∷ []) c h)

added_new : (added : List (ℕ × Literals)) (p : ℕ × Literals) →
    Contains (clauses_of (added ++ p ∷ [])) p.1
added_new added p =
    subst (λ (ds : List Literals). Contains ds p.1) (sym (clauses_of-push added p))
    (Contains-push (clauses_of added) p.1)

numbered_new : (cs : List Literals) (added : List (ℕ × Literals)) (c : Literals) →
    All (λ p. IsNumbered cs p) added →
    All (λ p. IsNumbered (cs ++ c ∷ []) p) (added ++ (length cs, c) ∷ [])
numbered_new cs added c h =
    let long = length_push cs c in
    let new : IsNumbered (cs ++ c ∷ []) (length cs, c) = record {
      exists = omega (arith, long);
      is = get_or_push cs c [] (length cs) refl;
    } in
    All-push (λ p. IsNumbered (cs ++ c ∷ []) p) added (length cs, c)
    (numbered_more cs (c ∷ []) added h) new

-- a learnt clause is watched from now on, or kept as one that is true at level 0
watched_learnt : (b : Bool) (cs : List Literals) (s q : State) (added : Awaited) (c : Literals) →
    q.learnt ≡ c ∷ s.learnt → q.bounds ≡ s.bounds → AreWatched cs s added →
    AreWatched (cs ++ c ∷ []) q (keeping b (length cs) c added)
watched_learnt true cs s q added c l e w =
    let more = keeping true (length cs) c added in
    let P : Literals → Type 0 = λ d.
    Contains (clauses_of more.watched) d ⊎ Contains more.sure d in
    record {
      numbered = numbered_more cs (c ∷ []) added.watched w.numbered;
      asked = numbered_more cs (c ∷ []) added.asked w.asked;
      learnt = subst (AreKept more) (sym l)
          (All-cons P c s.learnt (inr (Contains-push added.sure c))
          (λ k d lt. elim (w.learnt k d lt) [
            | inl h ↦ inl h
            | inr h ↦ inr (Contains-append_left added.sure (c ∷ []) _ h)
          ]));
      bounds = subst (AreAdded added.asked) (sym e) w.bounds;
    }
watched_learnt false cs s q added c l e w =
    let p : ℕ × Literals = (length cs, c) in
    let more = keeping false (length cs) c added in
    let P : Literals → Type 0 = λ d.
    Contains (clauses_of more.watched) d ⊎ Contains more.sure d in
    record {
      numbered = numbered_new cs added.watched c w.numbered;
      asked = numbered_more cs (c ∷ []) added.asked w.asked;
      learnt = subst (AreKept more) (sym l)
          (All-cons P c s.learnt (inl (added_new added.watched p))
          (λ k d lt. elim (w.learnt k d lt) [
            | inl h ↦ inl (added_still added.watched p _ h)
            | inr h ↦ inr h
          ]));
      bounds = subst (AreAdded added.asked) (sym e) w.bounds;
    }

-- ---- a chain

-- what is asked of a chain and its clause
pub record IsExplained (clauses : List Literals) (levels : Stack) (n : ℕ) (chain : chains.Chain)
    (c : Literals) : Type 0 where
  pub first : chain.first ≡ n
  pub walked : walk_from levels clauses n ≡ Some (record { steps = chain.steps; clause = c })
  pub form : IsClause c

chain_run : (g : Ground) (ls : List Line) (n : ℕ) (chain : chains.Chain) (c : Literals) →
    IsRun g ls → (state_of g ls).mode ≡ Conflict n →
    IsExplained (made g ls).clauses (state_of g ls).levels n chain c →
    leads_back (state_of g ls).levels c ≡ true → IsRun g (ls ++ Chain chain c ∷ [])
chain_run g ls n chain c r mode e h = record {
  well_made = r.well_made;
  some = r.some;
  sets = one_more ls (Chain chain c) r.sets e.form;
  run = walk_follows g ls chain c (run_of g ls r) (record {
    conflict = mode ∙ ap Conflict (sym e.first);
    walked = subst (λ (k : ℕ). walk_from (state_of g ls).levels (made g ls).clauses k
        ≡ Some (record { steps = chain.steps; clause = c })) (sym e.first) e.walked;
    leads = h;
  });
}

-- ---- the empty clause

last_empty : (cs : List Literals) → has_empty (cs ++ [] ∷ []) ≡ true
last_empty [] = refl
last_empty (c ∷ cs) =
    let more = last_empty cs in
    elim (is_nil c) as (λ b. (b || has_empty (cs ++ [] ∷ [])) ≡ true) [
      | true ↦ refl
      | false ↦ more
    ]

-- a run that made the empty clause
pub record IsClosed (g : Ground) (ls : List Line) : Type 0 where
  pub lines : IsRun g ls
  pub closed : has_empty (made g ls).clauses ≡ true

closes_made : (g : Ground) (m : Made) (chain : chains.Chain) (c : Literals) → c ≡ [] →
    has_empty (after g m (Chain chain c)).clauses ≡ true
unfolding acceptance.after
closes_made g m chain c e =
    ap (λ (d : Literals). has_empty (m.clauses ++ d ∷ [])) e ∙ last_empty m.clauses

pub chain_closes : (g : Ground) (ls : List Line) (clauses : List Literals) (levels : Stack)
    (added : Awaited) (n : ℕ) (chain : chains.Chain) (c : Literals) →
    IsAt g ls clauses levels added (Conflict n) → IsExplained clauses levels n chain c → c ≡ [] →
    IsClosed g (ls ++ Chain chain c ∷ [])
chain_closes g ls clauses levels added n chain c at e nil =
    let m = made g ls in
    let s = state_of g ls in
    let one : IsExplained m.clauses levels n chain c =
    subst (λ (cs : List Literals). IsExplained cs levels n chain c) (sym at.clauses_are) e in
    let two : IsExplained m.clauses s.levels n chain c =
    subst (λ (k : Stack). IsExplained m.clauses k n chain c) (sym at.levels_are) one in
    let leads : leads_back s.levels c ≡ true =
    ap (λ (d : Literals). leads_back s.levels d) nil in
    record {
      lines = chain_run g ls n chain c at.lines at.mode_is two leads;
      closed = ap (λ (m : Made). has_empty m.clauses) (made_more g ls (Chain chain c))
          ∙ closes_made g m chain c nil;
    }

-- ---- a clause that drops levels

not_nil : (boxes : Boxes) (c : Literals) → false_in boxes c ≡ false → is_nil c ≡ false
not_nil boxes [] h = absurd cc
not_nil boxes (l ∷ c) h = refl

learned_is : (k : ℕ) (c : Literals) (s : State) (lower : Stack) → is_nil c ≡ false →
    back_to c s.levels ≡ Some lower →
    learned k c s ≡ react k c (record s { levels = lower; learnt = c ∷ s.learnt })
learned_is k c s lower nil back =
    ap (λ (b : Bool). cond b (record s { mode = Closed; learnt = c ∷ s.learnt })
    (react k c (led_back c s))) nil
    ∙ ap (λ (o : Option Stack). react k c (record s {
      levels = unwrap_or o s.levels;
      learnt = c ∷ s.learnt;
    })) back

chain_behind : (g : Ground) (m : Made) (s : State) (chain : chains.Chain) (c : Literals)
    (lower : Stack) (added : Awaited) (b : Bool) → is_nil c ≡ false →
    back_to c s.levels ≡ Some lower → AreWatched m.clauses s added →
    IsBehind (after g m (Chain chain c)) (next g m s (Chain chain c)) (m.clauses ++ c ∷ [])
    (reacted (length m.clauses) c lower) (keeping b (length m.clauses) c added)
    (mode_by lower.top.now (length m.clauses) c)
unfolding acceptance.after replay.changed
chain_behind g m s chain c lower added b nil back w =
    let k = length m.clauses in
    let more = keeping b k c added in
    let t : State = record s { levels = lower; learnt = c ∷ s.learnt } in
    let P : State → Type 0 = λ q. IsBehind (record { clauses = m.clauses ++ c ∷ []; found = m.found })
    (record q { fresh = false }) (m.clauses ++ c ∷ []) (reacted k c lower) more
    (mode_by lower.top.now k c) in
    let here : P (react k c t) = record {
      clauses_are = refl;
      levels_are = refl;
      mode_is = refl;
      watched = watched_learnt b m.clauses s (record (react k c t) { fresh = false }) added c refl
          refl w;
    } in
    subst P (sym (learned_is k c s lower nil back)) here

leads_is : (levels lower : Stack) (c : Literals) → back_to c levels ≡ Some lower →
    leads_back levels c ≡ true
leads_is levels lower c h =
    let some : is_some (back_to c levels) ≡ true = ap is_some h in
    elim (is_nil c) as (λ b. (b || is_some (back_to c levels)) ≡ true) [
      | true ↦ refl
      | false ↦ some
    ]

chain_self : (g : Ground) (ls : List Line) (added : Awaited) (n : ℕ)
    (chain : chains.Chain) (c : Literals) (level : ℕ) (b : Bool) →
    IsAt g ls (made g ls).clauses (state_of g ls).levels added (Conflict n) →
    IsExplained (made g ls).clauses (state_of g ls).levels n chain c →
    IsDroppedBy c (state_of g ls).levels level →
    IsAt g (ls ++ Chain chain c ∷ []) ((made g ls).clauses ++ c ∷ [])
    (reacted (length (made g ls).clauses) c (dropped (level - 1) (state_of g ls).levels))
    (keeping b (length (made g ls).clauses) c added)
    (mode_by (dropped (level - 1) (state_of g ls).levels).top.now (length (made g ls).clauses) c)
chain_self g ls added n chain c level b at e d =
    let m = made g ls in
    let s = state_of g ls in
    let k = length m.clauses in
    let lower = dropped (level - 1) s.levels in
    let nil = not_nil lower.top.now c d.not_below in
    let run = chain_run g ls n chain c at.lines at.mode_is e (leads_is s.levels lower c d.highest) in
    at_with g ls (Chain chain c) (m.clauses ++ c ∷ []) (reacted k c lower) (keeping b k c added)
    (mode_by lower.top.now k c) run
    (chain_behind g m s chain c lower added b nil d.highest at.watched)

pub chain_at : (g : Ground) (ls : List Line) (clauses : List Literals) (levels : Stack)
    (added : Awaited) (n : ℕ) (chain : chains.Chain) (c : Literals) (level : ℕ) (b : Bool) →
    IsAt g ls clauses levels added (Conflict n) → IsExplained clauses levels n chain c →
    IsDroppedBy c levels level →
    IsAt g (ls ++ Chain chain c ∷ []) (clauses ++ c ∷ [])
    (reacted (length clauses) c (dropped (level - 1) levels))
    (keeping b (length clauses) c added)
    (mode_by (dropped (level - 1) levels).top.now (length clauses) c)
chain_at g ls clauses levels added n chain c level b at e d =
    let P : List Literals → Stack → Type 0 = λ cs s.
    IsAt g ls cs s added (Conflict n) → IsExplained cs s n chain c → IsDroppedBy c s level →
    IsAt g (ls ++ Chain chain c ∷ []) (cs ++ c ∷ [])
    (reacted (length cs) c (dropped (level - 1) s)) (keeping b (length cs) c added)
    (mode_by (dropped (level - 1) s).top.now (length cs) c) in
    let m = made g ls in
    let s = state_of g ls in
    let self : P m.clauses s.levels = chain_self g ls added n chain c level b in
    let one : P clauses s.levels =
    subst (λ (cs : List Literals). P cs s.levels) at.clauses_are self in
    (subst (λ (s : Stack). P clauses s) at.levels_are one) at e d
