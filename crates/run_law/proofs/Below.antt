-- The levels below the last one stand at fixpoints, where decisions stood.
use Rattle.std.proofs.Common.{◌≡◌, ℕ, zero, suc, true, false, not, ◌&&◌, cond, List, [], ◌∷◌, length, refl, sym, arith, subst, nat_lt, slice_get, All, Some, None}
use Rattle.std.specs.Prelude.{unwrap_or}
use Rattle.std.proofs.lemmas.List.Elements.{All-cons}
use Rattle.std.proofs.lemmas.Bool.{and_parts}
use Rattle.signed_clause.specs.Ranges.{Ranges, is_nil}
use Rattle.signed_clause.specs.Clauses.{Boxes, Literals, box_of, false_in, unit_of}
use Rattle.ground_form.specs.declared.con.Con.{Con}
use Rattle.ground_form.specs.declared.ground.Ground.{Ground}
use Rattle.box_rules.specs.Quiet.{quiet}
use Rattle.log_form.specs.declared.line.Line.{Line}
use Rattle.log_form.specs.declared.line.Line.TheVariants.{Axiom, Chain, Bound, Use, Found, Decide, Empty}
use Rattle.log_form.specs.Acceptance.{Made, clause_at, after, made_from}
use Rattle.log_form.specs.Acceptance as acceptance
use Rattle.fd_store.specs.Levels.{Level, Stack, reacted, pruned_by}
use Rattle.learn_clauses.specs.Walk.{back_from, back_to}
use Rattle.run_law.specs.Replay.{State, Closed, start, top_boxes, is_going, is_settled, are_quiet, none_empty, led_back, react, learned, is_split, may_stand, changed, next, run_from, is_run, state_from, state_of}
use Rattle.run_law.specs.Fixpoints.{IsFixpoint}
use Rattle.run_law.proofs.Units.{some_same, none_some}
use Rattle.run_law.proofs.FewDecisions.{run_line}

abbrev AreFixpoints : Ground → List Level → Type 0
AreFixpoints g ls = All (λ l. IsFixpoint g.cons l.now) ls

pub quiet_each : (cons : List Con) (boxes : Boxes) (k : ℕ) (con : Con) →
    are_quiet cons boxes ≡ true → slice_get cons k ≡ Some con → quiet con boxes ≡ true
quiet_each [] boxes k con h e = absurd (none_some con e)
quiet_each (d ∷ cons) boxes zero con h e =
    let p = and_parts (quiet d boxes) (are_quiet cons boxes) h in
    subst (λ (c : Con). quiet c boxes ≡ true) (some_same d con e) p.0
quiet_each (d ∷ cons) boxes (suc k) con h e =
    let p = and_parts (quiet d boxes) (are_quiet cons boxes) h in
    quiet_each cons boxes k con p.1 e

reacted-below : (k : ℕ) (c : Literals) (s : Stack) → (reacted k c s).below ≡ s.below
reacted-below k c s =
    elim (false_in s.top.now c) as (λ b.
    (cond b s (pruned_by k (unit_of s.top.now c) s)).below ≡ s.below) [
      | true ↦ refl
      | false ↦ elim (unit_of s.top.now c) as (λ u. (pruned_by k u s).below ≡ s.below) [
        | None ↦ refl
        | Some u ↦ refl
      ]
    ]

reacted_fixpoints : (g : Ground) (k : ℕ) (c : Literals) (s : Stack) → AreFixpoints g s.below →
    AreFixpoints g (reacted k c s).below
reacted_fixpoints g k c s h =
    subst (λ (ls : List Level). AreFixpoints g ls) (sym (reacted-below k c s)) h

back_fixpoints : (g : Ground) (c : Literals) (top : Level) (below : List Level) (lower : Stack) →
    back_from c top below ≡ Some lower → AreFixpoints g below →
    AreFixpoints g (lower.top ∷ lower.below)
back_fixpoints g c top [] lower h a = absurd (none_some lower h)
back_fixpoints g c top (l ∷ ls) lower h a =
    (elim (false_in top.first c && not (false_in l.now c)) as (λ b.
    cond b (Some (record { top = l; below = ls })) (back_from c l ls) ≡ Some lower →
    AreFixpoints g (lower.top ∷ lower.below)) [
      | true ↦ λ e.
          let P : Stack → Type 0 = λ s. AreFixpoints g (s.top ∷ s.below) in
          subst P (some_same (record { top = l; below = ls }) lower e) a
      | false ↦ λ e.
          back_fixpoints g c l ls lower e (λ k d lt. a (suc k) d (omega arith))
    ]) h

learned_fixpoints : (g : Ground) (k : ℕ) (c : Literals) (s : State) →
    AreFixpoints g s.levels.below → AreFixpoints g (learned k c s).levels.below
learned_fixpoints g k c s a =
    elim (is_nil c) as (λ b. AreFixpoints g
    (cond b (record s { mode = Closed; learnt = c ∷ s.learnt })
    (react k c (led_back c s))).levels.below) [
      | true ↦ a
      | false ↦ (elim (back_to c s.levels) as (λ o. back_to c s.levels ≡ o →
          AreFixpoints g (reacted k c (unwrap_or o s.levels)).below) [
            | None ↦ λ e. reacted_fixpoints g k c s.levels a
            | Some lower ↦ λ e.
                let both = back_fixpoints g c s.levels.top s.levels.below lower e a in
                reacted_fixpoints g k c lower (λ j d lt. both (suc j) d (omega arith))
          ]) refl
    ]

decide_fixpoint : (g : Ground) (m : Made) (s : State) (x : ℕ) (half : Ranges) →
    may_stand g m s (Decide x half) ≡ true → IsFixpoint g.cons (top_boxes s)
unfolding may_stand
decide_fixpoint g m s x half h =
    let top = top_boxes s in
    let last = nat_lt x g.search && is_split half (box_of top x) in
    let p = and_parts (is_going s.mode)
    (none_empty top && (are_quiet g.cons top && (is_settled s && last))) h in
    let q = and_parts (none_empty top) (are_quiet g.cons top && (is_settled s && last)) p.1 in
    let r = and_parts (are_quiet g.cons top) (is_settled s && last) q.1 in
    record { some = q.0; is_quiet = λ k con e. quiet_each g.cons top k con r.0 e }

line_fixpoints : (g : Ground) (m : Made) (s : State) (l : Line) → may_stand g m s l ≡ true →
    AreFixpoints g s.levels.below → AreFixpoints g (next g m s l).levels.below
unfolding changed
line_fixpoints g m s (Axiom k c) h a = reacted_fixpoints g (length m.clauses) c s.levels a
line_fixpoints g m s (Use i) h a = reacted_fixpoints g i (clause_at m.clauses i) s.levels a
line_fixpoints g m s (Decide x half) h a =
    All-cons (λ l. IsFixpoint g.cons l.now) s.levels.top s.levels.below
    (decide_fixpoint g m s x half h) a
line_fixpoints g m s (Found values) h a = a
line_fixpoints g m s (Bound values) h a = a
line_fixpoints g m s (Chain chain c) h a = learned_fixpoints g (length m.clauses) c s a
line_fixpoints g m s (Empty x) h a = a

lines_fixpoints : (g : Ground) (m : Made) (s : State) (ls : List Line) →
    run_from g m s ls ≡ true → AreFixpoints g s.levels.below →
    AreFixpoints g (state_from g m s ls).levels.below
lines_fixpoints g m s [] h a = a
lines_fixpoints g m s (l ∷ ls) h a =
    let p = run_line g m s l ls h in
    lines_fixpoints g (after g m l) (next g m s l) ls p.rest
    (line_fixpoints g m s l p.stands a)

pub run_fixpoints : (g : Ground) (ls : List Line) → is_run g ls ≡ true →
    All (λ l. IsFixpoint g.cons l.now) (state_of g ls).levels.below
run_fixpoints g ls h =
    lines_fixpoints g acceptance.start (start g) ls h (λ k d lt. absurd (omega arith))
