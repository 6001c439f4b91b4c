-- The walk, entry by entry.
use Rattle.std.proofs.Common.{◌≡◌, ◌↔◌, ℕ, ◌+◌, ◌-◌, ◌<◌, ◌≤◌, Bool, true, false, not, ◌&&◌, cond, List, [], ◌∷◌, ◌++◌, ℤ, length, refl, sym, ap, ◌∙◌, arith, subst, slice_set, Option, Some, None, is_none, append_assoc, append-nil}
use Rattle.std.specs.List.{All}
use Rattle.signed_clause.specs.Clauses.{Boxes, Literals, box_of, false_in, resolvent, IsClause}
use Rattle.signed_clause.proofs.ClauseLaws.{IsClauseFrom-resolvent}
use Rattle.fd_store.specs.declared.trail.Moved.{Moved}
use Rattle.fd_store.specs.Levels.{Stack}
use Rattle.fd_store.specs.Undo.{dropped}
use Rattle.fd_store.specs.Trails.{entries_of, stack_of, level_of, level_after, IsStore}
use Rattle.fd_store.proofs.StackLaws.{store-older, dropped-older, dropped-none}
use Rattle.learn_clauses.specs.Walk.{clause_at, Walk, with_step, walk, back_to}
use Rattle.learn_clauses.specs.Learnt.{domains_of, IsFrom, AreFrom, IsWithinDomains, IsDroppedBy}
use Rattle.learn_clauses.specs.Turns.{is_passed, ends_at, clause_by, steps_by, next_clause, next_steps, IsResolvable}
use Rattle.learn_clauses.proofs.FalseLaws.{false_in-narrower, false_in-set, has_var-met}
use Rattle.learn_clauses.proofs.EntryLaws.{valid_before, narrower_behind, unit_has, false_in-resolvent}
use Rattle.learn_clauses.proofs.WithinLaws.{valid_boxes, within-resolvent, within_at, empty_from_false, vars_within}
use Rattle.learn_clauses.proofs.BackLaws.{domains_of-older, length-domains, back_to-older, back_to-decision, dropped_by}

-- what a walk is over: clauses, the present boxes, the entries, the newest first, and the clause
-- that it begins with
pub record Conflict : Type 0 where
  pub clauses : List Literals
  pub boxes : Boxes
  pub trail : List Moved
  pub clause : Literals

abbrev pub levels : Conflict → Stack
levels r = stack_of r.boxes r.trail

abbrev pub domains : Conflict → Boxes
domains r = domains_of (levels r)

abbrev pub whole_walk : Conflict → Option Walk
whole_walk r = walk r.boxes (entries_of r.trail) r.clauses r.clause

-- with the steps before its own
abbrev pub with_steps : List (ℕ × ℕ) → Option Walk → Option Walk
with_steps steps None = None
with_steps steps (Some w) = Some (record { steps = steps ++ w.steps; clause = w.clause })

-- where the walk is: boxes and entries that are left, the clause and the steps so far
pub record Walking (r : Conflict) (boxes : Boxes) (ms : List Moved) (c : Literals)
    (steps : List (ℕ × ℕ)) : Type 0 where
  pub form : IsClause c
  pub within : IsWithinDomains (domains r) c
  pub is_false : false_in boxes c ≡ true
  pub came : AreFrom r.clauses boxes (entries_of ms)
  pub store : IsStore boxes ms
  pub domains_are : domains_of (stack_of boxes ms) ≡ domains r
  pub walks : whole_walk r ≡ with_steps steps (walk boxes (entries_of ms) r.clauses c)
  pub back : (d : Literals) → IsClause d → false_in boxes d ≡ true →
      back_to d (levels r) ≡ back_to d (stack_of boxes ms)
  pub above : (k : ℕ) → k < level_of ms → dropped k (levels r) ≡ dropped k (stack_of boxes ms)

pub walking_first : (r : Conflict) → IsClause r.clause → IsWithinDomains (domains r) r.clause →
    false_in r.boxes r.clause ≡ true → AreFrom r.clauses r.boxes (entries_of r.trail) →
    IsStore r.boxes r.trail →
    Walking r r.boxes r.trail r.clause []
walking_first r f w h came kept = record {
  form = f;
  within = w;
  is_false = h;
  came = came;
  store = kept;
  domains_are = refl;
  walks = elim (whole_walk r) as (λ o. o ≡ with_steps [] o) [ None ↦ refl | Some w ↦ refl ];
  back = λ d f h. refl;
  above = λ k h. refl;
}

-- ---- an entry

-- whether the clause is false before it
false_before : (r : Conflict) (boxes : Boxes) (m : Moved) (ms : List Moved) (c : Literals)
    (steps : List (ℕ × ℕ)) →
    Walking r boxes (m ∷ ms) c steps → false_in (slice_set boxes m.var m.before) c ≡ is_passed m c
false_before r boxes m ms c steps w =
    false_in-set c 0 boxes m.var m.before w.form w.store.trail.0.exists w.is_false

with_steps-step : (steps : List (ℕ × ℕ)) (s : ℕ × ℕ) (w : Option Walk) →
    with_steps steps (with_step s w) ≡ with_steps (steps ++ s ∷ []) w
with_steps-step steps s None = refl
with_steps-step steps s (Some w) =
    ap (λ (ss : List (ℕ × ℕ)). Some (record { steps = ss; clause = w.clause }))
    (sym (append_assoc steps (s ∷ []) w.steps))

level_down : (from : Option ℕ) (k level l : ℕ) → level ≡ level_after from l → k < l → k < level
level_down None k level l h lt = omega arith
level_down (Some j) k level l h lt = omega arith

-- what goes on before the entry, with the clause d
kept : (r : Conflict) (boxes : Boxes) (m : Moved) (ms : List Moved) (c d : Literals)
    (steps more : List (ℕ × ℕ)) →
    Walking r boxes (m ∷ ms) c steps → IsClause d → IsWithinDomains (domains r) d →
    false_in (slice_set boxes m.var m.before) d ≡ true →
    with_steps steps (walk boxes (entries_of (m ∷ ms)) r.clauses c)
    ≡ with_steps more (walk (slice_set boxes m.var m.before) (entries_of ms) r.clauses d) →
    Walking r (slice_set boxes m.var m.before) ms d more
kept r boxes m ms c d steps more w f within h walks =
    let entry = w.store.trail.0 in
    let sets = valid_boxes boxes w.store.sets in
    let before = slice_set boxes m.var m.before in
    record {
      form = f;
      within = within;
      is_false = h;
      came = w.came.1;
      store = store-older (m ∷ ms) boxes w.store;
      domains_are = sym (domains_of-older m ms boxes) ∙ w.domains_are;
      walks = w.walks ∙ walks;
      back = λ e g k.
          w.back e g (false_in-narrower e boxes before g sets
          (valid_before boxes m.var m.before entry.exists sets entry.valid)
          (narrower_behind boxes m ms entry sets) k)
          ∙ back_to-older m ms e boxes k;
      above = λ k lt.
          let higher : k < m.level = level_down m.from k m.level (level_of ms) entry.level_is lt in
          w.above k higher ∙ dropped-older (m ∷ ms) k boxes w.store.trail higher;
    }

from_is : (from : Option ℕ) (j : ℕ) (clauses : List Literals) (before : Boxes) (x : ℕ)
    (now : List (ℤ × ℤ)) → from ≡ Some j →
    IsFrom from clauses before x now → IsFrom (Some j) clauses before x now
from_is from j clauses before x now e h =
    subst (λ (o : Option ℕ). IsFrom o clauses before x now) e h

-- the clause can be resolved where it isn't passed over
pub walking_resolves : (r : Conflict) (boxes : Boxes) (m : Moved) (ms : List Moved) (c : Literals)
    (steps : List (ℕ × ℕ)) (sets : Boxes) →
    All (λ c. IsWithinDomains (domains r) c) r.clauses → length r.boxes ≤ length sets →
    Walking r boxes (m ∷ ms) c steps → (j : ℕ) → m.from ≡ Some j → is_passed m c ≡ false →
    IsResolvable r.clauses c m.var j sets
walking_resolves r boxes m ms c steps sets within room w j e h =
    let from = from_is m.from j r.clauses (slice_set boxes m.var m.before) m.var
    (box_of boxes m.var) e w.came.0 in
    let size = length-domains r.trail r.boxes in
    record {
      readable = record {
        exists = from.0;
        vars = λ f. vars_within (domains r) (clause_at r.clauses j) 0 (length sets) f
            (omega (arith, size, room)) (within_at (domains r) r.clauses j within);
      };
      first = has_var-met c m.var m.before h;
      second = unit_has (clause_at r.clauses j) (slice_set boxes m.var m.before)
          (m.var, box_of boxes m.var) from.1;
    }

-- an entry that does not end the walk
pub walking_goes : (r : Conflict) (boxes : Boxes) (m : Moved) (ms : List Moved) (c : Literals)
    (steps : List (ℕ × ℕ)) →
    All (λ c. IsWithinDomains (domains r) c) r.clauses →
    Walking r boxes (m ∷ ms) c steps → ends_at m c ≡ false →
    ((j : ℕ) → m.from ≡ Some j → is_passed m c ≡ false → IsClause (clause_at r.clauses j)) →
    Walking r (slice_set boxes m.var m.before) ms (next_clause r.clauses m c) (next_steps m c steps)
walking_goes r boxes m ms c steps within w h forms =
    let before = slice_set boxes m.var m.before in
    let test = false_before r boxes m ms c steps w in
    (elim (is_passed m c) as (λ b. is_passed m c ≡ b → (not b && is_none m.from) ≡ false →
    Walking r before ms (cond b c (clause_by m.from r.clauses m.var c))
    (cond b steps (steps_by m.from m.var steps))) [
      | true ↦ λ e h.
          let before_false : false_in before c ≡ true = test ∙ e in
          kept r boxes m ms c c steps steps w w.form w.within before_false (rw before_false refl)
      | false ↦ λ e h.
          let not_before : false_in before c ≡ false = test ∙ e in
          (elim m.from as (λ from. m.from ≡ from → is_none from ≡ false →
          Walking r before ms (clause_by from r.clauses m.var c) (steps_by from m.var steps)) [
            | None ↦ λ i h. absurd (cc)
            | Some j ↦ λ i h.
                let d = clause_at r.clauses j in
                let g = forms j i e in
                let entry = w.store.trail.0 in
                let sets = valid_boxes boxes w.store.sets in
                let from = from_is m.from j r.clauses before m.var (box_of boxes m.var) i w.came.0
                in
                let first = has_var-met c m.var m.before e in
                let second = unit_has d before (m.var, box_of boxes m.var) from.1 in
                kept r boxes m ms c (resolvent m.var c d) steps (steps ++ (m.var, j) ∷ []) w
                (IsClauseFrom-resolvent m.var c d 0 w.form g)
                (within-resolvent (domains r) m.var c d w.form g first second w.within
                (within_at (domains r) r.clauses j within))
                (false_in-resolvent boxes m.var m.before c d w.form g sets
                (valid_before boxes m.var m.before entry.exists sets entry.valid) first from.1
                w.is_false)
                (rw (not_before, i, first, second)
                (with_steps-step steps (m.var, j)
                (walk before (entries_of ms) r.clauses (resolvent m.var c d))))
          ]) refl h
    ]) refl h

-- ---- where it ends

pub record HasEnded (r : Conflict) (c : Literals) (steps : List (ℕ × ℕ)) (level : ℕ) : Type 0 where
  pub walks : whole_walk r ≡ Some (record { steps = steps; clause = c })
  pub form : IsClause c
  pub within : IsWithinDomains (domains r) c
  pub closes : (level ≡ 0) ↔ (c ≡ [])
  pub drops : 0 < level → IsDroppedBy c (levels r) level

stopped_parts : (a b : Bool) → (not a && b) ≡ true → (a ≡ false) × (b ≡ true)
stopped_parts true b h = absurd (cc)
stopped_parts false b h = (refl, h)

none_is : {X : Type 0} (o : Option X) → is_none o ≡ true → o ≡ None
none_is None h = refl
none_is (Some x) h = absurd (cc)

-- a clause that isn't false isn't empty
some_literal : (boxes : Boxes) (c : Literals) → false_in boxes c ≡ false → c ≡ [] → ⊥
some_literal boxes c h e = let all : false_in boxes c ≡ true = rw e refl in absurd (cc)

pub walking_ends : (r : Conflict) (boxes : Boxes) (m : Moved) (ms : List Moved) (c : Literals)
    (steps : List (ℕ × ℕ)) →
    Walking r boxes (m ∷ ms) c steps → ends_at m c ≡ true → HasEnded r c steps m.level
walking_ends r boxes m ms c steps w h =
    let before = slice_set boxes m.var m.before in
    let parts = stopped_parts (is_passed m c) (is_none m.from) h in
    let from : m.from ≡ None = none_is m.from parts.1 in
    let not_before : false_in before c ≡ false = false_before r boxes m ms c steps w ∙ parts.0 in
    let level : m.level ≡ level_of ms + 1 =
    w.store.trail.0.level_is ∙ ap (λ (o : Option ℕ). level_after o (level_of ms)) from in
    let below : dropped (m.level - 1) (levels r) ≡ stack_of before ms =
    w.above (m.level - 1) (omega arith)
    ∙ dropped-older (m ∷ ms) (m.level - 1) boxes w.store.trail (omega arith)
    ∙ dropped-none ms (m.level - 1) before w.store.trail.1 (omega arith) in
    let back : back_to c (levels r) ≡ Some (dropped (m.level - 1) (levels r)) =
    w.back c w.form w.is_false ∙ back_to-decision m ms c boxes from w.is_false not_before
    ∙ ap (λ (s : Stack). Some s) (sym below) in
    record {
      walks = w.walks
          ∙ rw (not_before, from)
          (ap (λ (ss : List (ℕ × ℕ)). Some (record { steps = ss; clause = c })) (append-nil steps));
      form = w.form;
      within = w.within;
      closes = (λ z. absurd (omega arith), λ e. absurd (some_literal before c not_before e));
      drops = λ z. dropped_by c (levels r) m.level z back;
    }

-- the end of the trail
pub walking_last : (r : Conflict) (boxes : Boxes) (c : Literals) (steps : List (ℕ × ℕ)) →
    Walking r boxes [] c steps → HasEnded r c steps 0
walking_last r boxes c steps w =
    let within : IsWithinDomains boxes c =
    subst (λ (d : Boxes). IsWithinDomains d c) (sym w.domains_are) w.within in
    record {
      walks = w.walks
          ∙ ap (λ (ss : List (ℕ × ℕ)). Some (record { steps = ss; clause = c })) (append-nil steps);
      form = w.form;
      within = w.within;
      closes = (
        λ z. empty_from_false boxes c w.form (valid_boxes boxes w.store.sets) within
            w.is_false,
        λ e. refl,
      );
      drops = λ z. absurd (omega arith);
    }
