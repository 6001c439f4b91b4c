-- What every run leaves, in the words of the laws.
use Rattle.std.proofs.Common.{◌≡◌, ◌↔◌, ℕ, zero, suc, ◌-◌, ◌<◌, Bool, true, false, not, ◌||◌, Option, Some, None, is_some, List, [], ◌∷◌, length, refl, sym, ap, ◌∙◌, arith, subst, All, slice_index_or}
use Rattle.std.specs.List.{Contains}
use Rattle.std.proofs.lemmas.Bool.{and_parts, and_from, not-true}
use Rattle.std.proofs.lemmas.List.{get_or_default}
use Rattle.signed_clause.specs.Ranges.{is_nil, IsValid}
use Rattle.signed_clause.specs.Clauses.{Boxes, Literals, box_of, unit_of, IsClause, AreValid}
use Rattle.signed_clause.proofs.SetFacts.{within_law}
use Rattle.ground_form.specs.declared.ground.Ground.{Ground}
use Rattle.ground_form.specs.WellMade.{IsWellMade}
use Rattle.rule_law.specs.Answers.{AreBoxesWithin}
use Rattle.log_form.specs.declared.line.Line.{Line}
use Rattle.log_form.specs.Acceptance.{Made, clause_at, has_empty, made}
use Rattle.learn_clauses.specs.Walk.{back_to}
use Rattle.learn_clauses.specs.Learnt.{domains_of, CameFrom, IsWithinDomains}
use Rattle.learn_clauses.proofs.WithinLaws.{valid_boxes}
use Rattle.run_law.specs.Replay.{Mode, Going, Conflict, AtFound, Closed, top_boxes, acts, none_acts, is_settled, leads_back, is_run, state_of}
use Rattle.run_law.specs.Lines.{HasSets}
use Rattle.run_law.specs.Conflicts.{IsConflict, LeadsFrom}
use Rattle.run_law.proofs.Units.{none_some}
use Rattle.run_law.proofs.LevelBack.{back_from_level, level_of_back, level_unit}
use Rattle.fd_store.specs.Levels.{Stack}
use Rattle.fd_store.specs.Undo.{dropped}
use Rattle.run_law.proofs.LevelFacts.{AreBoxesIn, stack_came, stack_domains, stack_boxes}
use Rattle.run_law.proofs.StateSteps.{AreMade, HoldsIn}
use Rattle.run_law.proofs.ClauseStates.{IsState}
use Rattle.run_law.proofs.States.{run_state}
use Rattle.run_law.proofs.Depths.{run_depth}
use Rattle.run_law.proofs.Fronts.{run_fresh}

within_all : (domains : Boxes) (cs : List Literals) →
    ((j : ℕ) → IsWithinDomains domains (clause_at cs j)) →
    All (λ c. IsWithinDomains domains c) cs
within_all domains cs h = λ k d lt.
    subst (λ (c : Literals). IsWithinDomains domains c) (get_or_default cs k [] d lt) (h k)

boxes_within : (domains boxes : Boxes) → AreValid domains → All (λ s. is_nil s ≡ false) domains →
    AreBoxesIn domains boxes → AreBoxesWithin domains boxes
boxes_within domains boxes valid some a =
    let size = a.size in
    record {
      size = size;
      within = λ x lt.
          (within_law (box_of boxes x) (box_of domains x) (a.sets x) (valid x)).1 (a.within x);
      some = λ x lt. a.some x (some x [] (omega (arith, lt, size)));
      sets = λ k d lt. subst IsValid (get_or_default boxes k [] d lt) (a.sets k);
    }

conflict_same : (n k : ℕ) → Conflict n ≡ Conflict k → n ≡ k
conflict_same n k e = cc

conflict_holds : (m : Made) (boxes : Boxes) (mode : Mode) (n : ℕ) → mode ≡ Conflict n →
    HoldsIn m boxes mode → IsConflict m.clauses boxes n
conflict_holds m boxes Going n e h = absurd cc
conflict_holds m boxes (Conflict k) n e h =
    let same = conflict_same k n e in
    let here : IsConflict m.clauses boxes k = record { exists = h.1; is_false = h.2 } in
    subst (IsConflict m.clauses boxes) same here
conflict_holds m boxes AtFound n e h = absurd cc
conflict_holds m boxes Closed n e h = absurd cc

closed_holds : (m : Made) (boxes : Boxes) (mode : Mode) → HoldsIn m boxes mode →
    (mode ≡ Closed) ↔ (has_empty m.clauses ≡ true)
closed_holds m boxes Going h = (λ e. absurd cc, λ e. absurd cc)
closed_holds m boxes (Conflict k) h = let none = h.0 in (λ e. absurd cc, λ e. absurd cc)
closed_holds m boxes AtFound h = let none = h.0 in (λ e. absurd cc, λ e. absurd cc)
closed_holds m boxes Closed h = (λ e. h, λ e. refl)

-- what no clause of a list does, none of it does
none_by : (boxes : Boxes) (cs : List Literals) (c : Literals) (k : ℕ) →
    none_acts boxes cs ≡ true → k < length cs → slice_index_or cs k c ≡ c → acts boxes c ≡ false
none_by boxes [] c k h lt e = absurd (omega arith)
none_by boxes (d ∷ cs) c zero h lt e =
    let p = and_parts (not (acts boxes d)) (none_acts boxes cs) h in
    ap (acts boxes) (sym e) ∙ not-true (acts boxes d) p.0
none_by boxes (d ∷ cs) c (suc k) h lt e =
    let p = and_parts (not (acts boxes d)) (none_acts boxes cs) h in
    none_by boxes cs c k p.1 (omega arith) e

none_at : (boxes : Boxes) (cs : List Literals) (c : Literals) → none_acts boxes cs ≡ true →
    Contains cs c → acts boxes c ≡ false
none_at boxes cs c h w = none_by boxes cs c w.0 h w.1 w.2

pub none_of : (boxes : Boxes) (made cs : List Literals) → none_acts boxes made ≡ true →
    AreMade made cs → none_acts boxes cs ≡ true
none_of boxes made [] h k = refl
none_of boxes made (c ∷ cs) h k =
    let none = none_at boxes made c h (k 0 c (omega arith)) in
    let more = none_of boxes made cs h (λ j d lt. k (suc j) d (omega arith)) in
    rw none more

second_true : (a b : Bool) → a ≡ false → (a || b) ≡ true → b ≡ true
second_true true b e h = absurd cc
second_true false b e h = h

led : (nil : Bool) (o : Option Stack) (lower : Stack) → o ≡ Some lower → (nil || is_some o) ≡ true
led true o lower e = refl
led false None lower e = absurd (none_some lower e)
led false (Some s) lower e = refl

-- ---- laws

-- a run, and what its lines' types keep
pub record IsRunOf (g : Ground) (ls : List Line) : Type 0 where
  pub well_made : IsWellMade g
  pub sets : All (λ l. HasSets l) ls
  pub run : is_run g ls ≡ true

pub state_is : (g : Ground) (ls : List Line) → IsRunOf g ls → IsState g (made g ls) (state_of g ls)
state_is g ls r = run_state g ls r.well_made r.sets r.run

pub run_came : (g : Ground) (ls : List Line) → IsRunOf g ls →
    CameFrom (made g ls).clauses (state_of g ls).levels
run_came g ls r =
    stack_came (made g ls).clauses g.domains (state_of g ls).levels (state_is g ls r).stack

pub run_domains : (g : Ground) (ls : List Line) → IsRunOf g ls →
    domains_of (state_of g ls).levels ≡ g.domains
run_domains g ls r =
    stack_domains (made g ls).clauses g.domains (state_of g ls).levels (state_is g ls r).stack

pub run_within : (g : Ground) (ls : List Line) → IsRunOf g ls →
    All (λ c. IsWithinDomains g.domains c) (made g ls).clauses
run_within g ls r =
    within_all g.domains (made g ls).clauses (state_is g ls r).within

pub run_boxes : (g : Ground) (ls : List Line) → IsRunOf g ls →
    All (λ s. is_nil s ≡ false) g.domains → AreBoxesWithin g.domains (top_boxes (state_of g ls))
run_boxes g ls r some =
    let boxes = stack_boxes (made g ls).clauses g.domains (state_of g ls).levels
    (state_is g ls r).stack in
    boxes_within g.domains (top_boxes (state_of g ls)) (valid_boxes g.domains r.well_made.domains)
    some boxes

pub run_conflict : (g : Ground) (ls : List Line) (n : ℕ) → IsRunOf g ls →
    (state_of g ls).mode ≡ Conflict n →
    IsConflict (made g ls).clauses (top_boxes (state_of g ls)) n
run_conflict g ls n r e =
    conflict_holds (made g ls) (top_boxes (state_of g ls)) (state_of g ls).mode n e
    (state_is g ls r).mode_holds

pub run_closed : (g : Ground) (ls : List Line) → IsRunOf g ls →
    ((state_of g ls).mode ≡ Closed) ↔ (has_empty (made g ls).clauses ≡ true)
run_closed g ls r =
    closed_holds (made g ls) (top_boxes (state_of g ls)) (state_of g ls).mode
    (state_is g ls r).mode_holds

pub run_settled : (g : Ground) (ls : List Line) → IsRunOf g ls →
    none_acts (top_boxes (state_of g ls)) (made g ls).clauses ≡ true →
    is_settled (state_of g ls) ≡ true
run_settled g ls r h =
    let boxes = top_boxes (state_of g ls) in
    let state = state_is g ls r in
    let clauses = (made g ls).clauses in
    and_from (none_acts boxes (state_of g ls).learnt) (none_acts boxes (state_of g ls).bounds)
    (none_of boxes clauses (state_of g ls).learnt h state.learnt_made)
    (none_of boxes clauses (state_of g ls).bounds h state.bounds_made)

-- ---- the level that a clause leads back from

-- of a clause with literals: there is a level
pub run_leads : (g : Ground) (ls : List Line) (c : Literals) → IsRunOf g ls → IsClause c →
    is_nil c ≡ false →
    (leads_back (state_of g ls).levels c ≡ true) ↔ ((k : ℕ) × LeadsFrom c (state_of g ls).levels k)
run_leads g ls c r f some =
    let s = (state_of g ls).levels in (
      λ h. level_of_back s c (second_true (is_nil c) (is_some (back_to c s)) some h),
      λ w. led (is_nil c) (back_to c s) (dropped (w.0 - 1) s) (back_from_level
          (made g ls).clauses g.domains s c w.0 f (state_is g ls r).stack w.1),
    )

-- and it is the one that is led back from
pub run_level : (g : Ground) (ls : List Line) (c : Literals) (k : ℕ) → IsRunOf g ls → IsClause c →
    LeadsFrom c (state_of g ls).levels k →
    back_to c (state_of g ls).levels ≡ Some (dropped (k - 1) (state_of g ls).levels)
run_level g ls c k r f w =
    back_from_level (made g ls).clauses g.domains (state_of g ls).levels c k f
    (state_is g ls r).stack w

-- where it is unit in what is left
pub run_unit : (g : Ground) (ls : List Line) (c : Literals) (k : ℕ) → IsRunOf g ls → IsClause c →
    LeadsFrom c (state_of g ls).levels k →
    is_some (unit_of (dropped (k - 1) (state_of g ls).levels).top.now c) ≡ true
run_unit g ls c k r f w =
    level_unit (made g ls).clauses g.domains (state_of g ls).levels c k f
    (state_is g ls r).stack w

pub ruleset laws_of_levels = (run_came, run_domains, run_within, run_boxes)

pub ruleset laws_of_modes = (run_conflict, run_closed, run_settled, run_depth, run_fresh)
