-- A solution that the present boxes are is a line that may follow.
use Rattle.std.proofs.Common.{◌≡◌, ℕ, zero, suc, ◌≤◌, true, false, not, ◌&&◌, ◌||◌, List, [], ◌∷◌, ◌++◌, ℤ, Bool, length, refl, sym, ap, ◌∙◌, arith, subst, slice_get, slice_index_or, All, Some, is_some}
use Rattle.std.specs.List.{AllByRecursion}
use Rattle.std.proofs.lemmas.Int.{ints}
use Rattle.std.proofs.lemmas.List.{get_or_default}
use Rattle.std.proofs.lemmas.Bool.{and_parts, and_from, false_from_ne_true}
use Rattle.std.proofs.lemmas.Bool.Decides.{Decides-int_eq}
use Rattle.signed_clause.specs.Ranges.{Ranges, has, IsValid}
use Rattle.signed_clause.specs.SetAlgebra.{is_disjoint}
use Rattle.signed_clause.specs.Clauses.{Boxes, Literals, box_of, false_in, unit_of, clause_true, IsClauseFrom, IsClause, AreValid}
use Rattle.signed_clause.proofs.SetFacts.{disjoint_law}
use Rattle.ground_form.specs.declared.con.Con.{Con}
use Rattle.ground_form.specs.declared.ground.Ground.{Ground}
use Rattle.ground_form.specs.Meaning.{value_of, con_true}
use Rattle.ground_form.specs.Bounds.{singles}
use Rattle.ground_form.specs.Solutions.{IsPoint, IsSolution}
use Rattle.ground_form.specs.WellMade.{IsWellMade}
use Rattle.ground_form.proofs.SingleValues.{box_single}
use Rattle.box_rules.specs.Quiet.{quiet}
use Rattle.log_form.specs.declared.line.Line.{Line}
use Rattle.log_form.specs.declared.line.Line.TheVariants.{Found}
use Rattle.log_form.specs.Acceptance.{Made, clause_at, has_empty, same_set, point_of, all_true, beats, may_come, made}
use Rattle.log_form.specs.Acceptance as acceptance
use Rattle.run_law.specs.Replay.{State, Mode, Going, top_boxes, is_going, acts, none_acts, is_settled, are_quiet, are_fixed, may_stand, is_run, state_of}
use Rattle.run_law.specs.Replay as replay
use Rattle.run_law.proofs.Units.{exists_from_meets}
use Rattle.run_law.proofs.LevelFacts.{stack_boxes}
use Rattle.run_law.proofs.StateSteps.{AreMade, HoldsIn}
use Rattle.run_law.proofs.RunLaws.{IsRunOf, state_is}
use Rattle.run_law.proofs.Fronts.{run_more}
use Rattle.run_law.proofs.BoundTruths.{bound_beats}
use Rattle.run_law.proofs.Waiting.{in_going, run_waits, run_sound}

-- ---- clauses in boxes of single values

length_singles : (a : List ℤ) → length (singles a) ≡ length a
length_singles [] = refl
length_singles (v ∷ a) = ap suc (length_singles a)

or_true : (b : Bool) → (b || true) ≡ true
or_true true = refl
or_true false = refl

-- the one value of a single set
pub alone : (v w : ℤ) → has ((v, v) ∷ []) w ≡ true → w ≡ v
alone v w h = grind (arith, ints)

met_alone : (s : Ranges) (v : ℤ) → IsValid s → IsValid ((v, v) ∷ []) →
    is_disjoint s ((v, v) ∷ []) ≡ false → has s v ≡ true
met_alone s v f g h =
    (elim (has s v) as (λ b. has s v ≡ b → b ≡ true) [
      | true ↦ λ e. refl
      | false ↦ λ e.
          let none : (w : ℤ) → has s w ≡ true → has ((v, v) ∷ []) w ≡ false = λ w k.
          false_from_ne_true (has ((v, v) ∷ []) w) (λ here.
          let same = alone v w here in
          let there : has s v ≡ true = subst (λ (z : ℤ). has s z ≡ true) same k in
          grind arith) in
          let apart = (disjoint_law s ((v, v) ∷ []) f g).1 none in
          absurd (grind arith)
    ]) refl

true_single : (boxes : Boxes) (a : List ℤ) (l : ℕ × Ranges) → AreValid boxes → IsValid l.1 →
    boxes ≡ singles a → is_disjoint l.1 (box_of boxes l.0) ≡ false →
    has l.1 (value_of a l.0) ≡ true
true_single boxes a l valid f e h =
    let lt = exists_from_meets boxes l.0 l.1 h in
    let long : length boxes ≡ length a = ap (λ (b : Boxes). length b) e ∙ length_singles a in
    let at : box_of boxes l.0 ≡ (value_of a l.0, value_of a l.0) ∷ [] =
    ap (λ (b : Boxes). box_of b l.0) e ∙ box_single a l.0 (omega (arith, lt, long)) in
    met_alone l.1 (value_of a l.0) f (subst IsValid at (valid l.0))
    (subst (λ (b : Ranges). is_disjoint l.1 b ≡ false) at h)

-- what isn't false there is true
pub single_true : (c : Literals) (n : ℕ) (boxes : Boxes) (a : List ℤ) → AreValid boxes →
    IsClauseFrom n c → boxes ≡ singles a → false_in boxes c ≡ false → clause_true c a ≡ true
single_true [] n boxes a v f e h = absurd cc
single_true (l ∷ c) n boxes a v f e h =
    let more = single_true c (suc l.0) boxes a v f.3 e in
    (elim (is_disjoint l.1 (box_of boxes l.0)) as (λ b. is_disjoint l.1 (box_of boxes l.0) ≡ b →
    (b && false_in boxes c) ≡ false → (has l.1 (value_of a l.0) || clause_true c a) ≡ true) [
      | true ↦ λ k h. let rest = more h in rw rest (or_true (has l.1 (value_of a l.0)))
      | false ↦ λ k h. let here = true_single boxes a l v f.2 e k in rw here refl
    ]) refl h

-- ---- what the line has to meet

fixed_single : (n : ℕ) (a : List ℤ) → n ≤ length a → are_fixed n (singles a) a ≡ true
fixed_single zero a h = refl
fixed_single (suc n) [] h = absurd (omega arith)
fixed_single (suc n) (v ∷ a) h =
    let more = fixed_single n a (omega arith) in
    let same = (Decides-int_eq v v).1 refl in
    rw (same, more) refl

pub quiet_all : (cons : List Con) (boxes : Boxes) →
    ((k : ℕ) (con : Con) → slice_get cons k ≡ Some con → quiet con boxes ≡ true) →
    are_quiet cons boxes ≡ true
quiet_all [] boxes h = refl
quiet_all (con ∷ cons) boxes h =
    let more = quiet_all cons boxes (λ k d e. h (suc k) d e) in
    let here = h 0 con refl in
    rw (here, more) refl

point_is : (ds : Boxes) (a : List ℤ) → IsPoint ds a → point_of ds a ≡ true
point_is [] [] p = refl
point_is [] (v ∷ a) p = let size = p.size in absurd (omega (arith, size))
point_is (d ∷ ds) [] p = let size = p.size in absurd (omega (arith, size))
point_is (d ∷ ds) (v ∷ a) p =
    let size = p.size in
    let rest : IsPoint ds a = record {
      size = omega (arith, size);
      within = λ x lt. p.within (suc x) (omega arith);
    } in
    let here = p.within 0 (omega arith) in
    let more = point_is ds a rest in
    rw (here, more) refl

true_all : (cons : List Con) (a : List ℤ) → All (λ con. con_true con a ≡ true) cons →
    all_true cons a ≡ true
true_all [] a h = refl
true_all (con ∷ cons) a h =
    let here : con_true con a ≡ true = h 0 con (omega arith) in
    let more = true_all cons a (λ k d lt. h (suc k) d (omega arith)) in
    rw (here, more) refl

-- ---- the bounds

false_first : (a b : Bool) → not (a || b) ≡ true → a ≡ false
false_first true b h = absurd cc
false_first false b h = refl

no_conflict : (boxes : Boxes) (c : Literals) → not (acts boxes c) ≡ true → false_in boxes c ≡ false
no_conflict boxes c h = false_first (false_in boxes c) (is_some (unit_of boxes c)) h

clauses_true : (cs : List Literals) (boxes : Boxes) (a : List ℤ) → AreValid boxes →
    boxes ≡ singles a → All (λ c. IsClause c) cs → none_acts boxes cs ≡ true →
    AllByRecursion (λ c. clause_true c a ≡ true) cs
clauses_true [] boxes a v e f h = tt
clauses_true (c ∷ cs) boxes a v e f h =
    let p = and_parts (not (acts boxes c)) (none_acts boxes cs) h in
    let form : IsClause c = f 0 c (omega arith) in (
      single_true c 0 boxes a v form e (no_conflict boxes c p.0),
      clauses_true cs boxes a v e (λ k d lt. f (suc k) d (omega arith)) p.1,
    )

-- clauses that were made are clauses
pub made_forms : (clauses cs : List Literals) → ((j : ℕ) → IsClause (clause_at clauses j)) →
    AreMade clauses cs → All (λ c. IsClause c) cs
made_forms clauses cs f h = λ k d lt.
    let at = h k d lt in
    let same : clause_at clauses at.0 ≡ slice_index_or cs k d =
    sym (get_or_default clauses at.0 _ [] at.1) ∙ at.2 in
    subst IsClause same (f at.0)

-- ---- the line

-- nothing is left to say, and the present boxes are the values alone, which are a solution
pub record IsFoundLine (g : Ground) (s : State) (a : List ℤ) : Type 0 where
  pub going : s.mode ≡ Going
  pub settled : is_settled s ≡ true
  pub is_quiet : (k : ℕ) (con : Con) → slice_get g.cons k ≡ Some con →
      quiet con (top_boxes s) ≡ true
  pub single : top_boxes s ≡ singles a
  pub solution : IsSolution g a

pub found_beats : (g : Ground) (ls : List Line) (a : List ℤ) → IsRunOf g ls →
    IsFoundLine g (state_of g ls) a → beats g.goals (made g ls).found a ≡ true
found_beats g ls a r w =
    let m = made g ls in
    let s = state_of g ls in
    let state = state_is g ls r in
    let sound = run_sound g ls r.well_made r.sets r.run in
    let boxes = stack_boxes m.clauses g.domains s.levels state.stack in
    let going : is_going s.mode ≡ true = ap is_going w.going in
    let waits = in_going g m.found s.mode s.bounds going (run_waits g ls r.run) in
    let quiet_bounds = (and_parts (none_acts (top_boxes s) s.learnt)
    (none_acts (top_boxes s) s.bounds) w.settled).1 in
    let truths = clauses_true s.bounds (top_boxes s) a boxes.sets w.single
    (made_forms m.clauses s.bounds sound.forms state.bounds_made) quiet_bounds in
    bound_beats g m.found a r.well_made sound.solved
    (subst (λ (cs : List Literals). AllByRecursion (λ c. clause_true c a ≡ true) cs) waits truths)

found_stands : (g : Ground) (m : Made) (s : State) (a : List ℤ) → IsWellMade g →
    IsFoundLine g s a → may_stand g m s (Found a) ≡ true
unfolding replay.may_stand
found_stands g m s a well w =
    let top = top_boxes s in
    let size = w.solution.point.size in
    let few = well.search in
    let fixed : are_fixed g.search top a ≡ true =
    ap (λ (b : Boxes). are_fixed g.search b a) w.single
    ∙ fixed_single g.search a (omega (arith, size, few)) in
    let going : is_going s.mode ≡ true = ap is_going w.going in
    and_from (is_going s.mode) (are_quiet g.cons top && (is_settled s && are_fixed g.search top a))
    going (and_from (are_quiet g.cons top) (is_settled s && are_fixed g.search top a)
    (quiet_all g.cons top w.is_quiet) (and_from (is_settled s) (are_fixed g.search top a) w.settled
    fixed))

found_comes : (g : Ground) (m : Made) (a : List ℤ) → has_empty m.clauses ≡ false →
    IsSolution g a → beats g.goals m.found a ≡ true → may_come g m (Found a) ≡ true
unfolding acceptance.accepts
found_comes g m a open_so_far sol better =
    let point = point_is g.domains a sol.point in
    let truths = true_all g.cons a sol.truths in
    rw (open_so_far, point, truths, better) refl

pub going_open : (m : Made) (boxes : Boxes) (mode : Mode) → mode ≡ Going → HoldsIn m boxes mode →
    has_empty m.clauses ≡ false
going_open m boxes mode e h =
    let here : HoldsIn m boxes Going = subst (HoldsIn m boxes) e h in here

-- such a line may follow, and it is better than what was found last
pub found_follows : (g : Ground) (ls : List Line) (a : List ℤ) → IsRunOf g ls →
    IsFoundLine g (state_of g ls) a → is_run g (ls ++ Found a ∷ []) ≡ true
found_follows g ls a r w =
    let m = made g ls in
    let s = state_of g ls in
    let open_so_far = going_open m (top_boxes s) s.mode w.going (state_is g ls r).mode_holds in
    let comes = found_comes g m a open_so_far w.solution (found_beats g ls a r w) in
    run_more g ls (Found a)
    ∙ and_from (is_run g ls) (may_come g m (Found a) && may_stand g m s (Found a)) r.run
    (and_from (may_come g m (Found a)) (may_stand g m s (Found a)) comes
    (found_stands g m s a r.well_made w))
