-- One entry of the trail: what is false behind it and before it.
use Rattle.std.proofs.Common.{◌≡◌, ◌≢◌, ℕ, suc, ◌<◌, Bool, true, false, not, ◌&&◌, ◌||◌, cond, List, [], ◌∷◌, length, refl, sym, ap, ◌∙◌, arith, inl, inr, subst, slice_set, ◌==◌, Some, None}
use Rattle.std.proofs.lemmas.List.{get_or-set_same, get_or-set_other}
use Rattle.std.proofs.lemmas.Bool.{and_parts, cases_eq, eq-eqb}
use Rattle.signed_clause.specs.Ranges.{Ranges, has, IsValid, IsSubset, HaveNoCommonValue}
use Rattle.signed_clause.specs.SetAlgebra.{is_disjoint, is_within, meet}
use Rattle.signed_clause.specs.Clauses.{Boxes, Literals, box_of, set_of, has_var, false_in, unit_of, alone_of, resolvent, IsClauseFrom, IsClause, AreValid}
use Rattle.signed_clause.proofs.SetFacts.{within_law}
use Rattle.signed_clause.proofs.RangeSteps.{has-meet_valid, has-join_valid}
use Rattle.signed_clause.proofs.ClauseLaws.{IsClauseFrom-resolvent}
use Rattle.signed_clause.proofs.ResolventLaws.{set_here, set_later, var_below, set_valid, other_is, pivot_is}
use Rattle.fd_store.specs.declared.trail.Moved.{Moved}
use Rattle.fd_store.specs.Trails.{IsEntry}
use Rattle.learn_clauses.proofs.FalseLaws.{false_from_sets, sets_from_false}

-- the boxes before an entry are sets where those behind it are
pub valid_before : (boxes : Boxes) (x : ℕ) (b : Ranges) → x < length boxes → AreValid boxes →
    IsValid b → AreValid (slice_set boxes x b)
valid_before boxes x b lt a v y =
    elim (cases_eq y x) [
      | inl e ↦
          let at : box_of (slice_set boxes x b) y ≡ b =
          ap (λ (y : ℕ). box_of (slice_set boxes x b) y) e ∙ get_or-set_same boxes x b [] lt in
          subst IsValid (sym at) v
      | inr e ↦ subst IsValid (sym (get_or-set_other boxes x y b [] e)) (a y)
    ]

-- the boxes behind an entry lie within those before it
pub narrower_behind : (boxes : Boxes) (m : Moved) (ms : List Moved) → IsEntry boxes m ms →
    AreValid boxes →
    (y : ℕ) → IsSubset (box_of boxes y) (box_of (slice_set boxes m.var m.before) y)
narrower_behind boxes m ms e a y v h =
    elim (cases_eq y m.var) [
      | inl i ↦
          let here : has (box_of boxes m.var) v ≡ true =
          subst (λ (y : ℕ). has (box_of boxes y) v ≡ true) i h in
          let old : has m.before v ≡ true =
          (within_law (box_of boxes m.var) m.before (a m.var) e.valid).0 e.narrows v here in
          let at : box_of (slice_set boxes m.var m.before) y ≡ m.before =
          ap (λ (y : ℕ). box_of (slice_set boxes m.var m.before) y) i
          ∙ get_or-set_same boxes m.var m.before [] e.exists in
          ap (λ z. has z v) at ∙ old
      | inr i ↦ ap (λ z. has z v) (get_or-set_other boxes m.var y m.before [] i) ∙ h
    ]

-- ---- unit clauses

some_same : {X : Type 0} (x y : X) → Some x ≡ Some y → x ≡ y
some_same x y h = cc

some_none : {X : Type 0} (x : X) → None ≡ Some x → ⊥
some_none x h = cc

alone_is : (boxes : Boxes) (l : ℕ × Ranges) (c : Literals) (u : ℕ × Ranges) →
    alone_of boxes l c ≡ Some u →
    (false_in boxes c ≡ true) × (l.0 ≡ u.0) × (meet l.1 (box_of boxes l.0) ≡ u.1)
alone_is boxes l c u h =
    (elim (false_in boxes c && not (is_within (box_of boxes l.0) l.1)) as (λ b.
    (false_in boxes c && not (is_within (box_of boxes l.0) l.1)) ≡ b →
    cond b (Some (l.0, meet l.1 (box_of boxes l.0))) None ≡ Some u →
    (false_in boxes c ≡ true) × (l.0 ≡ u.0) × (meet l.1 (box_of boxes l.0) ≡ u.1)) [
      | true ↦ λ t h.
          let pair : (l.0, meet l.1 (box_of boxes l.0)) ≡ u = some_same _ u h in (
            (and_parts (false_in boxes c) (not (is_within (box_of boxes l.0) l.1)) t).0,
            ap
                (λ (p : ℕ × Ranges). p.0) pair,
            ap (λ (p : ℕ × Ranges). p.1) pair,
          )
      | false ↦ λ t h. absurd (some_none u h)
    ]) refl h

-- a unit clause has its variable
pub unit_has : (d : Literals) (boxes : Boxes) (u : ℕ × Ranges) → unit_of boxes d ≡ Some u →
    has_var d u.0 ≡ true
unit_has [] boxes u h = absurd (some_none u h)
unit_has (l ∷ d) boxes u h =
    (elim (is_disjoint l.1 (box_of boxes l.0)) as (λ b.
    cond b (unit_of boxes d) (alone_of boxes l d) ≡ Some u → (l.0 == u.0 || has_var d u.0) ≡ true) [
      | true ↦ λ h.
          let more = unit_has d boxes u h in
          elim (l.0 == u.0) as (λ t. (t || has_var d u.0) ≡ true) [ true ↦ refl | false ↦ more ]
      | false ↦ λ h. let is = alone_is boxes l d u h in rw (eq-eqb l.0 u.0 is.1) refl
    ]) h

-- what it says: of its variable what is left, and of another nothing that its box has
pub record IsUnit (boxes : Boxes) (d : Literals) (x : ℕ) (now : Ranges) : Type 0 where
  pub others : (y : ℕ) → y ≢ x → HaveNoCommonValue (set_of d y) (box_of boxes y)
  pub is : now ≡ meet (set_of d x) (box_of boxes x)

pub unit_is : (d : Literals) (n : ℕ) (boxes : Boxes) (u : ℕ × Ranges) → IsClauseFrom n d →
    AreValid boxes → unit_of boxes d ≡ Some u → IsUnit boxes d u.0 u.1
unit_is [] n boxes u f a h = absurd (some_none u h)
unit_is (l ∷ d) n boxes u f a h =
    (elim (is_disjoint l.1 (box_of boxes l.0)) as (λ b. is_disjoint l.1 (box_of boxes l.0) ≡ b →
    cond b (unit_of boxes d) (alone_of boxes l d) ≡ Some u → IsUnit boxes (l ∷ d) u.0 u.1) [
      | true ↦ λ m h.
          let more = unit_is d (suc l.0) boxes u f.3 a h in
          let var = unit_has d boxes u h in
          let differ : l.0 ≢ u.0 = λ e. let none =
          var_below (suc l.0) d u.0 f.3 (omega arith) in absurd (cc) in
          let alone : false_in boxes (l ∷ []) ≡ true = rw m refl in
          record {
            others = λ y ne v e. elim (cases_eq l.0 y) [
              | inl i ↦
                  sets_from_false (l ∷ []) n boxes (f.0, f.1, f.2, tt) a alone y v
                  (ap (λ z. has z v) (set_here l [] y i)
                  ∙ sym (ap (λ z. has z v) (set_here l d y i)) ∙ e)
              | inr i ↦ more.others y ne v (sym (ap (λ z. has z v) (set_later l d y i)) ∙ e)
            ];
            is = more.is ∙ ap (λ z. meet z (box_of boxes u.0)) (sym (set_later l d u.0 differ));
          }
      | false ↦ λ m h.
          let is = alone_is boxes l d u h in
          record {
            others = λ y ne v e.
                sets_from_false d (suc l.0) boxes f.3 a is.0 y v
                (sym (ap (λ z. has z v) (set_later l d y (λ i. ne (sym i ∙ is.1)))) ∙ e);
            is =
                sym is.2
                ∙ ap (λ z. meet l.1 (box_of boxes z)) is.1
                ∙ ap (λ z. meet z (box_of boxes u.0)) (sym (set_here l d u.0 is.1));
          }
    ]) refl h

-- ---- one step of resolution

second_false : (a b : Bool) → a ≡ true → (a && b) ≡ false → b ≡ false
second_false true b h k = k
second_false false b h k = absurd (cc)

false_either : (a b z : Bool) → (a || b) ≡ true → (a ≡ true → z ≡ false) → (b ≡ true → z ≡ false) →
    z ≡ false
false_either true b z h p q = p refl
false_either false b z h p q = q h

-- c is false behind an entry of x, and d was unit before it, with the new box: the resolvent is
-- false before it
pub false_in-resolvent : (boxes : Boxes) (x : ℕ) (b : Ranges) (c d : Literals) → IsClause c →
    IsClause d →
    AreValid boxes → AreValid (slice_set boxes x b) → has_var c x ≡ true →
    unit_of (slice_set boxes x b) d ≡ Some (x, box_of boxes x) → false_in boxes c ≡ true →
    false_in (slice_set boxes x b) (resolvent x c d) ≡ true
false_in-resolvent boxes x b c d f g a a' var unit h =
    let before = slice_set boxes x b in
    let u : IsUnit before d x (box_of boxes x) = unit_is d 0 before (x, box_of boxes x) g a' unit in
    let had : has_var d x ≡ true = unit_has d before (x, box_of boxes x) unit in
    false_from_sets (resolvent x c d) 0 before (IsClauseFrom-resolvent x c d 0 f g) a' (λ y v i.
    elim (cases_eq y x) [
      | inl q ↦
          let law : has (set_of (resolvent x c d) x) v
          ≡ (has (set_of c x) v && has (set_of d x) v) =
          ap (λ z. has z v) (pivot_is x c d 0 0 f g var had)
          ∙ has-meet_valid (set_of c x) (set_of d x) (set_valid 0 c x f) (set_valid 0 d x g) v in
          let i' : has (set_of (resolvent x c d) x) v ≡ true =
          subst (λ (y : ℕ). has (set_of (resolvent x c d) y) v ≡ true) q i in
          let both = and_parts (has (set_of c x) v) (has (set_of d x) v) (sym law ∙ i') in
          let gone : has (box_of boxes x) v ≡ false = sets_from_false c 0 boxes f a h x v both.0 in
          let now : has (box_of boxes x) v ≡ (has (set_of d x) v && has (box_of before x) v) =
          ap (λ z. has z v) u.is
          ∙ has-meet_valid (set_of d x) (box_of before x) (set_valid 0 d x g) (a' x) v in
          let out : has (box_of before x) v ≡ false =
          second_false (has (set_of d x) v) (has (box_of before x) v) both.1 (sym now ∙ gone) in
          subst (λ (y : ℕ). has (box_of before y) v ≡ false) (sym q) out
      | inr q ↦
          let law : has (set_of (resolvent x c d) y) v
          ≡ (has (set_of c y) v || has (set_of d y) v) =
          ap (λ z. has z v) (other_is x y c d 0 0 q f g)
          ∙ has-join_valid (set_of c y) (set_of d y) (set_valid 0 c y f) (set_valid 0 d y g) v in
          let same : has (box_of before y) v ≡ has (box_of boxes y) v =
          ap (λ z. has z v) (get_or-set_other boxes x y b [] q) in
          let of_c = sets_from_false c 0 boxes f a h y v in
          false_either (has (set_of c y) v) (has (set_of d y) v) (has (box_of before y) v)
          (sym law ∙ i) (λ z. same ∙ of_c z) (λ z. u.others y q v z)
    ])
