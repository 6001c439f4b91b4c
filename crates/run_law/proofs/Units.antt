-- What a unit clause says in boxes, and when a clause that is false behind a decision is unit
-- before it.
use Rattle.std.proofs.Common.{◌≡◌, ◌≢◌, ℕ, zero, suc, ◌<◌, true, false, not, ◌&&◌, cond, [], ◌∷◌, length, refl, sym, ap, ◌∙◌, arith, inl, inr, subst, slice_set, Some, None}
use Rattle.std.proofs.lemmas.Int.{ints}
use Rattle.std.proofs.lemmas.List.{get_or-set_same, get_or-set_other}
use Rattle.std.proofs.lemmas.Bool.{and_parts, cases_eq, false_from_ne_true}
use Rattle.signed_clause.specs.Ranges.{Ranges, has, IsValid, is_nil}
use Rattle.signed_clause.specs.SetAlgebra.{is_disjoint, is_within, meet}
use Rattle.signed_clause.specs.Clauses.{Boxes, Literals, box_of, false_in, unit_of, alone_of, IsClauseFrom, AreValid}
use Rattle.signed_clause.proofs.RangeSteps.{meet-none}
use Rattle.signed_clause.proofs.ClauseLaws.{has_from_disjoint, has_from_within}

pub some_same : {X : Type 0} (x y : X) → Some x ≡ Some y → x ≡ y
some_same x y e = cc

pub none_some : {X : Type 0} (x : X) → None ≡ Some x → ⊥
none_some x e = cc

-- a box that a set meets exists
pub exists_from_meets : (boxes : Boxes) (x : ℕ) (s : Ranges) →
    is_disjoint s (box_of boxes x) ≡ false →
    x < length boxes
exists_from_meets [] x s h = let none : is_nil (meet s []) ≡ true = ap is_nil (meet-none s) in
    absurd (grind arith)
exists_from_meets (b ∷ bs) zero s h = omega arith
exists_from_meets (b ∷ bs) (suc x) s h = let more = exists_from_meets bs x s h in omega arith

-- the pair's box becomes what it has in common with the set, and that is something
pub record IsUnitBy (boxes : Boxes) (u : ℕ × Ranges) (s : Ranges) : Type 0 where
  pub exists : u.0 < length boxes
  pub is : u.1 ≡ meet s (box_of boxes u.0)
  pub valid : IsValid s
  pub meets : is_disjoint s (box_of boxes u.0) ≡ false

unit_here : (boxes : Boxes) (l : ℕ × Ranges) (c : Literals) (u : ℕ × Ranges) → IsValid l.1 →
    is_disjoint l.1 (box_of boxes l.0) ≡ false → alone_of boxes l c ≡ Some u → IsUnitBy boxes u l.1
unit_here boxes l c u v m h =
    (elim (false_in boxes c && not (is_within (box_of boxes l.0) l.1)) as (λ b.
    cond b (Some (l.0, meet l.1 (box_of boxes l.0))) None ≡ Some u → IsUnitBy boxes u l.1) [
      | true ↦ λ e.
          let here : IsUnitBy boxes (l.0, meet l.1 (box_of boxes l.0)) l.1 = record {
            exists = exists_from_meets boxes l.0 l.1 m;
            is = refl;
            valid = v;
            meets = m;
          } in
          subst (λ (u : ℕ × Ranges). IsUnitBy boxes u l.1) (some_same _ u e) here
      | false ↦ λ e. absurd (none_some u e)
    ]) h

-- what a unit clause says
pub unit_is : (c : Literals) (n : ℕ) (boxes : Boxes) (u : ℕ × Ranges) → IsClauseFrom n c →
    unit_of boxes c ≡ Some u → (s : Ranges) × IsUnitBy boxes u s
unit_is [] n boxes u f h = absurd (none_some u h)
unit_is (l ∷ c) n boxes u f h =
    (elim (is_disjoint l.1 (box_of boxes l.0)) as (λ b. is_disjoint l.1 (box_of boxes l.0) ≡ b →
    cond b (unit_of boxes c) (alone_of boxes l c) ≡ Some u → (s : Ranges) × IsUnitBy boxes u s) [
      | true ↦ λ m e. unit_is c (suc l.0) boxes u f.3 e
      | false ↦ λ m e. (l.1, unit_here boxes l c u f.2 m e)
    ]) refl h

-- ---- behind a decision and before it

pub box-set_same : (boxes : Boxes) (x : ℕ) (s : Ranges) → x < length boxes →
    box_of (slice_set boxes x s) x ≡ s
box-set_same boxes x s h = get_or-set_same boxes x s [] h

pub box-set_other : (boxes : Boxes) (x y : ℕ) (s : Ranges) → y ≢ x →
    box_of (slice_set boxes x s) y ≡ box_of boxes y
box-set_other boxes x y s h = get_or-set_other boxes x y s [] h

-- boxes stay sets where one becomes a set
pub AreValid-set : (boxes : Boxes) (x : ℕ) (s : Ranges) → x < length boxes → AreValid boxes →
    IsValid s → AreValid (slice_set boxes x s)
AreValid-set boxes x s lt a v y =
    elim (cases_eq y x) [
      | inl e ↦
          let at : box_of (slice_set boxes x s) y ≡ s =
          ap (λ (y : ℕ). box_of (slice_set boxes x s) y) e ∙ box-set_same boxes x s lt in
          subst IsValid (sym at) v
      | inr e ↦ subst IsValid (sym (box-set_other boxes x y s e)) (a y)
    ]

-- a clause whose variables come behind x doesn't see its box
false-set : (c : Literals) (n : ℕ) (boxes : Boxes) (x : ℕ) (s : Ranges) → IsClauseFrom n c → x < n →
    false_in (slice_set boxes x s) c ≡ false_in boxes c
false-set [] n boxes x s f h = refl
false-set (l ∷ c) n boxes x s f h =
    let ne : l.0 ≢ x = omega arith in
    let e = box-set_other boxes x l.0 s ne in
    let more = false-set c (suc l.0) boxes x s f.3 (omega arith) in
    rw (e, more) refl

-- a box with a half that the set lacks isn't within the set
not_within : (half box s : Ranges) → IsValid half → IsValid box → IsValid s →
    is_nil half ≡ false → is_within half box ≡ true → is_disjoint s half ≡ true →
    is_within box s ≡ false
not_within [] box s p q r h k m = absurd (cc)
not_within (y ∷ half) box s p q r h k m = false_from_ne_true (is_within box s) (λ e.
    let in_half : has (y ∷ half) y.0 ≡ true = grind (arith, ints) in
    let in_box = has_from_within (y ∷ half) box y.0 p q k in_half in
    let in_s = has_from_within box s y.0 q r e in_box in
    let out = has_from_disjoint s (y ∷ half) y.0 r p m in_half in
    grind arith)

-- the half of a decision
pub record IsHalf (boxes : Boxes) (x : ℕ) (half : Ranges) : Type 0 where
  pub exists : x < length boxes
  pub valid : IsValid half
  pub some : is_nil half ≡ false
  pub part : is_within half (box_of boxes x) ≡ true

-- the clause is unit before a decision, on its variable, by a set that lacks the half
pub record IsUnitAt (boxes : Boxes) (x : ℕ) (half : Ranges) (c : Literals) (s : Ranges) : Type 0
  where
    pub unit : unit_of boxes c ≡ Some (x, meet s (box_of boxes x))
    pub by : IsUnitBy boxes (x, meet s (box_of boxes x)) s
    pub lacks : is_disjoint s half ≡ true

unit_first : (l : ℕ × Ranges) (c : Literals) (boxes : Boxes) (half : Ranges) →
    IsValid l.1 → AreValid boxes → IsHalf boxes l.0 half →
    is_disjoint l.1 half ≡ true → false_in boxes c ≡ true → false_in boxes (l ∷ c) ≡ false →
    IsUnitAt boxes l.0 half (l ∷ c) l.1
unit_first l c boxes half v a w disjoint later q =
    let here : is_disjoint l.1 (box_of boxes l.0) ≡ false = grind arith in
    let out : is_within (box_of boxes l.0) l.1 ≡ false =
    not_within half (box_of boxes l.0) l.1 w.valid (a l.0) v w.some w.part disjoint in
    record {
      unit = rw (here, later, out) refl;
      by = record { exists = w.exists; is = refl; valid = v; meets = here };
      lacks = disjoint;
    }

unit_later : (l : ℕ × Ranges) (c : Literals) (boxes : Boxes) (x : ℕ) (half s : Ranges) →
    is_disjoint l.1 (box_of boxes l.0) ≡ true → IsUnitAt boxes x half c s →
    IsUnitAt boxes x half (l ∷ c) s
unit_later l c boxes x half s m u =
    let unit : unit_of boxes (l ∷ c) ≡ unit_of boxes c = rw m refl in
    record { unit = unit ∙ u.unit; by = u.by; lacks = u.lacks }

unit_same : (l : ℕ × Ranges) (c : Literals) (n : ℕ) (boxes : Boxes) (half : Ranges) →
    IsClauseFrom n (l ∷ c) → AreValid boxes → IsHalf boxes l.0 half →
    false_in (slice_set boxes l.0 half) (l ∷ c) ≡ true → false_in boxes (l ∷ c) ≡ false →
    IsUnitAt boxes l.0 half (l ∷ c) l.1
unit_same l c n boxes half f a w p q =
    let behind = slice_set boxes l.0 half in
    let parts = and_parts (is_disjoint l.1 (box_of behind l.0)) (false_in behind c) p in
    let later : false_in boxes c ≡ true =
    sym (false-set c (suc l.0) boxes l.0 half f.3 (omega arith)) ∙ parts.1 in
    let disjoint : is_disjoint l.1 half ≡ true = subst (λ (z : Ranges). is_disjoint l.1 z ≡ true)
    (box-set_same boxes l.0 half w.exists) parts.0 in
    unit_first l c boxes half f.2 a w disjoint later q

-- a clause that is false behind a decision and not before it is unit before it
pub unit_before : (c : Literals) (n : ℕ) (boxes : Boxes) (x : ℕ) (half : Ranges) →
    IsClauseFrom n c → AreValid boxes → IsHalf boxes x half →
    false_in (slice_set boxes x half) c ≡ true → false_in boxes c ≡ false →
    (s : Ranges) × IsUnitAt boxes x half c s
unit_before [] n boxes x half f a w p q = absurd (cc)
unit_before (l ∷ c) n boxes x half f a w p q =
    let behind = slice_set boxes x half in
    let parts = and_parts (is_disjoint l.1 (box_of behind l.0)) (false_in behind c) p in
    elim (cases_eq x l.0) [
      | inl e ↦
          let P : ℕ → Type 0 = λ x. IsHalf boxes x half →
          false_in (slice_set boxes x half) (l ∷ c) ≡ true →
          (s : Ranges) × IsUnitAt boxes x half (l ∷ c) s in
          let at : P l.0 = λ w p. (l.1, unit_same l c n boxes half f a w p q) in
          subst P (sym e) at w p
      | inr ne ↦
          let other = box-set_other boxes x l.0 half (λ e. ne (sym e)) in
          let disjoint : is_disjoint l.1 (box_of boxes l.0) ≡ true =
          subst (λ (z : Ranges). is_disjoint l.1 z ≡ true) other parts.0 in
          let rest : false_in boxes c ≡ false = grind arith in
          let more = unit_before c (suc l.0) boxes x half f.3 a w parts.1 rest in
          (more.0, unit_later l c boxes x half more.0 disjoint more.1)
    ]
