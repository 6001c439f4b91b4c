-- What is found is what is broken first.
use Rattle.std.proofs.Common.{◌≡◌, ℕ, zero, suc, ◌+◌, ◌<◌, Bool, true, false, cond, List, [], ◌∷◌, ◌++◌, Option, None, Some, ℤ, refl, ap, sym, ◌∙◌, subst, map, drop, length, get_or, arith, length-append, eqb-true, eq-eqb}
use Rattle.std.specs.Prelude.{All, IfNone, IfSome, nat_eq, slice_get}
use Rattle.std.specs.List.{flat_map}
use Rattle.std.specs.Option.{option_map}
use Rattle.std.proofs.lemmas.List.Elements.{All-nil, All-cons, All-head, All-tail}
use Rattle.class_table.specs.declared.table.Resolved.{Resolved}
use Rattle.class_table.specs.declared.table.Resolved.TheVariants as shape
use Rattle.class_table.specs.Outline.{Outline}
use Rattle.conf_types.specs.Programs.{ResolvedConstraint}
use Rattle.object_alloc.specs.declared.object.Leaf.{Leaf}
use Rattle.object_alloc.specs.Cells.{leaf_cells}
use Rattle.object_alloc.specs.Walk.{walk, leaves_in}
use Rattle.conf_eval.specs.Breaking.{IsFirstNot, IsWrongSet, IsWrongConstraint, IsFirstBroken}
use Rattle.conf_eval.specs.declared.broken.BrokenAt.{BrokenAt}
use Rattle.conf_eval.specs.declared.broken.BrokenAt.TheVariants.{SetSize, Constraint}
use Rattle.conf_eval.specs.Finding.{first_failing, shape_is_full, is_full, wrong_set, holds_for, wrong_object, broken_by, wrong_constraint}
use Rattle.conf_eval.specs.Listing.{held}
use Rattle.conf_eval.specs.Meaning.{objects_of, attribute_value}
use Rattle.conf_eval.specs.Satisfying.{IsFull, HoldsFor, Holds, stated_for, Satisfies}

some_is : {X : Type 0} {x y : X} → Some x ≡ Some y → x ≡ y
some_is e = cc

-- The first item that fails

module _ {X : Type 0} (P : X → Type 0) (test : X → Bool) (is : (x : X) → test x ≡ true → P x) (not : (x : X) → test x ≡ false → P x → ⊥) where
  pub none_fails : (xs : List X) → first_failing test xs ≡ None → All P xs
  none_fails [] e = All-nil P
  none_fails (x ∷ xs) e = by (none_fails xs) (test x) refl e
    where
      by : (first_failing test xs ≡ None → All P xs) → (b : Bool) → test x ≡ b → cond b (first_failing test xs) (Some x) ≡ None → All P (x ∷ xs)
      by more true h e = All-cons P x xs (is x h) (more e)
      by more false h e = absurd cc

  pub one_fails : (xs : List X) (found : X) → first_failing test xs ≡ Some found → (before : List X) × IsFirstNot P xs before found
  one_fails [] found e = absurd cc
  one_fails (x ∷ xs) found e = by (one_fails xs found) (test x) refl e
    where
      by : (first_failing test xs ≡ Some found → (before : List X) × IsFirstNot P xs before found) → (b : Bool) → test x ≡ b → cond b (first_failing test xs) (Some x) ≡ Some found → (before : List X) × IsFirstNot P (x ∷ xs) before found
      by more true h e =
          let r = more e in
          (x ∷ r.0, record { after = r.1.after; split = ap (λ ys. x ∷ ys) r.1.split; hold = All-cons P x r.0 (is x h) r.1.hold; not = r.1.not })
      by more false h e =
          let same : x ≡ found = some_is e in
          ([], record { after = xs; split = ap (λ y. y ∷ xs) same; hold = All-nil P; not = subst (λ y. P y → ⊥) same (not x h) })

pub first_mapped : {X Y : Type 0} (f : X → Y) (test : Y → Bool) (xs : List X) → first_failing test (map f xs) ≡ option_map f (first_failing (λ x. test (f x)) xs)
first_mapped f test [] = refl
first_mapped f test (x ∷ xs) = by (test (f x)) (first_mapped f test xs)
  where
    by : (b : Bool) → first_failing test (map f xs) ≡ option_map f (first_failing (λ y. test (f y)) xs) → cond b (first_failing test (map f xs)) (Some (f x)) ≡ option_map f (cond b (first_failing (λ y. test (f y)) xs) (Some x))
    by true h = h
    by false h = refl

-- what holds for all members holds for the one in a slot
pub slot_has : (P : ℕ → Type 0) (ss : List (Option ℕ)) (i x : ℕ) → get_or ss i None ≡ Some x → All P (held ss) → P x
slot_has P [] i x e all = absurd cc
slot_has P (None ∷ ss) zero x e all = absurd cc
slot_has P (Some y ∷ ss) zero x e all = subst P (some_is e) (All-head P y (held ss) all)
slot_has P (None ∷ ss) (suc i) x e all = slot_has P ss i x e all
slot_has P (Some y ∷ ss) (suc i) x e all = slot_has P ss i x e (All-tail P y (held ss) all)

module _ (o : Outline) (vs : List ℤ) where
  -- Sets

  is_full_true : (l : Leaf) → is_full o vs l ≡ true → IsFull o vs l
  is_full_true l h c n e = eqb-true (length (objects_of (attribute_value o vs l.owner l.attribute l.shape))) n (sym (ap (shape_is_full o vs l) e) ∙ h)

  is_full_false : (l : Leaf) → is_full o vs l ≡ false → IsFull o vs l → ⊥
  is_full_false l h full = by l.shape refl h
    where
      by : (s : Resolved) → l.shape ≡ s → shape_is_full o vs l s ≡ false → ⊥
      by (shape.RefSet c n) e h = let t = eq-eqb (length (objects_of (attribute_value o vs l.owner l.attribute l.shape))) n (full c n e) in cc
      by (shape.Span low high) e h = cc
      by shape.Truth e h = cc
      by (shape.Choice x) e h = cc
      by (shape.One c) e h = cc
      by (shape.Many c n) e h = cc
      by (shape.Ref c) e h = cc

  pub no_wrong_set : (n : ℕ) (ls : List Leaf) → wrong_set o vs n ls ≡ None → All (IsFull o vs) ls
  no_wrong_set n [] e = All-nil (IsFull o vs)
  no_wrong_set n (l ∷ ls) e = by (no_wrong_set (n + length (leaf_cells o l)) ls) (is_full o vs l) refl e
    where
      by : (wrong_set o vs (n + length (leaf_cells o l)) ls ≡ None → All (IsFull o vs) ls) → (b : Bool) → is_full o vs l ≡ b → cond b (wrong_set o vs (n + length (leaf_cells o l)) ls) (Some n) ≡ None → All (IsFull o vs) (l ∷ ls)
      by more true h e = All-cons (IsFull o vs) l ls (is_full_true l h) (more e)
      by more false h e = absurd cc

  record IsFirstWrong (n : ℕ) (ls : List Leaf) (cell : ℕ) : Type 0 where
    before : List Leaf
    set : Leaf
    first : IsFirstNot (IsFull o vs) ls before set
    number : cell ≡ n + length (flat_map (leaf_cells o) before)

  first_wrong : (n : ℕ) (ls : List Leaf) (cell : ℕ) → wrong_set o vs n ls ≡ Some cell → IsFirstWrong n ls cell
  first_wrong n [] cell e = absurd cc
  first_wrong n (l ∷ ls) cell e = by (first_wrong (n + length (leaf_cells o l)) ls cell) (is_full o vs l) refl e
    where
      by : (wrong_set o vs (n + length (leaf_cells o l)) ls ≡ Some cell → IsFirstWrong (n + length (leaf_cells o l)) ls cell) → (b : Bool) → is_full o vs l ≡ b → cond b (wrong_set o vs (n + length (leaf_cells o l)) ls) (Some n) ≡ Some cell → IsFirstWrong n (l ∷ ls) cell
      by more true h e =
          let r = more e in
          let f = r.first in
          record {
            before = l ∷ r.before;
            set = r.set;
            first = record { after = f.after; split = ap (λ ys. l ∷ ys) f.split; hold = All-cons (IsFull o vs) l r.before (is_full_true l h) f.hold; not = f.not };
            number = omega (arith, r.number, length-append (leaf_cells o l) (flat_map (leaf_cells o) r.before));
          }
      by more false h e =
          record {
            before = [];
            set = l;
            first = record { after = ls; split = refl; hold = All-nil (IsFull o vs); not = is_full_false l h };
            number = sym (some_is e) ∙ omega arith;
          }

  pub set_is_wrong : (cell : ℕ) → wrong_set o vs 0 (leaves_in (walk o)) ≡ Some cell → IsWrongSet o vs cell
  set_is_wrong cell e = let r = first_wrong 0 (leaves_in (walk o)) cell e in record { before = r.before; set = r.set; first = r.first; number = r.number ∙ omega arith }

  -- Constraints

  not_true : (b : Bool) → b ≡ false → b ≡ true → ⊥
  not_true b e f = cc

  all_hold : (k : ResolvedConstraint) → wrong_object o vs k ≡ None → Holds o vs k
  all_hold k e = none_fails (HoldsFor o vs k) (holds_for o vs k) (λ x h. h) (λ x h. not_true (holds_for o vs k x) h) (stated_for o k.class) e

  some_fails : (k : ResolvedConstraint) (x : Option ℕ) → wrong_object o vs k ≡ Some x → (earlier : List (Option ℕ)) × IsFirstNot (HoldsFor o vs k) (stated_for o k.class) earlier x
  some_fails k x e = one_fails (HoldsFor o vs k) (holds_for o vs k) (λ x h. h) (λ x h. not_true (holds_for o vs k x) h) (stated_for o k.class) x e

  fails : (k : ResolvedConstraint) (x : Option ℕ) (earlier : List (Option ℕ)) → IsFirstNot (HoldsFor o vs k) (stated_for o k.class) earlier x → Holds o vs k → ⊥
  fails k x earlier f all = f.not (last earlier (subst (All (HoldsFor o vs k)) f.split all))
    where
      last : (ys : List (Option ℕ)) → All (HoldsFor o vs k) (ys ++ x ∷ f.after) → HoldsFor o vs k x
      last [] all = All-head (HoldsFor o vs k) x f.after all
      last (y ∷ ys) all = last ys (All-tail (HoldsFor o vs k) y (ys ++ x ∷ f.after) all)

  pub no_wrong_constraint : (n : ℕ) (ks : List ResolvedConstraint) → wrong_constraint o vs n ks ≡ None → All (Holds o vs) ks
  no_wrong_constraint n [] e = All-nil (Holds o vs)
  no_wrong_constraint n (k ∷ ks) e = by (no_wrong_constraint (n + 1) ks) (wrong_object o vs k) refl e
    where
      by : (wrong_constraint o vs (n + 1) ks ≡ None → All (Holds o vs) ks) → (x : Option (Option ℕ)) → wrong_object o vs k ≡ x → broken_by n x (wrong_constraint o vs (n + 1) ks) ≡ None → All (Holds o vs) (k ∷ ks)
      by more None h e = All-cons (Holds o vs) k ks (all_hold k h) (more e)
      by more (Some x) h e = absurd cc

  -- the constraint, among these of which the first has number n
  record IsFirstFailing (n : ℕ) (ks : List ResolvedConstraint) (index : ℕ) (object : Option ℕ) : Type 0 where
    before : List ResolvedConstraint
    constraint : ResolvedConstraint
    first : IsFirstNot (Holds o vs) ks before constraint
    number : index ≡ n + length before
    earlier : List (Option ℕ)
    first_object : IsFirstNot (HoldsFor o vs constraint) (stated_for o constraint.class) earlier object

  abbrev OnConstraint : ℕ → List ResolvedConstraint → BrokenAt → Type 0
  OnConstraint n ks (SetSize cell) = ⊥
  OnConstraint n ks (Constraint index object) = IsFirstFailing n ks index object

  more : (n : ℕ) (k : ResolvedConstraint) (ks : List ResolvedConstraint) (at : BrokenAt) → Holds o vs k → OnConstraint (n + 1) ks at → OnConstraint n (k ∷ ks) at
  more n k ks (SetSize cell) h r = r
  more n k ks (Constraint index object) h r =
      let f = r.first in
      record {
        before = k ∷ r.before;
        constraint = r.constraint;
        first = record { after = f.after; split = ap (λ ys. k ∷ ys) f.split; hold = All-cons (Holds o vs) k r.before h f.hold; not = f.not };
        number = omega (arith, r.number);
        earlier = r.earlier;
        first_object = r.first_object;
      }

  first_failing_constraint : (n : ℕ) (ks : List ResolvedConstraint) (at : BrokenAt) → wrong_constraint o vs n ks ≡ Some at → OnConstraint n ks at
  first_failing_constraint n [] at e = absurd cc
  first_failing_constraint n (k ∷ ks) at e = by (first_failing_constraint (n + 1) ks at) (wrong_object o vs k) refl e
    where
      by : (wrong_constraint o vs (n + 1) ks ≡ Some at → OnConstraint (n + 1) ks at) → (x : Option (Option ℕ)) → wrong_object o vs k ≡ x → broken_by n x (wrong_constraint o vs (n + 1) ks) ≡ Some at → OnConstraint n (k ∷ ks) at
      by rest None h e = more n k ks at (all_hold k h) (rest e)
      by rest (Some x) h e =
          let r = some_fails k x h in
          subst (OnConstraint n (k ∷ ks)) (some_is e) (record {
            before = [];
            constraint = k;
            first = record { after = ks; split = refl; hold = All-nil (Holds o vs); not = fails k x r.0 r.1 };
            number = omega arith;
            earlier = r.0;
            first_object = r.1;
          })

  constraint_at : (ks : List ResolvedConstraint) (at : BrokenAt) → All (IsFull o vs) (leaves_in (walk o)) → OnConstraint 0 ks at → IsFirstBroken o ks vs at
  constraint_at ks (SetSize cell) sets r = absurd r
  constraint_at ks (Constraint index object) sets r =
      record { sets = sets; before = r.before; constraint = r.constraint; first = r.first; number = r.number ∙ omega arith; earlier = r.earlier; first_object = r.first_object }

  pub constraint_is_wrong : (ks : List ResolvedConstraint) (at : BrokenAt) → wrong_set o vs 0 (leaves_in (walk o)) ≡ None → wrong_constraint o vs 0 ks ≡ Some at → IsFirstBroken o ks vs at
  constraint_is_wrong ks at sets e = constraint_at ks at (no_wrong_set 0 (leaves_in (walk o)) sets) (first_failing_constraint 0 ks at e)

  pub satisfies : (ks : List ResolvedConstraint) → wrong_set o vs 0 (leaves_in (walk o)) ≡ None → wrong_constraint o vs 0 ks ≡ None → Satisfies o ks vs
  satisfies ks sets none = record { sets = no_wrong_set 0 (leaves_in (walk o)) sets; constraints = no_wrong_constraint 0 ks none }

  -- both clauses of what is found once the sets are right
  pub none_found : (ks : List ResolvedConstraint) (found : Option BrokenAt) → wrong_set o vs 0 (leaves_in (walk o)) ≡ None → found ≡ wrong_constraint o vs 0 ks → IfNone found (Satisfies o ks vs)
  none_found ks None sets e = satisfies ks sets (sym e)
  none_found ks (Some at) sets e = tt

  pub first_found : (ks : List ResolvedConstraint) (found : Option BrokenAt) → wrong_set o vs 0 (leaves_in (walk o)) ≡ None → found ≡ wrong_constraint o vs 0 ks → IfSome found (IsFirstBroken o ks vs)
  first_found ks None sets e = tt
  first_found ks (Some at) sets e = constraint_is_wrong ks at sets (sym e)

pub all_mapped : {X Y : Type 0} (P : Y → Type 0) (f : X → Y) (xs : List X) → All P (map f xs) → All (λ x. P (f x)) xs
all_mapped P f [] h = All-nil (λ x. P (f x))
all_mapped P f (x ∷ xs) h = All-cons (λ x. P (f x)) x xs (All-head P (f x) (map f xs) h) (all_mapped P f xs (All-tail P (f x) (map f xs) h))
