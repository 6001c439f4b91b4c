-- How breaks are listed: one object after another, one constraint after another.
use Rattle.std.proofs.Common.{◌≡◌, ℕ, zero, suc, ◌+◌, ◌<◌, Bool, true, false, not, cond, List, [], ◌∷◌, ◌++◌, Option, None, Some, ℤ, refl, ap, sym, ◌∙◌, subst, map, drop, length, append_assoc}
use native.Mathlib.Omega.{arith}
use Rattle.std.specs.Prelude.{All, filter, slice_get, slice_index_or}
use Rattle.std.proofs.lemmas.List.{drop_all}
use Rattle.std.proofs.lemmas.List.Elements as elements
use Rattle.class_table.specs.declared.table.Class.{Class}
use Rattle.class_table.specs.Outline.{Outline, is_a}
use Rattle.conf_eval.proofs.FindingLaws.{all_mapped}
use Rattle.conf_eval.proofs.LawsClasses.{object_low, in_extent}
use Rattle.conf_eval.specs.Finding.{holds_for, IsStatedFor}
use Rattle.conf_eval.specs.Fitting.{IsEvaluable}
use Rattle.conf_eval.specs.Satisfying.{setting, stated_for}
use Rattle.conf_types.specs.Trees.{Tree}
use Rattle.conf_types.specs.Programs.{ResolvedConstraint}
use Rattle.object_alloc.specs.Cells.{extent, extent_from}
use Rattle.object_alloc.specs.declared.object.Object.{Object}
use Rattle.object_alloc.specs.Walk.{objects}
use Rattle.view_breaks.specs.Breaks.{fails, break_of, breaks_among, breaks_from, breaks, members_from, IsThere, AreThere}
use Rattle.view_breaks.specs.declared.breaks.Break.{Break}

-- the objects from number n on that are of a class: the first one is, or isn't
pub extent_next : (cs : List Class) (c n : ℕ) (xs : List Object) (i : ℕ) (b : Bool) → i < length xs → ((d : Object) → b ≡ is_a cs (slice_index_or xs i d).class c) → extent_from cs c n (drop i xs) ≡ cond b (n ∷ extent_from cs c (n + 1) (drop (i + 1) xs)) (extent_from cs c (n + 1) (drop (i + 1) xs))
extent_next cs c n [] i b lt is = absurd (omega (arith, lt))
extent_next cs c n (x ∷ xs) zero b lt is =
    ap (λ y. cond y (n ∷ extent_from cs c (n + 1) xs) (extent_from cs c (n + 1) xs)) (sym (is x))
extent_next cs c n (x ∷ xs) (suc i) b lt is =
    let same : suc (i + 1) ≡ suc i + 1 = omega arith in
    subst (λ k. extent_from cs c n (drop i xs) ≡ cond b (n ∷ extent_from cs c (n + 1) (drop k (x ∷ xs))) (extent_from cs c (n + 1) (drop k (x ∷ xs)))) same
    (extent_next cs c n xs i b (omega (arith, lt)) is)

-- the object of a number
at_number : (xs : List Object) (i : ℕ) → i < length xs → (y : Object) × (slice_get xs i ≡ Some y) × ((d : Object) → slice_index_or xs i d ≡ y)
at_number [] i lt = absurd (omega (arith, lt))
at_number (x ∷ xs) zero lt = (x, refl, λ d. refl)
at_number (x ∷ xs) (suc i) lt = at_number xs i (omega (arith, lt))

module _ (o : Outline) (vs : List ℤ) where
  -- One object after another

  pub among_fails : (n : ℕ) (k : ResolvedConstraint) (x : Option ℕ) (b : Bool) → b ≡ holds_for o vs k x → b ≡ false → breaks_among o vs n k (x ∷ []) ≡ break_of n k x ∷ []
  among_fails n k x b is e = ap (λ y. map (break_of n k) (cond (not y) (x ∷ []) [])) (sym is ∙ e)

  pub among_holds : (n : ℕ) (k : ResolvedConstraint) (x : Option ℕ) (b : Bool) → b ≡ holds_for o vs k x → b ≡ true → breaks_among o vs n k (x ∷ []) ≡ []
  among_holds n k x b is e = ap (λ y. map (break_of n k) (cond (not y) (x ∷ []) [])) (sym is ∙ e)

  pub among_next : (n : ℕ) (k : ResolvedConstraint) (x : Option ℕ) (xs : List (Option ℕ)) → breaks_among o vs n k (x ∷ xs) ≡ breaks_among o vs n k (x ∷ []) ++ breaks_among o vs n k xs
  among_next n k x xs = by (fails o vs k x)
    where
      by : (b : Bool) → map (break_of n k) (cond b (x ∷ filter (fails o vs k) xs) (filter (fails o vs k) xs)) ≡ map (break_of n k) (cond b (x ∷ []) []) ++ breaks_among o vs n k xs
      by true = refl
      by false = refl

  pub member_step : (n : ℕ) (k : ResolvedConstraint) (c i : ℕ) (found next : List Break) → i < length (objects o) → ((d : Object) → true ≡ is_a o.classes (slice_index_or (objects o) i d).class c) → next ≡ found ++ breaks_among o vs n k (Some i ∷ []) → next ++ breaks_among o vs n k (members_from o c (i + 1)) ≡ found ++ breaks_among o vs n k (members_from o c i)
  member_step n k c i found next lt is pushed =
      ap (λ bs. bs ++ breaks_among o vs n k (members_from o c (i + 1))) pushed
      ∙ append_assoc found (breaks_among o vs n k (Some i ∷ [])) (breaks_among o vs n k (members_from o c (i + 1)))
      ∙ ap (λ bs. found ++ bs) (sym (among_next n k (Some i) (members_from o c (i + 1))))
      ∙ ap (λ xs. found ++ breaks_among o vs n k (map Some xs)) (sym (extent_next o.classes c i (objects o) i true lt is))

  pub other_step : (n : ℕ) (k : ResolvedConstraint) (c i : ℕ) (found : List Break) → i < length (objects o) → ((d : Object) → false ≡ is_a o.classes (slice_index_or (objects o) i d).class c) → found ++ breaks_among o vs n k (members_from o c (i + 1)) ≡ found ++ breaks_among o vs n k (members_from o c i)
  other_step n k c i found lt is =
      ap (λ xs. found ++ breaks_among o vs n k (map Some xs)) (sym (extent_next o.classes c i (objects o) i false lt is))

  -- the object of a class is one for which its constraints may be evaluated
  pub member_evaluable : (e : Tree) (c x : ℕ) → x < length (objects o) → ((d : Object) → true ≡ is_a o.classes (slice_index_or (objects o) x d).class c) → IsStatedFor o vs e (stated_for o (Some c)) → IsEvaluable o vs e (setting o vs (Some x))
  member_evaluable e c x lt is all =
      let y = at_number (objects o) x lt in
      let there : is_a o.classes y.0.class c ≡ true = ap (λ (z : Object). is_a o.classes z.class c) (sym (y.2 y.0)) ∙ sym (is y.0) in
      elements.All-contains (λ n. IsEvaluable o vs e (setting o vs (Some n))) (extent o c) x (all_mapped (λ this. IsEvaluable o vs e (setting o vs this)) Some (extent o c) all) (in_extent o c x y.0 y.1 there)

pub no_member_left : (o : Outline) (c : ℕ) → members_from o c (length (objects o)) ≡ []
no_member_left o c = ap (λ xs. map Some (extent_from o.classes c (length (objects o)) xs)) (drop_all (length (objects o)) (objects o) (omega arith))

module _ (o : Outline) (vs : List ℤ) where
  -- The object of each is there

  pub stated_there : (class : Option ℕ) → All (IsThere o) (stated_for o class)
  stated_there None = elements.All-from_recursion (IsThere o) (None ∷ []) (tt, tt)
  stated_there (Some c) = elements.All-map (IsThere o) Some (extent o c) (λ k d lt. object_low o c (slice_index_or (extent o c) k d) (elements.Contains-get_or (extent o c) k d lt))

  among_there : (n : ℕ) (k : ResolvedConstraint) (xs : List (Option ℕ)) → All (IsThere o) xs → AreThere o (breaks_among o vs n k xs)
  among_there n k xs all = elements.All-map (λ (b : Break). IsThere o b.object) (break_of n k) (filter (fails o vs k) xs) (elements.All-filter (fails o vs k) (IsThere o) xs all)

  from_there : (n : ℕ) (ks : List ResolvedConstraint) → AreThere o (breaks_from o vs n ks)
  from_there n [] = elements.All-nil (λ (b : Break). IsThere o b.object)
  from_there n (k ∷ ks) = elements.All-append (λ (b : Break). IsThere o b.object) (breaks_among o vs n k (stated_for o k.class)) (breaks_from o vs (n + 1) ks) (among_there n k (stated_for o k.class) (stated_there k.class)) (from_there (n + 1) ks)

  pub breaks_there : (ks : List ResolvedConstraint) → AreThere o (breaks o vs ks)
  breaks_there ks = from_there 0 ks
