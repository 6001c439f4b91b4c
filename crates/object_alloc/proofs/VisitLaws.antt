-- The walk does not depend on how many levels it is given, where there are as many as classes or more.
use Rattle.std.proofs.Common.{◌≡◌, ℕ, zero, suc, ◌+◌, ◌<◌, List, [], ◌∷◌, ◌++◌, Some, length, refl, ap, ◌∙◌, arith}
use Rattle.std.specs.Prelude.{Contains}
use Rattle.class_table.specs.declared.table.Resolved.{Resolved}
use Rattle.class_table.specs.declared.table.Resolved.TheVariants.{Span, Truth, Choice, One, Many, Ref, RefSet}
use Rattle.class_table.specs.declared.table.Variable.{Variable}
use Rattle.class_table.specs.Outline.{Outline, attributes}
use Rattle.class_table.specs.Sound.{held_class, HasNesting}
use Rattle.object_alloc.specs.declared.object.Object.{Object}
use Rattle.object_alloc.specs.Walk.{Met, Made, Visit, Inside, made, object, elements, attribute, members, within, visit_to, visit}

-- two visits do the same at objects of class c
abbrev pub SameAt : Visit → Visit → ℕ → Type 0
SameAt f g c = (n : ℕ) (x : Object) → x.class ≡ c → f n x ≡ g n x

module _ (f g : Visit) (w : Inside) where
  elements_same : (k c m i n : ℕ) → SameAt f g c → elements f w k c m i n ≡ elements g w k c m i n
  elements_same k c zero i n h = refl
  elements_same k c (suc m) i n h =
      ap (λ (here : List Met). here ++ elements f w k c m (i + 1) (n + made here)) (h n (object w k c i) refl)
      ∙ ap (λ (rest : List Met). g n (object w k c i) ++ rest) (elements_same k c m (i + 1) (n + made (g n (object w k c i))) h)

  attribute_same : (k : ℕ) (s : Resolved) (n : ℕ) → ((c : ℕ) → held_class s ≡ Some c → SameAt f g c) → attribute f w k s n ≡ attribute g w k s n
  attribute_same k (One c) n h = h c refl n (object w k c 0) refl
  attribute_same k (Many c m) n h = elements_same k c m 0 n (h c refl)
  attribute_same k (Span low high) n h = refl
  attribute_same k Truth n h = refl
  attribute_same k (Choice e) n h = refl
  attribute_same k (Ref c) n h = refl
  attribute_same k (RefSet c m) n h = refl

  pub members_same : (k : ℕ) (vs : List Variable) (n : ℕ) → ((v : Variable) (c : ℕ) → Contains vs v → held_class v.shape ≡ Some c → SameAt f g c) → members f w k vs n ≡ members g w k vs n
  members_same k [] n h = refl
  members_same k (v ∷ vs) n h =
      ap (λ (here : List Met). here ++ members f w (k + 1) vs (n + made here)) (attribute_same k v.shape n (λ c held. h v c (0, omega arith, refl) held))
      ∙ ap (λ (rest : List Met). attribute g w k v.shape n ++ rest) (members_same (k + 1) vs (n + made (attribute g w k v.shape n)) (λ u c has held. h u c (suc has.0, omega (arith, has.1), has.2) held))

module _ (o : Outline) (r : HasNesting o.classes) where
  -- further levels change nothing
  pub visit_same : (f g n : ℕ) (x : Object) → r.rank x.class < f → r.rank x.class < g → visit_to o f n x ≡ visit_to o g n x
  visit_same zero g n x hf hg = absurd (omega (arith, hf))
  visit_same (suc f) zero n x hf hg = absurd (omega (arith, hg))
  visit_same (suc f) (suc g) n x hf hg =
      ap (λ (ms : List Met). Made x ∷ ms)
      (members_same (visit_to o f) (visit_to o g) (within n x) 0 (attributes o.classes x.class) (n + 1)
      (λ v c has held m y e. let a = r.falls x.class c v has held in let same = ap r.rank e in visit_same f g m y (omega (arith, a, same, hf)) (omega (arith, a, same, hg))))

  -- an object, and then its attributes
  pub visit_next : (n : ℕ) (x : Object) → x.class < length o.classes → visit o n x ≡ Made x ∷ members (visit o) (within n x) 0 (attributes o.classes x.class) (n + 1)
  visit_next n x h = let b = r.below x.class h in visit_same (length o.classes) (suc (length o.classes)) n x b (omega (arith, b))
