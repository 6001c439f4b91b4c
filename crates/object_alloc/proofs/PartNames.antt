-- A part by its name and its index, as they stand in a step of a path.
use Rattle.std.proofs.Common.{◌≡◌, ℕ, zero, suc, ◌<◌, ◌^◌, List, [], ◌∷◌, ◌++◌, Option, Some, length, take, drop, refl, ap, sym, ◌∙◌, subst, arith}
use Rattle.std.specs.Prelude.{slice_get, slice_index_or}
use Rattle.class_table.specs.declared.table.Resolved.{Resolved}
use Rattle.class_table.specs.declared.table.Variable.{Variable}
use Rattle.class_table.specs.Outline.{Outline}
use Rattle.class_table.specs.Sound.{IsSound}
use Rattle.object_alloc.specs.declared.object.Object.{Object}
use Rattle.object_alloc.specs.Variables.{variables_of}
use Rattle.class_table.specs.Named.{IsNamed, bracket}
use Rattle.object_alloc.specs.Named.{IsStep, HasName, first_place}
use Rattle.object_alloc.specs.Parts.{IsElement, IsPart}
use Rattle.object_alloc.specs.Paths.{index_text}
use Rattle.object_alloc.specs.Walk.{objects}
use Rattle.object_alloc.proofs.OwnParts.{same_part}
use Rattle.object_alloc.proofs.StepLaws.{at, step_made, step_cut}

whole : (n : ℕ) (xs : List ℕ) → take n xs ++ drop n xs ≡ xs
whole zero xs = refl
whole (suc n) [] = refl
whole (suc n) (x ∷ xs) = ap (λ ys. x ∷ ys) (whole n xs)

pub has_low : (vs : List Variable) (name : List ℕ) (k : ℕ) → HasName vs name k → k < length vs
has_low vs name k h = by vs k h.has
  where
    by : (vs : List Variable) (k : ℕ) → slice_get vs k ≡ Some h.variable → k < length vs
    by [] k e = cc
    by (u ∷ us) zero e = omega arith
    by (u ∷ us) (suc k) e = let r = by us k e in omega arith

-- a shape that was read is that of the variable there
shape_read : (vs : List Variable) (k : ℕ) (v : Variable) (s : Resolved) → slice_get vs k ≡ Some v → ((d : Variable) → s ≡ (slice_index_or vs k d).shape) → s ≡ v.shape
shape_read [] k v s e r = cc
shape_read (u ∷ us) zero v s e r = let same : u ≡ v = cc in r u ∙ ap (λ (x : Variable). x.shape) same
shape_read (u ∷ us) (suc k) v s e r = shape_read us k v s e r

module _ (o : Outline) (sound : IsSound o) (few : length (objects o) < 2 ^ 32) (owner : Option ℕ) (text : List ℕ) (end : ℕ) where
  -- the part that was found is a step with this text
  pub part_step : (k i n : ℕ) (s : Resolved) → HasName (variables_of o owner) (take end text) k → ((d : Variable) → s ≡ (slice_index_or (variables_of o owner) k d).shape) → index_text s i ≡ drop end text → n < length (objects o) → ((d : Object) → IsPart owner k i (slice_index_or (objects o) n d)) → IsStep o owner text n
  part_step k i n s h read index there part =
      let x = at (objects o) n there in
      let same = shape_read (variables_of o owner) k h.variable s h.has read in
      step_made o sound few owner k i n h.variable x.object text h.has x.has (subst (IsPart owner k i) (x.read x.object) (part x.object))
      (ap (λ w. w ++ index_text h.variable.shape i) h.name_is ∙ ap (λ t. take end text ++ index_text t i) (sym same) ∙ ap (λ w. take end text ++ w) index ∙ whole end text)

  -- what a step's text names
  pub record IsNamedBy (n : ℕ) : Type 0 where
    pub k : ℕ
    pub i : ℕ
    pub object : Object
    pub has : slice_get (objects o) n ≡ Some object
    pub part : IsPart owner k i object
    pub small : i < 2 ^ 32
    pub name : HasName (variables_of o owner) (take end text) k
    pub element : (s : Resolved) → ((d : Variable) → s ≡ (slice_index_or (variables_of o owner) k d).shape) → IsElement s i
    pub index : (s : Resolved) → ((d : Variable) → s ≡ (slice_index_or (variables_of o owner) k d).shape) → index_text s i ≡ drop end text

  pub named_by : IsNamed o → end ≡ first_place bracket text → (n : ℕ) → IsStep o owner text n → IsNamedBy n
  named_by named place n step =
      let r = step_cut o sound few named owner text n step in
      let a = r.naming in
      record {
        k = a.k;
        i = a.i;
        object = a.object;
        has = a.has;
        part = a.part;
        small = a.small;
        name = record { variable = a.variable; has = a.variable_is; name_is = sym (ap (λ j. take j text) place ∙ r.name) };
        element = λ s read. subst (λ t. IsElement t a.i) (sym (shape_read (variables_of o owner) a.k a.variable s a.variable_is read)) a.element;
        index = λ s read. ap (λ t. index_text t a.i) (shape_read (variables_of o owner) a.k a.variable s a.variable_is read) ∙ sym (ap (λ j. drop j text) place ∙ r.index);
      }

  -- the part that was found is the one that is named
  pub same_found : (k i n m : ℕ) (r : IsNamedBy n) → k ≡ r.k → i ≡ r.i → m < length (objects o) → ((d : Object) → IsPart owner k i (slice_index_or (objects o) m d)) → m ≡ n
  same_found k i n m r e f there part =
      let x = at (objects o) m there in
      let found : IsPart owner r.k r.i x.object = subst (λ j. IsPart owner j r.i x.object) e (subst (λ j. IsPart owner k j x.object) f (subst (IsPart owner k i) (x.read x.object) (part x.object))) in
      same_part o sound owner r.k r.i m n x.object r.object x.has r.has found r.part
