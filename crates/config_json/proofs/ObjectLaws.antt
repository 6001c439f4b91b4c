-- The JSON value of an object, from those of the objects in it.
use Rattle.std.proofs.Common.{◌≡◌, ℕ, zero, suc, ◌+◌, ◌-◌, ◌*◌, ◌<◌, ◌≤◌, drop, nat_eq, Bool, true, false, ◌&&◌, cond, List, [], ◌∷◌, Option, None, Some, ℤ, length, refl, sym, ap, ◌∙◌, subst, arith, true≢false}
use Rattle.std.specs.Prelude.{slice_get, slice_index_or}
use Rattle.std.specs.Option.{option_map_or}
use Rattle.std.proofs.lemmas.Bool.{eqb-true}
use Rattle.class_table.specs.declared.table.Resolved.{Resolved}
use Rattle.class_table.specs.declared.table.Resolved.TheVariants.{Span, Truth, Choice, One, Many, Ref, RefSet}
use Rattle.class_table.specs.declared.table.Variable.{Variable}
use Rattle.class_table.specs.Outline.{Outline}
use Rattle.object_alloc.specs.declared.object.Object.{Object}
use Rattle.object_alloc.specs.Groups.{numbers_from, is_part_of, same_owner, parts_of, own_cells}
use Rattle.object_alloc.specs.Variables.{variables_of}
use Rattle.object_alloc.specs.Held.{IsBefore}
use Rattle.object_alloc.specs.Walk.{objects}
use Rattle.object_alloc.proofs.HeldLaws.{object_held}
use Rattle.serde_json.specs.Data.{Data, item, Members, array, object, put}
use Rattle.config_json.specs.Contained.{AreContained}
use Rattle.config_json.specs.Keys.{text_of}
use Rattle.config_json.specs.Tree.{all_data, attribute_data, class_member, first_data, leaf_data, object_within, object_data, with_variables}
use Rattle.config_json.proofs.Known.{item_within}

owner_same : (p q : Option ℕ) → same_owner p q ≡ true → q ≡ p
owner_same None None e = refl
owner_same None (Some n) e = absurd (true≢false (sym e))
owner_same (Some m) None e = absurd (true≢false (sym e))
owner_same (Some m) (Some n) e = ap Some (sym (eqb-true m n e))

both_first : (a b : Bool) → a && b ≡ true → a ≡ true
both_first true b e = refl
both_first false b e = absurd (true≢false (sym e))

module _ (o : Outline) where
  contained_from : (owner : Option ℕ) (k m : ℕ) (xs : List Object) → ((i : ℕ) (x : Object) → slice_get xs i ≡ Some x → IsBefore x.owner (m + i) × (m + i < length (objects o))) → AreContained o owner (numbers_from (is_part_of owner k) m xs)
  contained_from owner k m [] all = tt
  contained_from owner k m (x ∷ xs) all =
      by (is_part_of owner k x) refl (contained_from owner k (suc m) xs (λ i y e. subst (λ j. IsBefore y.owner j × (j < length (objects o))) (omega arith) (all (suc i) y e))) (subst (λ j. IsBefore x.owner j × (j < length (objects o))) (omega arith) (all 0 x refl))
    where
      by : (b : Bool) → is_part_of owner k x ≡ b → AreContained o owner (numbers_from (is_part_of owner k) (suc m) xs) → IsBefore x.owner m × (m < length (objects o)) → AreContained o owner (cond b (m ∷ numbers_from (is_part_of owner k) (suc m) xs) (numbers_from (is_part_of owner k) (suc m) xs))
      by true e rest here = ((subst (λ p. IsBefore p m) (owner_same owner x.owner (both_first (same_owner owner x.owner) (nat_eq k x.attribute) e)) here.0, here.1), rest)
      by false e rest here = rest

  -- what an attribute holds
  pub parts_contained : (owner : Option ℕ) (k : ℕ) → AreContained o owner (parts_of o owner k)
  parts_contained owner k =
      contained_from owner k 0 (objects o) (λ i x e. subst (λ j. IsBefore x.owner j × (j < length (objects o))) (omega arith) ((object_held o i x e).owner, item_within (objects o) i x e))

  module _ (values : List ℤ) where
    -- the same for all objects that the owner may hold
    abbrev Agree : Option ℕ → (ℕ → Data) → (ℕ → Data) → Type 0
    Agree owner f g = (p : ℕ) → IsBefore owner p → p < length (objects o) → f p ≡ g p

    all_same : (owner : Option ℕ) (f g : ℕ → Data) → Agree owner f g → (ns : List ℕ) → AreContained o owner ns → all_data f ns ≡ all_data g ns
    all_same owner f g each [] c = refl
    all_same owner f g each (n ∷ ns) (h, c) = ap (λ d. item d (all_data f ns)) (each n h.0 h.1) ∙ ap (item (g n)) (all_same owner f g each ns c)

    first_same : (owner : Option ℕ) (f g : ℕ → Data) → Agree owner f g → (ns : List ℕ) → AreContained o owner ns → first_data f ns ≡ first_data g ns
    first_same owner f g each [] c = refl
    first_same owner f g each (n ∷ ns) (h, c) = each n h.0 h.1

    attribute_same : (owner : Option ℕ) (f g : ℕ → Data) → Agree owner f g → (k : ℕ) (s : Resolved) → attribute_data f o values owner k s ≡ attribute_data g o values owner k s
    attribute_same owner f g each k (One c) = first_same owner f g each (parts_of o owner k) (parts_contained owner k)
    attribute_same owner f g each k (Many c n) = ap array (all_same owner f g each (parts_of o owner k) (parts_contained owner k))
    attribute_same owner f g each k (Span low high) = refl
    attribute_same owner f g each k Truth = refl
    attribute_same owner f g each k (Choice e) = refl
    attribute_same owner f g each k (Ref c) = refl
    attribute_same owner f g each k (RefSet c n) = refl

    variables_same : (owner : Option ℕ) (f g : ℕ → Data) → Agree owner f g → (k : ℕ) (vs : List Variable) (found : Members) → with_variables f o values owner k vs found ≡ with_variables g o values owner k vs found
    variables_same owner f g each k [] found = refl
    variables_same owner f g each k (v ∷ vs) found =
        ap (λ d. with_variables f o values owner (suc k) vs (put (text_of v.name) d found)) (attribute_same owner f g each k v.shape)
        ∙ variables_same owner f g each (suc k) vs (put (text_of v.name) (attribute_data g o values owner k v.shape) found)

    -- further levels change nothing
    levels_same : (f g n : ℕ) → n < length (objects o) → length (objects o) ≤ f + n → length (objects o) ≤ g + n → object_within o values f n ≡ object_within o values g n
    levels_same zero g n h a b = absurd (omega (arith, h, a))
    levels_same (suc f) zero n h a b = absurd (omega (arith, h, b))
    levels_same (suc f) (suc g) n h a b =
        ap object (variables_same (Some n) (object_within o values f) (object_within o values g) (λ p before there. levels_same f g p there (omega (arith, a, before)) (omega (arith, b, before))) 0 (variables_of o (Some n)) (class_member o n))

    -- an object, from the objects in it
    pub object_made : (n : ℕ) → n < length (objects o) → object (with_variables (object_data o values) o values (Some n) 0 (variables_of o (Some n)) (class_member o n)) ≡ object_data o values n
    object_made n h =
        ap object (variables_same (Some n) (object_data o values) (object_within o values (length (objects o) - 1)) (λ p before there. levels_same (length (objects o)) (length (objects o) - 1) p there (omega arith) (omega (arith, h, before, there))) 0 (variables_of o (Some n)) (class_member o n))
        ∙ ap (λ l. object_within o values l n) (level (length (objects o)) h)
      where
        level : (m : ℕ) → n < m → suc (m - 1) ≡ m
        level m lt = omega (arith, lt)

-- one of the objects that an owner holds
pub contained_at : (o : Outline) (owner : Option ℕ) (ns : List ℕ) (k d : ℕ) → AreContained o owner ns → k < length ns → IsBefore owner (slice_index_or ns k d) × (slice_index_or ns k d < length (objects o))
contained_at o owner [] k d c h = absurd (omega (arith, h))
contained_at o owner (n ∷ ns) zero d (h, c) lt = h
contained_at o owner (n ∷ ns) (suc k) d (h, c) lt = contained_at o owner ns k d c (omega (arith, lt))

-- fewer objects stand below what an owner holds than below the owner
pub below_less : (m : ℕ) (owner : Option ℕ) (n : ℕ) → IsBefore owner n → n < m → 4 * (m - n) + 3 < 4 * option_map_or (λ q. m - q) owner (m + 1)
below_less m None n h lt = omega arith
below_less m (Some q) n h lt = omega (arith, h, lt)

module _ (of : ℕ → Data) (o : Outline) (values : List ℤ) (owner : Option ℕ) where
  -- a leaf
  pub leaf_is : (k : ℕ) (s : Resolved) → ((c : ℕ) → s ≡ One c → ⊥) → ((c n : ℕ) → s ≡ Many c n → ⊥) → leaf_data o values (own_cells o owner k) s ≡ attribute_data of o values owner k s
  leaf_is k (One c) one many = absurd (one c refl)
  leaf_is k (Many c n) one many = absurd (many c n refl)
  leaf_is k (Span low high) one many = refl
  leaf_is k Truth one many = refl
  leaf_is k (Choice e) one many = refl
  leaf_is k (Ref c) one many = refl
  leaf_is k (RefSet c n) one many = refl

  -- one variable further
  pub variables_next : (vs : List Variable) (k : ℕ) (v : Variable) (found : Members) → slice_get vs k ≡ Some v → with_variables of o values owner k (drop k vs) found ≡ with_variables of o values owner (k + 1) (drop (k + 1) vs) (put (text_of v.name) (attribute_data of o values owner k v.shape) found)
  variables_next vs k v found e =
      ap (λ us. with_variables of o values owner k us found) (left vs k v e)
      ∙ ap (λ j. with_variables of o values owner j (drop (k + 1) vs) (put (text_of v.name) (attribute_data of o values owner k v.shape) found)) (next k)
    where
      next : (k : ℕ) → suc k ≡ k + 1
      next k = omega arith

      is : {a b : Variable} → Some a ≡ Some b → a ≡ b
      is e = cc

      left : (vs : List Variable) (k : ℕ) (v : Variable) → slice_get vs k ≡ Some v → drop k vs ≡ v ∷ drop (k + 1) vs
      left [] k v e = cc
      left (u ∷ us) zero v e = ap (λ w. w ∷ us) (is e)
      left (u ∷ us) (suc k) v e = let more : suc (k + 1) ≡ suc k + 1 = omega arith in left us k v e ∙ ap (λ j. v ∷ drop j (u ∷ us)) more

  pub variables_done : (vs : List Variable) (k : ℕ) (found : Members) → length vs ≤ k → with_variables of o values owner k (drop k vs) found ≡ found
  variables_done vs k found h = ap (λ us. with_variables of o values owner k us found) (none vs k h)
    where
      none : (vs : List Variable) (k : ℕ) → length vs ≤ k → drop k vs ≡ []
      none [] zero h = refl
      none [] (suc k) h = refl
      none (v ∷ vs) zero h = absurd (omega (arith, h))
      none (v ∷ vs) (suc k) h = none vs k (omega (arith, h))
