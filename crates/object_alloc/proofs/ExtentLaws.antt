-- Counting the objects of extents.
use Rattle.std.proofs.Common.{◌≡◌, ℕ, zero, suc, ◌+◌, ◌<◌, ◌≤◌, nat_eq, Bool, true, false, ◌||◌, cond, List, [], ◌∷◌, ◌++◌, None, Some, length, get_or, take, drop, append-nil, refl, ap, sym, ◌∙◌, subst, arith, true≢false, eq-eqb}
use Rattle.std.specs.Prelude.{slice_index, slice_set}
use Rattle.std.specs.List.{sum_by}
use Rattle.std.specs.Option.{option_map_or}
use Rattle.std.proofs.lemmas.Bool.{eqb-true}
use Rattle.std.proofs.lemmas.List.{get_or-set_same, get_or-set_other, take_all, drop_all}
use Rattle.std.proofs.lemmas.List.Sums.{sum_by-cons}
use Rattle.model_limits.specs.Limits.{most_objects}
use Rattle.class_table.specs.declared.table.Class.{Class}
use Rattle.class_table.specs.Ancestry.{derives}
use Rattle.class_table.specs.Outline.{Outline, parent_in, is_a}
use Rattle.class_table.specs.Scopes.{HasRanks}
use Rattle.class_table.proofs.AncestryLaws.{not_itself}
use Rattle.object_alloc.specs.declared.object.Object.{Object}
use Rattle.object_alloc.specs.declared.queue.Kind.{Kind}
use Rattle.object_alloc.specs.Cells.{extent_from, extent}
use Rattle.object_alloc.specs.Sums.{Weigh, of_object, of_kind, kin, IsLawful}
use Rattle.object_alloc.specs.Walk.{objects}

abbrev pub bit : Bool → ℕ
bit b = cond b 1 0

bit_most : (b : Bool) → bit b ≤ 1
bit_most true = omega arith
bit_most false = omega arith

module _ (cs : List Class) (ranks : HasRanks cs) where
  -- the ancestors of a class, one parent up
  step : (m at p c : ℕ) → parent_in cs at ≡ Some p → bit (derives (parent_in cs) (suc m) at c) ≡ bit (nat_eq at c) + bit (derives (parent_in cs) m p c)
  step m at p c up = by (nat_eq at c) refl
    where
      further : option_map_or (λ parent. derives (parent_in cs) m parent c) (parent_in cs at) false ≡ derives (parent_in cs) m p c
      further = ap (λ o. option_map_or (λ parent. derives (parent_in cs) m parent c) o false) up

      by : (b : Bool) → nat_eq at c ≡ b → bit (b || option_map_or (λ parent. derives (parent_in cs) m parent c) (parent_in cs at) false) ≡ bit b + bit (derives (parent_in cs) m p c)
      by true e =
          let same : at ≡ c = eqb-true at c e in
          let never : derives (parent_in cs) m p at ≡ false = sym (ap (λ o. option_map_or (λ parent. derives (parent_in cs) m parent at) o false) up) ∙ not_itself (parent_in cs) ranks.rank ranks.falls m at in
          let none : bit (derives (parent_in cs) m p c) ≡ 0 = ap bit (ap (derives (parent_in cs) m p) (sym same) ∙ never) in
          omega (arith, none)
      by false e = let f = ap bit further in omega (arith, f)

  last : (m at c : ℕ) → parent_in cs at ≡ None → bit (derives (parent_in cs) m at c) ≡ bit (nat_eq at c)
  last zero at c up = refl
  last (suc m) at c up = by (nat_eq at c)
    where
      by : (b : Bool) → bit (b || option_map_or (λ parent. derives (parent_in cs) m parent c) (parent_in cs at) false) ≡ bit b
      by true = refl
      by false = ap bit (ap (λ o. option_map_or (λ parent. derives (parent_in cs) m parent c) o false) up)

  -- where the count stands: the classes from `at` on are still to be counted, `at` itself was counted
  abbrev pub Counts : ℕ → ℕ → ℕ → List ℕ → List ℕ → Type 0
  Counts class at m old now = (c : ℕ) → c < length cs → slice_index now c + bit (derives (parent_in cs) m at c) ≡ slice_index old c + bit (is_a cs class c) + bit (nat_eq at c)

  added : (xs : List ℕ) (p c v : ℕ) → p < length xs → v ≡ slice_index xs p + 1 → slice_index (slice_set xs p v) c ≡ slice_index xs c + bit (nat_eq p c)
  added xs p c v h e = by (nat_eq p c) refl
    where
      by : (b : Bool) → nat_eq p c ≡ b → slice_index (slice_set xs p v) c ≡ slice_index xs c + bit b
      by true q =
          let same : p ≡ c = eqb-true p c q in
          ap (slice_index (slice_set xs p v)) (sym same) ∙ get_or-set_same xs p v 0 h ∙ e ∙ ap (λ i. slice_index xs i + 1) same
      by false q =
          let other = get_or-set_other xs p c v 0 (λ (s : c ≡ p). true≢false (sym (eq-eqb p p refl) ∙ ap (nat_eq p) (sym s) ∙ q)) in
          omega (arith, other)

  pub count_start : (class m : ℕ) (old now : List ℕ) (v : ℕ) → m ≡ length cs → class < length old → v ≡ slice_index old class + 1 → now ≡ slice_set old class v → Counts class class m old now
  count_start class m old now v m_is h e n c on =
      let a = added old class c v h e in
      let b = ap (λ xs. slice_index xs c) n in
      let i = ap (λ k. bit (derives (parent_in cs) k class c)) m_is in
      omega (arith, a, b, i)

  pub count_next : (class at p m m' : ℕ) (old mid now : List ℕ) (v : ℕ) → m' ≡ suc m → Counts class at m' old mid → parent_in cs at ≡ Some p → p < length mid → v ≡ slice_index mid p + 1 → now ≡ slice_set mid p v → Counts class p m old now
  count_next class at p m m' old mid now v m_is counts up h e n c on =
      let a = added mid p c v h e in
      let b = ap (λ xs. slice_index xs c) n in
      let s = step m at p c up in
      let i = ap (λ k. bit (derives (parent_in cs) k at c)) m_is in
      omega (arith, counts c on, a, b, s, i)

  pub count_last : (class at m : ℕ) (old now : List ℕ) → parent_in cs at ≡ None → Counts class at m old now → (c : ℕ) → c < length cs → slice_index now c ≡ slice_index old c + bit (is_a cs class c)
  count_last class at m old now up counts c on = let l = last m at c up in omega (arith, counts c on, l)

  pub count_end : (class at m : ℕ) (old now : List ℕ) → m ≡ 0 → Counts class at m old now → (c : ℕ) → c < length cs → slice_index now c ≡ slice_index old c + bit (is_a cs class c)
  count_end class at m old now m_is counts c on = let l = ap (λ k. bit (derives (parent_in cs) k at c)) m_is in omega (arith, counts c on, l)

  pub count_most : (class at m : ℕ) (old now : List ℕ) → Counts class at m old now → ((c : ℕ) → slice_index old c ≤ most_objects) → (c : ℕ) → c < length cs → slice_index now c ≤ 10002
  count_most class at m old now counts few c on = omega (arith, counts c on, few c, bit_most (is_a cs class c), bit_most (nat_eq at c))

-- the size of an extent is the number of its class's kin
pub extent_size : (o : Outline) (c : ℕ) → length (extent o c) ≡ sum_by (of_object (kin o c)) (objects o)
extent_size o c = each 0 (objects o)
  where
    each : (n : ℕ) (xs : List Object) → length (extent_from o.classes c n xs) ≡ sum_by (of_object (kin o c)) xs
    each n [] = refl
    each n (x ∷ xs) =
        let rest = each (n + 1) xs in
        let one = sum_by-cons (of_object (kin o c)) x xs in
        by (is_a o.classes x.class c) rest one
      where
        by : (b : Bool) → length (extent_from o.classes c (n + 1) xs) ≡ sum_by (of_object (kin o c)) xs → sum_by (of_object (kin o c)) (x ∷ xs) ≡ cond b 1 0 + sum_by (of_object (kin o c)) xs → length (cond b (n ∷ extent_from o.classes c (n + 1) xs) (extent_from o.classes c (n + 1) xs)) ≡ sum_by (of_object (kin o c)) (x ∷ xs)
        by true rest one = omega (arith, rest, one)
        by false rest one = omega (arith, rest, one)

pub kin_most : (o : Outline) (c : ℕ) (ks : List Kind) → sum_by (of_kind (kin o c)) ks ≤ length ks
kin_most o c [] = omega arith
kin_most o c (k ∷ ks) =
    let one = sum_by-cons (of_kind (kin o c)) k ks in
    let rest = kin_most o c ks in
    let most = bit_most (is_a o.classes k.class c) in
    omega (arith, one, rest, most)

-- the kind at a place, and those behind it
pub queue_next : (g : Weigh) (q : List Kind) (i : ℕ) (d : Kind) → i < length q → sum_by (of_kind g) (drop i q) ≡ of_kind g (get_or q i d) + sum_by (of_kind g) (drop (i + 1) q)
queue_next g [] i d h = absurd (omega (arith, h))
queue_next g (k ∷ ks) zero d h = sum_by-cons (of_kind g) k ks
queue_next g (k ∷ ks) (suc i) d h =
    let same : suc (i + 1) ≡ suc i + 1 = omega arith in
    queue_next g ks i d (omega (arith, h)) ∙ ap (λ j. of_kind g (get_or ks i d) + sum_by (of_kind g) (drop j (k ∷ ks))) same

pub lawful_drop : (m n i : ℕ) (q : List Kind) → IsLawful m n q → IsLawful m (n + i) (drop i q)
lawful_drop m n zero q l = subst (λ j. IsLawful m j q) (omega arith) l
lawful_drop m n (suc i) [] l = tt
lawful_drop m n (suc i) (k ∷ ks) (c, d, l) = subst (λ j. IsLawful m j (drop i ks)) (omega arith) (lawful_drop m (suc n) i ks l)

-- the numbers that a call wrote through a reference to a vector's elements
pub written : (n : ℕ) (xs ys : List ℕ) → n ≡ length ys → length xs ≡ length ys → take n (xs ++ drop (length xs) ys) ≡ xs
written n xs ys e f =
    ap (λ zs. take n (xs ++ zs)) (drop_all (length xs) ys (omega (arith, f)))
    ∙ ap (take n) (append-nil xs)
    ∙ take_all n xs (omega (arith, e, f))

pub most_all : (m : ℕ) (xs : List ℕ) → ((c : ℕ) → c < length xs → slice_index xs c ≤ m) → (c : ℕ) → slice_index xs c ≤ m
most_all m [] h c = omega arith
most_all m (x ∷ xs) h zero = h 0 (omega arith)
most_all m (x ∷ xs) h (suc c) = most_all m xs (λ i lt. h (suc i) (omega (arith, lt))) c
