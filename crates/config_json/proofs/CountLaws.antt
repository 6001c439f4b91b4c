-- How many objects of an extent are members of a set that was read: as many as were read.
use Rattle.std.proofs.Common.{◌≡◌, ℕ, suc, ◌+◌, List, [], ◌∷◌, ◌++◌, Option, None, Some, Bool, true, false, ◌||◌, cond, length, nat_eq, refl, sym, ap, ◌∙◌, subst, arith, length-append}
use Rattle.std.specs.Prelude.{option_and_then}
use Rattle.std.specs.List.{list_any}
use Rattle.std.proofs.lemmas.Bool.{eqb-true, ne_eqb}
use Rattle.std.proofs.lemmas.List.Folds.{list_any-append}
use Rattle.std.proofs.lemmas.Option.{cond_some}
use Rattle.class_table.specs.declared.table.Class.{Class}
use Rattle.class_table.specs.Outline.{Outline, is_a}
use Rattle.object_alloc.specs.declared.object.Object.{Object}
use Rattle.object_alloc.specs.Cells.{extent, extent_from}
use Rattle.object_alloc.specs.Walk.{objects}
use Rattle.serde_json.specs.Data.{Data, Items, no_items, item}
use Rattle.serde_json.specs.Events.{items_len}
use Rattle.serde_json.specs.Find.{as_str}
use Rattle.config_json.specs.Former.{of_extent, object_in, members_in}
use Rattle.object_alloc.specs.Paths.{object_named}
use Rattle.config_json.proofs.Known.{before}

-- how many of the numbers are among the members
abbrev pub count : List ℕ → List ℕ → ℕ
count members [] = 0
count members (n ∷ ns) = cond (list_any (nat_eq n) members) (suc (count members ns)) (count members ns)

-- each number differs from those behind it
abbrev pub AreDistinct : List ℕ → Type 0
AreDistinct [] = Unit {0}
AreDistinct (n ∷ ns) = (list_any (nat_eq n) ns ≡ false) × AreDistinct ns

some_is : {X : Type 0} {a b : X} → Some a ≡ Some b → a ≡ b
some_is e = cc

turned : (a b : ℕ) → nat_eq a b ≡ false → nat_eq b a ≡ false
turned a b e = ne_eqb b a (λ same. by same e)
  where
    by : b ≡ a → nat_eq a b ≡ false → ⊥
    by same e = grind (arith, same, e)

-- one more member

among_more : (x n : ℕ) (seen : List ℕ) (b : Bool) → nat_eq x n ≡ b → list_any (nat_eq x) (seen ++ n ∷ []) ≡ (list_any (nat_eq x) seen || b)
among_more x n seen b e = list_any-append (nat_eq x) seen (n ∷ []) ∙ ap (λ t. list_any (nat_eq x) seen || (t || false)) e ∙ ap (λ t. list_any (nat_eq x) seen || t) (alone b)
  where
    alone : (b : Bool) → (b || false) ≡ b
    alone true = refl
    alone false = refl

or_false : (a : Bool) → (a || false) ≡ a
or_false true = refl
or_false false = refl

or_parts : (a b : Bool) → (a || b) ≡ false → (a ≡ false) × (b ≡ false)
or_parts true b e = cc
or_parts false b e = (refl, e)

count_step : (ms : List ℕ) (x : ℕ) (ns : List ℕ) (b : Bool) → list_any (nat_eq x) ms ≡ b → count ms (x ∷ ns) ≡ cond b (suc (count ms ns)) (count ms ns)
count_step ms x ns b e = ap (λ t. cond t (suc (count ms ns)) (count ms ns)) e

module _ (n : ℕ) (seen : List ℕ) where
  -- a member that isn't among the numbers changes nothing
  count_miss : (ns : List ℕ) → list_any (nat_eq n) ns ≡ false → count (seen ++ n ∷ []) ns ≡ count seen ns
  count_miss [] h = refl
  count_miss (x ∷ xs) h =
      let parts = or_parts (nat_eq n x) (list_any (nat_eq n) xs) h in
      let same : list_any (nat_eq x) (seen ++ n ∷ []) ≡ list_any (nat_eq x) seen = among_more x n seen false (turned n x parts.0) ∙ or_false (list_any (nat_eq x) seen) in
      count_step (seen ++ n ∷ []) x xs (list_any (nat_eq x) seen) same
      ∙ ap (λ k. cond (list_any (nat_eq x) seen) (suc k) k) (count_miss xs parts.1)

  cond_suc : (b : Bool) (p q : ℕ) → p ≡ suc q → cond b (suc p) p ≡ suc (cond b (suc q) q)
  cond_suc true p q e = ap suc e
  cond_suc false p q e = e

  -- a new member among them counts one
  count_hit : (ns : List ℕ) → AreDistinct ns → list_any (nat_eq n) ns ≡ true → list_any (nat_eq n) seen ≡ false → count (seen ++ n ∷ []) ns ≡ suc (count seen ns)
  count_hit [] d h new = cc
  count_hit (x ∷ xs) (first, d) h new = by (nat_eq n x) refl h (λ r. count_hit xs d r new)
    where
      or_true : (a : Bool) → (a || true) ≡ true
      or_true true = refl
      or_true false = refl

      by : (b : Bool) → nat_eq n x ≡ b → (b || list_any (nat_eq n) xs) ≡ true → (list_any (nat_eq n) xs ≡ true → count (seen ++ n ∷ []) xs ≡ suc (count seen xs)) → count (seen ++ n ∷ []) (x ∷ xs) ≡ suc (count seen (x ∷ xs))
      by true e r rest =
          let same : n ≡ x = eqb-true n x e in
          let here : list_any (nat_eq x) seen ≡ false = subst (λ k. list_any (nat_eq k) seen ≡ false) same new in
          let itself : nat_eq x n ≡ true = subst (λ k. nat_eq k n ≡ true) same (subst (λ k. nat_eq n k ≡ true) (sym same) e) in
          let away : list_any (nat_eq n) xs ≡ false = subst (λ k. list_any (nat_eq k) xs ≡ false) (sym same) first in
          count_step (seen ++ n ∷ []) x xs true (among_more x n seen true itself ∙ or_true (list_any (nat_eq x) seen))
          ∙ ap suc (count_miss xs away) ∙ ap suc (sym (count_step seen x xs false here))
      by false e r rest =
          let same : list_any (nat_eq x) (seen ++ n ∷ []) ≡ list_any (nat_eq x) seen = among_more x n seen false (turned n x e) ∙ or_false (list_any (nat_eq x) seen) in
          count_step (seen ++ n ∷ []) x xs (list_any (nat_eq x) seen) same
          ∙ cond_suc (list_any (nat_eq x) seen) (count (seen ++ n ∷ []) xs) (count seen xs) (rest r)

-- Extents

module _ (cs : List Class) (c : ℕ) where
  distinct_from : (m : ℕ) (xs : List Object) → AreDistinct (extent_from cs c m xs)
  distinct_from m [] = tt
  distinct_from m (x ∷ xs) = by (is_a cs x.class c) (distinct_from (m + 1) xs) (before cs c (m + 1) m xs (omega arith))
    where
      by : (b : Bool) → AreDistinct (extent_from cs c (m + 1) xs) → list_any (nat_eq m) (extent_from cs c (m + 1) xs) ≡ false → AreDistinct (cond b (m ∷ extent_from cs c (m + 1) xs) (extent_from cs c (m + 1) xs))
      by true rest first = (first, rest)
      by false rest first = rest

pub extent_distinct : (o : Outline) (c : ℕ) → AreDistinct (extent o c)
extent_distinct o c = distinct_from o.classes c 0 (objects o)

-- a string names an object of the extent
pub object_there : (o : Outline) (c : ℕ) (d : Data) (n : ℕ) → object_in o c d ≡ Some n → list_any (nat_eq n) (extent o c) ≡ true
object_there o c d n e = by (option_and_then (object_named o) (as_str d)) e
  where
    by : (found : Option ℕ) → option_and_then (of_extent o c) found ≡ Some n → list_any (nat_eq n) (extent o c) ≡ true
    by None e = cc
    by (Some m) e =
        let r = cond_some (list_any (nat_eq m) (extent o c)) m n e in
        subst (λ k. list_any (nat_eq k) (extent o c) ≡ true) r.1 r.0

-- the members that were read differ and are of the extent
pub record AreCounted (o : Outline) (c start : ℕ) (ds : Items) (members : List ℕ) : Type 0 where
  pub all : count members (extent o c) ≡ length members
  pub size : length members ≡ start + items_len ds

pub members_count : (o : Outline) (c : ℕ) (seen : List ℕ) (ds : Items) (members : List ℕ) → members_in o c seen ds ≡ Some members → count seen (extent o c) ≡ length seen → AreCounted o c (length seen) ds members
members_count o c seen no_items members e h =
    let same : seen ≡ members = some_is e in
    subst (AreCounted o c (length seen) no_items) same (record { all = h; size = omega arith })
members_count o c seen (item d ds) members e h = by (object_in o c d) refl e (λ more r g. members_count o c more ds members r g)
  where
    step : (n : ℕ) → object_in o c d ≡ Some n → (b : Bool) → list_any (nat_eq n) seen ≡ b → cond b None (members_in o c (seen ++ n ∷ []) ds) ≡ Some members → ((more : List ℕ) → members_in o c more ds ≡ Some members → count more (extent o c) ≡ length more → AreCounted o c (length more) ds members) → AreCounted o c (length seen) (item d ds) members
    step n is true new r rest = cc
    step n is false new r rest =
        let longer : length (seen ++ n ∷ []) ≡ suc (length seen) = omega (arith, length-append seen (n ∷ [])) in
        let counted = rest (seen ++ n ∷ []) r (count_hit n seen (extent o c) (extent_distinct o c) (object_there o c d n is) new ∙ ap suc h ∙ sym longer) in
        record { all = counted.all; size = omega (arith, counted.size, longer) }

    by : (found : Option ℕ) → object_in o c d ≡ found → option_and_then (λ n. cond (list_any (nat_eq n) seen) None (members_in o c (seen ++ n ∷ []) ds)) found ≡ Some members → ((more : List ℕ) → members_in o c more ds ≡ Some members → count more (extent o c) ≡ length more → AreCounted o c (length more) ds members) → AreCounted o c (length seen) (item d ds) members
    by None is r rest = cc
    by (Some n) is r rest = step n is (list_any (nat_eq n) seen) refl r rest
