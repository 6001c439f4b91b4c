-- Reading the strings of an array one by one.
use Rattle.std.proofs.Common.{◌≡◌, ℕ, zero, suc, ◌+◌, ◌<◌, ◌≤◌, Bool, true, false, ◌||◌, cond, List, [], ◌∷◌, ◌++◌, Option, None, Some, length, drop, nat_eq, refl, sym, ap, ◌∙◌, arith, eq-eqb, true≢false}
use Rattle.std.specs.Prelude.{slice_index_or, slice_set, option_map, option_and_then}
use Rattle.std.specs.List.{list_any}
use Rattle.std.proofs.lemmas.Bool.{eqb-true}
use Rattle.std.proofs.lemmas.List.{get_or-set_same, get_or-set_other, length-set}
use Rattle.class_table.specs.declared.table.Class.{Class}
use Rattle.class_table.specs.Outline.{Outline, is_a}
use Rattle.object_alloc.specs.declared.object.Object.{Object}
use Rattle.object_alloc.specs.Cells.{extent, extent_from}
use Rattle.object_alloc.specs.Walk.{objects}
use Rattle.serde_json.specs.Data.{Data, Items, no_items, item}
use Rattle.serde_json.specs.View.{view, items_view}
use Rattle.serde_json.specs.declared.value.Value.{Value}
use Rattle.config_json.specs.Former.{object_in, members_in, marks, set_in, truth_number}
use Rattle.config_json.specs.Marked.{marked}
use Rattle.config_json.specs.Marking.{IsMarking}
use Rattle.serde_json.proofs.Views.{items_len-items_view}
use Rattle.config_json.proofs.Known.{differs}

-- the strings from number k on
pub items_split : (vs : List Value) (k : ℕ) (d : Value) → k < length vs → items_view (drop k vs) ≡ item (view (slice_index_or vs k d)) (items_view (drop (k + 1) vs))
items_split [] k d h = absurd (omega (arith, h))
items_split (v ∷ vs) zero d h = refl
items_split (v ∷ vs) (suc k) d h = let next : suc (k + 1) ≡ suc k + 1 = omega arith in items_split vs k d (omega (arith, h)) ∙ ap (λ i. item (view (slice_index_or vs k d)) (items_view (drop i (v ∷ vs)))) next

pub items_end : (vs : List Value) (k : ℕ) → length vs ≤ k → items_view (drop k vs) ≡ no_items
items_end [] zero h = refl
items_end [] (suc k) h = refl
items_end (v ∷ vs) zero h = absurd (omega (arith, h))
items_end (v ∷ vs) (suc k) h = items_end vs k (omega (arith, h))

any_append : (n : ℕ) (xs ys : List ℕ) → list_any (nat_eq n) (xs ++ ys) ≡ list_any (nat_eq n) xs || list_any (nat_eq n) ys
any_append n [] ys = refl
any_append n (x ∷ xs) ys = by (nat_eq n x) (any_append n xs ys)
  where
    by : (b : Bool) → list_any (nat_eq n) (xs ++ ys) ≡ list_any (nat_eq n) xs || list_any (nat_eq n) ys → b || list_any (nat_eq n) (xs ++ ys) ≡ (b || list_any (nat_eq n) xs) || list_any (nat_eq n) ys
    by true h = refl
    by false h = h

last_is : (a b : Bool) → b ≡ true → a || (b || false) ≡ true
last_is true b e = refl
last_is false b e = rw e refl

last_not : (a b : Bool) → b ≡ false → a || (b || false) ≡ a
last_not true b e = refl
last_not false b e = rw e refl

module _ (o : Outline) (c : ℕ) (all : Items) where
  pub marking_start : (flags : List Bool) → length flags ≡ length (objects o) → ((n : ℕ) → slice_index_or flags n false ≡ false) → IsMarking o c all all flags
  marking_start flags count none = record { seen = []; left_is = refl; count = count; flags_are = λ n h. none n }

  module _ (left rest : Items) (d : Data) (flags : List Bool) (is : left ≡ item d rest) (m : IsMarking o c all left flags) where
    at : members_in o c m.seen (item d rest) ≡ members_in o c [] all
    at = ap (members_in o c m.seen) (sym is) ∙ m.left_is

    -- a string that names no such object
    pub marking_other : object_in o c d ≡ None → members_in o c [] all ≡ None
    marking_other e = sym at ∙ ap (option_and_then (λ n. cond (list_any (nat_eq n) m.seen) None (members_in o c (m.seen ++ n ∷ []) rest))) e

    module _ (n : ℕ) (e : object_in o c d ≡ Some n) (there : n < length (objects o)) where
      here : cond (list_any (nat_eq n) m.seen) None (members_in o c (m.seen ++ n ∷ []) rest) ≡ members_in o c [] all
      here = sym (ap (option_and_then (λ i. cond (list_any (nat_eq i) m.seen) None (members_in o c (m.seen ++ i ∷ []) rest))) e) ∙ at

      -- an object that was named before
      pub marking_twice : slice_index_or flags n false ≡ true → members_in o c [] all ≡ None
      marking_twice on = sym here ∙ ap (λ b. cond b None (members_in o c (m.seen ++ n ∷ []) rest)) (sym (m.flags_are n there) ∙ on)

      flag_at : (new : List Bool) → new ≡ slice_set flags n true → (k : ℕ) → k < length (objects o) → (b : Bool) → nat_eq k n ≡ b → slice_index_or new k false ≡ list_any (nat_eq k) (m.seen ++ n ∷ [])
      flag_at new set k h true q =
          let same : k ≡ n = eqb-true k n q in
          ap (λ fs. slice_index_or fs k false) set ∙ ap (λ i. slice_index_or (slice_set flags n true) i false) same ∙ get_or-set_same flags n true false (omega (arith, there, m.count))
          ∙ sym (any_append k m.seen (n ∷ []) ∙ last_is (list_any (nat_eq k) m.seen) (nat_eq k n) q)
      flag_at new set k h false q =
          ap (λ fs. slice_index_or fs k false) set ∙ get_or-set_other flags n k true false (λ (s : k ≡ n). true≢false (sym (eq-eqb k n s) ∙ q)) ∙ m.flags_are k h
          ∙ sym (any_append k m.seen (n ∷ []) ∙ last_not (list_any (nat_eq k) m.seen) (nat_eq k n) q)

      pub marking_next : slice_index_or flags n false ≡ false → (new : List Bool) → new ≡ slice_set flags n true → IsMarking o c all rest new
      marking_next off new set =
          record {
            seen = m.seen ++ n ∷ [];
            left_is = sym (ap (λ b. cond b None (members_in o c (m.seen ++ n ∷ []) rest)) (sym (m.flags_are n there) ∙ off)) ∙ here;
            count = ap length set ∙ length-set flags n true ∙ m.count;
            flags_are = λ k h. flag_at new set k h (nat_eq k n) refl;
          }

  -- the marks of the members, read at the objects of the extent
  read_marks : (cs : List Class) (xs : List Object) (i : ℕ) (seen : List ℕ) (flags : List Bool) → ((n : ℕ) → n < i + length xs → slice_index_or flags n false ≡ list_any (nat_eq n) seen) → marked (extent_from cs c i xs) flags ≡ marks (extent_from cs c i xs) seen
  read_marks cs [] i seen flags are = refl
  read_marks cs (x ∷ xs) i seen flags are = by (is_a cs x.class c) (read_marks cs xs (i + 1) seen flags (λ n h. are n (omega (arith, h)))) (are i (omega arith))
    where
      by : (b : Bool) → marked (extent_from cs c (i + 1) xs) flags ≡ marks (extent_from cs c (i + 1) xs) seen → slice_index_or flags i false ≡ list_any (nat_eq i) seen → marked (cond b (i ∷ extent_from cs c (i + 1) xs) (extent_from cs c (i + 1) xs)) flags ≡ marks (cond b (i ∷ extent_from cs c (i + 1) xs) (extent_from cs c (i + 1) xs)) seen
      by true rest h = ap (λ v. truth_number v ∷ marked (extent_from cs c (i + 1) xs) flags) h ∙ ap (λ vs. truth_number (list_any (nat_eq i) seen) ∷ vs) rest
      by false rest h = rest

  pub marking_end : (left : Items) (flags : List Bool) → left ≡ no_items → IsMarking o c all left flags → Some (marked (extent o c) flags) ≡ option_map (marks (extent o c)) (members_in o c [] all)
  marking_end left flags is m =
      ap Some (read_marks o.classes (objects o) 0 m.seen flags (λ n h. m.flags_are n (omega (arith, h))))
      ∙ ap (option_map (marks (extent o c))) (sym (ap (members_in o c m.seen) is) ∙ m.left_is)

-- an array that hasn't so many items
pub set_other : (o : Outline) (c count : ℕ) (found : Option Items) (vs : List Value) → found ≡ Some (items_view vs) → (length vs ≡ count → ⊥) → option_and_then (set_in o c count) found ≡ None
set_other o c count found vs is other =
    ap (option_and_then (set_in o c count)) is
    ∙ ap (λ b. cond b (option_map (marks (extent o c)) (members_in o c [] (items_view vs))) None) (ap (λ n. nat_eq n count) (items_len-items_view vs) ∙ differs (length vs) count other)

-- an array that has so many items
pub set_read : (o : Outline) (c count : ℕ) (found : Option Items) (vs : List Value) → found ≡ Some (items_view vs) → length vs ≡ count → option_and_then (set_in o c count) found ≡ option_map (marks (extent o c)) (members_in o c [] (items_view vs))
set_read o c count found vs is same =
    ap (option_and_then (set_in o c count)) is
    ∙ ap (λ b. cond b (option_map (marks (extent o c)) (members_in o c [] (items_view vs))) None) (ap (λ n. nat_eq n count) (items_len-items_view vs) ∙ eq-eqb (length vs) count same)
