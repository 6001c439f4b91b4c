-- What the slots of a list hold.
use Rattle.std.proofs.Common.{◌≡◌, ℕ, zero, suc, ◌+◌, ◌<◌, ◌≤◌, Bool, true, false, cond, List, [], ◌∷◌, Option, None, Some, refl, ap, sym, ◌∙◌, map, drop, get_or, length, ℤ, arith}
use Rattle.std.specs.Prelude.{All, filter_map, slice_get}
use Rattle.std.proofs.lemmas.List.Elements.{All-tail}
use Rattle.std.specs.List.{cons_option}
use Rattle.class_table.proofs.ListLaws.{drop_next}
use Rattle.class_table.specs.declared.table.Class.{Class}
use Rattle.class_table.specs.Outline.{Outline, is_a}
use Rattle.object_alloc.specs.declared.object.Object.{Object}
use Rattle.object_alloc.specs.Cells.{extent_from}
use Rattle.object_alloc.proofs.GroupLaws.{any_item}
use Rattle.conf_eval.specs.Listing.{extent_slots, held}

pub parts_held : (xs : List ℕ) → held (map Some xs) ≡ xs
parts_held [] = refl
parts_held (x ∷ xs) = ap (λ ys. x ∷ ys) (parts_held xs)

pub chosen_held : {X : Type 0} (f : X → Option ℕ) (xs : List X) → held (map f xs) ≡ filter_map f xs
chosen_held f [] = refl
chosen_held f (x ∷ xs) = ap (cons_option (f x)) (chosen_held f xs)

pub extent_held : (cs : List Class) (c n : ℕ) (xs : List Object) → held (extent_slots cs c n xs) ≡ extent_from cs c n xs
extent_held cs c n [] = refl
extent_held cs c n (x ∷ xs) = by (is_a cs x.class c) (extent_held cs c (n + 1) xs)
  where
    by : (b : Bool) → held (extent_slots cs c (n + 1) xs) ≡ extent_from cs c (n + 1) xs → cons_option (cond b (Some n) None) (held (extent_slots cs c (n + 1) xs)) ≡ cond b (n ∷ extent_from cs c (n + 1) xs) (extent_from cs c (n + 1) xs)
    by true h = ap (λ ys. n ∷ ys) h
    by false h = h

pub extent_count : (cs : List Class) (c n : ℕ) (xs : List Object) → length (extent_slots cs c n xs) ≡ length xs
extent_count cs c n [] = refl
extent_count cs c n (x ∷ xs) = ap suc (extent_count cs c (n + 1) xs)

-- slot i is that of object i
pub extent_slot : (cs : List Class) (c n : ℕ) (xs : List Object) (i : ℕ) (d : Object) → i < length xs → get_or (extent_slots cs c n xs) i None ≡ cond (is_a cs (get_or xs i d).class c) (Some (n + i)) None
extent_slot cs c n [] i d h = absurd (omega (arith, h))
extent_slot cs c n (x ∷ xs) zero d h = let same : n ≡ n + 0 = omega arith in ap (λ m. cond (is_a cs x.class c) (Some m) None) same
extent_slot cs c n (x ∷ xs) (suc i) d h =
    let same : (n + 1) + i ≡ n + suc i = omega arith in
    extent_slot cs c (n + 1) xs i d (omega (arith, h)) ∙ ap (λ m. cond (is_a cs (get_or xs i d).class c) (Some m) None) same

-- behind the last object there is no slot
pub no_extent_slot : (cs : List Class) (c n : ℕ) (xs : List Object) (i : ℕ) → length xs ≤ i → get_or (extent_slots cs c n xs) i None ≡ None
no_extent_slot cs c n [] i h = refl
no_extent_slot cs c n (x ∷ xs) zero h = absurd (omega (arith, h))
no_extent_slot cs c n (x ∷ xs) (suc i) h = no_extent_slot cs c (n + 1) xs i (omega (arith, h))

pub some_slot : (xs : List ℕ) (i : ℕ) → slice_get xs i ≡ get_or (map Some xs) i None
some_slot [] i = refl
some_slot (x ∷ xs) zero = refl
some_slot (x ∷ xs) (suc i) = some_slot xs i

pub mapped_none : {X : Type 0} (f : X → Option ℕ) (xs : List X) (i : ℕ) → slice_get xs i ≡ None → get_or (map f xs) i None ≡ None
mapped_none f [] i h = refl
mapped_none f (x ∷ xs) zero h = absurd cc
mapped_none f (x ∷ xs) (suc i) h = mapped_none f xs i h

pub mapped_some : {X : Type 0} (f : X → Option ℕ) (xs : List X) (i : ℕ) (x : X) → slice_get xs i ≡ Some x → get_or (map f xs) i None ≡ f x
mapped_some f [] i x h = absurd cc
mapped_some f (y ∷ ys) zero x h = ap f (injective h)
  where
    injective : Some y ≡ Some x → y ≡ x
    injective e = cc
mapped_some f (y ∷ ys) (suc i) x h = mapped_some f ys i x h

-- what is held from slot i on
pub held_next : (ss : List (Option ℕ)) (i : ℕ) → i < length ss → held (drop i ss) ≡ cons_option (get_or ss i None) (held (drop (i + 1) ss))
held_next ss i h = ap held (drop_next ss i (get_or ss i None) h (any_item ss i None (get_or ss i None) h))

pub held_end : (ss : List (Option ℕ)) (i : ℕ) → length ss ≤ i → held (drop i ss) ≡ []
held_end [] zero h = refl
held_end [] (suc i) h = refl
held_end (s ∷ ss) zero h = absurd (omega (arith, h))
held_end (s ∷ ss) (suc i) h = held_end ss i (omega (arith, h))

pub own_extent_slot : (cs : List Class) (c : ℕ) (xs : List Object) (i : ℕ) (d : Object) (b : Bool) → i < length xs → b ≡ is_a cs (get_or xs i d).class c → cond b (Some i) None ≡ get_or (extent_slots cs c 0 xs) i None
own_extent_slot cs c xs i d b h e =
    let same : i ≡ 0 + i = omega arith in
    ap (λ m. cond b (Some m) None) same ∙ ap (λ t. cond t (Some (0 + i)) None) e ∙ sym (extent_slot cs c 0 xs i d h)

-- what holds of all that is held holds of what is held from a slot on
pub held_rest : (P : ℕ → Type 0) (ss : List (Option ℕ)) (i : ℕ) → All P (held ss) → All P (held (drop i ss))
held_rest P [] zero h = h
held_rest P [] (suc i) h = h
held_rest P (s ∷ ss) zero h = h
held_rest P (None ∷ ss) (suc i) h = held_rest P ss i h
held_rest P (Some x ∷ ss) (suc i) h = held_rest P ss i (All-tail P x (held ss) h)

pub held_fewer : (ss : List (Option ℕ)) (i : ℕ) → length (held (drop i ss)) ≤ length (held ss)
held_fewer [] zero = omega arith
held_fewer [] (suc i) = omega arith
held_fewer (s ∷ ss) zero = omega arith
held_fewer (None ∷ ss) (suc i) = held_fewer ss i
held_fewer (Some x ∷ ss) (suc i) = let r = held_fewer ss i in omega (arith, r)
