-- The members of a reference set of a configuration, read back from their paths.
use Rattle.std.proofs.Common.{◌≡◌, ℕ, suc, ◌+◌, ◌<◌, ◌^◌, List, [], ◌∷◌, ◌++◌, None, Some, Bool, true, false, ◌||◌, cond, length, nat_eq, refl, sym, ap, ◌∙◌, arith, eq-eqb, append_assoc, append-nil, true≢false}
use Rattle.std.specs.Prelude.{ℤ, Contains, option_and_then, option_map}
use Rattle.std.specs.List.{list_any, cons_option}
use Rattle.std.proofs.lemmas.Bool.{eqb-true}
use Rattle.std.proofs.lemmas.List.Folds.{list_any-append, list_any_at}
use Rattle.class_table.specs.declared.table.Class.{Class}
use Rattle.class_table.specs.Outline.{Outline, is_a}
use Rattle.class_table.specs.Sound.{IsSound}
use Rattle.object_alloc.specs.declared.object.Leaf.{Leaf}
use Rattle.object_alloc.specs.declared.object.Object.{Object}
use Rattle.object_alloc.specs.Cells.{extent, extent_from, member_cells}
use Rattle.object_alloc.specs.Configurations.{AreValues}
use Rattle.object_alloc.specs.Members.{is_one}
use Rattle.object_alloc.specs.Paths.{object_named}
use Rattle.object_alloc.specs.Walk.{objects}
use Rattle.object_alloc.proofs.PathsDiffer.{path_named}
use Rattle.object_alloc.proofs.PickedMembers.{any_cell, picks}
use Rattle.serde_json.specs.Data.{Data}
use Rattle.serde_json.specs.Events.{items_len}
use Rattle.config_json.specs.Former.{marks, members_in, object_in, of_extent, set_in, truth_number}
use Rattle.config_json.proofs.Texts.{HasTexts}
use Rattle.config_json.specs.Tree.{all_data, path_data, paths_data}
use Rattle.config_json.proofs.CountLaws.{AreDistinct, extent_distinct}
use Rattle.config_json.proofs.Known.{differs}
use Rattle.config_json.proofs.OwnLeafValues.{truth_is}

-- Numbers of objects

less_of : (cs : List Class) (c m n : ℕ) (xs : List Object) → list_any (nat_eq n) (extent_from cs c m xs) ≡ true → n < m + length xs
less_of cs c m n [] e = absurd (true≢false (sym e))
less_of cs c m n (x ∷ xs) e = by (is_a cs x.class c) e (λ g. less_of cs c (m + 1) n xs g)
  where
    here : (b : Bool) → nat_eq n m ≡ b → (b || list_any (nat_eq n) (extent_from cs c (m + 1) xs)) ≡ true → (list_any (nat_eq n) (extent_from cs c (m + 1) xs) ≡ true → n < m + 1 + length xs) → n < m + suc (length xs)
    here true same e rest = let at = eqb-true n m same in omega (arith, at)
    here false same e rest = let less = rest e in omega (arith, less)

    by : (b : Bool) → list_any (nat_eq n) (cond b (m ∷ extent_from cs c (m + 1) xs) (extent_from cs c (m + 1) xs)) ≡ true → (list_any (nat_eq n) (extent_from cs c (m + 1) xs) ≡ true → n < m + 1 + length xs) → n < m + suc (length xs)
    by true e rest = here (nat_eq n m) refl e rest
    by false e rest = let less = rest e in omega (arith, less)

pub any_of : (xs : List ℕ) (n : ℕ) → Contains xs n → list_any (nat_eq n) xs ≡ true
any_of xs n h = list_any_at (nat_eq n) xs h.0 n h.1 (eq-eqb n _ (sym h.2))

-- Lists of numbers

turned : (m n : ℕ) → nat_eq m n ≡ false → nat_eq n m ≡ false
turned m n e = differs n m (λ same. true≢false (sym (eq-eqb m n (sym same)) ∙ e))

-- none of these is in the list
abbrev Apart : List ℕ → List ℕ → Type 0
Apart seen ns = (m : ℕ) → list_any (nat_eq m) ns ≡ true → list_any (nat_eq m) seen ≡ false

-- each is new among those before it
abbrev AreFresh : List ℕ → List ℕ → Type 0
AreFresh seen [] = Unit {0}
AreFresh seen (n ∷ ns) = (list_any (nat_eq n) seen ≡ false) × AreFresh (seen ++ n ∷ []) ns

either_false : (a b : Bool) → a ≡ false → b ≡ false → (a || b) ≡ false
either_false a b e f = rw (e, f) refl

behind_true : (a b : Bool) → b ≡ true → (a || b) ≡ true
behind_true true b e = refl
behind_true false b e = e

apart_more : (seen ns : List ℕ) (n : ℕ) → list_any (nat_eq n) ns ≡ false → Apart seen (n ∷ ns) → Apart (seen ++ n ∷ []) ns
apart_more seen ns n new apart m there =
    let other : nat_eq m n ≡ false = differs m n (λ same. true≢false (sym there ∙ ap (λ k. list_any (nat_eq k) ns) same ∙ new)) in
    list_any-append (nat_eq m) seen (n ∷ [])
    ∙ either_false (list_any (nat_eq m) seen) (nat_eq m n || false) (apart m (behind_true (nat_eq m n) (list_any (nat_eq m) ns) there)) (either_false (nat_eq m n) false other refl)

module _ (o : Outline) (l : Leaf) where
  -- what is picked is of the extent
  picks_apart : (n : ℕ) (ns : List ℕ) (vs : List ℤ) → list_any (nat_eq n) ns ≡ false → list_any (nat_eq n) (picks any_cell (member_cells l ns) vs) ≡ false
  picks_apart n [] vs e = refl
  picks_apart n (m ∷ ns) [] e = refl
  picks_apart n (m ∷ ns) (v ∷ vs) e = by (nat_eq n m) refl e (λ g. picks_apart n ns vs g)
    where
      kept : (b : Bool) → nat_eq n m ≡ false → list_any (nat_eq n) (picks any_cell (member_cells l ns) vs) ≡ false → list_any (nat_eq n) (cons_option (cond b (Some m) None) (picks any_cell (member_cells l ns) vs)) ≡ false
      kept true other rest = either_false (nat_eq n m) (list_any (nat_eq n) (picks any_cell (member_cells l ns) vs)) other rest
      kept false other rest = rest

      by : (b : Bool) → nat_eq n m ≡ b → (b || list_any (nat_eq n) ns) ≡ false → (list_any (nat_eq n) ns ≡ false → list_any (nat_eq n) (picks any_cell (member_cells l ns) vs) ≡ false) → list_any (nat_eq n) (cons_option (cond (is_one v) (Some m) None) (picks any_cell (member_cells l ns) vs)) ≡ false
      by true same e rest = absurd (true≢false e)
      by false same e rest = kept (is_one v) same (rest e)

  picks_fresh : (seen ns : List ℕ) (vs : List ℤ) → AreDistinct ns → Apart seen ns → AreFresh seen (picks any_cell (member_cells l ns) vs)
  picks_fresh seen [] vs d apart = tt
  picks_fresh seen (n ∷ ns) [] d apart = tt
  picks_fresh seen (n ∷ ns) (v ∷ vs) (new, d) apart =
      by (is_one v) (apart n (ap (λ b. b || list_any (nat_eq n) ns) (eq-eqb n n refl)))
      (picks_fresh (seen ++ n ∷ []) ns vs d (apart_more seen ns n new apart))
      (picks_fresh seen ns vs d (λ m there. apart m (behind_true (nat_eq m n) (list_any (nat_eq m) ns) there)))
    where
      by : (b : Bool) → list_any (nat_eq n) seen ≡ false → AreFresh (seen ++ n ∷ []) (picks any_cell (member_cells l ns) vs) → AreFresh seen (picks any_cell (member_cells l ns) vs) → AreFresh seen (cons_option (cond b (Some n) None) (picks any_cell (member_cells l ns) vs))
      by true first more same = (first, more)
      by false first more same = same

  -- a number that is in none of them changes no mark
  marks_other : (n : ℕ) (ns ms : List ℕ) → list_any (nat_eq n) ns ≡ false → marks ns (n ∷ ms) ≡ marks ns ms
  marks_other n [] ms e = refl
  marks_other n (m ∷ ns) ms e = by (nat_eq n m) refl e (λ g. marks_other n ns ms g)
    where
      by : (b : Bool) → nat_eq n m ≡ b → (b || list_any (nat_eq n) ns) ≡ false → (list_any (nat_eq n) ns ≡ false → marks ns (n ∷ ms) ≡ marks ns ms) → marks (m ∷ ns) (n ∷ ms) ≡ marks (m ∷ ns) ms
      by true same e rest = absurd (true≢false e)
      by false same e rest =
          ap (λ b. truth_number (b || list_any (nat_eq m) ms) ∷ marks ns (n ∷ ms)) (turned n m same) ∙ ap (λ (vs : List ℤ). truth_number (list_any (nat_eq m) ms) ∷ vs) (rest e)

  marks_back : (ns : List ℕ) (vs : List ℤ) → AreDistinct ns → AreValues o (member_cells l ns) vs → marks ns (picks any_cell (member_cells l ns) vs) ≡ vs
  marks_back [] [] d h = refl
  marks_back [] (v ∷ vs) d h = absurd h
  marks_back (n ∷ ns) [] d h = absurd h
  marks_back (n ∷ ns) (v ∷ vs) (new, d) (h, hs) = by (is_one v) (truth_is v h.0 h.1) (marks_back ns vs d hs)
    where
      by : (b : Bool) → truth_number b ≡ v → marks ns (picks any_cell (member_cells l ns) vs) ≡ vs → marks (n ∷ ns) (cons_option (cond b (Some n) None) (picks any_cell (member_cells l ns) vs)) ≡ v ∷ vs
      by true is rest =
          ap (λ b. truth_number (b || list_any (nat_eq n) (picks any_cell (member_cells l ns) vs)) ∷ marks ns (n ∷ picks any_cell (member_cells l ns) vs)) (eq-eqb n n refl)
          ∙ (λ i. is i ∷ (marks_other n ns (picks any_cell (member_cells l ns) vs) new ∙ rest) i)
      by false is rest = λ i. (ap truth_number (picks_apart n ns vs new) ∙ is) i ∷ rest i

-- Paths

count_data : (of : ℕ → Data) (ns : List ℕ) → items_len (all_data of ns) ≡ length ns
count_data of [] = refl
count_data of (n ∷ ns) = ap suc (count_data of ns)

-- each is of the extent
abbrev AreOf : Outline → ℕ → List ℕ → Type 0
AreOf o c [] = Unit {0}
AreOf o c (n ∷ ns) = (list_any (nat_eq n) (extent o c) ≡ true) × AreOf o c ns

module _ (o : Outline) (sound : IsSound o) (few : length (objects o) < 2 ^ 32) (texts : HasTexts o) where
  pub object_back : (c n : ℕ) → list_any (nat_eq n) (extent o c) ≡ true → object_in o c (path_data o n) ≡ Some n
  object_back c n there =
      let within : n < length (objects o) = (let less = less_of o.classes c 0 n (objects o) there in omega (arith, less)) in
      ap (λ text. option_and_then (of_extent o c) (object_named o text)) (texts.paths n within)
      ∙ ap (option_and_then (of_extent o c)) (path_named o sound few sound.named n within)
      ∙ ap (λ b. cond b (Some n) None) there

  members_back : (c : ℕ) (seen ns : List ℕ) → AreOf o c ns → AreFresh seen ns → members_in o c seen (paths_data o ns) ≡ Some (seen ++ ns)
  members_back c seen [] of fresh = ap Some (sym (append-nil seen))
  members_back c seen (n ∷ ns) (there, of) (new, fresh) =
      ap (option_and_then (λ m. cond (list_any (nat_eq m) seen) None (members_in o c (seen ++ m ∷ []) (paths_data o ns)))) (object_back c n there)
      ∙ ap (λ b. cond b None (members_in o c (seen ++ n ∷ []) (paths_data o ns))) new
      ∙ members_back c (seen ++ n ∷ []) ns of fresh
      ∙ ap Some (append_assoc seen (n ∷ []) ns)

  picks_of : (c : ℕ) (l : Leaf) (ns : List ℕ) (vs : List ℤ) → AreOf o c ns → AreOf o c (picks any_cell (member_cells l ns) vs)
  picks_of c l [] vs h = tt
  picks_of c l (n ∷ ns) [] h = tt
  picks_of c l (n ∷ ns) (v ∷ vs) (h, hs) = by (is_one v) (picks_of c l ns vs hs)
    where
      by : (b : Bool) → AreOf o c (picks any_cell (member_cells l ns) vs) → AreOf o c (cons_option (cond b (Some n) None) (picks any_cell (member_cells l ns) vs))
      by true rest = (h, rest)
      by false rest = rest

  all_of : (c : ℕ) (ns : List ℕ) → ((n : ℕ) → list_any (nat_eq n) ns ≡ true → list_any (nat_eq n) (extent o c) ≡ true) → AreOf o c ns
  all_of c [] h = tt
  all_of c (n ∷ ns) h = (h n (ap (λ b. b || list_any (nat_eq n) ns) (eq-eqb n n refl)), all_of c ns (λ m there. h m (behind_true (nat_eq m n) (list_any (nat_eq m) ns) there)))

  -- a set of so many members, from their paths
  pub set_back : (c count : ℕ) (l : Leaf) (vs : List ℤ) → AreValues o (member_cells l (extent o c)) vs → length (picks any_cell (member_cells l (extent o c)) vs) ≡ count → set_in o c count (paths_data o (picks any_cell (member_cells l (extent o c)) vs)) ≡ Some vs
  set_back c count l vs h size =
      let ns = picks any_cell (member_cells l (extent o c)) vs in
      let distinct = extent_distinct o c in
      ap (λ b. cond b (option_map (marks (extent o c)) (members_in o c [] (paths_data o ns))) None) (eq-eqb (items_len (paths_data o ns)) count (count_data (path_data o) ns ∙ size))
      ∙ ap (option_map (marks (extent o c))) (members_back c [] ns (picks_of c l (extent o c) vs (all_of c (extent o c) (λ n there. there))) (picks_fresh o l [] (extent o c) vs distinct (λ m there. refl)))
      ∙ ap Some (marks_back o l (extent o c) vs distinct h)
