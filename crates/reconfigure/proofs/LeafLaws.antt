-- Changes, leaf by leaf.
use Rattle.std.proofs.Common.{◌≡◌, ℕ, zero, suc, ◌+◌, ◌<◌, ◌≤◌, Bool, true, false, not, ◌&&◌, ◌||◌, cond, List, [], ◌∷◌, ℤ, pos, ◌+ℤ◌, Option, Some, length, length-append, nat_eq, take, drop, get_or, refl, sym, ap, ◌∙◌, arith}
use Rattle.std.specs.Prelude.{Contains, int_le, slice_get}
use Rattle.std.specs.List.{flat_map}
use Rattle.std.proofs.lemmas.Int.{ints}
use Rattle.std.proofs.lemmas.List.{length-map, drop-drop, drop_all}
use Rattle.class_table.specs.Outline.{Outline}
use Rattle.class_table.specs.Sound.{IsSound}
use Rattle.object_alloc.specs.declared.object.Leaf.{Leaf}
use Rattle.object_alloc.specs.Cells.{cells, leaf_cells}
use Rattle.object_alloc.specs.Changes.{changes_of, differs, is_changed}
use Rattle.object_alloc.specs.Groups.{own_cells}
use Rattle.object_alloc.specs.Own.{inside_of, IsOwned}
use Rattle.object_alloc.specs.Walk.{leaf, leaves_in, walk}
use Rattle.object_alloc.proofs.HeldLeaves.{leaf_held}
use Rattle.object_alloc.proofs.OwnLaws.{owned}
use Rattle.signed_clause.specs.Ranges.{Ranges, has}
use Rattle.ground_form.specs.Meaning.{value_of, bit}

-- ---- one cell

pub other_is : (box others : Ranges) (w v : ℤ) → has box v ≡ true → has others v ≡ (has box v && not (has ((w, w) ∷ []) v)) → has others v ≡ differs (Some w) v
other_is box others w v e h =
    h ∙ ap (λ b. b && not (has ((w, w) ∷ []) v)) e ∙ ap not (or_none (int_le w v && int_le v w))
  where
    or_none : (b : Bool) → (b || false) ≡ b
    or_none true = refl
    or_none false = refl

-- ---- the cells of a leaf

drop_next : {X : Type 0} (xs : List X) (i : ℕ) (x : X) → i < length xs → drop i xs ≡ get_or xs i x ∷ drop (suc i) xs
drop_next [] i x lt = absurd (omega (arith, lt))
drop_next (y ∷ xs) zero x lt = refl
drop_next (y ∷ xs) (suc i) x lt = drop_next xs i x (omega (arith, lt))

or_move : (d o r : Bool) → ((d || o) || r) ≡ (o || (d || r))
or_move true true r = refl
or_move true false r = refl
or_move false true r = refl
or_move false false r = refl

changed_step : (hints : List (Option ℤ)) (vs : List ℤ) (i j : ℕ) (h : Option ℤ) → i < length hints → h ≡ get_or hints i h → j < length vs → is_changed (drop i hints) (drop j vs) ≡ (differs h (value_of vs j) || is_changed (drop (suc i) hints) (drop (suc j) vs))
changed_step hints vs i j h lt e low =
    ap (λ (hs : List (Option ℤ)). is_changed hs (drop j vs)) (drop_next hints i h lt)
    ∙ ap (λ (ws : List ℤ). is_changed (get_or hints i h ∷ drop (suc i) hints) ws) (drop_next vs j (pos 0) low)
    ∙ ap (λ (k : Option ℤ). differs k (value_of vs j) || is_changed (drop (suc i) hints) (drop (suc j) vs)) (sym e)

-- one cell more
pub changed_next : (hints : List (Option ℤ)) (vs : List ℤ) (i first : ℕ) (h : Option ℤ) (old new all : Bool) → i < length hints → h ≡ get_or hints i h → first + i < length vs → new ≡ (differs h (value_of vs (first + i)) || old) → (old || is_changed (drop i hints) (drop (first + i) vs)) ≡ all → (new || is_changed (drop (i + 1) hints) (drop (first + (i + 1)) vs)) ≡ all
changed_next hints vs i first h old new all lt e low is rest =
    let next : i + 1 ≡ suc i = omega arith in
    let there : first + (i + 1) ≡ suc (first + i) = omega arith in
    let behind = is_changed (drop (suc i) hints) (drop (suc (first + i)) vs) in
    ap (λ (n : ℕ). new || is_changed (drop n hints) (drop (first + (i + 1)) vs)) next
    ∙ ap (λ (n : ℕ). new || is_changed (drop (suc i) hints) (drop n vs)) there
    ∙ ap (λ (b : Bool). b || behind) is
    ∙ or_move (differs h (value_of vs (first + i))) old behind
    ∙ ap (λ (b : Bool). old || b) (sym (changed_step hints vs i (first + i) h lt e low))
    ∙ rest

pub changed_all : (hints : List (Option ℤ)) (vs : List ℤ) (i n : ℕ) (now all : Bool) → length hints ≤ i → (now || is_changed (drop i hints) (drop n vs)) ≡ all → now ≡ all
changed_all hints vs i n now all le e =
    sym (or_none now) ∙ ap (λ (hs : List (Option ℤ)). now || is_changed hs (drop n vs)) (sym (drop_all i hints le)) ∙ e
  where
    or_none : (b : Bool) → (b || false) ≡ b
    or_none true = refl
    or_none false = refl

-- ---- a leaf

-- values behind the hints don't count
pub changed_front : (n : ℕ) (hs : List (Option ℤ)) (vs : List ℤ) → is_changed (take n hs) (take n vs) ≡ is_changed (take n hs) vs
changed_front zero hs vs = refl
changed_front (suc n) [] vs = refl
changed_front (suc n) (h ∷ hs) [] = refl
changed_front (suc n) (h ∷ hs) (v ∷ vs) = ap (λ (b : Bool). differs h v || b) (changed_front n hs vs)

counted : (c c' : ℤ) (b : Bool) (behind : ℕ) → c' ≡ (c +ℤ bit b) → (c +ℤ pos (cond b (suc behind) behind)) ≡ (c' +ℤ pos behind)
counted c c' true behind e = omega (arith, ints, e)
counted c c' false behind e = omega (arith, ints, e)

-- the changes from a leaf on are its own and those behind it
pub leaf_step : (o : Outline) (ls : List Leaf) (i n : ℕ) (l : Leaf) (hs : List (Option ℤ)) (vs : List ℤ) → i < length ls → l ≡ get_or ls i l → n ≡ length (leaf_cells o l) →
    changes_of o (drop i ls) hs vs ≡ cond (is_changed (take n hs) (take n vs)) (suc (changes_of o (drop (suc i) ls) (drop n hs) (drop n vs))) (changes_of o (drop (suc i) ls) (drop n hs) (drop n vs))
leaf_step o ls i n l hs vs lt e size =
    ap (λ (ks : List Leaf). changes_of o ks hs vs) (drop_next ls i l lt)
    ∙ ap (λ (k : Leaf). changes_of o (k ∷ drop (suc i) ls) hs vs) (sym e)
    ∙ ap (λ (m : ℕ). cond (is_changed (take m hs) (take m vs)) (suc (changes_of o (drop (suc i) ls) (drop m hs) (drop m vs))) (changes_of o (drop (suc i) ls) (drop m hs) (drop m vs))) (sym size)

one_more : (c c' behind all : ℕ) (b : Bool) → c' ≡ (c + cond b 1 0) → (c + cond b (suc behind) behind) ≡ all → (c' + behind) ≡ all
one_more c c' behind all true e h = omega (arith, e, h)
one_more c c' behind all false e h = omega (arith, e, h)

pub at_most : (c c' : ℕ) (b : Bool) → c' ≡ (c + cond b 1 0) → c' ≤ c + 1
at_most c c' true e = omega (arith, e)
at_most c c' false e = omega (arith, e)

-- the changes of one leaf more
pub leaf_changes : (o : Outline) (ls : List Leaf) (i first n : ℕ) (l : Leaf) (hs : List (Option ℤ)) (vs : List ℤ) (c c' all : ℕ) → i < length ls → l ≡ get_or ls i l → n ≡ length (leaf_cells o l) →
    c' ≡ (c + cond (is_changed (take n (drop first hs)) (take n (drop first vs))) 1 0) →
    (c + changes_of o (drop i ls) (drop first hs) (drop first vs)) ≡ all →
    (c' + changes_of o (drop (i + 1) ls) (drop (first + n) hs) (drop (first + n) vs)) ≡ all
leaf_changes o ls i first n l hs vs c c' all lt e size is rest =
    let next : i + 1 ≡ suc i = omega arith in
    let behind = changes_of o (drop (suc i) ls) (drop n (drop first hs)) (drop n (drop first vs)) in
    ap (λ (k : ℕ). c' + changes_of o (drop k ls) (drop (first + n) hs) (drop (first + n) vs)) next
    ∙ ap (λ (ks : List (Option ℤ)). c' + changes_of o (drop (suc i) ls) ks (drop (first + n) vs)) (sym (drop-drop n first hs))
    ∙ ap (λ (ks : List ℤ). c' + changes_of o (drop (suc i) ls) (drop n (drop first hs)) ks) (sym (drop-drop n first vs))
    ∙ one_more c c' behind all (is_changed (take n (drop first hs)) (take n (drop first vs))) is
    (ap (λ (k : ℕ). c + k) (sym (leaf_step o ls i n l (drop first hs) (drop first vs) lt e size)) ∙ rest)

-- one leaf more
pub leaf_counted : (o : Outline) (ls : List Leaf) (i first n : ℕ) (l : Leaf) (hs : List (Option ℤ)) (vs : List ℤ) (c c' all : ℤ) → i < length ls → l ≡ get_or ls i l → n ≡ length (leaf_cells o l) →
    c' ≡ (c +ℤ bit (is_changed (take n (drop first hs)) (drop first vs))) →
    (c +ℤ pos (changes_of o (drop i ls) (drop first hs) (drop first vs))) ≡ all →
    (c' +ℤ pos (changes_of o (drop (i + 1) ls) (drop (first + n) hs) (drop (first + n) vs))) ≡ all
leaf_counted o ls i first n l hs vs c c' all lt e size is rest =
    let next : i + 1 ≡ suc i = omega arith in
    let behind = changes_of o (drop (suc i) ls) (drop n (drop first hs)) (drop n (drop first vs)) in
    let step : changes_of o (drop i ls) (drop first hs) (drop first vs) ≡ cond (is_changed (take n (drop first hs)) (drop first vs)) (suc behind) behind =
    leaf_step o ls i n l (drop first hs) (drop first vs) lt e size
    ∙ ap (λ (b : Bool). cond b (suc behind) behind) (changed_front n (drop first hs) (drop first vs)) in
    ap (λ (k : ℕ). c' +ℤ pos (changes_of o (drop k ls) (drop (first + n) hs) (drop (first + n) vs))) next
    ∙ ap (λ (ks : List (Option ℤ)). c' +ℤ pos (changes_of o (drop (suc i) ls) ks (drop (first + n) vs))) (sym (drop-drop n first hs))
    ∙ ap (λ (ks : List ℤ). c' +ℤ pos (changes_of o (drop (suc i) ls) (drop n (drop first hs)) ks)) (sym (drop-drop n first vs))
    ∙ sym (counted c c' (is_changed (take n (drop first hs)) (drop first vs)) behind is)
    ∙ ap (λ (k : ℕ). c +ℤ pos k) (sym step)
    ∙ rest

pub leaves_counted : (o : Outline) (ls : List Leaf) (i : ℕ) (hs : List (Option ℤ)) (vs : List ℤ) (c all : ℤ) → length ls ≤ i → (c +ℤ pos (changes_of o (drop i ls) hs vs)) ≡ all → c ≡ all
leaves_counted o ls i hs vs c all le e =
    none_more c ∙ ap (λ (ks : List Leaf). c +ℤ pos (changes_of o ks hs vs)) (sym (drop_all i ls le)) ∙ e
  where
    none_more : (z : ℤ) → z ≡ (z +ℤ pos 0)
    none_more z = omega (arith, ints)

pub counted_first : (c : ℤ) (n : ℕ) → c ≡ pos 0 → (c +ℤ pos n) ≡ pos n
counted_first c n e = omega (arith, ints, e)

pub nothing_more : (c : ℤ) → c ≡ (c +ℤ bit false)
nothing_more c = omega (arith, ints)

pub no_hints : (hs : List (Option ℤ)) (vs : List ℤ) → length hs ≡ 0 → is_changed hs vs ≡ false
no_hints [] vs e = refl
no_hints (h ∷ hs) vs e = absurd (omega (arith, e))

-- ---- how many cells a leaf has

module _ (o : Outline) where
  -- the leaf's cells are those of its attribute
  pub own_count : IsSound o → (l : Leaf) → Contains (leaves_in (walk o)) l → length (own_cells o l.owner l.attribute) ≡ length (leaf_cells o l)
  own_count sound l has =
      let at = contained_at (leaves_in (walk o)) l has in
      let h = leaf_held o at.0 l at.1 in
      let own : IsOwned o l.owner l.attribute h.variable.shape = owned o sound l.owner l.attribute h.variable h.owner h.has in
      sym (length-map (own_cells o l.owner l.attribute) (slice_get (cells o)))
      ∙ ap length own.cells
      ∙ length-map (leaf_cells o (leaf (inside_of o l.owner) l.attribute h.variable.shape)) Some
      ∙ ap (λ s. length (leaf_cells o (leaf (inside_of o l.owner) l.attribute s))) h.shape
    where
      contained_at : (ls : List Leaf) (m : Leaf) → Contains ls m → (i : ℕ) × (slice_get ls i ≡ Some m)
      contained_at [] m c = absurd (omega (arith, c.1))
      contained_at (k ∷ ls) m (zero, lt, e) = (0, ap (λ (x : Leaf). Some x) e)
      contained_at (k ∷ ls) m (suc i, lt, e) = let r = contained_at ls m (i, omega (arith, lt), e) in (suc r.0, r.1)

  -- those of the leaves from here on, and of the next ones
  pub cells_left : (ls : List Leaf) (i n : ℕ) (l : Leaf) → i < length ls → l ≡ get_or ls i l → n ≡ length (leaf_cells o l) → length (flat_map (leaf_cells o) (drop i ls)) ≡ n + length (flat_map (leaf_cells o) (drop (i + 1) ls))
  cells_left ls i n l lt e size =
      let next : i + 1 ≡ suc i = omega arith in
      ap (λ (ks : List Leaf). length (flat_map (leaf_cells o) ks)) (drop_next ls i l lt)
      ∙ ap (λ (k : Leaf). length (flat_map (leaf_cells o) (k ∷ drop (suc i) ls))) (sym e)
      ∙ length-append (leaf_cells o l) (flat_map (leaf_cells o) (drop (suc i) ls))
      ∙ ap (λ (m : ℕ). m + length (flat_map (leaf_cells o) (drop (suc i) ls))) (sym size)
      ∙ ap (λ (k : ℕ). n + length (flat_map (leaf_cells o) (drop k ls))) (sym next)

  -- the cells of a leaf stand among all
  pub within_cells : (ls : List Leaf) (i first n : ℕ) (l : Leaf) → i < length ls → l ≡ get_or ls i l → n ≡ length (leaf_cells o l) → first + length (flat_map (leaf_cells o) (drop i ls)) ≡ length (cells o) → first + n ≤ length (cells o)
  within_cells ls i first n l lt e size left = let split = cells_left ls i n l lt e size in omega (arith, split, left)

  pub left_next : (ls : List Leaf) (i first n : ℕ) (l : Leaf) → i < length ls → l ≡ get_or ls i l → n ≡ length (leaf_cells o l) → first + length (flat_map (leaf_cells o) (drop i ls)) ≡ length (cells o) → (first + n) + length (flat_map (leaf_cells o) (drop (i + 1) ls)) ≡ length (cells o)
  left_next ls i first n l lt e size left = let split = cells_left ls i n l lt e size in omega (arith, split, left)

  pub left_first : 0 + length (flat_map (leaf_cells o) (leaves_in (walk o))) ≡ length (cells o)
  left_first = omega arith

pub not_empty : (n : ℕ) (b : Bool) → b ≡ nat_eq n 0 → b ≡ false → 1 ≤ n
not_empty zero b e f = let t : true ≡ false = sym e ∙ f in cc
not_empty (suc n) b e f = omega arith
