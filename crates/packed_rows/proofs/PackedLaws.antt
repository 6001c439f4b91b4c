-- Packed items, one after the other.
use Rattle.std.proofs.Common.{◌≡◌, ℕ, suc, ◌<◌, Bool, true, false, cond, List, [], ◌∷◌, ◌++◌, ℤ, pos, ◌+ℤ◌, ◌-ℤ◌, length, length-append, refl, sym, ap, ◌∙◌, subst, arith}
use Rattle.std.specs.List.{All}
use Rattle.std.specs.Ordering.{int_eq}
use Rattle.std.proofs.lemmas.Int.{ints}
use Rattle.std.proofs.lemmas.List.{get_or_append_left}
use Rattle.std.proofs.lemmas.List.Elements.{All-nil, All-push, All-weaker}
use Rattle.ground_form.specs.declared.ground.Ground.{Ground}
use Rattle.ground_form.specs.Meaning.{value_of, load_at}
use Rattle.ground_build.specs.Growing.{AreItemVariables}
use Rattle.form_build.specs.Worlds.{Grows}
use Rattle.form_build.proofs.Growth.{world_before, no_less}
use Rattle.packed_rows.specs.declared.row.Row.{Row}
use Rattle.packed_rows.specs.Loads.{load_of}
use Rattle.packed_rows.specs.Plans.{filling, ArePacked, IsConstant}

-- ---- sums of lists, one behind the other

step : (b : Bool) (s r q t : ℤ) → r ≡ (q +ℤ t) → cond b (s +ℤ r) r ≡ (cond b (s +ℤ q) q +ℤ t)
step true s r q t e = omega (arith, ints, e)
step false s r q t e = e

nought_first : (t : ℤ) → t ≡ (pos 0 +ℤ t)
nought_first t = omega (arith, ints)

pub load_behind : (bin : ℤ) (xs ys : List (ℕ × ℕ × ℕ)) (a : List ℤ) → load_at bin (xs ++ ys) a ≡ (load_at bin xs a +ℤ load_at bin ys a)
load_behind bin [] ys a = nought_first (load_at bin ys a)
load_behind bin (x ∷ xs) ys a =
    step (int_eq (value_of a x.0) bin) (value_of a x.1) (load_at bin (xs ++ ys) a) (load_at bin xs a) (load_at bin ys a) (load_behind bin xs ys a)

pub items_behind : (bin : ℤ) (xs ys : List (ℕ × ℤ)) (a : List ℤ) → load_of bin (xs ++ ys) a ≡ (load_of bin xs a +ℤ load_of bin ys a)
items_behind bin [] ys a = nought_first (load_of bin ys a)
items_behind bin (x ∷ xs) ys a =
    step (int_eq (value_of a x.0) bin) x.1 (load_of bin (xs ++ ys) a) (load_of bin xs a) (load_of bin ys a) (items_behind bin xs ys a)

pub filling_behind : (most bin : ℤ) (xs ys : List Row) → filling most bin (xs ++ ys) ≡ (filling most bin xs +ℤ filling most bin ys)
filling_behind most bin [] ys = nought_first (filling most bin ys)
filling_behind most bin (r ∷ xs) ys =
    step (int_eq r.bin bin) (most -ℤ r.room) (filling most bin (xs ++ ys)) (filling most bin xs) (filling most bin ys) (filling_behind most bin xs ys)

-- ---- all of two lists

front_all : {X : Type 0} (P : X → Type 0) (xs ys : List X) → All P (xs ++ ys) → All P xs
front_all P xs ys h k d lt = subst P (get_or_append_left xs ys d k lt) (h k d (omega (arith, length-append xs ys, lt)))

last_all : {X : Type 0} (P : X → Type 0) (xs : List X) (y : X) → All P (xs ++ y ∷ []) → P y
last_all P [] y h = h 0 y (omega arith)
last_all P (x ∷ xs) y h = last_all P xs y (λ j e l. h (suc j) e (omega (arith, l)))

-- ---- packed items

pub packed_none : (g : Ground) (most : ℤ) → ArePacked g [] [] most []
packed_none g most = record {
  exist = All-nil (AreItemVariables g);
  load = λ a w bin. refl;
  at_bins = λ test a w items fillers. All-nil (λ (p : ℕ × ℕ × ℕ). test (value_of a p.0) ≡ true);
  rooms = λ a w. All-nil (λ (p : ℕ × ℕ × ℕ). value_of a p.2 ≡ most);
}

there : (old new : Ground) (packed : List (ℕ × ℕ × ℕ)) → Grows old new → All (AreItemVariables old) packed → All (AreItemVariables new) packed
there old new packed g h =
    All-weaker (AreItemVariables old) (AreItemVariables new)
    (λ r t. let less = no_less old new g in (omega (arith, less, t.0), omega (arith, less, t.1), omega (arith, less, t.2))) packed h

-- they are so in a problem that grew
pub packed_kept : (old new : Ground) (items : List (ℕ × ℤ)) (fillers : List Row) (most : ℤ) (packed : List (ℕ × ℕ × ℕ)) → Grows old new → ArePacked old items fillers most packed → ArePacked new items fillers most packed
packed_kept old new items fillers most packed g h = record {
  exist = there old new packed g h.exist;
  load = λ a w. h.load a (world_before old new a g w);
  at_bins = λ test a w. h.at_bins test a (world_before old new a g w);
  rooms = λ a w. h.rooms a (world_before old new a g w);
}

pub constant_kept : (old new : Ground) (x : ℕ) (v : ℤ) → Grows old new → IsConstant old x v → IsConstant new x v
constant_kept old new x v g h = record {
  exists = let less = no_less old new g in omega (arith, less, h.exists);
  value = λ a w. h.value a (world_before old new a g w);
}

one_load : (b : Bool) (s v m n : ℤ) → s ≡ v → (m +ℤ cond b (s +ℤ pos 0) (pos 0)) ≡ n → (m +ℤ cond b (v +ℤ pos 0) (pos 0)) ≡ n
one_load b s v m n e h = ap (λ (z : ℤ). m +ℤ cond b (z +ℤ pos 0) (pos 0)) (sym e) ∙ h

sum_first : (p i f q l : ℤ) → p ≡ (i +ℤ f) → l ≡ (p +ℤ q) → l ≡ ((i +ℤ q) +ℤ f)
sum_first p i f q l e h = omega (arith, ints, e, h)

sum_last : (p i f q l : ℤ) → p ≡ (i +ℤ f) → l ≡ (p +ℤ q) → l ≡ (i +ℤ (f +ℤ q))
sum_last p i f q l e h = omega (arith, ints, e, h)

-- one more item
pub item_more : (g : Ground) (items : List (ℕ × ℤ)) (i : ℕ × ℤ) (most : ℤ) (packed : List (ℕ × ℕ × ℕ)) (size room : ℕ) → i.0 < length g.domains → IsConstant g size i.1 → IsConstant g room most → ArePacked g items [] most packed → ArePacked g (items ++ i ∷ []) [] most (packed ++ (i.0, size, room) ∷ [])
item_more g items i most packed size room lt s r h = record {
  exist = All-push (AreItemVariables g) packed (i.0, size, room) h.exist (lt, s.exists, r.exists);
  load = λ a w bin.
      let before = h.load a w bin in
      let one : load_at bin ((i.0, size, room) ∷ []) a ≡ load_of bin (i ∷ []) a = ap (λ (v : ℤ). cond (int_eq (value_of a i.0) bin) (v +ℤ pos 0) (pos 0)) (s.value a w) in
      load_behind bin packed ((i.0, size, room) ∷ []) a
      ∙ ap (λ (n : ℤ). load_at bin packed a +ℤ n) one
      ∙ sum_first (load_at bin packed a) (load_of bin items a) (pos 0) (load_of bin (i ∷ []) a) (load_at bin packed a +ℤ load_of bin (i ∷ []) a) before refl
      ∙ ap (λ (n : ℤ). n +ℤ pos 0) (sym (items_behind bin items (i ∷ []) a));
  at_bins = λ test a w all fillers.
      All-push (λ (p : ℕ × ℕ × ℕ). test (value_of a p.0) ≡ true) packed (i.0, size, room)
      (h.at_bins test a w (front_all (λ (j : ℕ × ℤ). test (value_of a j.0) ≡ true) items (i ∷ []) all) fillers)
      (last_all (λ (j : ℕ × ℤ). test (value_of a j.0) ≡ true) items i all);
  rooms = λ a w. All-push (λ (p : ℕ × ℕ × ℕ). value_of a p.2 ≡ most) packed (i.0, size, room) (h.rooms a w) (r.value a w);
}

-- one more filling
pub filler_more : (g : Ground) (items : List (ℕ × ℤ)) (rows : List Row) (q : Row) (most : ℤ) (packed : List (ℕ × ℕ × ℕ)) (bin size room : ℕ) → IsConstant g bin q.bin → IsConstant g size (most -ℤ q.room) → IsConstant g room most → ArePacked g items rows most packed → ArePacked g items (rows ++ q ∷ []) most (packed ++ (bin, size, room) ∷ [])
filler_more g items rows q most packed x size room p s r h = record {
  exist = All-push (AreItemVariables g) packed (x, size, room) h.exist (p.exists, s.exists, r.exists);
  load = λ a w bin.
      let before = h.load a w bin in
      let one : load_at bin ((x, size, room) ∷ []) a ≡ filling most bin (q ∷ []) =
      ap (λ (v : ℤ). cond (int_eq v bin) (value_of a size +ℤ pos 0) (pos 0)) (p.value a w)
      ∙ ap (λ (v : ℤ). cond (int_eq q.bin bin) (v +ℤ pos 0) (pos 0)) (s.value a w) in
      load_behind bin packed ((x, size, room) ∷ []) a
      ∙ ap (λ (n : ℤ). load_at bin packed a +ℤ n) one
      ∙ sum_last (load_at bin packed a) (load_of bin items a) (filling most bin rows) (filling most bin (q ∷ [])) (load_at bin packed a +ℤ filling most bin (q ∷ [])) before refl
      ∙ ap (λ (n : ℤ). load_of bin items a +ℤ n) (sym (filling_behind most bin rows (q ∷ [])));
  at_bins = λ test a w all fillers.
      All-push (λ (p : ℕ × ℕ × ℕ). test (value_of a p.0) ≡ true) packed (x, size, room)
      (h.at_bins test a w all (front_all (λ (j : Row). test j.bin ≡ true) rows (q ∷ []) fillers))
      (ap test (p.value a w) ∙ last_all (λ (j : Row). test j.bin ≡ true) rows q fillers);
  rooms = λ a w. All-push (λ (p : ℕ × ℕ × ℕ). value_of a p.2 ≡ most) packed (x, size, room) (h.rooms a w) (r.value a w);
}

none_filled : (b : Bool) (n : ℤ) → n ≡ pos 0 → cond b (n +ℤ pos 0) (pos 0) ≡ pos 0
none_filled true n e = omega (arith, ints, e)
none_filled false n e = refl

-- a filling of nothing
pub filler_none : (g : Ground) (items : List (ℕ × ℤ)) (rows : List Row) (q : Row) (most : ℤ) (packed : List (ℕ × ℕ × ℕ)) → (most -ℤ q.room) ≡ pos 0 → ArePacked g items rows most packed → ArePacked g items (rows ++ q ∷ []) most packed
filler_none g items rows q most packed e h = record {
  exist = h.exist;
  load = λ a w bin.
      let before = h.load a w bin in
      let behind = filling_behind most bin rows (q ∷ []) in
      let none = none_filled (int_eq q.bin bin) (most -ℤ q.room) e in
      omega (arith, ints, before, behind, none);
  at_bins = λ test a w all fillers. h.at_bins test a w all (front_all (λ (j : Row). test j.bin ≡ true) rows (q ∷ []) fillers);
  rooms = h.rooms;
}
