-- Packings by their constants.
use Rattle.std.proofs.Common.{◌≡◌, ℕ, ◌+◌, ◌<◌, ◌≤◌, Bool, true, false, cond, List, [], ◌∷◌, ◌++◌, ℤ, pos, ◌+ℤ◌, int_le, length, All, refl, sym, ap, ◌∙◌, subst, arith, zero, suc, take, get_or}
use Rattle.std.proofs.lemmas.List.{take_more}
use Rattle.std.specs.Prelude.{Contains, slice_index_or}
use Rattle.std.specs.Ordering.{int_eq}
use Rattle.std.proofs.lemmas.Bool.{and_parts}
use Rattle.std.proofs.lemmas.Int.{ints}
use Rattle.std.proofs.lemmas.List.Elements.{All-weaker, All-contains}
use Rattle.signed_clause.specs.Ranges.{Ranges, has}
use Rattle.signed_clause.specs.Clauses.{Boxes, box_of}
use Rattle.ground_form.specs.declared.con.Con.TheVariants as con
use Rattle.ground_form.specs.declared.ground.Ground.{Ground}
use Rattle.ground_form.specs.Meaning.{value_of, load_at, rooms_hold, con_true}
use Rattle.form_build.specs.Worlds.{IsInBoxes, IsWorld, Grows}
use Rattle.form_build.proofs.Growth.{no_less, box_kept, world_before, all_before}
use Rattle.packing_sums.specs.declared.packing.Packing.{Packing}
use Rattle.packing_sums.specs.Loads.{sizes_where}
use Rattle.stated_facts.specs.Constants.{IsConstant}
use Rattle.packing_sums.specs.Packings.{IsItemOf, AreItemsOf, IsUsed, AreFitting, IsPacking}
use Rattle.packing_sums.proofs.LoadLaws.{AreAt, AreWithin}

-- ---- constants

only_one : (k : ℕ) (v : ℤ) → has ((pos k, pos k) ∷ []) v ≡ true → v ≡ pos k
only_one k v h = grind (arith, ints)

pub constant_is : (boxes : Boxes) (x k : ℕ) (a : List ℤ) → IsConstant boxes x k → IsInBoxes boxes a → value_of a x ≡ pos k
constant_is boxes x k a c within =
    only_one k (value_of a x) (subst (λ (b : Ranges). has b (value_of a x) ≡ true) c.box (within x c.exists))

-- ---- items, one after the other

pub items_push : (boxes : Boxes) (room : ℕ) (is : List (ℕ × ℕ × ℕ)) (ss : List (ℕ × ℕ)) (i : ℕ × ℕ × ℕ) (s : ℕ × ℕ) → AreItemsOf boxes room is ss → IsItemOf boxes room i s → AreItemsOf boxes room (is ++ i ∷ []) (ss ++ s ∷ [])
items_push boxes room [] [] i s h one = (one, tt)
items_push boxes room [] (t ∷ ss) i s h one = absurd h
items_push boxes room (j ∷ is) [] i s h one = absurd h
items_push boxes room (j ∷ is) (t ∷ ss) i s h one = (h.0, items_push boxes room is ss i s h.1 one)

pub items_step : (boxes : Boxes) (room k : ℕ) (is : List (ℕ × ℕ × ℕ)) (ss more : List (ℕ × ℕ)) (i d : ℕ × ℕ × ℕ) (s : ℕ × ℕ) → k < length is → i ≡ get_or is k d → more ≡ ss ++ s ∷ [] → IsItemOf boxes room i s → AreItemsOf boxes room (take k is) ss → AreItemsOf boxes room (take (k + 1) is) more
items_step boxes room k is ss more i d s lt at made one h =
    let next : take (k + 1) is ≡ take k is ++ i ∷ [] = take_more is k d lt ∙ ap (λ (j : ℕ × ℕ × ℕ). take k is ++ j ∷ []) (sym at) in
    subst (λ (z : List (ℕ × ℕ × ℕ)). AreItemsOf boxes room z more) (sym next)
    (subst (λ (z : List (ℕ × ℕ)). AreItemsOf boxes room (take k is ++ i ∷ []) z) (sym made) (items_push boxes room (take k is) ss i s h one))

pub items_exist : (boxes : Boxes) (room : ℕ) (is : List (ℕ × ℕ × ℕ)) (ss : List (ℕ × ℕ)) → AreItemsOf boxes room is ss → All (λ s. s.0 < length boxes) ss
items_exist boxes room [] [] h k d lt = absurd (omega (arith, lt))
items_exist boxes room [] (t ∷ ss) h k d lt = absurd h
items_exist boxes room (i ∷ is) [] h k d lt = absurd h
items_exist boxes room (i ∷ is) (s ∷ ss) h zero d lt = let e = h.0.bin in let there = h.0.exists in omega (arith, e, there)
items_exist boxes room (i ∷ is) (s ∷ ss) h (suc k) d lt = items_exist boxes room is ss h.1 k d (omega (arith, lt))

-- ---- loads

load_step : (b c : Bool) (n r : ℤ) (k s : ℕ) → b ≡ c → n ≡ pos k → r ≡ pos s → cond b (n +ℤ r) r ≡ pos (cond c k 0 + s)
load_step true true n r k s e f g = omega (arith, ints, f, g)
load_step true false n r k s e f g = absurd (grind (arith, e))
load_step false true n r k s e f g = absurd (grind (arith, e))
load_step false false n r k s e f g = omega (arith, ints, g)

-- the load of a bin is the sizes of the items there
pub load_is : (boxes : Boxes) (room : ℕ) (is : List (ℕ × ℕ × ℕ)) (ss : List (ℕ × ℕ)) (a : List ℤ) (v : ℤ) → AreItemsOf boxes room is ss → IsInBoxes boxes a → load_at v is a ≡ pos (sizes_where (λ w. int_eq w v) ss a)
load_is boxes room [] [] a v h within = refl
load_is boxes room [] (t ∷ ss) a v h within = absurd h
load_is boxes room (i ∷ is) [] a v h within = absurd h
load_is boxes room (i ∷ is) (s ∷ ss) a v h within =
    load_step (int_eq (value_of a i.0) v) (int_eq (value_of a s.0) v) (value_of a i.1) (load_at v is a) s.1 (sizes_where (λ w. int_eq w v) ss a)
    (ap (λ (x : ℕ). int_eq (value_of a x) v) (sym h.0.bin))
    (constant_is boxes i.1 s.1 a h.0.size within)
    (load_is boxes room is ss a v h.1 within)

first_fits : (r load : ℤ) (n room : ℕ) → int_le load r ≡ true → load ≡ pos n → r ≡ pos room → n ≤ room
first_fits r load n room h e f = grind (arith, ints)

same_bin : (u v : ℤ) → int_eq u v ≡ true → u ≡ v
same_bin u v h = grind (arith, ints)

at_or_away : (b : Bool) (P : Type 0) → (b ≡ true → P) → (b ≡ false → P) → P
at_or_away true P here there = here refl
at_or_away false P here there = there refl

-- where some item is at the bin, its room holds the load
held : (boxes : Boxes) (room load : ℕ) (all is : List (ℕ × ℕ × ℕ)) (ss : List (ℕ × ℕ)) (a : List ℤ) (v : ℤ) → AreItemsOf boxes room is ss → IsInBoxes boxes a → rooms_hold all is a ≡ true → load_at v all a ≡ pos load → (sizes_where (λ w. int_eq w v) ss a ≡ 0 → load ≡ 0) → load ≤ room
held boxes room load all [] [] a v h within fit e none = let nil = none refl in omega (arith, nil)
held boxes room load all [] (t ∷ ss) a v h within fit e none = absurd h
held boxes room load all (i ∷ is) [] a v h within fit e none = absurd h
held boxes room load all (i ∷ is) (s ∷ ss) a v h within fit e none =
    let parts = and_parts (int_le (load_at (value_of a i.0) all a) (value_of a i.2)) (rooms_hold all is a) fit in
    at_or_away (int_eq (value_of a s.0) v) (load ≤ room)
    (λ there.
    let at : value_of a i.0 ≡ v = ap (value_of a) (sym h.0.bin) ∙ same_bin (value_of a s.0) v there in
    first_fits (value_of a i.2) (load_at (value_of a i.0) all a) load room parts.0
    (ap (λ (u : ℤ). load_at u all a) at ∙ e) (constant_is boxes i.2 room a h.0.fits within))
    (λ away.
    held boxes room load all is ss a v h.1 within parts.1 e
    (λ rest. none (let none_here = ap (λ (b : Bool). cond b s.1 0) away in omega (arith, none_here, rest))))

-- no bin has more than the room
pub all_within : (boxes : Boxes) (room : ℕ) (is : List (ℕ × ℕ × ℕ)) (ss : List (ℕ × ℕ)) (a : List ℤ) → AreItemsOf boxes room is ss → IsInBoxes boxes a → rooms_hold is is a ≡ true → AreWithin room ss a
all_within boxes room is ss a h within fit v =
    held boxes room (sizes_where (λ w. int_eq w v) ss a) is is ss a v h within fit (load_is boxes room is ss a v h within) (λ e. e)

-- ---- packings

pub items_fit : (g : Ground) (room : ℕ) (is : List (ℕ × ℕ × ℕ)) (ss : List (ℕ × ℕ)) → Contains g.cons (con.Pack is) → AreItemsOf g.domains room is ss → AreFitting g room ss
items_fit g room is ss there items a w all v =
    all_within g.domains room is ss a items w.within (All-contains (λ c. con_true c a ≡ true) g.cons (con.Pack is) all there) v

-- each item is at one of the bins
pub bins_used : (g : Ground) (used : Ranges) (ss : List (ℕ × ℕ)) (a : List ℤ) → All (λ s. s.0 < length g.domains) ss → All (IsUsed g.domains used) ss → IsWorld g a → AreAt used ss a
bins_used g used ss a exist h w k d lt =
    h k d lt (value_of a (slice_index_or ss k d).0) (w.within (slice_index_or ss k d).0 (exist k d lt))

used_kept : (b c : Boxes) (used : Ranges) (ss : List (ℕ × ℕ)) → ((x : ℕ) → x < length b → box_of c x ≡ box_of b x) → All (λ s. s.0 < length b) ss → All (IsUsed b used) ss → All (IsUsed c used) ss
used_kept b c used ss same exist h k d lt v there =
    h k d lt v (subst (λ (z : Ranges). has z v ≡ true) (same (slice_index_or ss k d).0 (exist k d lt)) there)

-- a packing stays one
pub packing_kept : (old new : Ground) (p : Packing) → Grows old new → IsPacking old p → IsPacking new p
packing_kept old new p g h = record {
  exist = All-weaker (λ s. s.0 < length old.domains) (λ s. s.0 < length new.domains) (λ s lt. let less = no_less old new g in omega (arith, less, lt)) p.items.items h.exist;
  whole = h.whole;
  light = h.light;
  used = used_kept old.domains new.domains p.used p.items.items (λ x lt. box_kept old new x g lt) h.exist h.used;
  fits = λ a w all v. h.fits a (world_before old new a g w) (all_before old new a g all) v;
}
