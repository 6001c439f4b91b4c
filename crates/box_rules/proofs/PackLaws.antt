-- The rule of items to be packed is right: a bin holds no more than its room, and all bins
-- together no more than all room.
use Rattle.std.proofs.Common.{◌≡◌, ℕ, zero, suc, Bool, true, false, not, ◌&&◌, ◌||◌, cond, List, [], ◌∷◌, ℤ, pos, ◌+ℤ◌, ◌-ℤ◌, ◌≤ℤ◌, unsigned_abs, refl, arith, All, inl, inr, subst, ap, ◌∙◌, sym}
use Rattle.std.specs.Prelude.{int_lt, int_le}
use Rattle.std.specs.Int.{int_min, int_max}
use Rattle.std.specs.Ordering.{int_eq}
use Rattle.std.proofs.lemmas.Int.{ints}
use Rattle.std.proofs.lemmas.Bool.Decides.{Decides-int_eq}
use Rattle.std.proofs.lemmas.Bool.{or_cases, and_parts, and_cases, and_from, false_from_ne_true}
use Rattle.signed_clause.specs.Ranges.{Ranges, has}
use Rattle.signed_clause.specs.Clauses.{Boxes, box_of}
use Rattle.ground_form.specs.Meaning.{value_of, load_at, rooms_hold, item_vars}
use Rattle.ground_form.specs.Bounds.{low_of, high_of}
use Rattle.box_rules.specs.Refuted.{fixed_at, fixed_load, overfull, some_overfull, least_sizes, best_room, rooms_from, first_bin, last_bin, width, all_room}
use Rattle.box_rules.proofs.FixedLaws.{fixed_value, single_fixed}
use Rattle.box_view.proofs.EndLaws.{AreSets, AreSingle, values_in, above_low, below_high, single_head, single_tail}

-- what a point says of the first item
pub record HeadValues (i : ℕ × ℕ × ℕ) (is : List (ℕ × ℕ × ℕ)) (boxes : Boxes) (a : List ℤ) : Type 0 where
  pub bin : has (box_of boxes i.0) (value_of a i.0) ≡ true
  pub size : has (box_of boxes i.1) (value_of a i.1) ≡ true
  pub room : has (box_of boxes i.2) (value_of a i.2) ≡ true
  pub rest : values_in (item_vars is) boxes a ≡ true

pub head_values : (i : ℕ × ℕ × ℕ) (is : List (ℕ × ℕ × ℕ)) (boxes : Boxes) (a : List ℤ) → values_in (item_vars (i ∷ is)) boxes a ≡ true → HeadValues i is boxes a
head_values i is boxes a h =
    let p = and_parts (has (box_of boxes i.0) (value_of a i.0)) (values_in (i.1 ∷ i.2 ∷ item_vars is) boxes a) h in
    let q = and_parts (has (box_of boxes i.1) (value_of a i.1)) (values_in (i.2 ∷ item_vars is) boxes a) p.1 in
    let r = and_parts (has (box_of boxes i.2) (value_of a i.2)) (values_in (item_vars is) boxes a) q.1 in
    record { bin = p.0; size = q.0; room = r.0; rest = r.1 }

abbrev pub HaveSizes : List (ℕ × ℕ × ℕ) → Boxes → Type 0
HaveSizes items boxes = All (λ i. pos 0 ≤ℤ low_of (box_of boxes i.1)) items

-- ---- one bin

no_less : (f p : Bool) (least size low load : ℤ) → (f ≡ true → p ≡ true) → least ≤ℤ size → pos 0 ≤ℤ least → low ≤ℤ load →
    cond f (least +ℤ low) low ≤ℤ cond p (size +ℤ load) load
no_less true true least size low load h k l m = omega (arith, ints)
no_less true false least size low load h k l m = absurd (let e = h refl in cc)
no_less false true least size low load h k l m = omega (arith, ints)
no_less false false least size low load h k l m = m

fixed_load-le : (v : ℤ) (is : List (ℕ × ℕ × ℕ)) (boxes : Boxes) (a : List ℤ) → AreSets boxes → HaveSizes is boxes → values_in (item_vars is) boxes a ≡ true → fixed_load v is boxes ≤ℤ load_at v is a
fixed_load-le v [] boxes a s z h = omega (arith, ints)
fixed_load-le v (i ∷ is) boxes a s z h =
    let at = head_values i is boxes a h in
    let more = fixed_load-le v is boxes a s (λ k d lt. z (suc k) d (omega arith)) at.rest in
    let least = z 0 i (omega arith) in
    let low = above_low (box_of boxes i.1) (value_of a i.1) (s i.1) at.size in
    let decides = Decides-int_eq (value_of a i.0) v in
    let fixed : fixed_at (box_of boxes i.0) v ≡ true → int_eq (value_of a i.0) v ≡ true = λ f. decides.1 (fixed_value (box_of boxes i.0) v (value_of a i.0) (s i.0) f at.bin) in
    no_less (fixed_at (box_of boxes i.0) v) (int_eq (value_of a i.0) v) _ _ _ _ fixed low least more

overfull-false : (i : ℕ × ℕ × ℕ) (is items : List (ℕ × ℕ × ℕ)) (boxes : Boxes) (a : List ℤ) → AreSets boxes → HaveSizes items boxes →
    values_in (item_vars items) boxes a ≡ true → HeadValues i is boxes a → overfull i items boxes ≡ true → int_le (load_at (value_of a i.0) items a) (value_of a i.2) ≡ false
overfull-false i is items boxes a s z h at o =
    let v = low_of (box_of boxes i.0) in
    let parts = and_parts (fixed_at (box_of boxes i.0) v) (int_lt (high_of (box_of boxes i.2)) (fixed_load v items boxes)) o in
    let is_v = fixed_value (box_of boxes i.0) v (value_of a i.0) (s i.0) parts.0 at.bin in
    let load = fixed_load-le v items boxes a s z h in
    let room = below_high (box_of boxes i.2) (value_of a i.2) (s i.2) at.room in
    let full : int_le (load_at v items a) (value_of a i.2) ≡ false = grind (arith, ints) in
    subst (λ (w : ℤ). int_le (load_at w items a) (value_of a i.2) ≡ false) (sym is_v) full

pub some_overfull-false : (is items : List (ℕ × ℕ × ℕ)) (boxes : Boxes) (a : List ℤ) → AreSets boxes → HaveSizes items boxes →
    values_in (item_vars items) boxes a ≡ true → values_in (item_vars is) boxes a ≡ true → some_overfull is items boxes ≡ true → rooms_hold items is a ≡ false
some_overfull-false [] items boxes a s z h k o = absurd cc
some_overfull-false (i ∷ is) items boxes a s z h k o =
    let at = head_values i is boxes a k in
    let here = overfull-false i is items boxes a s z h at in
    let more = some_overfull-false is items boxes a s z h at.rest in
    elim (or_cases (overfull i items boxes) (some_overfull is items boxes) o) [
      | inl e ↦ let f = here e in rw f refl
      | inr e ↦ let f = more e in grind arith
    ]

-- ---- all bins

-- the sizes, added up
abbrev sizes_at : List (ℕ × ℕ × ℕ) → List ℤ → ℤ
sizes_at [] a = pos 0
sizes_at (i ∷ is) a = value_of a i.1 +ℤ sizes_at is a

least_sizes-le : (is : List (ℕ × ℕ × ℕ)) (boxes : Boxes) (a : List ℤ) → AreSets boxes → values_in (item_vars is) boxes a ≡ true → least_sizes is boxes ≤ℤ sizes_at is a
least_sizes-le [] boxes a s h = omega (arith, ints)
least_sizes-le (i ∷ is) boxes a s h =
    let at = head_values i is boxes a h in
    let more = least_sizes-le is boxes a s at.rest in
    let low = above_low (box_of boxes i.1) (value_of a i.1) (s i.1) at.size in
    omega (arith, ints)

pub best_room-ge : (v : ℤ) (is : List (ℕ × ℕ × ℕ)) (boxes : Boxes) → pos 0 ≤ℤ best_room v is boxes
best_room-ge v [] boxes = omega (arith, ints)
best_room-ge v (i ∷ is) boxes = let more = best_room-ge v is boxes in grind (arith, ints)

-- no item is at the bin
abbrev none_at : ℤ → List (ℕ × ℕ × ℕ) → List ℤ → Bool
none_at v [] a = true
none_at v (i ∷ is) a = not (int_eq (value_of a i.0) v) && none_at v is a

none_at-load : (v : ℤ) (is : List (ℕ × ℕ × ℕ)) (a : List ℤ) → none_at v is a ≡ true → load_at v is a ≡ pos 0
none_at-load v [] a h = refl
none_at-load v (i ∷ is) a h = let more = none_at-load v is a in grind arith

-- where an item is at the bin, the load is at most the best room
some_at : (v : ℤ) (is items : List (ℕ × ℕ × ℕ)) (boxes : Boxes) (a : List ℤ) → AreSets boxes → values_in (item_vars is) boxes a ≡ true → rooms_hold items is a ≡ true →
    none_at v is a ≡ false → load_at v items a ≤ℤ best_room v is boxes
some_at v [] items boxes a s h r n = absurd cc
some_at v (i ∷ is) items boxes a s h r n =
    let at = head_values i is boxes a h in
    let parts = and_parts (int_le (load_at (value_of a i.0) items a) (value_of a i.2)) (rooms_hold items is a) r in
    let more = some_at v is items boxes a s at.rest parts.1 in
    let room = below_high (box_of boxes i.2) (value_of a i.2) (s i.2) at.room in
    let P : Bool → Type 0 = λ b. int_eq (value_of a i.0) v ≡ b → load_at v items a ≤ℤ best_room v (i ∷ is) boxes in
    (elim (int_eq (value_of a i.0) v) as P [
      | true ↦ λ q. let e = (Decides-int_eq (value_of a i.0) v).0 q in
          let held : has (box_of boxes i.0) v ≡ true = subst (λ (w : ℤ). has (box_of boxes i.0) w ≡ true) e at.bin in
          let fits : int_le (load_at v items a) (value_of a i.2) ≡ true = subst (λ (w : ℤ). int_le (load_at w items a) (value_of a i.2) ≡ true) e parts.0 in
          rw held (grind (arith, ints))
      | false ↦ λ q. let left : none_at v is a ≡ false = grind arith in let m = more left in grind (arith, ints)
    ]) refl

load-le : (v : ℤ) (items : List (ℕ × ℕ × ℕ)) (boxes : Boxes) (a : List ℤ) → AreSets boxes → values_in (item_vars items) boxes a ≡ true → rooms_hold items items a ≡ true →
    load_at v items a ≤ℤ best_room v items boxes
load-le v items boxes a s h r =
    let P : Bool → Type 0 = λ b. none_at v items a ≡ b → load_at v items a ≤ℤ best_room v items boxes in
    (elim (none_at v items a) as P [
      | true ↦ λ q. let e = none_at-load v items a q in let g = best_room-ge v items boxes in omega (arith, ints)
      | false ↦ λ q. some_at v items items boxes a s h r q
    ]) refl

-- the loads of n bins from v on, added up
abbrev loads_from : ℕ → ℤ → List (ℕ × ℕ × ℕ) → List ℤ → ℤ
loads_from zero v is a = pos 0
loads_from (suc n) v is a = load_at v is a +ℤ loads_from n (v +ℤ pos 1) is a

loads-le : (n : ℕ) (v : ℤ) (items : List (ℕ × ℕ × ℕ)) (boxes : Boxes) (a : List ℤ) → AreSets boxes → values_in (item_vars items) boxes a ≡ true → rooms_hold items items a ≡ true →
    loads_from n v items a ≤ℤ rooms_from n v items boxes
loads-le zero v items boxes a s h r = omega (arith, ints)
loads-le (suc n) v items boxes a s h r =
    let one = load-le v items boxes a s h r in let more = loads-le n (v +ℤ pos 1) items boxes a s h r in omega (arith, ints)

no_loads : (n : ℕ) (v : ℤ) (a : List ℤ) → loads_from n v [] a ≡ pos 0
no_loads zero v a = refl
no_loads (suc n) v a = let more = no_loads n (v +ℤ pos 1) a in omega (arith, ints)

-- one more item is at one of the bins, or at none
one_load : (n : ℕ) (v : ℤ) (i : ℕ × ℕ × ℕ) (is : List (ℕ × ℕ × ℕ)) (a : List ℤ) →
    loads_from n v (i ∷ is) a ≡ cond (int_le v (value_of a i.0) && int_lt (value_of a i.0) (v +ℤ pos n)) (value_of a i.1) (pos 0) +ℤ loads_from n v is a
one_load zero v i is a =
    let out : (int_le v (value_of a i.0) && int_lt (value_of a i.0) (v +ℤ pos 0)) ≡ false = grind (arith, ints) in rw out (omega (arith, ints))
one_load (suc n) v i is a =
    let p = value_of a i.0 in
    let more = one_load n (v +ℤ pos 1) i is a in
    let at = Decides-int_eq p v in
    let P : Bool → Type 0 = λ b. int_eq p v ≡ b → loads_from (suc n) v (i ∷ is) a ≡ cond (int_le v p && int_lt p (v +ℤ pos (suc n))) (value_of a i.1) (pos 0) +ℤ loads_from (suc n) v is a in
    (elim (int_eq p v) as P [
      | true ↦ λ q. let e = at.0 q in
          let in_all : (int_le v p && int_lt p (v +ℤ pos (suc n))) ≡ true = grind (arith, ints) in
          let not_later : (int_le (v +ℤ pos 1) p && int_lt p ((v +ℤ pos 1) +ℤ pos n)) ≡ false = grind (arith, ints) in
          rw (q, in_all) (let m = rw not_later at more in omega (arith, ints))
      | false ↦ λ q.
          let same : (int_le (v +ℤ pos 1) p && int_lt p ((v +ℤ pos 1) +ℤ pos n)) ≡ (int_le v p && int_lt p (v +ℤ pos (suc n))) = grind (arith, ints) in
          rw q (let m = rw same at more in omega (arith, ints))
    ]) refl

-- the bin lies among n from v on
abbrev BinsIn : ℤ → ℕ → List (ℕ × ℕ × ℕ) → List ℤ → Type 0
BinsIn v n is a = All (λ i. (int_le v (value_of a i.0) && int_lt (value_of a i.0) (v +ℤ pos n)) ≡ true) is

all_loads : (n : ℕ) (v : ℤ) (is : List (ℕ × ℕ × ℕ)) (a : List ℤ) → BinsIn v n is a → loads_from n v is a ≡ sizes_at is a
all_loads n v [] a h = no_loads n v a
all_loads n v (i ∷ is) a h =
    let here = h 0 i (omega arith) in
    let more = all_loads n v is a (λ k d lt. h (suc k) d (omega arith)) in
    let one = rw here at (one_load n v i is a) in
    omega (arith, ints)

chain_le : (x y z w : ℤ) → x ≤ℤ y → z ≡ y → z ≤ℤ w → x ≤ℤ w
chain_le x y z w h e k = omega (arith, ints)

-- every bin lies between the first and the last
pub first_bin-le : (v : ℤ) (is : List (ℕ × ℕ × ℕ)) (boxes : Boxes) → first_bin v is boxes ≤ℤ v
first_bin-le v [] boxes = omega (arith, ints)
first_bin-le v (i ∷ is) boxes = let more = first_bin-le (int_min v (low_of (box_of boxes i.0))) is boxes in grind (arith, ints)

pub last_bin-ge : (v : ℤ) (is : List (ℕ × ℕ × ℕ)) (boxes : Boxes) → v ≤ℤ last_bin v is boxes
last_bin-ge v [] boxes = omega (arith, ints)
last_bin-ge v (i ∷ is) boxes = let more = last_bin-ge (int_max v (high_of (box_of boxes i.0))) is boxes in grind (arith, ints)

-- the values lie in v..w
abbrev LieIn : ℤ → ℤ → List (ℕ × ℕ × ℕ) → List ℤ → Type 0
LieIn v w is a = All (λ i. (int_le v (value_of a i.0) && int_le (value_of a i.0) w) ≡ true) is

lie_in : (v w p : ℤ) → v ≤ℤ p → p ≤ℤ w → (int_le v p && int_le p w) ≡ true
lie_in v w p h k = grind (arith, ints)

bins_in : (v w : ℤ) (is : List (ℕ × ℕ × ℕ)) (boxes : Boxes) (a : List ℤ) → AreSets boxes → values_in (item_vars is) boxes a ≡ true →
    LieIn (first_bin v is boxes) (last_bin w is boxes) is a
bins_in v w [] boxes a s h k d lt = absurd (omega arith)
bins_in v w (i ∷ is) boxes a s h zero d lt =
    let at = head_values i is boxes a h in
    let low = above_low (box_of boxes i.0) (value_of a i.0) (s i.0) at.bin in
    let high = below_high (box_of boxes i.0) (value_of a i.0) (s i.0) at.bin in
    let first = first_bin-le (int_min v (low_of (box_of boxes i.0))) is boxes in
    let last = last_bin-ge (int_max w (high_of (box_of boxes i.0))) is boxes in
    lie_in (first_bin v (i ∷ is) boxes) (last_bin w (i ∷ is) boxes) (value_of a i.0) (grind (arith, ints)) (grind (arith, ints))
bins_in v w (i ∷ is) boxes a s h (suc k) d lt =
    let at = head_values i is boxes a h in
    bins_in (int_min v (low_of (box_of boxes i.0))) (int_max w (high_of (box_of boxes i.0))) is boxes a s at.rest k d (omega arith)

-- the first bin is no later than the last
in_width : (v w p : ℤ) → (int_le v p && int_le p w) ≡ true → (int_le v p && int_lt p (v +ℤ pos (width v w))) ≡ true
in_width v w p h =
    let parts = and_parts (int_le v p) (int_le p w) h in
    let le : v ≤ℤ w = grind (arith, ints) in
    let e : v +ℤ pos (suc (unsigned_abs (w -ℤ v))) ≡ w +ℤ pos 1 = omega (arith, ints) in
    rw e (grind (arith, ints))

all_in_width : (v w : ℤ) (is : List (ℕ × ℕ × ℕ)) (a : List ℤ) → LieIn v w is a → BinsIn v (width v w) is a
all_in_width v w [] a h k d lt = absurd (omega arith)
all_in_width v w (i ∷ is) a h zero d lt = in_width v w (value_of a i.0) (h 0 i (omega arith))
all_in_width v w (i ∷ is) a h (suc k) d lt = all_in_width v w is a (λ j e less. h (suc j) e (omega arith)) k d (omega arith)

-- the first item is among those between the first and the last bin
bins_whole : (i : ℕ × ℕ × ℕ) (is : List (ℕ × ℕ × ℕ)) (boxes : Boxes) (a : List ℤ) → AreSets boxes → values_in (item_vars (i ∷ is)) boxes a ≡ true →
    LieIn (first_bin (low_of (box_of boxes i.0)) is boxes) (last_bin (high_of (box_of boxes i.0)) is boxes) (i ∷ is) a
bins_whole i is boxes a s h zero d lt =
    let at = head_values i is boxes a h in
    let low = above_low (box_of boxes i.0) (value_of a i.0) (s i.0) at.bin in
    let high = below_high (box_of boxes i.0) (value_of a i.0) (s i.0) at.bin in
    let first = first_bin-le (low_of (box_of boxes i.0)) is boxes in
    let last = last_bin-ge (high_of (box_of boxes i.0)) is boxes in
    lie_in _ _ (value_of a i.0) (omega (arith, ints)) (omega (arith, ints))
bins_whole i is boxes a s h (suc k) d lt =
    let at = head_values i is boxes a h in
    bins_in (low_of (box_of boxes i.0)) (high_of (box_of boxes i.0)) is boxes a s at.rest k d (omega arith)

pub all_room-ge : (items : List (ℕ × ℕ × ℕ)) (boxes : Boxes) (a : List ℤ) → AreSets boxes → values_in (item_vars items) boxes a ≡ true → rooms_hold items items a ≡ true →
    least_sizes items boxes ≤ℤ all_room items boxes
all_room-ge [] boxes a s h r = omega (arith, ints)
all_room-ge (i ∷ is) boxes a s h r =
    let first = first_bin (low_of (box_of boxes i.0)) is boxes in
    let last = last_bin (high_of (box_of boxes i.0)) is boxes in
    let n = width first last in
    let bins = all_in_width first last (i ∷ is) a (bins_whole i is boxes a s h) in
    let loads = all_loads n first (i ∷ is) a bins in
    let least = least_sizes-le (i ∷ is) boxes a s h in
    let rooms = loads-le n first (i ∷ is) boxes a s h r in
    chain_le _ _ _ _ least loads rooms

pub pack-false : (items : List (ℕ × ℕ × ℕ)) (boxes : Boxes) (a : List ℤ) → AreSets boxes → HaveSizes items boxes → values_in (item_vars items) boxes a ≡ true →
    (some_overfull items items boxes || int_lt (all_room items boxes) (least_sizes items boxes)) ≡ true → rooms_hold items items a ≡ false
pack-false items boxes a s z h e =
    elim (or_cases (some_overfull items items boxes) (int_lt (all_room items boxes) (least_sizes items boxes)) e) [
      | inl o ↦ some_overfull-false items items boxes a s z h h o
      | inr o ↦ false_from_ne_true (rooms_hold items items a) (λ q. let g = all_room-ge items boxes a s h q in grind (arith, ints))
    ]

-- ---- single values

-- the three boxes of the first item
pub record HeadSingle (i : ℕ × ℕ × ℕ) (is : List (ℕ × ℕ × ℕ)) (boxes : Boxes) (a : List ℤ) : Type 0 where
  pub bin : box_of boxes i.0 ≡ (value_of a i.0, value_of a i.0) ∷ []
  pub size : box_of boxes i.1 ≡ (value_of a i.1, value_of a i.1) ∷ []
  pub room : box_of boxes i.2 ≡ (value_of a i.2, value_of a i.2) ∷ []
  pub rest : AreSingle (item_vars is) boxes a

pub head_single : (i : ℕ × ℕ × ℕ) (is : List (ℕ × ℕ × ℕ)) (boxes : Boxes) (a : List ℤ) → AreSingle (item_vars (i ∷ is)) boxes a → HeadSingle i is boxes a
head_single i is boxes a h =
    let one = single_tail i.0 (i.1 ∷ i.2 ∷ item_vars is) boxes a h in
    let two = single_tail i.1 (i.2 ∷ item_vars is) boxes a one in
    record {
      bin = single_head i.0 (i.1 ∷ i.2 ∷ item_vars is) boxes a h;
      size = single_head i.1 (i.2 ∷ item_vars is) boxes a one;
      room = single_head i.2 (item_vars is) boxes a two;
      rest = single_tail i.2 (item_vars is) boxes a two;
    }

fixed_load-single : (v : ℤ) (is : List (ℕ × ℕ × ℕ)) (boxes : Boxes) (a : List ℤ) → AreSingle (item_vars is) boxes a → fixed_load v is boxes ≡ load_at v is a
fixed_load-single v [] boxes a h = refl
fixed_load-single v (i ∷ is) boxes a h =
    let at = head_single i is boxes a h in
    let more = fixed_load-single v is boxes a at.rest in
    let fixed : fixed_at (box_of boxes i.0) v ≡ int_eq (value_of a i.0) v = ap (λ (s : Ranges). fixed_at s v) at.bin ∙ single_fixed (value_of a i.0) v in
    let size : low_of (box_of boxes i.1) ≡ value_of a i.1 = ap (λ (s : Ranges). low_of s) at.size in
    rw (fixed, size, more) refl

some_overfull-single : (is items : List (ℕ × ℕ × ℕ)) (boxes : Boxes) (a : List ℤ) → AreSingle (item_vars items) boxes a → AreSingle (item_vars is) boxes a →
    rooms_hold items is a ≡ false → some_overfull is items boxes ≡ true
some_overfull-single [] items boxes a h k r = absurd cc
some_overfull-single (i ∷ is) items boxes a h k r =
    let at = head_single i is boxes a k in
    let v = value_of a i.0 in
    let low : low_of (box_of boxes i.0) ≡ v = ap (λ (s : Ranges). low_of s) at.bin in
    let fixed : fixed_at (box_of boxes i.0) v ≡ true = ap (λ (s : Ranges). fixed_at s v) at.bin ∙ single_fixed v v ∙ (Decides-int_eq v v).1 refl in
    let room : high_of (box_of boxes i.2) ≡ value_of a i.2 = ap (λ (s : Ranges). high_of s) at.room in
    let load = fixed_load-single v items boxes a h in
    let more = some_overfull-single is items boxes a h at.rest in
    elim (and_cases (int_le (load_at v items a) (value_of a i.2)) (rooms_hold items is a) r) [
      | inl e ↦ let full : int_lt (value_of a i.2) (load_at v items a) ≡ true = grind (arith, ints) in
          let full_at : int_lt (high_of (box_of boxes i.2)) (fixed_load v items boxes) ≡ true = rw (room, load) full in
          let at_v : (fixed_at (box_of boxes i.0) v && int_lt (high_of (box_of boxes i.2)) (fixed_load v items boxes)) ≡ true = and_from _ _ fixed full_at in
          let here : overfull i items boxes ≡ true = subst (λ (z : ℤ). (fixed_at (box_of boxes i.0) z && int_lt (high_of (box_of boxes i.2)) (fixed_load z items boxes)) ≡ true) (sym low) at_v in
          rw here refl
      | inr e ↦ let m = more e in grind arith
    ]

pub pack-single : (items : List (ℕ × ℕ × ℕ)) (boxes : Boxes) (a : List ℤ) → AreSingle (item_vars items) boxes a → rooms_hold items items a ≡ false →
    (some_overfull items items boxes || int_lt (all_room items boxes) (least_sizes items boxes)) ≡ true
pack-single items boxes a h r = let o = some_overfull-single items items boxes a h h r in rw o refl
