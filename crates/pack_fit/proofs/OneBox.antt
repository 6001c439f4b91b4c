-- What one value in place of the box of a variable that stands once does to loads and rooms.
use Rattle.std.proofs.Common.{◌≡◌, ℕ, Bool, true, false, ◌&&◌, cond, List, [], ◌∷◌, ◌++◌, ℤ, pos, ◌+ℤ◌, ◌-ℤ◌, ◌≤ℤ◌, refl, arith}
use Rattle.std.specs.Prelude.{◌==◌, int_le, int_lt}
use Rattle.std.specs.Int.{int_min}
use Rattle.std.proofs.lemmas.Int.{ints}
use Rattle.std.proofs.lemmas.Bool.{and_parts, and_from}
use Rattle.std.proofs.lemmas.Bool.Decides.{nat_tests}
use Rattle.signed_clause.specs.Ranges.{has}
use Rattle.signed_clause.specs.Clauses.{Boxes, box_of}
use Rattle.ground_form.specs.Meaning.{item_vars}
use Rattle.ground_form.specs.Bounds.{low_of, high_of}
use Rattle.box_view.specs.Views.{fixing}
use Rattle.box_rules.specs.Refuted.{fixed_at, fixed_load, overfull, some_overfull, least_sizes, best_room}
use Rattle.rule_law.specs.Reasons.{has_number}
use Rattle.box_view.proofs.EndLaws.{AreSets, ends_in_order}
use Rattle.box_view.proofs.SetLaws.{fixing_other}
use Rattle.pack_fit.specs.Packing.{tight_room, fits, all_fit}

-- ---- boxes of other variables

pub other_box : (boxes : Boxes) (x y : ℕ) (v : ℤ) → (y == x) ≡ false → box_of (fixing boxes x v) y ≡ box_of boxes y
other_box boxes x y v h = fixing_other boxes x y v (λ e. (let t : (y == x) ≡ true = grind (arith, nat_tests) in absurd cc))

pub record Away (x : ℕ) (i : ℕ × ℕ × ℕ) (is : List (ℕ × ℕ × ℕ)) : Type 0 where
  pub bin : (i.0 == x) ≡ false
  pub size : (i.1 == x) ≡ false
  pub room : (i.2 == x) ≡ false
  pub rest : has_number x (item_vars is) ≡ false

pub away : (x : ℕ) (i : ℕ × ℕ × ℕ) (is : List (ℕ × ℕ × ℕ)) → has_number x (item_vars (i ∷ is)) ≡ false → Away x i is
away x i is h = record { bin = grind arith; size = grind arith; room = grind arith; rest = grind arith }

pub load_away : (w : ℤ) (is : List (ℕ × ℕ × ℕ)) (boxes : Boxes) (x : ℕ) (v : ℤ) → has_number x (item_vars is) ≡ false → fixed_load w is (fixing boxes x v) ≡ fixed_load w is boxes
load_away w [] boxes x v h = refl
load_away w (i ∷ is) boxes x v h =
    let a = away x i is h in
    let bin = other_box boxes x i.0 v a.bin in let size = other_box boxes x i.1 v a.size in let more = load_away w is boxes x v a.rest in
    rw (bin, size, more) refl

pub sizes_away : (is : List (ℕ × ℕ × ℕ)) (boxes : Boxes) (x : ℕ) (v : ℤ) → has_number x (item_vars is) ≡ false → least_sizes is (fixing boxes x v) ≡ least_sizes is boxes
sizes_away [] boxes x v h = refl
sizes_away (i ∷ is) boxes x v h =
    let a = away x i is h in
    let size = other_box boxes x i.1 v a.size in let more = sizes_away is boxes x v a.rest in
    rw (size, more) refl

pub best_away : (w : ℤ) (is : List (ℕ × ℕ × ℕ)) (boxes : Boxes) (x : ℕ) (v : ℤ) → has_number x (item_vars is) ≡ false → best_room w is (fixing boxes x v) ≡ best_room w is boxes
best_away w [] boxes x v h = refl
best_away w (i ∷ is) boxes x v h =
    let a = away x i is h in
    let bin = other_box boxes x i.0 v a.bin in let room = other_box boxes x i.2 v a.room in let more = best_away w is boxes x v a.rest in
    rw (bin, room, more) refl

-- ---- one item among others

-- what the item adds to the load
abbrev pub part : ℤ → ℕ × ℕ × ℕ → Boxes → ℤ
part w i boxes = cond (fixed_at (box_of boxes i.0) w) (low_of (box_of boxes i.1)) (pos 0)

load_head : (w : ℤ) (i : ℕ × ℕ × ℕ) (is : List (ℕ × ℕ × ℕ)) (boxes : Boxes) → fixed_load w (i ∷ is) boxes ≡ part w i boxes +ℤ fixed_load w is boxes
load_head w i is boxes =
    elim (fixed_at (box_of boxes i.0) w) as (λ t. cond t (low_of (box_of boxes i.1) +ℤ fixed_load w is boxes) (fixed_load w is boxes) ≡ cond t (low_of (box_of boxes i.1)) (pos 0) +ℤ fixed_load w is boxes) [
      | true ↦ refl
      | false ↦ omega (arith, ints)
    ]

pub load_split : (w : ℤ) (front : List (ℕ × ℕ × ℕ)) (i : ℕ × ℕ × ℕ) (back : List (ℕ × ℕ × ℕ)) (boxes : Boxes) →
    fixed_load w (front ++ i ∷ back) boxes ≡ (fixed_load w front boxes +ℤ part w i boxes) +ℤ fixed_load w back boxes
load_split w [] i back boxes = let e = load_head w i back boxes in omega (arith, ints)
load_split w (j ∷ front) i back boxes =
    let more = load_split w front i back boxes in let one = load_head w j (front ++ i ∷ back) boxes in let two = load_head w j front boxes in omega (arith, ints)

pub sizes_split : (front : List (ℕ × ℕ × ℕ)) (i : ℕ × ℕ × ℕ) (back : List (ℕ × ℕ × ℕ)) (boxes : Boxes) →
    least_sizes (front ++ i ∷ back) boxes ≡ (least_sizes front boxes +ℤ low_of (box_of boxes i.1)) +ℤ least_sizes back boxes
sizes_split [] i back boxes = omega (arith, ints)
sizes_split (j ∷ front) i back boxes = let more = sizes_split front i back boxes in omega (arith, ints)

-- so the load changes by what the item adds
pub load_change : (w : ℤ) (front : List (ℕ × ℕ × ℕ)) (i : ℕ × ℕ × ℕ) (back : List (ℕ × ℕ × ℕ)) (boxes : Boxes) (x : ℕ) (v : ℤ) → has_number x (item_vars front) ≡ false → has_number x (item_vars back) ≡ false →
    fixed_load w (front ++ i ∷ back) (fixing boxes x v) +ℤ part w i boxes ≡ fixed_load w (front ++ i ∷ back) boxes +ℤ part w i (fixing boxes x v)
load_change w front i back boxes x v f b =
    let one = load_split w front i back (fixing boxes x v) in let two = load_split w front i back boxes in
    let g = load_away w front boxes x v f in let c = load_away w back boxes x v b in omega (arith, ints)

-- ---- the tightest room

-- t is at most the greatest room of each item of the list that is fixed at v
abbrev pub AtMost : ℤ → ℤ → List (ℕ × ℕ × ℕ) → Boxes → Type 0
AtMost v t [] boxes = Unit {0}
AtMost v t (i ∷ is) boxes = (fixed_at (box_of boxes i.0) v ≡ true → t ≤ℤ high_of (box_of boxes i.2)) × AtMost v t is boxes

pub at_most_on : (v s t : ℤ) (is : List (ℕ × ℕ × ℕ)) (boxes : Boxes) → s ≤ℤ t → AtMost v t is boxes → AtMost v s is boxes
at_most_on v s t [] boxes h a = tt
at_most_on v s t (i ∷ is) boxes h a = ((λ e. let k = a.0 e in omega (arith, ints)), at_most_on v s t is boxes h a.1)

pub tight_at_most : (v : ℤ) (is : List (ℕ × ℕ × ℕ)) (boxes : Boxes) → AtMost v (tight_room v is boxes) is boxes
tight_at_most v [] boxes = tt
tight_at_most v (i ∷ is) boxes =
    let more = tight_at_most v is boxes in
    let room = high_of (box_of boxes i.2) in
    let rest = tight_room v is boxes in
    let P : Bool → Type 0 = λ t. fixed_at (box_of boxes i.0) v ≡ t → (fixed_at (box_of boxes i.0) v ≡ true → cond t (int_min room rest) rest ≤ℤ room) × AtMost v (cond t (int_min room rest) rest) is boxes in
    (elim (fixed_at (box_of boxes i.0) v) as P [
      | true ↦ λ e. ((λ q. grind (arith, ints)), at_most_on v (int_min room rest) rest is boxes (grind (arith, ints)) more)
      | false ↦ λ e. ((λ q. absurd cc), more)
    ]) refl

pub front_at_most : (v t : ℤ) (front rest : List (ℕ × ℕ × ℕ)) (boxes : Boxes) → AtMost v t (front ++ rest) boxes → AtMost v t front boxes × AtMost v t rest boxes
front_at_most v t [] rest boxes a = (tt, a)
front_at_most v t (i ∷ front) rest boxes a = let more = front_at_most v t front rest boxes a.1 in ((a.0, more.0), more.1)

pub front_fit : (v : ℤ) (front rest items : List (ℕ × ℕ × ℕ)) (boxes : Boxes) → all_fit v (front ++ rest) items boxes ≡ true → (all_fit v front items boxes ≡ true) × (all_fit v rest items boxes ≡ true)
front_fit v [] rest items boxes h = (refl, h)
front_fit v (i ∷ front) rest items boxes h =
    let p = and_parts (fits v (fixed_load v items boxes) (tight_room v items boxes) i boxes) (all_fit v (front ++ rest) items boxes) h in
    let more = front_fit v front rest items boxes p.1 in (and_from _ _ p.0 more.0, more.1)

-- ---- what fits

pub record FitsFixed (v load tight : ℤ) (i : ℕ × ℕ × ℕ) (boxes : Boxes) : Type 0 where
  pub size : load ≤ℤ ((tight -ℤ high_of (box_of boxes i.1)) +ℤ low_of (box_of boxes i.1))
  pub room : load ≤ℤ low_of (box_of boxes i.2)

pub fits_fixed : (v load tight : ℤ) (i : ℕ × ℕ × ℕ) (boxes : Boxes) → fits v load tight i boxes ≡ true → fixed_at (box_of boxes i.0) v ≡ true → FitsFixed v load tight i boxes
fits_fixed v load tight i boxes h e =
    let k : (int_le load ((tight -ℤ high_of (box_of boxes i.1)) +ℤ low_of (box_of boxes i.1)) && int_le load (low_of (box_of boxes i.2))) ≡ true = rw e at h in
    let p = and_parts (int_le load ((tight -ℤ high_of (box_of boxes i.1)) +ℤ low_of (box_of boxes i.1))) (int_le load (low_of (box_of boxes i.2))) k in
    record { size = grind (arith, ints); room = grind (arith, ints) }

pub record FitsOpen (v load tight : ℤ) (i : ℕ × ℕ × ℕ) (boxes : Boxes) : Type 0 where
  pub tight_left : load ≤ℤ (tight -ℤ low_of (box_of boxes i.1))
  pub room_left : load ≤ℤ (high_of (box_of boxes i.2) -ℤ low_of (box_of boxes i.1))

pub fits_open : (v load tight : ℤ) (i : ℕ × ℕ × ℕ) (boxes : Boxes) → fits v load tight i boxes ≡ true → fixed_at (box_of boxes i.0) v ≡ false → has (box_of boxes i.0) v ≡ true → FitsOpen v load tight i boxes
fits_open v load tight i boxes h e m =
    let k : (int_le load (tight -ℤ low_of (box_of boxes i.1)) && int_le load (high_of (box_of boxes i.2) -ℤ low_of (box_of boxes i.1))) ≡ true = rw (e, m) at h in
    let p = and_parts (int_le load (tight -ℤ low_of (box_of boxes i.1))) (int_le load (high_of (box_of boxes i.2) -ℤ low_of (box_of boxes i.1))) k in
    record { tight_left = grind (arith, ints); room_left = grind (arith, ints) }

-- ---- items whose boxes stay

-- where no load grows past the tightest room
abbrev pub Kept : List (ℕ × ℕ × ℕ) → Boxes → Boxes → Type 0
Kept items boxes later = (p : ℤ) → fixed_load p items boxes ≤ℤ tight_room p items boxes → fixed_load p items later ≤ℤ tight_room p items boxes

pub not_over : (room load : ℤ) (f : Bool) → (f ≡ true → load ≤ℤ room) → (f && int_lt room load) ≡ false
not_over room load true h = let k = h refl in grind (arith, ints)
not_over room load false h = refl

pub away_fine : (js items : List (ℕ × ℕ × ℕ)) (boxes : Boxes) (x : ℕ) (v : ℤ) → AreSets boxes → has_number x (item_vars js) ≡ false → ((p : ℤ) → all_fit p js items boxes ≡ true) → ((p : ℤ) → AtMost p (tight_room p items boxes) js boxes) →
    Kept items boxes (fixing boxes x v) → some_overfull js items (fixing boxes x v) ≡ false
away_fine [] items boxes x v s h f a k = refl
away_fine (j ∷ js) items boxes x v s h f a k =
    let w = away x j js h in
    let bin = other_box boxes x j.0 v w.bin in let room = other_box boxes x j.2 v w.room in
    let p = low_of (box_of boxes j.0) in
    let fit = and_parts (fits p (fixed_load p items boxes) (tight_room p items boxes) j boxes) (all_fit p js items boxes) (f p) in
    let order = ends_in_order (box_of boxes j.1) (s j.1) in
    let here : overfull j items (fixing boxes x v) ≡ false =
    rw (bin, room) (not_over (high_of (box_of boxes j.2)) (fixed_load p items (fixing boxes x v)) (fixed_at (box_of boxes j.0) p) (λ e.
    let fixed = fits_fixed p (fixed_load p items boxes) (tight_room p items boxes) j boxes fit.0 e in
    let size = fixed.size in let now = k p (omega (arith, ints)) in let tight = (a p).0 e in omega (arith, ints))) in
    let more = away_fine js items boxes x v s w.rest (λ q. (and_parts (fits q (fixed_load q items boxes) (tight_room q items boxes) j boxes) (all_fit q js items boxes) (f q)).1) (λ q. (a q).1) k in
    rw here more
