-- What the numbers of a bin tell: that all items fit there, and what its second greatest room is
-- at least.
use Rattle.std.proofs.Common.{◌≡◌, ℕ, suc, ◌<◌, ◌≤◌, Bool, true, false, not, ◌&&◌, ◌||◌, cond, List, [], ◌∷◌, ℤ, pos, ◌+ℤ◌, ◌≤ℤ◌, ◌+◌, ◌-◌, refl, arith, inl, inr, subst, sym, ◌∙◌, All}
use Rattle.std.specs.Prelude.{nat_lt, nat_le, int_le}
use Rattle.std.specs.Int.{int_max, int_min}
use Rattle.std.specs.Ordering.{int_eq}
use Rattle.std.proofs.lemmas.Int.{ints}
use Rattle.std.proofs.lemmas.Bool.{and_parts, and_from, or_cases, false_from_ne_true}
use Rattle.std.proofs.lemmas.Bool.Decides.{Decides-int_eq, nat_tests}
use Rattle.signed_clause.specs.Ranges.{Ranges, has, is_nil, IsValid}
use Rattle.signed_clause.specs.Clauses.{Boxes, box_of}
use Rattle.ground_form.specs.Bounds.{low_of, high_of}
use Rattle.box_rules.specs.Refuted.{fixed_at, fixed_load}
use Rattle.rule_law.specs.Repeats.{is_one}
use Rattle.box_rules.proofs.FixedLaws.{fixed_value}
use Rattle.box_view.proofs.EndLaws.{AreSets, are_sets}
use Rattle.pack_fit.specs.declared.survey.BinCounts.{BinCounts}
use Rattle.pack_fit.specs.Packing.{tight_room, fits, all_fit, two_rooms}
use Rattle.pack_fit.specs.Survey.{IsCounted, IsSettled, least_room, growth_at, fixed_count, some_frozen, hits, open_size, open_floor, room_where, least_second}
use Rattle.pack_fit.proofs.PackWalks.{fixed_has}

-- ---- items that are fixed may be there

pub fixed_hits : (v : ℤ) (is : List (ℕ × ℕ × ℕ)) (boxes : Boxes) → AreSets boxes → fixed_count v is boxes ≤ hits v is boxes
fixed_hits v [] boxes s = omega arith
fixed_hits v (i ∷ is) boxes s =
    let more = fixed_hits v is boxes s in
    let there : fixed_at (box_of boxes i.0) v ≡ true → has (box_of boxes i.0) v ≡ true = fixed_has (box_of boxes i.0) v (s i.0) in
    grind arith

-- a box that is one value is fixed where it may be
one_there : (s : Ranges) (v : ℤ) → IsValid s → is_one s ≡ true → has s v ≡ true → fixed_at s v ≡ true
one_there s v f o h =
    let is = fixed_value s (low_of s) v f o h in subst (λ (z : ℤ). fixed_at s z ≡ true) (sym is) o

-- ---- all fit

-- what is needed of the items of a part of the list
record AreSettled (v load tight : ℤ) (is : List (ℕ × ℕ × ℕ)) (boxes : Boxes) : Type 0 where
  grown : (load +ℤ growth_at v is boxes) ≤ℤ tight
  least : load ≤ℤ least_room v is boxes
  size : fixed_count v is boxes < hits v is boxes → (load +ℤ open_size is boxes) ≤ℤ tight
  most : fixed_count v is boxes < hits v is boxes → (load +ℤ open_size is boxes) ≤ℤ open_floor is boxes

growth_tail : (f : Bool) (load more rest tight : ℤ) → (load +ℤ cond f (int_max more rest) rest) ≤ℤ tight → (load +ℤ rest) ≤ℤ tight
growth_tail true load more rest tight h = grind (arith, ints)
growth_tail false load more rest tight h = h

least_tail : (f : Bool) (load room rest : ℤ) → load ≤ℤ cond f (int_min room rest) rest → load ≤ℤ rest
least_tail true load room rest h = grind (arith, ints)
least_tail false load room rest h = h

count_tail : (f h : Bool) (count all : ℕ) → (f ≡ true → h ≡ true) → count < all → cond f (suc count) count < cond h (suc all) all
count_tail true true count all k lt = omega arith
count_tail true false count all k lt = absurd (let e = k refl in cc)
count_tail false true count all k lt = omega arith
count_tail false false count all k lt = lt

size_tail : (o : Bool) (load low rest tight : ℤ) → (load +ℤ cond o rest (int_max low rest)) ≤ℤ tight → (load +ℤ rest) ≤ℤ tight
size_tail true load low rest tight h = h
size_tail false load low rest tight h = grind (arith, ints)

floor_tail : (o : Bool) (load low rest room floor : ℤ) → (load +ℤ cond o rest (int_max low rest)) ≤ℤ cond o floor (int_min room floor) → (load +ℤ rest) ≤ℤ floor
floor_tail true load low rest room floor h = h
floor_tail false load low rest room floor h = grind (arith, ints)

settled_tail : (v load tight : ℤ) (i : ℕ × ℕ × ℕ) (is : List (ℕ × ℕ × ℕ)) (boxes : Boxes) → AreSets boxes → AreSettled v load tight (i ∷ is) boxes → AreSettled v load tight is boxes
settled_tail v load tight i is boxes s h =
    let there : fixed_at (box_of boxes i.0) v ≡ true → has (box_of boxes i.0) v ≡ true = fixed_has (box_of boxes i.0) v (s i.0) in
    record {
      grown = growth_tail (fixed_at (box_of boxes i.0) v) load _ _ tight h.grown;
      least = least_tail (fixed_at (box_of boxes i.0) v) load _ _ h.least;
      size = λ lt. size_tail (is_one (box_of boxes i.0)) load _ _ tight (h.size (count_tail (fixed_at (box_of boxes i.0) v) (has (box_of boxes i.0) v) _ _ there lt));
      most = λ lt. floor_tail (is_one (box_of boxes i.0)) load _ _ _ _ (h.most (count_tail (fixed_at (box_of boxes i.0) v) (has (box_of boxes i.0) v) _ _ there lt));
    }

fixed_fits : (v load tight : ℤ) (i : ℕ × ℕ × ℕ) (is : List (ℕ × ℕ × ℕ)) (boxes : Boxes) → AreSettled v load tight (i ∷ is) boxes → fixed_at (box_of boxes i.0) v ≡ true → fits v load tight i boxes ≡ true
fixed_fits v load tight i is boxes h f =
    let grown = rw f at h.grown in let least = rw f at h.least in rw f (grind (arith, ints))

open_fits : (v load tight : ℤ) (i : ℕ × ℕ × ℕ) (is : List (ℕ × ℕ × ℕ)) (boxes : Boxes) → AreSets boxes → AreSettled v load tight (i ∷ is) boxes → fixed_at (box_of boxes i.0) v ≡ false → has (box_of boxes i.0) v ≡ true → fits v load tight i boxes ≡ true
open_fits v load tight i is boxes s h f t =
    let few = fixed_hits v is boxes s in
    let lt : fixed_count v (i ∷ is) boxes < hits v (i ∷ is) boxes = rw (f, t) (omega arith) in
    let o : is_one (box_of boxes i.0) ≡ false = false_from_ne_true (is_one (box_of boxes i.0)) (λ q. let e = one_there (box_of boxes i.0) v (s i.0) q t in absurd cc) in
    let size = rw o at (h.size lt) in let most = rw o at (h.most lt) in
    rw (f, t) (grind (arith, ints))

one_fits : (v load tight : ℤ) (i : ℕ × ℕ × ℕ) (is : List (ℕ × ℕ × ℕ)) (boxes : Boxes) → AreSets boxes → AreSettled v load tight (i ∷ is) boxes → fits v load tight i boxes ≡ true
one_fits v load tight i is boxes s h =
    (elim (fixed_at (box_of boxes i.0) v) as (λ t. fixed_at (box_of boxes i.0) v ≡ t → fits v load tight i boxes ≡ true) [
      | true ↦ λ f. fixed_fits v load tight i is boxes h f
      | false ↦ λ f. (elim (has (box_of boxes i.0) v) as (λ t. has (box_of boxes i.0) v ≡ t → fits v load tight i boxes ≡ true) [
        | true ↦ λ t. open_fits v load tight i is boxes s h f t
        | false ↦ λ t. rw (f, t) refl
      ]) refl
    ]) refl

all_settled : (v : ℤ) (is items : List (ℕ × ℕ × ℕ)) (boxes : Boxes) → AreSets boxes → AreSettled v (fixed_load v items boxes) (tight_room v items boxes) is boxes → all_fit v is items boxes ≡ true
all_settled v [] items boxes s h = refl
all_settled v (i ∷ is) items boxes s h =
    let load = fixed_load v items boxes in let tight = tight_room v items boxes in
    and_from _ _ (one_fits v load tight i is boxes s h) (all_settled v is items boxes s (settled_tail v load tight i is boxes s h))

pub settled_fit : (bin : BinCounts) (v : ℤ) (items : List (ℕ × ℕ × ℕ)) (boxes : Boxes) (count : ℕ) (size floor : ℤ) → All (λ s. IsValid s) boxes → IsCounted bin v items boxes → count ≡ hits v items boxes →
    size ≡ open_size items boxes → floor ≡ open_floor items boxes → IsSettled bin (nat_lt bin.count count) size floor → all_fit v items items boxes ≡ true
settled_fit bin v items boxes count size floor sets is c z f h =
    let load = is.load in let tight = is.tight in let room = is.room in let growth = is.growth in let n = is.count in
    let grown = h.grown in let least = h.least in
    let some : fixed_count v items boxes < hits v items boxes → nat_lt bin.count count ≡ true = λ lt. grind (arith, nat_tests) in
    all_settled v items items boxes (are_sets boxes sets) (record {
      grown = omega (arith, ints);
      least = omega (arith, ints);
      size = λ lt. let k = h.tight (some lt) in omega (arith, ints);
      most = λ lt. let k = h.most (some lt) in omega (arith, ints);
    })

-- ---- the second greatest room

-- how many of the items that may be at v have a room of b at least
abbrev wide : ℤ → ℤ → List (ℕ × ℕ × ℕ) → Boxes → ℕ
wide b v [] boxes = 0
wide b v (i ∷ is) boxes = cond (has (box_of boxes i.0) v && int_le b (high_of (box_of boxes i.2))) (suc (wide b v is boxes)) (wide b v is boxes)

le_test : (a b : ℤ) → a ≤ℤ b → int_le a b ≡ true
le_test a b h = grind (arith, ints)

le_from : (a b : ℤ) → int_le a b ≡ true → a ≤ℤ b
le_from a b h = grind (arith, ints)

-- one of them makes the greatest room as great, two of them the second greatest
first_put : (w : Bool) (b room first : ℤ) (n : ℕ) → (w ≡ true → b ≤ℤ room) → (0 < n → b ≤ℤ first) → 0 < cond w (suc n) n → b ≤ℤ int_max first room
first_put true b room first n h more k = let here = h refl in grind (arith, ints)
first_put false b room first n h more k = let rest = more k in grind (arith, ints)

first_wide : (b v : ℤ) (is : List (ℕ × ℕ × ℕ)) (boxes : Boxes) → 0 < wide b v is boxes → b ≤ℤ (two_rooms v is boxes).0
first_wide b v [] boxes h = absurd (omega arith)
first_wide b v (i ∷ is) boxes h =
    let room = high_of (box_of boxes i.2) in let rest = two_rooms v is boxes in
    (elim (has (box_of boxes i.0) v) as (λ t. has (box_of boxes i.0) v ≡ t → b ≤ℤ (two_rooms v (i ∷ is) boxes).0) [
      | true ↦ λ q. rw q (first_put (int_le b room) b room rest.0 (wide b v is boxes) (le_from b room) (first_wide b v is boxes) (rw q at h))
      | false ↦ λ q. rw q (first_wide b v is boxes (rw q at h))
    ]) refl

second_kept : (frozen : Bool) (b room first second : ℤ) → b ≤ℤ second → b ≤ℤ int_max second (cond frozen room (int_min first room))
second_kept true b room first second h = grind (arith, ints)
second_kept false b room first second h = grind (arith, ints)

second_both : (frozen : Bool) (b room first second : ℤ) → b ≤ℤ room → b ≤ℤ first → b ≤ℤ int_max second (cond frozen room (int_min first room))
second_both true b room first second h k = grind (arith, ints)
second_both false b room first second h k = grind (arith, ints)

second_put : (w frozen : Bool) (b room first second : ℤ) (n : ℕ) → (w ≡ true → b ≤ℤ room) → (0 < n → b ≤ℤ first) → (1 < n → b ≤ℤ second) → 1 < cond w (suc n) n →
    b ≤ℤ int_max second (cond frozen room (int_min first room))
second_put true frozen b room first second n h one two k = second_both frozen b room first second (h refl) (one (omega arith))
second_put false frozen b room first second n h one two k = second_kept frozen b room first second (two k)

second_wide : (b v : ℤ) (is : List (ℕ × ℕ × ℕ)) (boxes : Boxes) → 1 < wide b v is boxes → b ≤ℤ (two_rooms v is boxes).1
second_wide b v [] boxes h = absurd (omega arith)
second_wide b v (i ∷ is) boxes h =
    let room = high_of (box_of boxes i.2) in let rest = two_rooms v is boxes in
    (elim (has (box_of boxes i.0) v) as (λ t. has (box_of boxes i.0) v ≡ t → b ≤ℤ (two_rooms v (i ∷ is) boxes).1) [
      | true ↦ λ q.
          rw q
          (second_put (int_le b room) (is_one (box_of boxes i.0) && is_one (box_of boxes i.2)) b room rest.0 rest.1 (wide b v is boxes) (le_from b room) (first_wide b v is boxes) (second_wide b v is boxes) (rw q at h))
      | false ↦ λ q. rw q (second_wide b v is boxes (rw q at h))
    ]) refl

-- what is at most the least of the rooms is so without the first of them, and at most the first,
-- which is that of an item of either kind
tight_kept : (f : Bool) (b room rest : ℤ) → b ≤ℤ cond f (int_min room rest) rest → b ≤ℤ rest
tight_kept true b room rest h = grind (arith, ints)
tight_kept false b room rest h = h

least_kept : (o : Bool) (b room rest : ℤ) → b ≤ℤ cond o rest (int_min room rest) → b ≤ℤ rest
least_kept true b room rest h = h
least_kept false b room rest h = grind (arith, ints)

room_upto : (f o : Bool) (b room tight floor : ℤ) → (o ≡ true → f ≡ true) → b ≤ℤ cond f (int_min room tight) tight → b ≤ℤ cond o floor (int_min room floor) → b ≤ℤ room
room_upto true o b room tight floor only h k = grind (arith, ints)
room_upto false true b room tight floor only h k = absurd (let no = only refl in cc)
room_upto false false b room tight floor only h k = grind (arith, ints)

wide_more : (h w : Bool) (m all : ℕ) → (h ≡ true → w ≡ true) → all ≤ m → cond h (suc all) all ≤ cond (h && w) (suc m) m
wide_more true w m all k few = let is = k refl in rw is (omega arith)
wide_more false w m all k few = few

-- those that are fixed there have the least of their rooms
fixed_more : (f h w : Bool) (b room rest : ℤ) (n m : ℕ) → (f ≡ true → h ≡ true) → (b ≤ℤ room → w ≡ true) → b ≤ℤ cond f (int_min room rest) rest → (b ≤ℤ rest → n ≤ m) → cond f (suc n) n ≤ cond (h && w) (suc m) m
fixed_more true h w b room rest n m there k e more =
    let hit = there refl in let wide : w ≡ true = k (grind (arith, ints)) in let rest_upto : b ≤ℤ rest = grind (arith, ints) in
    let few = more rest_upto in rw (hit, wide) (omega arith)
fixed_more false h w b room rest n m there k e more = let few = more e in elim (h && w) as (λ t. n ≤ cond t (suc m) m) [ true ↦ omega arith | false ↦ omega arith ]

fixed_wide : (b v : ℤ) (is : List (ℕ × ℕ × ℕ)) (boxes : Boxes) → AreSets boxes → b ≤ℤ tight_room v is boxes → fixed_count v is boxes ≤ wide b v is boxes
fixed_wide b v [] boxes s h = omega arith
fixed_wide b v (i ∷ is) boxes s h =
    fixed_more (fixed_at (box_of boxes i.0) v) (has (box_of boxes i.0) v) (int_le b (high_of (box_of boxes i.2))) b (high_of (box_of boxes i.2)) (tight_room v is boxes) (fixed_count v is boxes) (wide b v is boxes)
    (fixed_has (box_of boxes i.0) v (s i.0)) (le_test b (high_of (box_of boxes i.2))) h (fixed_wide b v is boxes s)

-- the others have the least room of an item whose bin is open
open_more : (f h w o : Bool) (b room rest : ℤ) (n m all : ℕ) → (o ≡ true → h ≡ true → f ≡ true) → (b ≤ℤ room → w ≡ true) → b ≤ℤ cond o rest (int_min room rest) → (b ≤ℤ rest → all ≤ m + n) →
    cond h (suc all) all ≤ cond (h && w) (suc m) m + cond f (suc n) n
open_more true true w true b room rest n m all only k e more = let few = more e in elim w as (λ t. suc all ≤ cond t (suc m) m + suc n) [ true ↦ omega arith | false ↦ omega arith ]
open_more false true w true b room rest n m all only k e more = absurd (let no = only refl refl in cc)
open_more f true w false b room rest n m all only k e more =
    let wide : w ≡ true = k (grind (arith, ints)) in let rest_upto : b ≤ℤ rest = grind (arith, ints) in let few = more rest_upto in
    rw wide (elim f as (λ t. suc all ≤ suc m + cond t (suc n) n) [ true ↦ omega arith | false ↦ omega arith ])
open_more f false w o b room rest n m all only k e more =
    let rest_upto : b ≤ℤ rest = least_kept o b room rest e in let few = more rest_upto in elim f as (λ t. all ≤ m + cond t (suc n) n) [ true ↦ omega arith | false ↦ omega arith ]

open_wide : (b v : ℤ) (is : List (ℕ × ℕ × ℕ)) (boxes : Boxes) → AreSets boxes → b ≤ℤ open_floor is boxes → hits v is boxes ≤ wide b v is boxes + fixed_count v is boxes
open_wide b v [] boxes s h = omega arith
open_wide b v (i ∷ is) boxes s h =
    open_more (fixed_at (box_of boxes i.0) v) (has (box_of boxes i.0) v) (int_le b (high_of (box_of boxes i.2))) (is_one (box_of boxes i.0)) b (high_of (box_of boxes i.2)) (open_floor is boxes)
    (fixed_count v is boxes) (wide b v is boxes) (hits v is boxes) (one_there (box_of boxes i.0) v (s i.0)) (le_test b (high_of (box_of boxes i.2))) h (open_wide b v is boxes s)

-- and all of them the least of both
both_more : (f h w o : Bool) (b room tight floor : ℤ) (m all : ℕ) → (o ≡ true → h ≡ true → f ≡ true) → (b ≤ℤ room → w ≡ true) → b ≤ℤ cond f (int_min room tight) tight → b ≤ℤ cond o floor (int_min room floor) →
    (b ≤ℤ tight → b ≤ℤ floor → all ≤ m) → cond h (suc all) all ≤ cond (h && w) (suc m) m
both_more f h w o b room tight floor m all only k e g more =
    let tight_upto : b ≤ℤ tight = tight_kept f b room tight e in let floor_upto : b ≤ℤ floor = least_kept o b room floor g in let few = more tight_upto floor_upto in
    let wide : h ≡ true → w ≡ true = λ q. k (room_upto f o b room tight floor (λ p. only p q) e g) in
    wide_more h w m all wide few

both_wide : (b v : ℤ) (is : List (ℕ × ℕ × ℕ)) (boxes : Boxes) → AreSets boxes → b ≤ℤ tight_room v is boxes → b ≤ℤ open_floor is boxes → hits v is boxes ≤ wide b v is boxes
both_wide b v [] boxes s h k = omega arith
both_wide b v (i ∷ is) boxes s h k =
    both_more (fixed_at (box_of boxes i.0) v) (has (box_of boxes i.0) v) (int_le b (high_of (box_of boxes i.2))) (is_one (box_of boxes i.0)) b (high_of (box_of boxes i.2)) (tight_room v is boxes) (open_floor is boxes)
    (wide b v is boxes) (hits v is boxes) (one_there (box_of boxes i.0) v (s i.0)) (le_test b (high_of (box_of boxes i.2))) h k (both_wide b v is boxes s)

-- where one stands whose room is single
fixed_one : (s : Ranges) (v : ℤ) → fixed_at s v ≡ true → is_one s ≡ true
fixed_one s v h =
    let a = and_parts (not (is_nil s)) (int_eq (low_of s) v && int_eq (high_of s) v) h in
    let b = and_parts (int_eq (low_of s) v) (int_eq (high_of s) v) a.1 in
    let low = (Decides-int_eq (low_of s) v).0 b.0 in subst (λ (z : ℤ). fixed_at s z ≡ true) (sym low) h

second_single : (b room tight second : ℤ) → b ≤ℤ int_min room tight → b ≤ℤ int_max second room
second_single b room tight second h = grind (arith, ints)

second_frozen : (b v : ℤ) (is : List (ℕ × ℕ × ℕ)) (boxes : Boxes) → AreSets boxes → b ≤ℤ tight_room v is boxes → some_frozen v is boxes ≡ true → b ≤ℤ (two_rooms v is boxes).1
second_frozen b v [] boxes s k h = absurd cc
second_frozen b v (i ∷ is) boxes s k h =
    let room = high_of (box_of boxes i.2) in let rest = two_rooms v is boxes in
    let P : Type 0 = b ≤ℤ (two_rooms v (i ∷ is) boxes).1 in
    let tight_upto : b ≤ℤ tight_room v is boxes = tight_kept (fixed_at (box_of boxes i.0) v) b room (tight_room v is boxes) k in
    (elim (fixed_at (box_of boxes i.0) v) as (λ t. fixed_at (box_of boxes i.0) v ≡ t → P) [
      | true ↦ λ f.
          let there = fixed_has (box_of boxes i.0) v (s i.0) f in let single = fixed_one (box_of boxes i.0) v f in
          elim (or_cases (some_frozen v is boxes) (is_one (box_of boxes i.2)) (rw f at h)) [
            | inl q ↦ let more = second_frozen b v is boxes s tight_upto q in rw (there, single) (second_kept (is_one (box_of boxes i.2)) b room rest.0 rest.1 more)
            | inr q ↦ rw (there, single, q) (second_single b room (tight_room v is boxes) rest.1 (rw f at k))
          ]
      | false ↦ λ f.
          let more = second_frozen b v is boxes s tight_upto (rw f at h) in
          (elim (has (box_of boxes i.0) v) as (λ t. has (box_of boxes i.0) v ≡ t → P) [
            | true ↦ λ t. rw t (second_kept (is_one (box_of boxes i.0) && is_one (box_of boxes i.2)) b room rest.0 rest.1 more)
            | false ↦ λ t. rw t more
          ]) refl
    ]) refl

second_low : (v : ℤ) (is : List (ℕ × ℕ × ℕ)) (boxes : Boxes) → pos 0 ≤ℤ (two_rooms v is boxes).1
second_low v [] boxes = omega (arith, ints)
second_low v (i ∷ is) boxes =
    let more = second_low v is boxes in
    (elim (has (box_of boxes i.0) v) as (λ t. has (box_of boxes i.0) v ≡ t → pos 0 ≤ℤ (two_rooms v (i ∷ is) boxes).1) [
      | true ↦ λ t. rw t (second_kept (is_one (box_of boxes i.0) && is_one (box_of boxes i.2)) (pos 0) (high_of (box_of boxes i.2)) (two_rooms v is boxes).0 (two_rooms v is boxes).1 more)
      | false ↦ λ t. rw t more
    ]) refl

-- what the numbers of a bin show is no more than the second greatest room
where_upto : (counts : Bool) (room most : ℤ) → pos 0 ≤ℤ most → (counts ≡ true → room ≤ℤ most) → room_where counts room ≤ℤ most
where_upto true room most h k = let upto = k refl in grind (arith, ints)
where_upto false room most h k = h

where_low : (counts : Bool) (room : ℤ) → pos 0 ≤ℤ room_where counts room
where_low true room = grind (arith, ints)
where_low false room = omega (arith, ints)

max_upto : (a b c most : ℤ) → a ≤ℤ most → b ≤ℤ most → c ≤ℤ most → int_max a (int_max b c) ≤ℤ most
max_upto a b c most h k l = grind (arith, ints)

max_least : (a b : ℤ) → pos 0 ≤ℤ a → pos 0 ≤ℤ int_max a b
max_least a b h = grind (arith, ints)

pub second_most : (bin : BinCounts) (others : ℕ) (floor most : ℤ) → pos 0 ≤ℤ most → floor ≤ℤ most → bin.tight.value ≤ℤ most → least_second bin others floor ≤ℤ most
second_most bin others floor most low f t =
    max_upto _ _ _ most (where_upto (nat_le 2 others) floor most low (λ q. f)) (where_upto (bin.frozen || nat_le 2 bin.count) bin.tight.value most low (λ q. t))
    (where_upto (nat_le 1 others && nat_le 1 bin.count) (int_min floor bin.tight.value) most low (λ q. grind (arith, ints)))

pub second_least : (bin : BinCounts) (others : ℕ) (floor : ℤ) → pos 0 ≤ℤ least_second bin others floor
second_least bin others floor =
    max_least (room_where (nat_le 2 others) floor) _ (where_low (nat_le 2 others) floor)

pub second_upto : (bin : BinCounts) (v : ℤ) (items : List (ℕ × ℕ × ℕ)) (boxes : Boxes) (count : ℕ) (floor : ℤ) → All (λ s. IsValid s) boxes → IsCounted bin v items boxes → count ≡ hits v items boxes → floor ≡ open_floor items boxes →
    least_second bin (count - bin.count) floor ≤ℤ (two_rooms v items boxes).1
second_upto bin v items boxes count floor sets is c f =
    let low = second_low v items boxes in let s = are_sets boxes sets in let n = is.count in let t = is.tight in
    let tight : bin.tight.value ≤ℤ tight_room v items boxes = omega (arith, ints) in
    let open_room : floor ≤ℤ open_floor items boxes = omega (arith, ints) in
    let most = (two_rooms v items boxes).1 in
    max_upto _ _ _ most
    (where_upto (nat_le 2 (count - bin.count)) floor most low (λ q.
    let all = open_wide floor v items boxes s open_room in second_wide floor v items boxes (grind (arith, nat_tests))))
    (where_upto (bin.frozen || nat_le 2 bin.count) bin.tight.value most low (λ q. elim (or_cases bin.frozen (nat_le 2 bin.count) q) [
      | inl p ↦ second_frozen bin.tight.value v items boxes s tight (sym is.frozen ∙ p)
      | inr p ↦ let all = fixed_wide bin.tight.value v items boxes s tight in second_wide bin.tight.value v items boxes (grind (arith, nat_tests))
    ]))
    (where_upto (nat_le 1 (count - bin.count) && nat_le 1 bin.count) (int_min floor bin.tight.value) most low (λ q.
    let b = int_min floor bin.tight.value in let p = and_parts (nat_le 1 (count - bin.count)) (nat_le 1 bin.count) q in let others = p.0 in let fixed = p.1 in
    let to_tight : b ≤ℤ tight_room v items boxes = grind (arith, ints) in let to_floor : b ≤ℤ open_floor items boxes = grind (arith, ints) in
    let all = both_wide b v items boxes s to_tight to_floor in second_wide b v items boxes (grind (arith, nat_tests))))
