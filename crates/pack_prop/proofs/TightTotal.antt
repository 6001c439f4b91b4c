-- There is room for all least sizes, also where one open box is narrowed to a value, where what is
-- left of the greatest rooms is enough.
use Rattle.std.proofs.Common.{◌≡◌, ℕ, suc, Bool, true, false, not, ◌&&◌, ◌||◌, cond, List, [], ◌∷◌, ◌++◌, ℤ, pos, ◌+ℤ◌, ◌-ℤ◌, ◌≤ℤ◌, ◌<ℤ◌, All, length, refl, arith, inl, inr, subst, sym, ap, ◌∙◌}
use Rattle.std.specs.Prelude.{◌==◌, int_le, int_lt}
use Rattle.std.specs.Int.{int_max}
use Rattle.std.proofs.lemmas.Int.{ints}
use Rattle.std.proofs.lemmas.Bool.{and_parts, or_cases}
use Rattle.std.proofs.lemmas.Bool.Decides.{Decides-int_eq}
use Rattle.signed_clause.specs.Ranges.{has}
use Rattle.signed_clause.specs.Clauses.{Boxes, box_of}
use Rattle.ground_form.specs.Bounds.{low_of, high_of}
use Rattle.box_view.specs.Views.{fixing}
use Rattle.box_rules.specs.Refuted.{least_sizes, best_room, rooms_from, all_room}
use Rattle.rule_law.specs.Repeats.{is_one}
use Rattle.box_view.proofs.EndLaws.{AreSets, above_low, below_high, single_has}
use Rattle.box_rules.proofs.PackLaws.{best_room-ge}
use Rattle.box_view.proofs.SetLaws.{fixing_same}
use Rattle.pack_prop.specs.declared.best_rooms.ValueRooms.{ValueRooms}
use Rattle.pack_prop.specs.Tight.{AreValueRooms, AreBestRooms, firsts, left_at, lefts, may_grow, may_be_at, may_be_in, may_move, may_shrink, all_grow, all_loose, IsBetween, HasEach}
use Rattle.pack_fit.proofs.Spots.{Role, Bin, Size, Room}
use Rattle.pack_fit.proofs.OneBox.{other_box, best_away, sizes_away, sizes_split}
use Rattle.pack_fit.proofs.TotalRoom.{first_is, second_without, in_all}
use Rattle.pack_fit.proofs.PackLoads.{HasSlack}
use Rattle.pack_fit.proofs.PackTotal.{HasRoom, fixed_sets, vars_joined, best_same}

-- ---- truths and numbers

le_from : (a b : ℤ) → int_le a b ≡ true → a ≤ℤ b
le_from a b h = grind (arith, ints)

not_less : (a b : ℤ) → b ≤ℤ a → int_lt a b ≡ false
not_less a b h = grind (arith, ints)

-- where the part isn't one, what is tested of it holds
open_test : (one test : Bool) → (one || test) ≡ true → one ≡ false → test ≡ true
open_test true test h e = absurd cc
open_test false test h e = h

and_first : (x y : Bool) → x ≡ false → (x && y) ≡ false
and_first true y h = absurd cc
and_first false y h = refl

and_second : (x y : Bool) → y ≡ false → (x && y) ≡ false
and_second true y h = h
and_second false y h = refl

or_second : (x y : Bool) → (not x || y) ≡ true → x ≡ true → y ≡ true
or_second true y h e = h
or_second false y h e = absurd cc

greater_room : (there : Bool) (low v rest : ℤ) → low ≤ℤ v → cond there (int_max low rest) rest ≤ℤ cond there (int_max v rest) rest
greater_room true low v rest h = grind (arith, ints)
greater_room false low v rest h = omega (arith, ints)

at_rest : (there : Bool) (rest : ℤ) → pos 0 ≤ℤ rest → cond there (int_max (pos 0) rest) rest ≤ℤ rest
at_rest true rest h = grind (arith, ints)
at_rest false rest h = omega (arith, ints)

with_any : (there : Bool) (high rest : ℤ) → rest ≤ℤ cond there (int_max high rest) rest
with_any true high rest = grind (arith, ints)
with_any false high rest = omega (arith, ints)

-- ---- one value

past : (s t : Bool) (one two rest : ℤ) → cond s (int_max one (cond t (int_max two rest) rest)) (cond t (int_max two rest) rest) ≡ cond t (int_max two (cond s (int_max one rest) rest)) (cond s (int_max one rest) rest)
past true true one two rest = grind (arith, ints)
past true false one two rest = refl
past false true one two rest = refl
past false false one two rest = refl

best_split : (w : ℤ) (front : List (ℕ × ℕ × ℕ)) (i : ℕ × ℕ × ℕ) (back : List (ℕ × ℕ × ℕ)) (boxes : Boxes) →
    best_room w (front ++ i ∷ back) boxes ≡ cond (has (box_of boxes i.0) w) (int_max (high_of (box_of boxes i.2)) (best_room w (front ++ back) boxes)) (best_room w (front ++ back) boxes)
best_split w [] i back boxes = refl
best_split w (j ∷ front) i back boxes =
    let more = best_split w front i back boxes in
    rw more (past (has (box_of boxes j.0) w) (has (box_of boxes i.0) w) (high_of (box_of boxes j.2)) (high_of (box_of boxes i.2)) (best_room w (front ++ back) boxes))

-- what is left where a room of the rest and one that counts as `room` are there
upto_rest : (there : Bool) (first second high rest room : ℤ) → first ≡ cond there (int_max high rest) rest → second ≤ℤ rest →
    cond (there && int_le first high) (int_max second room) first ≤ℤ cond there (int_max room rest) rest
upto_rest true first second high rest room e h =
    (elim (int_le first high) as (λ t. int_le first high ≡ t → cond t (int_max second room) first ≤ℤ int_max room rest) [
      | true ↦ λ q. grind (arith, ints)
      | false ↦ λ q. grind (arith, ints)
    ]) refl
upto_rest false first second high rest room e h = omega (arith, ints)

left_upto : (w : ℤ) (b : ValueRooms) (front : List (ℕ × ℕ × ℕ)) (i : ℕ × ℕ × ℕ) (back : List (ℕ × ℕ × ℕ)) (boxes : Boxes) (room : ℤ) → (is_one (box_of boxes i.0) && is_one (box_of boxes i.2)) ≡ false → AreValueRooms w b (front ++ i ∷ back) boxes →
    left_at b room i boxes ≤ℤ cond (has (box_of boxes i.0) w) (int_max room (best_room w (front ++ back) boxes)) (best_room w (front ++ back) boxes)
left_upto w b front i back boxes room f is =
    let first : b.first.value ≡ cond (has (box_of boxes i.0) w) (int_max (high_of (box_of boxes i.2)) (best_room w (front ++ back) boxes)) (best_room w (front ++ back) boxes) =
    is.first_is ∙ first_is w (front ++ i ∷ back) boxes ∙ best_split w front i back boxes in
    let second : b.second.value ≤ℤ best_room w (front ++ back) boxes = let k = second_without w front i back boxes f in let e = is.second_is in omega (arith, ints, k, e) in
    subst (λ (z : ℤ). cond (has (box_of boxes i.0) z && int_le b.first.value (high_of (box_of boxes i.2))) (int_max b.second.value room) b.first.value ≤ℤ
    cond (has (box_of boxes i.0) w) (int_max room (best_room w (front ++ back) boxes)) (best_room w (front ++ back) boxes)) (sym is.value_is)
    (upto_rest (has (box_of boxes i.0) w) b.first.value b.second.value (high_of (box_of boxes i.2)) (best_room w (front ++ back) boxes) room first second)

-- ---- all values

-- at no value more is left than the greatest room in the later boxes
abbrev Lefts : List (ℕ × ℕ × ℕ) → Boxes → ℤ → ℕ × ℕ × ℕ → Boxes → Type 0
Lefts items boxes room i later = (w : ℤ) (b : ValueRooms) → AreValueRooms w b items boxes → left_at b room i boxes ≤ℤ best_room w items later

lefts_le : (v : ℤ) (bs : List ValueRooms) (items : List (ℕ × ℕ × ℕ)) (boxes : Boxes) (room : ℤ) (i : ℕ × ℕ × ℕ) (later : Boxes) → Lefts items boxes room i later → AreBestRooms v bs items boxes →
    lefts bs room i boxes ≤ℤ rooms_from (length bs) v items later
lefts_le v [] items boxes room i later h a = omega (arith, ints)
lefts_le v (b ∷ bs) items boxes room i later h a =
    let one = h v b a.0 in let more = lefts_le (v +ℤ pos 1) bs items boxes room i later h a.1 in omega (arith, ints, one, more)

firsts_le : (v : ℤ) (bs : List ValueRooms) (items : List (ℕ × ℕ × ℕ)) (boxes later : Boxes) → ((w : ℤ) → best_room w items later ≡ best_room w items boxes) → AreBestRooms v bs items boxes →
    firsts bs ≤ℤ rooms_from (length bs) v items later
firsts_le v [] items boxes later h a = omega (arith, ints)
firsts_le v (b ∷ bs) items boxes later h a =
    let one = h v in let first = a.0.first_is in let is = first_is v items boxes in
    let more = firsts_le (v +ℤ pos 1) bs items boxes later h a.1 in omega (arith, ints, one, first, is, more)

-- what is gained at the bin
gain_at : (need sum : ℤ) (b : ValueRooms) (i : ℕ × ℕ × ℕ) (boxes : Boxes) (u : ℤ) → may_be_at need sum b i boxes ≡ true → has (box_of boxes i.0) u ≡ true → b.at.value ≡ u → need ≤ℤ (sum +ℤ (b.first.value -ℤ left_at b (pos 0) i boxes))
gain_at need sum b i boxes u h there e =
    let at : has (box_of boxes i.0) b.at.value ≡ true = subst (λ (z : ℤ). has (box_of boxes i.0) z ≡ true) (sym e) there in
    let k : int_le need (sum +ℤ (b.first.value -ℤ left_at b (pos 0) i boxes)) ≡ true = or_second (has (box_of boxes i.0) b.at.value) (int_le need (sum +ℤ (b.first.value -ℤ left_at b (pos 0) i boxes))) h at in
    le_from need (sum +ℤ (b.first.value -ℤ left_at b (pos 0) i boxes)) k

gain_le : (need sum v u : ℤ) (bs : List ValueRooms) (items : List (ℕ × ℕ × ℕ)) (boxes : Boxes) (i : ℕ × ℕ × ℕ) (later : Boxes) → Lefts items boxes (pos 0) i later → best_room u items boxes ≤ℤ best_room u items later →
    has (box_of boxes i.0) u ≡ true → v ≤ℤ u → u <ℤ (v +ℤ pos (length bs)) → AreBestRooms v bs items boxes → may_be_in need sum bs i boxes ≡ true →
    (need +ℤ lefts bs (pos 0) i boxes) ≤ℤ (sum +ℤ rooms_from (length bs) v items later)
gain_le need sum v u [] items boxes i later h m there l k a e = absurd (omega (arith, ints))
gain_le need sum v u (b ∷ bs) items boxes i later h m there l k a e =
    let parts = and_parts (may_be_at need sum b i boxes) (may_be_in need sum bs i boxes) e in
    (elim (int_lt v u) as (λ t. int_lt v u ≡ t → (need +ℤ (left_at b (pos 0) i boxes +ℤ lefts bs (pos 0) i boxes)) ≤ℤ (sum +ℤ (best_room v items later +ℤ rooms_from (length bs) (v +ℤ pos 1) items later))) [
      | true ↦ λ q.
          let less : v <ℤ u = grind (arith, ints) in
          let one = h v b a.0 in
          let more = gain_le need sum (v +ℤ pos 1) u bs items boxes i later h m there (omega (arith, ints, less)) (omega (arith, ints, k)) a.1 parts.1 in omega (arith, ints, one, more)
      | false ↦ λ q.
          let same : v ≡ u = grind (arith, ints) in
          let gain = gain_at need sum b i boxes u parts.0 there (a.0.value_is ∙ same) in
          let first = a.0.first_is in let is = first_is v items boxes in
          let most : best_room v items boxes ≤ℤ best_room v items later = subst (λ (z : ℤ). best_room z items boxes ≤ℤ best_room z items later) (sym same) m in
          let more = lefts_le (v +ℤ pos 1) bs items boxes (pos 0) i later h a.1 in omega (arith, ints, gain, first, is, most, more)
    ]) refl

-- ---- sizes

sizes_change : (front : List (ℕ × ℕ × ℕ)) (i : ℕ × ℕ × ℕ) (back : List (ℕ × ℕ × ℕ)) (boxes : Boxes) (x : ℕ) (v : ℤ) → HasSlack front i back boxes x v →
    least_sizes (front ++ i ∷ back) (fixing boxes x v) +ℤ low_of (box_of boxes i.1) ≡ least_sizes (front ++ i ∷ back) boxes +ℤ low_of (box_of (fixing boxes x v) i.1)
sizes_change front i back boxes x v r =
    let one = sizes_split front i back (fixing boxes x v) in let two = sizes_split front i back boxes in
    let f = sizes_away front boxes x v r.not_front in let b = sizes_away back boxes x v r.not_back in omega (arith, ints)

-- the rest's greatest room stays
rest_same : (w : ℤ) (front : List (ℕ × ℕ × ℕ)) (i : ℕ × ℕ × ℕ) (back : List (ℕ × ℕ × ℕ)) (boxes : Boxes) (x : ℕ) (v : ℤ) → HasSlack front i back boxes x v → best_room w (front ++ back) (fixing boxes x v) ≡ best_room w (front ++ back) boxes
rest_same w front i back boxes x v r = best_away w (front ++ back) boxes x v (vars_joined x front back r.not_front r.not_back)

-- ---- what is tested of the item

record IsLoose (need : ℤ) (rows : List ValueRooms) (i : ℕ × ℕ × ℕ) (boxes : Boxes) : Type 0 where
  move : may_move need rows i boxes ≡ true
  shrink : may_shrink need rows i boxes ≡ true

grow_at : (need all : ℤ) (front : List (ℕ × ℕ × ℕ)) (i : ℕ × ℕ × ℕ) (back : List (ℕ × ℕ × ℕ)) (boxes : Boxes) → all_grow need all (front ++ i ∷ back) boxes ≡ true → may_grow need all i boxes ≡ true
grow_at need all [] i back boxes h = (and_parts (may_grow need all i boxes) (all_grow need all back boxes) h).0
grow_at need all (j ∷ front) i back boxes h = grow_at need all front i back boxes (and_parts (may_grow need all j boxes) (all_grow need all (front ++ i ∷ back) boxes) h).1

loose_at : (need : ℤ) (rows : List ValueRooms) (front : List (ℕ × ℕ × ℕ)) (i : ℕ × ℕ × ℕ) (back : List (ℕ × ℕ × ℕ)) (boxes : Boxes) → all_loose need rows (front ++ i ∷ back) boxes ≡ true → IsLoose need rows i boxes
loose_at need rows [] i back boxes h =
    let p = and_parts (may_move need rows i boxes) (may_shrink need rows i boxes && all_loose need rows back boxes) h in
    let q = and_parts (may_shrink need rows i boxes) (all_loose need rows back boxes) p.1 in record { move = p.0; shrink = q.0 }
loose_at need rows (j ∷ front) i back boxes h =
    let rest = all_loose need rows (front ++ i ∷ back) boxes in
    let p = and_parts (may_move need rows j boxes) (may_shrink need rows j boxes && rest) h in
    loose_at need rows front i back boxes (and_parts (may_shrink need rows j boxes) rest p.1).1

between_at : (a b : ℤ) (front : List (ℕ × ℕ × ℕ)) (i : ℕ × ℕ × ℕ) (back : List (ℕ × ℕ × ℕ)) (boxes : Boxes) → All (λ j. IsBetween a b j boxes) (front ++ i ∷ back) → IsBetween a b i boxes
between_at a b [] i back boxes h = h 0 i (omega arith)
between_at a b (j ∷ front) i back boxes h = between_at a b front i back boxes (λ k d lt. h (suc k) d (omega arith))

-- ---- one value in place of each box

record Rows (items : List (ℕ × ℕ × ℕ)) (i : ℕ × ℕ × ℕ) (boxes : Boxes) : Type 0 where
  start : ℤ
  rows : List ValueRooms
  rooms : AreBestRooms start rows items boxes
  bin : IsBetween start (start +ℤ pos (length rows)) i boxes
  grow : may_grow (least_sizes items boxes) (firsts rows) i boxes ≡ true
  loose : IsLoose (least_sizes items boxes) rows i boxes

size_later : (front : List (ℕ × ℕ × ℕ)) (i : ℕ × ℕ × ℕ) (back : List (ℕ × ℕ × ℕ)) (boxes : Boxes) (x : ℕ) (v : ℤ) → HasSlack front i back boxes x v → (i.1 == x) ≡ false → least_sizes (front ++ i ∷ back) (fixing boxes x v) ≡ least_sizes (front ++ i ∷ back) boxes
size_later front i back boxes x v r f =
    let size = ap (λ (z : List (ℤ × ℤ)). low_of z) (other_box boxes x i.1 v f) in let change = sizes_change front i back boxes x v r in omega (arith, ints, size, change)

room_total : (front : List (ℕ × ℕ × ℕ)) (i : ℕ × ℕ × ℕ) (back : List (ℕ × ℕ × ℕ)) (boxes : Boxes) (x : ℕ) (v : ℤ) → HasSlack front i back boxes x v → Rows (front ++ i ∷ back) i boxes → (i.0 == x) ≡ false → (i.1 == x) ≡ false → i.2 ≡ x →
    least_sizes (front ++ i ∷ back) (fixing boxes x v) ≤ℤ all_room (front ++ i ∷ back) (fixing boxes x v)
room_total front i back boxes x v r t e f g =
    let items = front ++ i ∷ back in let later = fixing boxes x v in let low = low_of (box_of boxes i.2) in
    let open_room : is_one (box_of boxes i.2) ≡ false = subst (λ (z : ℕ). is_one (box_of boxes z) ≡ false) (sym g) r.is_open in
    let there : has (box_of boxes i.2) v ≡ true = subst (λ (z : ℕ). has (box_of boxes z) v ≡ true) (sym g) r.member in
    let above = above_low (box_of boxes i.2) v (r.sets i.2) there in
    let bin = other_box boxes x i.0 v e in
    let room : box_of later i.2 ≡ (v, v) ∷ [] = subst (λ (z : ℕ). box_of later z ≡ (v, v) ∷ []) (sym g) (fixing_same boxes x v r.named) in
    let left : Lefts items boxes low i later = λ w b is.
    let one = left_upto w b front i back boxes low (and_second (is_one (box_of boxes i.0)) (is_one (box_of boxes i.2)) open_room) is in
    let split : best_room w items later ≡ cond (has (box_of boxes i.0) w) (int_max v (best_room w (front ++ back) boxes)) (best_room w (front ++ back) boxes) =
    best_split w front i back later ∙ rw (bin, room, rest_same w front i back boxes x v r) refl in
    let most = greater_room (has (box_of boxes i.0) w) low v (best_room w (front ++ back) boxes) above in omega (arith, ints, one, split, most) in
    let need = le_from (least_sizes items boxes) (lefts t.rows low i boxes) (open_test (is_one (box_of boxes i.2)) (int_le (least_sizes items boxes) (lefts t.rows low i boxes)) t.loose.shrink open_room) in
    let rooms = lefts_le t.start t.rows items boxes low i later left t.rooms in
    let all = in_all (length t.rows) t.start items later (fixed_sets boxes x v r.sets r.named r.member) in
    let sizes = size_later front i back boxes x v r f in omega (arith, ints, need, rooms, all, sizes)

size_total : (front : List (ℕ × ℕ × ℕ)) (i : ℕ × ℕ × ℕ) (back : List (ℕ × ℕ × ℕ)) (boxes : Boxes) (x : ℕ) (v : ℤ) → HasSlack front i back boxes x v → Rows (front ++ i ∷ back) i boxes → (i.0 == x) ≡ false → i.1 ≡ x → (i.2 == x) ≡ false →
    least_sizes (front ++ i ∷ back) (fixing boxes x v) ≤ℤ all_room (front ++ i ∷ back) (fixing boxes x v)
size_total front i back boxes x v r t e f g =
    let items = front ++ i ∷ back in let later = fixing boxes x v in
    let size : low_of (box_of later i.1) ≡ v = ap (λ (z : List (ℤ × ℤ)). low_of z) (subst (λ (z : ℕ). box_of later z ≡ (v, v) ∷ []) (sym f) (fixing_same boxes x v r.named)) in
    let there : has (box_of boxes i.1) v ≡ true = subst (λ (z : ℕ). has (box_of boxes z) v ≡ true) (sym f) r.member in
    let below = below_high (box_of boxes i.1) v (r.sets i.1) there in
    let change = sizes_change front i back boxes x v r in
    let grow = le_from (least_sizes items boxes +ℤ (high_of (box_of boxes i.1) -ℤ low_of (box_of boxes i.1))) (firsts t.rows) t.grow in
    let rooms = firsts_le t.start t.rows items boxes later (λ w. best_same w front i back boxes x v r.not_front r.not_back e g) t.rooms in
    let all = in_all (length t.rows) t.start items later (fixed_sets boxes x v r.sets r.named r.member) in omega (arith, ints, size, below, change, grow, rooms, all)

-- ---- a bin

-- where the item isn't at the value, the rest's greatest room is left; where it is, all of it
bin_left : (front : List (ℕ × ℕ × ℕ)) (i : ℕ × ℕ × ℕ) (back : List (ℕ × ℕ × ℕ)) (boxes : Boxes) (x : ℕ) (v : ℤ) → HasSlack front i back boxes x v → i.0 ≡ x → Lefts (front ++ i ∷ back) boxes (pos 0) i (fixing boxes x v)
bin_left front i back boxes x v r e w b is =
    let later = fixing boxes x v in
    let open_bin : is_one (box_of boxes i.0) ≡ false = subst (λ (z : ℕ). is_one (box_of boxes z) ≡ false) (sym e) r.is_open in
    let one = left_upto w b front i back boxes (pos 0) (and_first (is_one (box_of boxes i.0)) (is_one (box_of boxes i.2)) open_bin) is in
    let some = best_room-ge w (front ++ back) boxes in
    let split = best_split w front i back later in let same = rest_same w front i back boxes x v r in
    let least = at_rest (has (box_of boxes i.0) w) (best_room w (front ++ back) boxes) some in
    let most = with_any (has (box_of later i.0) w) (high_of (box_of later i.2)) (best_room w (front ++ back) later) in omega (arith, ints, one, split, same, least, most)

bin_gain : (front : List (ℕ × ℕ × ℕ)) (i : ℕ × ℕ × ℕ) (back : List (ℕ × ℕ × ℕ)) (boxes : Boxes) (x : ℕ) (v : ℤ) → HasSlack front i back boxes x v → i.0 ≡ x → (i.2 == x) ≡ false → best_room v (front ++ i ∷ back) boxes ≤ℤ best_room v (front ++ i ∷ back) (fixing boxes x v)
bin_gain front i back boxes x v r e g =
    let later = fixing boxes x v in
    let bin : box_of later i.0 ≡ (v, v) ∷ [] = subst (λ (z : ℕ). box_of later z ≡ (v, v) ∷ []) (sym e) (fixing_same boxes x v r.named) in
    let here : has (box_of later i.0) v ≡ true = ap (λ (z : List (ℤ × ℤ)). has z v) bin ∙ single_has v v ∙ (Decides-int_eq v v).1 refl in
    let there : has (box_of boxes i.0) v ≡ true = subst (λ (z : ℕ). has (box_of boxes z) v ≡ true) (sym e) r.member in
    let room = other_box boxes x i.2 v g in let same = rest_same v front i back boxes x v r in
    let now : best_room v (front ++ i ∷ back) boxes ≡ int_max (high_of (box_of boxes i.2)) (best_room v (front ++ back) boxes) = best_split v front i back boxes ∙ rw there refl in
    let then : best_room v (front ++ i ∷ back) later ≡ int_max (high_of (box_of boxes i.2)) (best_room v (front ++ back) boxes) = best_split v front i back later ∙ rw (here, room, same) refl in omega (arith, ints, now, then)

bin_total : (front : List (ℕ × ℕ × ℕ)) (i : ℕ × ℕ × ℕ) (back : List (ℕ × ℕ × ℕ)) (boxes : Boxes) (x : ℕ) (v : ℤ) → HasSlack front i back boxes x v → Rows (front ++ i ∷ back) i boxes → i.0 ≡ x → (i.1 == x) ≡ false → (i.2 == x) ≡ false →
    least_sizes (front ++ i ∷ back) (fixing boxes x v) ≤ℤ all_room (front ++ i ∷ back) (fixing boxes x v)
bin_total front i back boxes x v r t e f g =
    let items = front ++ i ∷ back in let later = fixing boxes x v in let need = least_sizes items boxes in let sum = lefts t.rows (pos 0) i boxes in
    let open_bin : is_one (box_of boxes i.0) ≡ false = subst (λ (z : ℕ). is_one (box_of boxes z) ≡ false) (sym e) r.is_open in
    let there : has (box_of boxes i.0) v ≡ true = subst (λ (z : ℕ). has (box_of boxes z) v ≡ true) (sym e) r.member in
    let low = above_low (box_of boxes i.0) v (r.sets i.0) there in let high = below_high (box_of boxes i.0) v (r.sets i.0) there in
    let left = bin_left front i back boxes x v r e in
    let rooms = lefts_le t.start t.rows items boxes (pos 0) i later left t.rooms in
    let all = in_all (length t.rows) t.start items later (fixed_sets boxes x v r.sets r.named r.member) in
    let sizes = size_later front i back boxes x v r f in
    let test = open_test (is_one (box_of boxes i.0)) (int_le need sum || may_be_in need sum t.rows i boxes) t.loose.move open_bin in
    let a = t.bin.low in let b = t.bin.high in
    elim (or_cases (int_le need sum) (may_be_in need sum t.rows i boxes) test) [
      | inl q ↦ let enough = le_from need sum q in omega (arith, ints, enough, rooms, all, sizes)
      | inr q ↦
          let gain = gain_le need sum t.start v t.rows items boxes i later left (bin_gain front i back boxes x v r e g) there (omega (arith, ints, low, a)) (omega (arith, ints, high, b)) t.rooms q in
          omega (arith, ints, gain, rooms, all, sizes)
    ]

-- ---- all of it

role_total : (front : List (ℕ × ℕ × ℕ)) (i : ℕ × ℕ × ℕ) (back : List (ℕ × ℕ × ℕ)) (boxes : Boxes) (x : ℕ) (v : ℤ) → HasSlack front i back boxes x v → Rows (front ++ i ∷ back) i boxes → Role x i →
    least_sizes (front ++ i ∷ back) (fixing boxes x v) ≤ℤ all_room (front ++ i ∷ back) (fixing boxes x v)
role_total front i back boxes x v r t (Bin e f g) = bin_total front i back boxes x v r t e f g
role_total front i back boxes x v r t (Size e f g) = size_total front i back boxes x v r t e f g
role_total front i back boxes x v r t (Room e f g) = room_total front i back boxes x v r t e f g

rows_at : (front : List (ℕ × ℕ × ℕ)) (i : ℕ × ℕ × ℕ) (back : List (ℕ × ℕ × ℕ)) (boxes : Boxes) → HasEach (front ++ i ∷ back) boxes → Rows (front ++ i ∷ back) i boxes
rows_at front i back boxes h = record {
  start = h.start;
  rows = h.rows;
  rooms = h.rooms;
  bin = between_at h.start (h.start +ℤ pos (length h.rows)) front i back boxes h.places;
  grow = grow_at (least_sizes (front ++ i ∷ back) boxes) (firsts h.rows) front i back boxes h.grow;
  loose = loose_at (least_sizes (front ++ i ∷ back) boxes) h.rows front i back boxes h.loose;
}

each_now : (items : List (ℕ × ℕ × ℕ)) (boxes : Boxes) → AreSets boxes → HasEach items boxes → int_lt (all_room items boxes) (least_sizes items boxes) ≡ false
each_now items boxes s h =
    let enough = h.enough in
    let rooms = firsts_le h.start h.rows items boxes boxes (λ w. refl) h.rooms in
    let all = in_all (length h.rows) h.start items boxes s in not_less (all_room items boxes) (least_sizes items boxes) (omega (arith, ints, enough, rooms, all))

pub each_room : (items : List (ℕ × ℕ × ℕ)) (boxes : Boxes) → AreSets boxes → HasEach items boxes → HasRoom items boxes
each_room items boxes s h = record {
  at_once = each_now items boxes s h;
  narrowed = λ front i back x v e r role.
      let rows = rows_at front i back boxes (subst (λ (z : List (ℕ × ℕ × ℕ)). HasEach z boxes) e h) in
      subst (λ (z : List (ℕ × ℕ × ℕ)). int_lt (all_room z (fixing boxes x v)) (least_sizes z (fixing boxes x v)) ≡ false) (sym e)
      (not_less (all_room (front ++ i ∷ back) (fixing boxes x v)) (least_sizes (front ++ i ∷ back) (fixing boxes x v)) (role_total front i back boxes x v r rows role));
}
