-- Rooms of values that are found one by one, and what is found with them.
use Rattle.std.proofs.Common.{◌≡◌, ℕ, zero, suc, Bool, true, false, ◌&&◌, ◌||◌, cond, List, [], ◌∷◌, ◌++◌, ℤ, pos, ◌+ℤ◌, ◌≤ℤ◌, ◌<ℤ◌, All, length, refl, arith, subst, sym}
use Rattle.std.specs.Prelude.{Option, Some, None, IfNone, int_le}
use Rattle.std.specs.Int.{int_max, int_min}
use Rattle.std.proofs.lemmas.Int.{ints}
use Rattle.signed_clause.specs.Ranges.{has}
use Rattle.signed_clause.specs.Clauses.{Boxes, box_of}
use Rattle.ground_form.specs.Bounds.{low_of, high_of}
use Rattle.box_rules.specs.Refuted.{first_bin, last_bin, least_sizes}
use Rattle.box_rules.proofs.PackLaws.{first_bin-le, last_bin-ge}
use Rattle.pack_prop.specs.declared.best_rooms.ValueRooms.{ValueRooms}
use Rattle.pack_prop.specs.Tight.{AreValueRooms, AreBestRooms, firsts, seconds, lefts, all_grow, may_be_in, may_move, may_shrink, all_loose, IsBetween, HasEach}
use Rattle.rule_law.specs.Repeats.{is_one}
use Rattle.pack_fit.proofs.TotalRoom.{first_is, second_le}

more_best_rooms : (v at : ℤ) (bs : List ValueRooms) (b : ValueRooms) (items : List (ℕ × ℕ × ℕ)) (boxes : Boxes) → AreBestRooms v bs items boxes → v +ℤ pos (length bs) ≡ at → AreValueRooms at b items boxes → AreBestRooms v (bs ++ b ∷ []) items boxes
more_best_rooms v at [] b items boxes h e is =
    let same : at ≡ v = omega (arith, ints) in (subst (λ (z : ℤ). AreValueRooms z b items boxes) same is, tt)
more_best_rooms v at (c ∷ bs) b items boxes h e is = (h.0, more_best_rooms (v +ℤ pos 1) at bs b items boxes h.1 (omega (arith, ints)) is)

one_longer : (bs : List ValueRooms) (b : ValueRooms) → length (bs ++ b ∷ []) ≡ suc (length bs)
one_longer [] b = refl
one_longer (c ∷ bs) b = let more = one_longer bs b in omega arith

pub push_best : (v at : ℤ) (bs cs : List ValueRooms) (b : ValueRooms) (items : List (ℕ × ℕ × ℕ)) (boxes : Boxes) → cs ≡ bs ++ b ∷ [] → AreBestRooms v bs items boxes → v +ℤ pos (length bs) ≡ at → AreValueRooms at b items boxes → AreBestRooms v cs items boxes
push_best v at bs cs b items boxes is h e k = subst (λ (z : List ValueRooms). AreBestRooms v z items boxes) (sym is) (more_best_rooms v at bs b items boxes h e k)

pub push_length : (v at next : ℤ) (bs cs : List ValueRooms) (b : ValueRooms) → cs ≡ bs ++ b ∷ [] → v +ℤ pos (length bs) ≡ at → next ≡ at +ℤ pos 1 → v +ℤ pos (length cs) ≡ next
push_length v at next bs cs b is e n = let l = one_longer bs b in subst (λ (z : List ValueRooms). v +ℤ pos (length z) ≡ next) (sym is) (omega (arith, ints))

pub no_best_rooms : (v : ℤ) (bs : List ValueRooms) (items : List (ℕ × ℕ × ℕ)) (boxes : Boxes) → bs ≡ [] → AreBestRooms v bs items boxes
no_best_rooms v bs items boxes e = subst (λ (z : List ValueRooms). AreBestRooms v z items boxes) (sym e) tt

pub no_length : (v : ℤ) (bs : List ValueRooms) → bs ≡ [] → v +ℤ pos (length bs) ≡ v
no_length v bs e = subst (λ (z : List ValueRooms). v +ℤ pos (length z) ≡ v) (sym e) (omega (arith, ints))

-- ---- bins lie among the values

pub bins_between : (v w start end : ℤ) (is : List (ℕ × ℕ × ℕ)) (boxes : Boxes) → start ≤ℤ first_bin v is boxes → last_bin w is boxes <ℤ end → All (λ i. IsBetween start end i boxes) is
bins_between v w start end [] boxes h l k d lt = absurd (omega arith)
bins_between v w start end (i ∷ is) boxes h l zero d lt =
    let first = first_bin-le (int_min v (low_of (box_of boxes i.0))) is boxes in
    let last = last_bin-ge (int_max w (high_of (box_of boxes i.0))) is boxes in
    record { low = grind (arith, ints); high = grind (arith, ints) }
bins_between v w start end (i ∷ is) boxes h l (suc k) d lt =
    bins_between (int_min v (low_of (box_of boxes i.0))) (int_max w (high_of (box_of boxes i.0))) start end is boxes h l k d (omega arith)

-- ---- what is found with them

none_from : {X : Type 0} (r : Option X) (A B C D : Type 0) → (A → B → C → D) → IfNone r A → IfNone r B → IfNone r C → IfNone r D
none_from None A B C D f a b c = f a b c
none_from (Some x) A B C D f a b c = tt

pub each_enough : {X : Type 0} (r : Option X) (items : List (ℕ × ℕ × ℕ)) (boxes : Boxes) (v w start last : ℤ) (rows : List ValueRooms) → start ≡ first_bin v items boxes → last ≡ last_bin w items boxes →
    AreBestRooms start rows items boxes → start +ℤ pos (length rows) ≡ last +ℤ pos 1 → IfNone r (least_sizes items boxes ≤ℤ firsts rows) → IfNone r (all_grow (least_sizes items boxes) (firsts rows) items boxes ≡ true) →
    IfNone r (all_loose (least_sizes items boxes) rows items boxes ≡ true) → IfNone r (HasEach items boxes)
each_enough r items boxes v w start last rows e f best_rooms all enough grow loose =
    none_from r _ _ _ _ (λ a b c. record {
      start = start;
      rows = rows;
      rooms = best_rooms;
      places = bins_between v w start (start +ℤ pos (length rows)) items boxes (omega (arith, ints, e)) (omega (arith, ints, f, all));
      enough = a;
      grow = b;
      loose = c;
    }) enough grow loose

-- ---- where the second greatest rooms are enough

kept_second : (there : Bool) (first second room : ℤ) → second ≤ℤ first → second ≤ℤ cond there (int_max second room) first
kept_second true first second room h = grind (arith, ints)
kept_second false first second room h = h

seconds_lefts : (v : ℤ) (bs : List ValueRooms) (room : ℤ) (i : ℕ × ℕ × ℕ) (items : List (ℕ × ℕ × ℕ)) (boxes : Boxes) → AreBestRooms v bs items boxes → seconds bs ≤ℤ lefts bs room i boxes
seconds_lefts v [] room i items boxes h = omega (arith, ints)
seconds_lefts v (b ∷ bs) room i items boxes h =
    let first = h.0.first_is in let second = h.0.second_is in let is = first_is v items boxes in let le = second_le v items boxes in
    let below : b.second.value ≤ℤ b.first.value = omega (arith, ints, first, second, is, le) in
    let here = kept_second (has (box_of boxes i.0) b.at.value && int_le b.first.value (high_of (box_of boxes i.2))) b.first.value b.second.value room below in
    let more = seconds_lefts (v +ℤ pos 1) bs room i items boxes h.1 in omega (arith, ints, here, more)

sure_of : (need seconds left : ℤ) → need ≤ℤ seconds → seconds ≤ℤ left → int_le need left ≡ true
sure_of need seconds left h k = grind (arith, ints)

either : (one two : Bool) → two ≡ true → (one || two) ≡ true
either true two h = refl
either false two h = h

loose_of : (need v : ℤ) (bs : List ValueRooms) (is items : List (ℕ × ℕ × ℕ)) (boxes : Boxes) → AreBestRooms v bs items boxes → need ≤ℤ seconds bs → all_loose need bs is boxes ≡ true
loose_of need v bs [] items boxes h k = refl
loose_of need v bs (i ∷ is) items boxes h k =
    let out = sure_of need (seconds bs) (lefts bs (pos 0) i boxes) k (seconds_lefts v bs (pos 0) i items boxes h) in
    let least = sure_of need (seconds bs) (lefts bs (low_of (box_of boxes i.2)) i boxes) k (seconds_lefts v bs (low_of (box_of boxes i.2)) i items boxes h) in
    let move : may_move need bs i boxes ≡ true = either (is_one (box_of boxes i.0)) (int_le need (lefts bs (pos 0) i boxes) || may_be_in need (lefts bs (pos 0) i boxes) bs i boxes) (rw out refl) in
    let shrink : may_shrink need bs i boxes ≡ true = either (is_one (box_of boxes i.2)) (int_le need (lefts bs (low_of (box_of boxes i.2)) i boxes)) least in
    rw (move, shrink) (loose_of need v bs is items boxes h k)

pub sure_loose : (v : ℤ) (bs : List ValueRooms) (items : List (ℕ × ℕ × ℕ)) (boxes : Boxes) → AreBestRooms v bs items boxes → least_sizes items boxes ≤ℤ seconds bs → all_loose (least_sizes items boxes) bs items boxes ≡ true
sure_loose v bs items boxes h k = loose_of (least_sizes items boxes) v bs items items boxes h k
