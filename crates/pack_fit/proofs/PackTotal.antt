-- There is room for all least sizes, also where one open box is narrowed to a value: what that is
-- to mean, and that it is so where there is room for all sizes and the greatest growth among the
-- second greatest rooms.
use Rattle.std.proofs.Common.{◌≡◌, ℕ, ◌<◌, Bool, true, false, ◌&&◌, cond, List, [], ◌∷◌, ◌++◌, ℤ, pos, ◌+ℤ◌, ◌-ℤ◌, ◌≤ℤ◌, length, refl, arith, inl, inr, subst, sym}
use Rattle.std.specs.Prelude.{◌==◌, int_lt}
use Rattle.std.specs.Int.{int_max}
use Rattle.std.proofs.lemmas.Int.{ints}
use Rattle.std.proofs.lemmas.Bool.{cases_eq}
use Rattle.signed_clause.specs.Ranges.{Ranges, has, IsValid}
use Rattle.signed_clause.specs.Clauses.{Boxes, box_of}
use Rattle.ground_form.specs.Meaning.{item_vars}
use Rattle.ground_form.specs.Bounds.{low_of, high_of}
use Rattle.box_view.specs.Views.{fixing}
use Rattle.box_rules.specs.Refuted.{least_sizes, best_room, all_room}
use Rattle.rule_law.specs.Reasons.{has_number}
use Rattle.box_view.proofs.EndLaws.{AreSets, ends_in_order, below_high}
use Rattle.box_view.proofs.SetLaws.{fixing_same, fixing_other}
use Rattle.box_view.proofs.CutLaws.{low_within, top_within}
use Rattle.rule_law.specs.Repeats.{is_one}
use Rattle.pack_fit.specs.Packing.{two_rooms, seconds_from, growth}
use Rattle.pack_fit.proofs.Spots.{Role, Bin, Size, Room}
use Rattle.pack_fit.proofs.OneBox.{away, other_box, sizes_away, best_away, sizes_split}
use Rattle.pack_fit.proofs.TotalRoom.{second_le, second_without, seconds_le}
use Rattle.pack_fit.specs.Packing.{HasEnough}
use Rattle.pack_fit.proofs.PackLoads.{HasSlack}

pub record HasRoom (items : List (ℕ × ℕ × ℕ)) (boxes : Boxes) : Type 0 where
  pub at_once : int_lt (all_room items boxes) (least_sizes items boxes) ≡ false
  pub narrowed : (front : List (ℕ × ℕ × ℕ)) (i : ℕ × ℕ × ℕ) (back : List (ℕ × ℕ × ℕ)) (x : ℕ) (v : ℤ) → items ≡ front ++ i ∷ back → HasSlack front i back boxes x v → Role x i →
      int_lt (all_room items (fixing boxes x v)) (least_sizes items (fixing boxes x v)) ≡ false

pub growth_ge : (items : List (ℕ × ℕ × ℕ)) (boxes : Boxes) → pos 0 ≤ℤ growth items boxes
growth_ge [] boxes = omega (arith, ints)
growth_ge (i ∷ is) boxes = let more = growth_ge is boxes in grind (arith, ints)

-- ---- one value in place of a box

pub fixed_sets : (boxes : Boxes) (x : ℕ) (v : ℤ) → AreSets boxes → x < length boxes → has (box_of boxes x) v ≡ true → AreSets (fixing boxes x v)
fixed_sets boxes x v s n h y =
    let low = low_within _ _ (box_of boxes x) v (s x) h in let top = top_within _ _ (box_of boxes x) v (s x) h in
    let valid : IsValid ((v, v) ∷ []) = (low, omega (arith, ints), omega (arith, ints)) in
    elim (cases_eq y x) [
      | inl q ↦ subst (λ (z : ℕ). IsValid (box_of (fixing boxes x v) z)) (sym q) (subst (λ (z : Ranges). IsValid z) (sym (fixing_same boxes x v n)) valid)
      | inr q ↦ subst (λ (z : Ranges). IsValid z) (sym (fixing_other boxes x y v q)) (s y)
    ]

-- ---- all room

and_false : (x y : Bool) → y ≡ false → (x && y) ≡ false
and_false true y h = h
and_false false y h = refl

pub vars_joined : (x : ℕ) (front back : List (ℕ × ℕ × ℕ)) → has_number x (item_vars front) ≡ false → has_number x (item_vars back) ≡ false → has_number x (item_vars (front ++ back)) ≡ false
vars_joined x [] back f b = b
vars_joined x (i ∷ front) back f b =
    let a = away x i front f in let more = vars_joined x front back a.rest b in
    let p = a.bin in let s = a.size in let r = a.room in grind arith

best_more : (w : ℤ) (front : List (ℕ × ℕ × ℕ)) (i : ℕ × ℕ × ℕ) (back : List (ℕ × ℕ × ℕ)) (boxes : Boxes) → best_room w (front ++ back) boxes ≤ℤ best_room w (front ++ i ∷ back) boxes
best_more w [] i back boxes =
    elim (has (box_of boxes i.0) w) as (λ t. best_room w back boxes ≤ℤ cond t (int_max (high_of (box_of boxes i.2)) (best_room w back boxes)) (best_room w back boxes)) [ true ↦ grind (arith, ints) | false ↦ omega (arith, ints) ]
best_more w (j ∷ front) i back boxes =
    let more = best_more w front i back boxes in
    elim (has (box_of boxes j.0) w) as (λ t. cond t (int_max (high_of (box_of boxes j.2)) (best_room w (front ++ back) boxes)) (best_room w (front ++ back) boxes)
    ≤ℤ cond t (int_max (high_of (box_of boxes j.2)) (best_room w (front ++ i ∷ back) boxes)) (best_room w (front ++ i ∷ back) boxes)) [ true ↦ grind (arith, ints) | false ↦ more ]

-- the second room stays where the item may be narrowed in its bin or room
seconds_stay : (front : List (ℕ × ℕ × ℕ)) (i : ℕ × ℕ × ℕ) (back : List (ℕ × ℕ × ℕ)) (boxes : Boxes) (x : ℕ) (v : ℤ) → HasSlack front i back boxes x v → (is_one (box_of boxes i.0) && is_one (box_of boxes i.2)) ≡ false → (w : ℤ) →
    (two_rooms w (front ++ i ∷ back) boxes).1 ≤ℤ best_room w (front ++ i ∷ back) (fixing boxes x v)
seconds_stay front i back boxes x v r f w =
    let one = second_without w front i back boxes f in
    let same = best_away w (front ++ back) boxes x v (vars_joined x front back r.not_front r.not_back) in
    let more = best_more w front i back (fixing boxes x v) in omega (arith, ints)

pub best_same : (w : ℤ) (front : List (ℕ × ℕ × ℕ)) (i : ℕ × ℕ × ℕ) (back : List (ℕ × ℕ × ℕ)) (boxes : Boxes) (x : ℕ) (v : ℤ) → has_number x (item_vars front) ≡ false → has_number x (item_vars back) ≡ false → (i.0 == x) ≡ false → (i.2 == x) ≡ false →
    best_room w (front ++ i ∷ back) (fixing boxes x v) ≡ best_room w (front ++ i ∷ back) boxes
best_same w [] i back boxes x v f b p q =
    let bin = other_box boxes x i.0 v p in let room = other_box boxes x i.2 v q in let rest = best_away w back boxes x v b in rw (bin, room, rest) refl
best_same w (j ∷ front) i back boxes x v f b p q =
    let a = away x j front f in
    let bin = other_box boxes x j.0 v a.bin in let room = other_box boxes x j.2 v a.room in let rest = best_same w front i back boxes x v a.rest b p q in rw (bin, room, rest) refl

growth_here : (front : List (ℕ × ℕ × ℕ)) (i : ℕ × ℕ × ℕ) (back : List (ℕ × ℕ × ℕ)) (boxes : Boxes) → (high_of (box_of boxes i.1) -ℤ low_of (box_of boxes i.1)) ≤ℤ growth (front ++ i ∷ back) boxes
growth_here [] i back boxes = grind (arith, ints)
growth_here (j ∷ front) i back boxes = let more = growth_here front i back boxes in grind (arith, ints)

sizes_now : (front : List (ℕ × ℕ × ℕ)) (i : ℕ × ℕ × ℕ) (back : List (ℕ × ℕ × ℕ)) (boxes : Boxes) (x : ℕ) (v : ℤ) → HasSlack front i back boxes x v → low_of (box_of (fixing boxes x v) i.1) ≤ℤ high_of (box_of boxes i.1) →
    least_sizes (front ++ i ∷ back) (fixing boxes x v) ≤ℤ (least_sizes (front ++ i ∷ back) boxes +ℤ growth (front ++ i ∷ back) boxes)
sizes_now front i back boxes x v r h =
    let one = sizes_split front i back (fixing boxes x v) in let two = sizes_split front i back boxes in
    let f = sizes_away front boxes x v r.not_front in let b = sizes_away back boxes x v r.not_back in
    let g = growth_here front i back boxes in omega (arith, ints)

total_fine : (front : List (ℕ × ℕ × ℕ)) (i : ℕ × ℕ × ℕ) (back : List (ℕ × ℕ × ℕ)) (boxes : Boxes) (x : ℕ) (v : ℤ) (n : ℕ) (u : ℤ) → HasSlack front i back boxes x v → AreSets (fixing boxes x v) →
    low_of (box_of (fixing boxes x v) i.1) ≤ℤ high_of (box_of boxes i.1) → ((w : ℤ) → (two_rooms w (front ++ i ∷ back) boxes).1 ≤ℤ best_room w (front ++ i ∷ back) (fixing boxes x v)) →
    (least_sizes (front ++ i ∷ back) boxes +ℤ growth (front ++ i ∷ back) boxes) ≤ℤ seconds_from n u (front ++ i ∷ back) boxes →
    int_lt (all_room (front ++ i ∷ back) (fixing boxes x v)) (least_sizes (front ++ i ∷ back) (fixing boxes x v)) ≡ false
total_fine front i back boxes x v n u r s h k e =
    let sizes = sizes_now front i back boxes x v r h in
    let rooms = seconds_le n u (front ++ i ∷ back) boxes (fixing boxes x v) s k in grind (arith, ints)

role_enough : (front : List (ℕ × ℕ × ℕ)) (i : ℕ × ℕ × ℕ) (back : List (ℕ × ℕ × ℕ)) (boxes : Boxes) (x : ℕ) (v : ℤ) (n : ℕ) (u : ℤ) → HasSlack front i back boxes x v → Role x i →
    (least_sizes (front ++ i ∷ back) boxes +ℤ growth (front ++ i ∷ back) boxes) ≤ℤ seconds_from n u (front ++ i ∷ back) boxes →
    int_lt (all_room (front ++ i ∷ back) (fixing boxes x v)) (least_sizes (front ++ i ∷ back) (fixing boxes x v)) ≡ false
role_enough front i back boxes x v n u r (Bin e f g) k =
    let open_bin : is_one (box_of boxes i.0) ≡ false = subst (λ (z : ℕ). is_one (box_of boxes z) ≡ false) (sym e) r.is_open in
    let size = other_box boxes x i.1 v f in let order = ends_in_order (box_of boxes i.1) (r.sets i.1) in
    total_fine front i back boxes x v n u r (fixed_sets boxes x v r.sets r.named r.member) (rw size order) (seconds_stay front i back boxes x v r (rw open_bin refl)) k
role_enough front i back boxes x v n u r (Size e f g) k =
    let size : box_of (fixing boxes x v) i.1 ≡ (v, v) ∷ [] = subst (λ (z : ℕ). box_of (fixing boxes x v) z ≡ (v, v) ∷ []) (sym f) (fixing_same boxes x v r.named) in
    let there : has (box_of boxes i.1) v ≡ true = subst (λ (z : ℕ). has (box_of boxes z) v ≡ true) (sym f) r.member in
    total_fine front i back boxes x v n u r (fixed_sets boxes x v r.sets r.named r.member) (rw size (below_high (box_of boxes i.1) v (r.sets i.1) there))
    (λ w. let one = second_le w (front ++ i ∷ back) boxes in let same = best_same w front i back boxes x v r.not_front r.not_back e g in omega (arith, ints)) k
role_enough front i back boxes x v n u r (Room e f g) k =
    let open_room : is_one (box_of boxes i.2) ≡ false = subst (λ (z : ℕ). is_one (box_of boxes z) ≡ false) (sym g) r.is_open in
    let size = other_box boxes x i.1 v f in let order = ends_in_order (box_of boxes i.1) (r.sets i.1) in
    total_fine front i back boxes x v n u r (fixed_sets boxes x v r.sets r.named r.member) (rw size order) (seconds_stay front i back boxes x v r (and_false (is_one (box_of boxes i.0)) (is_one (box_of boxes i.2)) open_room)) k

enough_now : (items : List (ℕ × ℕ × ℕ)) (boxes : Boxes) → AreSets boxes → HasEnough items boxes → int_lt (all_room items boxes) (least_sizes items boxes) ≡ false
enough_now items boxes s enough =
    let rooms = seconds_le enough.0 enough.1 items boxes boxes s (λ w. second_le w items boxes) in
    let grows = growth_ge items boxes in let k = enough.2 in grind (arith, ints)

pub enough_room : (items : List (ℕ × ℕ × ℕ)) (boxes : Boxes) → AreSets boxes → HasEnough items boxes → HasRoom items boxes
enough_room items boxes s enough = record {
  at_once = enough_now items boxes s enough;
  narrowed = λ front i back x v e r role.
      let k : (least_sizes (front ++ i ∷ back) boxes +ℤ growth (front ++ i ∷ back) boxes) ≤ℤ seconds_from enough.0 enough.1 (front ++ i ∷ back) boxes =
      subst (λ (z : List (ℕ × ℕ × ℕ)). (least_sizes z boxes +ℤ growth z boxes) ≤ℤ seconds_from enough.0 enough.1 z boxes) e enough.2 in
      subst (λ (z : List (ℕ × ℕ × ℕ)). int_lt (all_room z (fixing boxes x v)) (least_sizes z (fixing boxes x v)) ≡ false) (sym e)
      (role_enough front i back boxes x v enough.0 enough.1 r role k);
}
