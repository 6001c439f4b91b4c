-- Why all sizes are more than all room in what the literals leave: each step keeps what was
-- counted.
use Rattle.std.proofs.Common.{◌≡◌, ℕ, zero, suc, ◌+◌, ◌<◌, ◌≤◌, true, false, not, ◌&&◌, ◌||◌, List, [], ◌∷◌, ℤ, pos, ◌+ℤ◌, ◌-ℤ◌, ◌≤ℤ◌, ◌<ℤ◌, All, length, get_or, slice_set, refl, arith, inl, inr, subst, sym}
use Rattle.std.specs.Prelude.{◌==◌, int_lt, int_le, slice_index_or}
use Rattle.std.proofs.lemmas.Int.{ints}
use Rattle.std.proofs.lemmas.Bool.{and_parts, cases_lt, false_from_ne_true}
use Rattle.std.proofs.lemmas.Bool.Decides.{nat_tests}
use Rattle.signed_clause.specs.Ranges.{Ranges, has, is_nil, IsValid}
use Rattle.signed_clause.specs.SetAlgebra.{is_disjoint, is_within}
use Rattle.signed_clause.specs.Clauses.{Boxes, Literal, Literals, box_of, false_in}
use Rattle.signed_clause.proofs.SetFacts.{disjoint_law, within_law}
use Rattle.ground_form.specs.declared.con.Con.{Con}
use Rattle.ground_form.specs.declared.con.Con.TheVariants.{Pack}
use Rattle.ground_form.specs.Meaning.{clause_vars, item_vars}
use Rattle.ground_form.specs.Bounds.{low_of, high_of}
use Rattle.box_view.specs.Views.{cut}
use Rattle.box_rules.specs.Justified.{justified}
use Rattle.box_rules.specs.Named.{AreItemsNamed, IsItemNamed}
use Rattle.rule_law.specs.Reasons.{has_number, no_repeat, Acts, IsReason}
use Rattle.box_rules.specs.Refuted.{best_room, all_room, least_sizes, some_overfull, some_empty, refuted}
use Rattle.box_view.proofs.EndLaws.{are_sets, above_low, below_high}
use Rattle.rule_law.proofs.Keeping.{acts_next, acts_first}
use Rattle.box_rules.proofs.PackLaws.{best_room-ge}
use Rattle.box_view.proofs.EndLaws.{has_low, has_high}
use Rattle.pack_prop.specs.Collected.{said, IsFalse, AreCollected, SaysMore}
use Rattle.pack_prop.specs.RoomRows.{best_rooms, IsRow, row_sum, raised, is_short}
use Rattle.pack_prop.specs.Sources.{with_part, IsPart}
use Rattle.pack_prop.specs.TotalSteps.{IsSeated, sizes_at, AreTotalled}
use Rattle.pack_prop.proofs.Collecting.{any_default, MaySay, said_collected, said_more, said_here, collected_none}
use Rattle.pack_prop.proofs.CutBoxes.{AreOver, cut_valid, cut_some, cut_in, cut_less, cut_low, cut_high, cut_passes, low_within, collected_reason}
use Rattle.pack_prop.proofs.OverReason.{part_same, part_other, part_valid, part_within, or_right}
use Rattle.pack_prop.proofs.RowLaws.{AreBest, best_row, best_best, raised_row, raised_ge, raised_to, raised_all, raised_any, short_less, long_all, best_in, best_upto, best_none, all_room_row}

-- ---- lists

set_length : (boxes : Boxes) (x : ℕ) (s : Ranges) → length (slice_set boxes x s) ≡ length boxes
set_length [] x s = refl
set_length (b ∷ boxes) zero s = refl
set_length (b ∷ boxes) (suc x) s = let more = set_length boxes x s in omega arith

-- ---- the boxes with a part of one

part_some : (domains boxes : Boxes) (items : List (ℕ × ℕ × ℕ)) (x : ℕ) (s : Ranges) → IsPart domains boxes items x s → (y : ℕ) → y < length boxes → is_nil (box_of (with_part boxes x s) y) ≡ false
part_some domains boxes items x s p y n =
    (elim (y == x) as (λ t. (y == x) ≡ t → is_nil (box_of (with_part boxes x s) y) ≡ false) [
      | true ↦ λ e. let same : x ≡ y = grind (arith, nat_tests) in
          subst (λ (z : ℕ). is_nil (box_of (with_part boxes x s) z) ≡ false) same (subst (λ (b : Ranges). is_nil b ≡ false) (sym (part_same boxes x s p.var)) p.some)
      | false ↦ λ e.
          let other : box_of (with_part boxes x s) y ≡ box_of boxes y = part_other boxes x y s (λ q. let t : (y == x) ≡ true = grind (arith, nat_tests) in absurd cc) in
          subst (λ (b : Ranges). is_nil b ≡ false) (sym other) (p.boxes_within.some y n)
    ]) refl

pub part_over : (domains boxes : Boxes) (items : List (ℕ × ℕ × ℕ)) (x : ℕ) (s : Ranges) → IsPart domains boxes items x s → AreOver domains (with_part boxes x s)
part_over domains boxes items x s p =
    let size = set_length boxes x s in record {
      domain_sets = are_sets domains p.domain_sets;
      box_sets = part_valid domains boxes items x s p;
      within = λ y n. part_within domains boxes items x s p y (omega arith);
      some = λ y n. part_some domains boxes items x s p y (omega arith);
    }

pub part_named : (boxes : Boxes) (x : ℕ) (s : Ranges) (items : List (ℕ × ℕ × ℕ)) → AreItemsNamed items boxes → AreItemsNamed items (with_part boxes x s)
part_named boxes x s items h k d lt =
    let size = set_length boxes x s in let i = h k d lt in
    let bin = i.bin in let size_var = i.size in let room = i.room in record {
      bin = omega arith;
      size = omega arith;
      room = omega arith;
    }

-- ---- what acts

disjoint_other : (boxes : Boxes) (x : ℕ) (s : Ranges) (l : Literal) → (l.0 == x) ≡ false → IsFalse (with_part boxes x s) l → is_disjoint l.1 (box_of boxes l.0) ≡ true
disjoint_other boxes x s l e h =
    let other : box_of (with_part boxes x s) l.0 ≡ box_of boxes l.0 = part_other boxes x l.0 s (λ q. let t : (l.0 == x) ≡ true = grind (arith, nat_tests) in absurd cc) in
    subst (λ (b : Ranges). is_disjoint l.1 b ≡ true) other h.disjoint

others_false : (boxes : Boxes) (x : ℕ) (s : Ranges) (ls : Literals) → has_number x (clause_vars ls) ≡ false → All (λ l. IsFalse (with_part boxes x s) l) ls → false_in boxes ls ≡ true
others_false boxes x s [] n a = refl
others_false boxes x s (l ∷ ls) n a =
    let here = disjoint_other boxes x s l (grind arith) (a 0 l (omega arith)) in
    let more = others_false boxes x s ls (grind arith) (λ k d lt. a (suc k) d (omega arith)) in grind arith

acts_from : (domains boxes : Boxes) (items : List (ℕ × ℕ × ℕ)) (x : ℕ) (s : Ranges) (ls : Literals) → IsPart domains boxes items x s → no_repeat (clause_vars ls) ≡ true → All (λ l. IsFalse (with_part boxes x s) l) ls → Acts boxes ls
acts_from domains boxes items x s [] p d a = refl
acts_from domains boxes items x s (l ∷ ls) p d a =
    let head = a 0 l (omega arith) in
    let tail : All (λ l. IsFalse (with_part boxes x s) l) ls = λ k e lt. a (suc k) e (omega arith) in
    let parts = and_parts (not (has_number l.0 (clause_vars ls))) (no_repeat (clause_vars ls)) d in
    (elim (l.0 == x) as (λ t. (l.0 == x) ≡ t → Acts boxes (l ∷ ls)) [
      | true ↦ λ e.
          let same : l.0 ≡ x = grind (arith, nat_tests) in
          let gone : has_number x (clause_vars ls) ≡ false = subst (λ (z : ℕ). has_number z (clause_vars ls) ≡ false) same (let n = parts.0 in grind arith) in
          let sets = are_sets boxes p.boxes_within.sets in
          let value = has_low s p.valid p.some in
          let of_box : has (box_of boxes x) (low_of s) ≡ true = (within_law s (box_of boxes x) p.valid (sets x)).0 p.within (low_of s) value in
          let at : box_of (with_part boxes x s) l.0 ≡ s = subst (λ (z : ℕ). box_of (with_part boxes x s) z ≡ s) (sym same) (part_same boxes x s p.var) in
          let disjoint : is_disjoint l.1 s ≡ true = subst (λ (b : Ranges). is_disjoint l.1 b ≡ true) at head.disjoint in
          let open_box : is_within (box_of boxes x) l.1 ≡ false = false_from_ne_true (is_within (box_of boxes x) l.1) (λ q.
          let there = (within_law (box_of boxes x) l.1 (sets x) head.valid).0 q (low_of s) of_box in
          let none = (disjoint_law l.1 s head.valid p.valid).0 disjoint (low_of s) there in absurd cc) in
          acts_first boxes l ls (others_false boxes x s ls gone tail) (subst (λ (z : ℕ). is_within (box_of boxes z) l.1 ≡ false) (sym same) open_box)
      | false ↦ λ e. acts_next boxes l ls (disjoint_other boxes x s l e head) (acts_from domains boxes items x s ls p parts.1 tail)
    ]) refl

pub part_reason : (con : Con) (domains boxes : Boxes) (items : List (ℕ × ℕ × ℕ)) (x : ℕ) (s : Ranges) (ls : Literals) → IsPart domains boxes items x s → AreCollected (with_part boxes x s) ls → justified con domains ls ≡ true → IsReason con domains boxes ls
part_reason con domains boxes items x s ls p h f =
    collected_reason con domains boxes (with_part boxes x s) ls (set_length boxes x s) h f (acts_from domains boxes items x s ls p h.differ h.each)

-- ---- sizes

pub sizes_none : (items : List (ℕ × ℕ × ℕ)) (one two : Boxes) → sizes_at 0 items one two ≡ least_sizes items two
sizes_none [] one two = refl
sizes_none (i ∷ is) one two = let more = sizes_none is one two in omega (arith, ints)

sizes_all : (k : ℕ) (items : List (ℕ × ℕ × ℕ)) (one two : Boxes) → length items ≤ k → sizes_at k items one two ≡ least_sizes items one
sizes_all k [] one two h = refl
sizes_all zero (i ∷ is) one two h = absurd (omega arith)
sizes_all (suc k) (i ∷ is) one two h = let more = sizes_all k is one two (omega arith) in omega (arith, ints)

sizes_next : (k : ℕ) (items : List (ℕ × ℕ × ℕ)) (one two : Boxes) → k < length items →
    sizes_at (suc k) items one two +ℤ low_of (box_of two (slice_index_or items k (0, 0, 0)).1) ≡ sizes_at k items one two +ℤ low_of (box_of one (slice_index_or items k (0, 0, 0)).1)
sizes_next k [] one two h = absurd (omega arith)
sizes_next zero (i ∷ is) one two h = omega (arith, ints)
sizes_next (suc k) (i ∷ is) one two h = let more = sizes_next k is one two (omega arith) in omega (arith, ints)

sizes_more : (k : ℕ) (items : List (ℕ × ℕ × ℕ)) (old new two : Boxes) → All (λ i. low_of (box_of old i.1) ≤ℤ low_of (box_of new i.1)) items → sizes_at k items old two ≤ℤ sizes_at k items new two
sizes_more k [] old new two h = omega (arith, ints)
sizes_more zero (i ∷ is) old new two h = let more = sizes_more zero is old new two (λ k d lt. h (suc k) d (omega arith)) in omega (arith, ints)
sizes_more (suc k) (i ∷ is) old new two h =
    let here = h 0 i (omega arith) in let more = sizes_more k is old new two (λ k d lt. h (suc k) d (omega arith)) in omega (arith, ints)

-- ---- a further literal keeps all

seated_more : (domains boxes : Boxes) (row : List (ℤ × ℤ)) (i : ℕ × ℕ × ℕ) (old new : Literals) → AreOver domains boxes → AreCollected boxes old → AreCollected boxes new → SaysMore old new → IsItemNamed i boxes →
    IsSeated row (cut domains old) i → IsSeated row (cut domains new) i
seated_more domains boxes row i old new o h k m n s j d lt q =
    let before = s j d lt (cut_less domains boxes old new i.0 (get_or row j d).0 o h k m q) in
    let high = cut_high domains boxes old new i.2 o h k m n.room in omega (arith, ints)

pub totalled_more : (items : List (ℕ × ℕ × ℕ)) (domains boxes : Boxes) (k m : ℕ) (row : List (ℤ × ℤ)) (spare : ℤ) (old new : Literals) → AreOver domains boxes → AreItemsNamed items boxes → k ≤ length items →
    AreTotalled items domains boxes k m row spare old → AreCollected boxes new → SaysMore old new → AreTotalled items domains boxes k m row spare new
totalled_more items domains boxes k m row spare old new o n u t h says = record {
  literals = h;
  first = t.first;
  last = t.last;
  in_order = t.in_order;
  covers = t.covers;
  best = t.best;
  seated = λ j lt. seated_more domains boxes row (slice_index_or items j (0, 0, 0)) old new o t.literals h says (n j (0, 0, 0) (omega arith)) (t.seated j lt);
  some = t.some;
  more =
      let sizes = sizes_more m items (cut domains old) (cut domains new) boxes (λ j d lt. cut_low domains boxes old new (get_or items j d).1 o t.literals h says (n j d lt).size) in
      let before = t.more in omega (arith, ints);
}

-- ---- where it begins

pub totalled_none : (items : List (ℕ × ℕ × ℕ)) (domains boxes : Boxes) (n : ℕ) (first last sizes : ℤ) (row : List (ℤ × ℤ)) → row ≡ best_rooms n first items boxes → first +ℤ pos n ≡ last +ℤ pos 1 →
    All (λ i. (first ≤ℤ low_of (box_of domains i.0)) × (high_of (box_of domains i.0) ≤ℤ last)) items → sizes ≡ least_sizes items boxes → row_sum row <ℤ sizes → AreTotalled items domains boxes 0 0 row (pos 0) []
totalled_none items domains boxes n first last sizes row e w c z l = record {
  literals = collected_none boxes;
  first = first;
  last = last;
  in_order = subst (λ (r : List (ℤ × ℤ)). IsRow first last r) (sym e) (best_row n first last items boxes w);
  covers = c;
  best = subst (λ (r : List (ℤ × ℤ)). AreBest r items boxes) (sym e) (best_best n first items boxes);
  seated = λ j lt. absurd (omega arith);
  some = omega (arith, ints);
  more = let is = sizes_none items (cut domains []) boxes in omega (arith, ints);
}

-- ---- an item's room

pub room_said : (domains boxes : Boxes) (y : ℕ) (h : ℤ) (s : Ranges) (ls : Literals) → AreOver domains boxes → y < length boxes → AreCollected boxes ls → IsValid s → h ≡ high_of (box_of boxes y) →
    ((v : ℤ) → has s v ≡ (has (box_of domains y) v && int_lt h v)) → MaySay boxes y s
room_said domains boxes y h s ls o n c f e w = record {
  named = n;
  valid = f;
  disjoint = (disjoint_law s (box_of boxes y) f (o.box_sets y)).1 (λ v q. false_from_ne_true (has (box_of boxes y) v) (λ t.
      let high = below_high (box_of boxes y) v (o.box_sets y) t in let is = w v in let above : int_lt h v ≡ true = grind arith in grind (arith, ints)));
}

pub room_upto : (domains boxes : Boxes) (y : ℕ) (h : ℤ) (s : Ranges) (ls : Literals) → AreOver domains boxes → y < length boxes → AreCollected boxes ls → MaySay boxes y s →
    ((v : ℤ) → has s v ≡ (has (box_of domains y) v && int_lt h v)) → high_of (box_of (cut domains (said y s ls)) y) ≤ℤ h
room_upto domains boxes y h s ls o n c m w =
    let new = said_collected boxes y s ls o.box_sets m c in
    let box = box_of (cut domains (said y s ls)) y in
    let top = has_high box (cut_valid domains boxes (said y s ls) o.domain_sets new y) (cut_some domains boxes (said y s ls) y o new n) in
    let passes = cut_passes domains boxes (said y s ls) y (high_of box) (int_le (high_of box) h) o new
    (λ d b. let above : int_lt h (high_of box) ≡ true = grind (arith, ints) in let is = w (high_of box) in said_here boxes y s (high_of box) ls m.valid c (grind arith)) top in
    grind (arith, ints)

-- ---- an item's bin

next_seated : (items : List (ℕ × ℕ × ℕ)) (k : ℕ) (P : ℕ × ℕ × ℕ → Type 0) → ((j : ℕ) → j < k → P (slice_index_or items j (0, 0, 0))) → P (slice_index_or items k (0, 0, 0)) → (j : ℕ) → j < k + 1 → P (slice_index_or items j (0, 0, 0))
next_seated items k P h here j lt =
    elim (cases_lt j k) [
      | inl less ↦ h j less
      | inr more ↦ let e : k ≡ j = omega arith in subst (λ (z : ℕ). P (slice_index_or items z (0, 0, 0))) e here
    ]

pub seat_raised : (items : List (ℕ × ℕ × ℕ)) (domains boxes : Boxes) (k : ℕ) (h sizes : ℤ) (row more : List (ℤ × ℤ)) (ls : Literals) → AreOver domains boxes → k < length items →
    high_of (box_of (cut domains ls) (slice_index_or items k (0, 0, 0)).2) ≤ℤ h → more ≡ raised (box_of domains (slice_index_or items k (0, 0, 0)).0) h row → sizes ≡ least_sizes items boxes → row_sum more <ℤ sizes →
    AreTotalled items domains boxes k 0 row (pos 0) ls → AreTotalled items domains boxes (k + 1) 0 more (pos 0) ls
seat_raised items domains boxes k h sizes row more ls o u low e z l t =
    let i = slice_index_or items k (0, 0, 0) in
    let d = box_of domains i.0 in
    let cuts = cut domains ls in
    let seated : (j : ℕ) → j < k + 1 → IsSeated (raised d h row) cuts (slice_index_or items j (0, 0, 0)) =
    next_seated items k (λ q. IsSeated (raised d h row) cuts q)
    (λ j lt. raised_all (λ p. has (box_of cuts (slice_index_or items j (0, 0, 0)).0) p.0 ≡ true → high_of (box_of cuts (slice_index_or items j (0, 0, 0)).2) ≤ℤ p.1) d h row
    (λ p f q. let before = f q in let up = raised_ge (has d p.0) h p.1 in omega (arith, ints)) (t.seated j lt))
    (raised_any (λ p. has (box_of cuts i.0) p.0 ≡ true → high_of (box_of cuts i.2) ≤ℤ p.1) d h row
    (λ p q. let up = raised_to (has d p.0) h p.1 (cut_in domains boxes ls i.0 p.0 o t.literals q) in omega (arith, ints))) in record {
      literals = t.literals;
      first = t.first;
      last = t.last;
      in_order = subst (λ (r : List (ℤ × ℤ)). IsRow t.first t.last r) (sym e) (raised_row d h t.first t.last row t.in_order);
      covers = t.covers;
      best = subst (λ (r : List (ℤ × ℤ)). AreBest r items boxes) (sym e) (raised_all (λ p. best_room p.0 items boxes ≤ℤ p.1) d h row (λ p f. let up = raised_ge (has d p.0) h p.1 in omega (arith, ints)) t.best);
      seated = λ j lt. subst (λ (r : List (ℤ × ℤ)). IsSeated r cuts (slice_index_or items j (0, 0, 0))) (sym e) (seated j lt);
      some = omega (arith, ints);
      more = let is = sizes_none items cuts boxes in omega (arith, ints);
    }

pub short_said : (items : List (ℕ × ℕ × ℕ)) (domains boxes : Boxes) (k : ℕ) (h : ℤ) (row : List (ℤ × ℤ)) (s : Ranges) → AreOver domains boxes → AreItemsNamed items boxes → k < length items → h ≡ high_of (box_of boxes (slice_index_or items k (0, 0, 0)).2) →
    IsValid s → ((v : ℤ) → has s v ≡ (has (box_of domains (slice_index_or items k (0, 0, 0)).0) v && is_short v h row)) → AreBest row items boxes → MaySay boxes (slice_index_or items k (0, 0, 0)).0 s
short_said items domains boxes k h row s o n u e f w b =
    let i = slice_index_or items k (0, 0, 0) in record {
      named = (n k (0, 0, 0) u).bin;
      valid = f;
      disjoint = (disjoint_law s (box_of boxes i.0) f (o.box_sets i.0)).1 (λ v q. false_from_ne_true (has (box_of boxes i.0) v) (λ t.
          let is = w v in let short : is_short v h row ≡ true = grind arith in
          let less = short_less v h row items boxes b short in
          let room = best_in v k items boxes u t in omega (arith, ints)));
    }

pub seat_short : (items : List (ℕ × ℕ × ℕ)) (domains boxes : Boxes) (k : ℕ) (h : ℤ) (row : List (ℤ × ℤ)) (s : Ranges) (ls : Literals) → AreOver domains boxes → AreItemsNamed items boxes → k < length items →
    high_of (box_of (cut domains ls) (slice_index_or items k (0, 0, 0)).2) ≤ℤ h → h ≡ high_of (box_of boxes (slice_index_or items k (0, 0, 0)).2) → IsValid s →
    ((v : ℤ) → has s v ≡ (has (box_of domains (slice_index_or items k (0, 0, 0)).0) v && is_short v h row)) →
    AreTotalled items domains boxes k 0 row (pos 0) ls → AreTotalled items domains boxes (k + 1) 0 row (pos 0) (said (slice_index_or items k (0, 0, 0)).0 s ls)
seat_short items domains boxes k h row s ls o n u low e f w t =
    let i = slice_index_or items k (0, 0, 0) in
    let may = short_said items domains boxes k h row s o n u e f w t.best in
    let new = said_collected boxes i.0 s ls o.box_sets may t.literals in
    let says = said_more boxes i.0 s ls f t.literals in
    let next = totalled_more items domains boxes k 0 row (pos 0) ls (said i.0 s ls) o n (omega arith) t new says in
    let cuts = cut domains (said i.0 s ls) in
    let high = cut_high domains boxes ls (said i.0 s ls) i.2 o t.literals new says (n k (0, 0, 0) u).room in
    let long = long_all (λ v. has (box_of cuts i.0) v) h row (λ v q.
    let passes = cut_passes domains boxes (said i.0 s ls) i.0 v (not (is_short v h row)) o new (λ d b. let is = w v in said_here boxes i.0 s v ls f t.literals (grind arith)) q in grind arith) in record {
      literals = next.literals;
      first = next.first;
      last = next.last;
      in_order = next.in_order;
      covers = next.covers;
      best = next.best;
      seated = next_seated items k (λ q. IsSeated row cuts q) next.seated (λ j d lt q. let up = long j d lt q in omega (arith, ints));
      some = next.some;
      more = next.more;
    }

-- ---- an item's size

pub totalled_spare : (items : List (ℕ × ℕ × ℕ)) (domains boxes : Boxes) (k : ℕ) (row : List (ℤ × ℤ)) (spare sizes : ℤ) (ls : Literals) → sizes ≡ least_sizes items boxes → pos 0 ≤ℤ spare → ((row_sum row +ℤ pos 1) +ℤ spare) ≤ℤ sizes →
    AreTotalled items domains boxes k 0 row (pos 0) ls → AreTotalled items domains boxes k 0 row spare ls
totalled_spare items domains boxes k row spare sizes ls e l h t = record {
  literals = t.literals;
  first = t.first;
  last = t.last;
  in_order = t.in_order;
  covers = t.covers;
  best = t.best;
  seated = t.seated;
  some = l;
  more = let is = sizes_none items (cut domains ls) boxes in omega (arith, ints);
}

weighed : (items : List (ℕ × ℕ × ℕ)) (domains boxes : Boxes) (k m : ℕ) (row : List (ℤ × ℤ)) (spare next low to : ℤ) (ls : Literals) → m < length items → low ≡ low_of (box_of boxes (slice_index_or items m (0, 0, 0)).1) →
    to ≤ℤ low_of (box_of (cut domains ls) (slice_index_or items m (0, 0, 0)).1) → pos 0 ≤ℤ next → (next +ℤ low) ≤ℤ (spare +ℤ to) →
    AreTotalled items domains boxes k m row spare ls → AreTotalled items domains boxes k (m + 1) row next ls
weighed items domains boxes k m row spare next low to ls u e h l w t = record {
  literals = t.literals;
  first = t.first;
  last = t.last;
  in_order = t.in_order;
  covers = t.covers;
  best = t.best;
  seated = t.seated;
  some = l;
  more =
      let is : suc m ≡ m + 1 = omega arith in
      let step = sizes_next m items (cut domains ls) boxes u in let before = t.more in
      subst (λ (z : ℕ). ((row_sum row +ℤ pos 1) +ℤ next) ≤ℤ sizes_at z items (cut domains ls) boxes) is (omega (arith, ints));
}

pub weigh_free : (items : List (ℕ × ℕ × ℕ)) (domains boxes : Boxes) (k m : ℕ) (row : List (ℤ × ℤ)) (spare next low least : ℤ) (ls : Literals) → AreOver domains boxes → AreItemsNamed items boxes → m < length items →
    low ≡ low_of (box_of boxes (slice_index_or items m (0, 0, 0)).1) → least ≡ low_of (box_of domains (slice_index_or items m (0, 0, 0)).1) → pos 0 ≤ℤ next → next ≡ spare -ℤ (low -ℤ least) →
    AreTotalled items domains boxes k m row spare ls → AreTotalled items domains boxes k (m + 1) row next ls
weigh_free items domains boxes k m row spare next low least ls o n u e d l w t =
    let y = (slice_index_or items m (0, 0, 0)).1 in
    let from = low_within (box_of (cut domains ls) y) (box_of domains y) (cut_valid domains boxes ls o.domain_sets t.literals y) (o.domain_sets y) (cut_some domains boxes ls y o t.literals (n m (0, 0, 0) u).size) (λ v q. cut_in domains boxes ls y v o t.literals q) in
    weighed items domains boxes k m row spare next low least ls u e (omega (arith, ints)) l (omega (arith, ints)) t

pub size_said : (domains boxes : Boxes) (y : ℕ) (to low : ℤ) (s : Ranges) → AreOver domains boxes → y < length boxes → IsValid s → low ≡ low_of (box_of boxes y) → to ≤ℤ low →
    ((v : ℤ) → has s v ≡ (has (box_of domains y) v && int_lt v to)) → MaySay boxes y s
size_said domains boxes y to low s o n f e l w = record {
  named = n;
  valid = f;
  disjoint = (disjoint_law s (box_of boxes y) f (o.box_sets y)).1 (λ v q. false_from_ne_true (has (box_of boxes y) v) (λ t.
      let above = above_low (box_of boxes y) v (o.box_sets y) t in let is = w v in let below : int_lt v to ≡ true = grind arith in grind (arith, ints)));
}

pub size_from : (domains boxes : Boxes) (y : ℕ) (to : ℤ) (s : Ranges) (ls : Literals) → AreOver domains boxes → y < length boxes → AreCollected boxes ls → MaySay boxes y s →
    ((v : ℤ) → has s v ≡ (has (box_of domains y) v && int_lt v to)) → to ≤ℤ low_of (box_of (cut domains (said y s ls)) y)
size_from domains boxes y to s ls o n c m w =
    let new = said_collected boxes y s ls o.box_sets m c in
    let box = box_of (cut domains (said y s ls)) y in
    let bottom = has_low box (cut_valid domains boxes (said y s ls) o.domain_sets new y) (cut_some domains boxes (said y s ls) y o new n) in
    let passes = cut_passes domains boxes (said y s ls) y (low_of box) (int_le to (low_of box)) o new
    (λ d b. let below : int_lt (low_of box) to ≡ true = grind (arith, ints) in let is = w (low_of box) in said_here boxes y s (low_of box) ls m.valid c (grind arith)) bottom in
    grind (arith, ints)

pub weigh_said : (items : List (ℕ × ℕ × ℕ)) (domains boxes : Boxes) (k m : ℕ) (row : List (ℤ × ℤ)) (spare low to : ℤ) (s : Ranges) (ls : Literals) → AreOver domains boxes → AreItemsNamed items boxes → k ≤ length items → m < length items →
    low ≡ low_of (box_of boxes (slice_index_or items m (0, 0, 0)).1) → to ≡ low -ℤ spare → IsValid s → ((v : ℤ) → has s v ≡ (has (box_of domains (slice_index_or items m (0, 0, 0)).1) v && int_lt v to)) →
    AreTotalled items domains boxes k m row spare ls → AreTotalled items domains boxes k (m + 1) row (pos 0) (said (slice_index_or items m (0, 0, 0)).1 s ls)
weigh_said items domains boxes k m row spare low to s ls o n r u e d f w t =
    let y = (slice_index_or items m (0, 0, 0)).1 in
    let named = (n m (0, 0, 0) u).size in
    let some = t.some in
    let may = size_said domains boxes y to low s o named f e (omega (arith, ints)) w in
    let new = said_collected boxes y s ls o.box_sets may t.literals in
    let next = totalled_more items domains boxes k m row spare ls (said y s ls) o n r t new (said_more boxes y s ls f t.literals) in
    weighed items domains boxes k m row spare (pos 0) low to (said y s ls) u e (size_from domains boxes y to s ls o named t.literals may w) (omega (arith, ints)) (omega (arith, ints)) next

-- ---- where it ends

row_rooms : (items : List (ℕ × ℕ × ℕ)) (boxes : Boxes) (row : List (ℤ × ℤ)) → AreBest row items boxes → All (λ p. pos 0 ≤ℤ p.1) row
row_rooms items boxes row a k d lt = let here = a k d lt in let low = best_room-ge (get_or row k d).0 items boxes in omega (arith, ints)

seated_best : (items : List (ℕ × ℕ × ℕ)) (cuts : Boxes) (row : List (ℤ × ℤ)) → All (λ p. pos 0 ≤ℤ p.1) row → ((j : ℕ) → j < length items → IsSeated row cuts (slice_index_or items j (0, 0, 0))) → AreBest row items cuts
seated_best items cuts row g h k d lt =
    best_upto (get_or row k d).0 (get_or row k d).1 items cuts (g k d lt)
    (λ j e less. subst (λ (i : ℕ × ℕ × ℕ). has (box_of cuts i.0) (get_or row k d).0 ≡ true → high_of (box_of cuts i.2) ≤ℤ (get_or row k d).1) (any_default items j (0, 0, 0) e less) (λ q. h j less k d lt q))

pub totalled_excluded : (items : List (ℕ × ℕ × ℕ)) (domains boxes : Boxes) (row : List (ℤ × ℤ)) (spare : ℤ) (ls : Literals) → AreOver domains boxes → AreTotalled items domains boxes (length items) (length items) row spare ls →
    int_lt (all_room items (cut domains ls)) (least_sizes items (cut domains ls)) ≡ true
totalled_excluded items domains boxes row spare ls o t =
    let cuts = cut domains ls in
    let best = seated_best items cuts row (row_rooms items boxes row t.best) t.seated in
    let sets = cut_valid domains boxes ls o.domain_sets t.literals in
    let below : (w : ℤ) → w <ℤ t.first → best_room w items cuts ≡ pos 0 =
    λ w l. best_none w items cuts (λ k d lt. false_from_ne_true (has (box_of cuts (get_or items k d).0) w) (λ q.
    let there = cut_in domains boxes ls (get_or items k d).0 w o t.literals q in let low = above_low (box_of domains (get_or items k d).0) w (o.domain_sets (get_or items k d).0) there in let c = (t.covers k d lt).0 in omega (arith, ints))) in
    let above : (w : ℤ) → t.last <ℤ w → best_room w items cuts ≡ pos 0 =
    λ w l. best_none w items cuts (λ k d lt. false_from_ne_true (has (box_of cuts (get_or items k d).0) w) (λ q.
    let there = cut_in domains boxes ls (get_or items k d).0 w o t.literals q in let high = below_high (box_of domains (get_or items k d).0) w (o.domain_sets (get_or items k d).0) there in let c = (t.covers k d lt).1 in omega (arith, ints))) in
    let rooms = all_room_row t.first t.last row items cuts t.in_order best below above in
    let sizes = sizes_all (length items) items cuts boxes (omega arith) in
    let more = t.more in let some = t.some in grind (arith, ints)

pub totalled_reason : (con : Con) (items : List (ℕ × ℕ × ℕ)) (domains boxes : Boxes) (x : ℕ) (s : Ranges) (row : List (ℤ × ℤ)) (spare : ℤ) (ls : Literals) → con ≡ Pack items → IsPart domains boxes items x s →
    AreTotalled items domains (with_part boxes x s) (length items) (length items) row spare ls → IsReason con domains boxes ls
totalled_reason con items domains boxes x s row spare ls e p t =
    let cuts = cut domains ls in
    let over = totalled_excluded items domains (with_part boxes x s) row spare ls (part_over domains boxes items x s p) t in
    let follows : refuted (Pack items) cuts ≡ true = or_right (some_empty (item_vars items) cuts) (some_overfull items items cuts || int_lt (all_room items cuts) (least_sizes items cuts)) (or_right (some_overfull items items cuts) (int_lt (all_room items cuts) (least_sizes items cuts)) over) in
    subst (λ (z : Con). IsReason z domains boxes ls) (sym e) (part_reason (Pack items) domains boxes items x s ls p t.literals follows)
