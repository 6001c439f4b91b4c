-- Where each item fits wherever it may be, no bin is overfull, also where one open box is narrowed
-- to a value.
use Rattle.std.proofs.Common.{◌≡◌, ℕ, ◌<◌, Bool, true, false, not, ◌&&◌, cond, List, [], ◌∷◌, ◌++◌, ℤ, pos, ◌+ℤ◌, ◌-ℤ◌, ◌≤ℤ◌, length, refl, arith, subst, sym, ap, ◌∙◌}
use Rattle.std.specs.Prelude.{◌==◌}
use Rattle.std.specs.Ordering.{int_eq}
use Rattle.std.proofs.lemmas.Int.{ints}
use Rattle.std.proofs.lemmas.Bool.{and_parts, false_from_ne_true}
use Rattle.std.proofs.lemmas.Bool.Decides.{Decides-int_eq}
use Rattle.signed_clause.specs.Ranges.{Ranges, has, is_nil}
use Rattle.signed_clause.specs.Clauses.{Boxes, box_of}
use Rattle.ground_form.specs.Meaning.{item_vars}
use Rattle.ground_form.specs.Bounds.{low_of, high_of}
use Rattle.box_view.specs.Views.{fixing}
use Rattle.box_rules.specs.Refuted.{fixed_at, fixed_load, overfull, some_overfull}
use Rattle.rule_law.specs.Reasons.{has_number}
use Rattle.box_view.proofs.EndLaws.{AreSets, ends_in_order, above_low, below_high}
use Rattle.box_view.proofs.SetLaws.{fixing_same}
use Rattle.rule_law.specs.Repeats.{is_one}
use Rattle.pack_fit.specs.Packing.{tight_room, fits, all_fit}
use Rattle.pack_fit.proofs.Spots.{Role, Bin, Size, Room}
use Rattle.pack_fit.proofs.OneBox.{other_box, part, load_change, AtMost, tight_at_most, front_at_most, front_fit, FitsFixed, fits_fixed, FitsOpen, fits_open, Kept, not_over, away_fine}

-- ---- in the boxes as they are

pub now_fine : (js items : List (ℕ × ℕ × ℕ)) (boxes : Boxes) → AreSets boxes → ((p : ℤ) → all_fit p js items boxes ≡ true) → ((p : ℤ) → AtMost p (tight_room p items boxes) js boxes) → some_overfull js items boxes ≡ false
now_fine [] items boxes s f a = refl
now_fine (j ∷ js) items boxes s f a =
    let p = low_of (box_of boxes j.0) in
    let fit = and_parts (fits p (fixed_load p items boxes) (tight_room p items boxes) j boxes) (all_fit p js items boxes) (f p) in
    let order = ends_in_order (box_of boxes j.1) (s j.1) in
    let here : overfull j items boxes ≡ false = not_over (high_of (box_of boxes j.2)) (fixed_load p items boxes) (fixed_at (box_of boxes j.0) p) (λ e.
    let fixed = fits_fixed p (fixed_load p items boxes) (tight_room p items boxes) j boxes fit.0 e in
    let size = fixed.size in let tight = (a p).0 e in omega (arith, ints)) in
    let more = now_fine js items boxes s (λ q. (and_parts (fits q (fixed_load q items boxes) (tight_room q items boxes) j boxes) (all_fit q js items boxes) (f q)).1) (λ q. (a q).1) in
    rw here more

-- ---- loads

not_one_there : (s : Ranges) (p : ℤ) → fixed_at s p ≡ true → is_one s ≡ false → ⊥
not_one_there s p h o =
    let a = and_parts (not (is_nil s)) (int_eq (low_of s) p && int_eq (high_of s) p) h in
    let b = and_parts (int_eq (low_of s) p) (int_eq (high_of s) p) a.1 in
    let low = (Decides-int_eq (low_of s) p).0 b.0 in
    let is : is_one s ≡ true = subst (λ (z : ℤ). fixed_at s z ≡ true) (sym low) h in absurd cc

open_not_fixed : (s : Ranges) (p : ℤ) → is_one s ≡ false → fixed_at s p ≡ false
open_not_fixed s p o = false_from_ne_true (fixed_at s p) (λ q. not_one_there s p q o)

value_fixed : (v p : ℤ) → fixed_at ((v, v) ∷ []) p ≡ true → p ≡ v
value_fixed v p h = let d = Decides-int_eq v p in let e : int_eq v p ≡ true = grind arith in sym (d.0 e)

-- the load with one value in place of an open bin
bin_load : (p load now part_then part_now : ℤ) → now +ℤ part_then ≡ load +ℤ part_now → part_then ≡ pos 0 → now ≡ load +ℤ part_now
bin_load p load now part_then part_now e h = omega (arith, ints)

pub record HasSlack (front : List (ℕ × ℕ × ℕ)) (i : ℕ × ℕ × ℕ) (back : List (ℕ × ℕ × ℕ)) (boxes : Boxes) (x : ℕ) (v : ℤ) : Type 0 where
  pub sets : AreSets boxes
  pub named : x < length boxes
  pub is_open : is_one (box_of boxes x) ≡ false
  pub member : has (box_of boxes x) v ≡ true
  pub not_front : has_number x (item_vars front) ≡ false
  pub not_back : has_number x (item_vars back) ≡ false
  pub fit : (p : ℤ) → all_fit p (front ++ i ∷ back) (front ++ i ∷ back) boxes ≡ true

fit_here : (front : List (ℕ × ℕ × ℕ)) (i : ℕ × ℕ × ℕ) (back : List (ℕ × ℕ × ℕ)) (boxes : Boxes) (x : ℕ) (v : ℤ) → HasSlack front i back boxes x v → (p : ℤ) →
    fits p (fixed_load p (front ++ i ∷ back) boxes) (tight_room p (front ++ i ∷ back) boxes) i boxes ≡ true
fit_here front i back boxes x v r p =
    let items = front ++ i ∷ back in
    (and_parts (fits p (fixed_load p items boxes) (tight_room p items boxes) i boxes) (all_fit p back items boxes) (front_fit p front (i ∷ back) items boxes (r.fit p)).1).0

change : (front : List (ℕ × ℕ × ℕ)) (i : ℕ × ℕ × ℕ) (back : List (ℕ × ℕ × ℕ)) (boxes : Boxes) (x : ℕ) (v : ℤ) → HasSlack front i back boxes x v → (p : ℤ) →
    fixed_load p (front ++ i ∷ back) (fixing boxes x v) +ℤ part p i boxes ≡ fixed_load p (front ++ i ∷ back) boxes +ℤ part p i (fixing boxes x v)
change front i back boxes x v r p = load_change p front i back boxes x v r.not_front r.not_back

joined : (front : List (ℕ × ℕ × ℕ)) (i : ℕ × ℕ × ℕ) (back items : List (ℕ × ℕ × ℕ)) (later : Boxes) → some_overfull front items later ≡ false → overfull i items later ≡ false → some_overfull back items later ≡ false →
    some_overfull (front ++ i ∷ back) items later ≡ false
joined [] i back items later f o b = rw o b
joined (j ∷ front) i back items later f o b =
    let p : overfull j items later ≡ false = grind arith in
    let q : some_overfull front items later ≡ false = grind arith in
    let more = joined front i back items later q o b in rw p more

bin_kept : (v p : ℤ) (f : Bool) (size : ℤ) (items : List (ℕ × ℕ × ℕ)) (boxes later : Boxes) → (f ≡ true → p ≡ v) → fixed_load p items later ≡ fixed_load p items boxes +ℤ cond f size (pos 0) →
    fixed_load v items boxes ≤ℤ (tight_room v items boxes -ℤ size) → fixed_load p items boxes ≤ℤ tight_room p items boxes → fixed_load p items later ≤ℤ tight_room p items boxes
bin_kept v p true size items boxes later h e t k =
    let at : fixed_load p items boxes ≤ℤ (tight_room p items boxes -ℤ size) = subst (λ (z : ℤ). fixed_load z items boxes ≤ℤ (tight_room z items boxes -ℤ size)) (sym (h refl)) t in omega (arith, ints)
bin_kept v p false size items boxes later h e t k = omega (arith, ints)

size_kept : (p : ℤ) (f : Bool) (v : ℤ) (i : ℕ × ℕ × ℕ) (items : List (ℕ × ℕ × ℕ)) (boxes later : Boxes) → v ≤ℤ high_of (box_of boxes i.1) → (f ≡ true → FitsFixed p (fixed_load p items boxes) (tight_room p items boxes) i boxes) →
    fixed_load p items later +ℤ cond f (low_of (box_of boxes i.1)) (pos 0) ≡ fixed_load p items boxes +ℤ part p i later → part p i later ≡ cond f v (pos 0) →
    fixed_load p items boxes ≤ℤ tight_room p items boxes → fixed_load p items later ≤ℤ tight_room p items boxes
size_kept p true v i items boxes later h fit c n k = let size = (fit refl).size in omega (arith, ints)
size_kept p false v i items boxes later h fit c n k = omega (arith, ints)

-- where every load is kept, no bin is overfull but perhaps that of the item
others_fine : (front : List (ℕ × ℕ × ℕ)) (i : ℕ × ℕ × ℕ) (back : List (ℕ × ℕ × ℕ)) (boxes : Boxes) (x : ℕ) (v : ℤ) → HasSlack front i back boxes x v → Kept (front ++ i ∷ back) boxes (fixing boxes x v) →
    overfull i (front ++ i ∷ back) (fixing boxes x v) ≡ false → some_overfull (front ++ i ∷ back) (front ++ i ∷ back) (fixing boxes x v) ≡ false
others_fine front i back boxes x v r k o =
    let items = front ++ i ∷ back in
    let later = fixing boxes x v in
    let most : (p : ℤ) → AtMost p (tight_room p items boxes) items boxes = λ p. tight_at_most p items boxes in
    let f = away_fine front items boxes x v r.sets r.not_front (λ p. (front_fit p front (i ∷ back) items boxes (r.fit p)).0) (λ p. (front_at_most p (tight_room p items boxes) front (i ∷ back) boxes (most p)).0) k in
    let b = away_fine back items boxes x v r.sets r.not_back
    (λ p. (and_parts (fits p (fixed_load p items boxes) (tight_room p items boxes) i boxes) (all_fit p back items boxes) (front_fit p front (i ∷ back) items boxes (r.fit p)).1).1)
    (λ p. (front_at_most p (tight_room p items boxes) front (i ∷ back) boxes (most p)).1.1) k in
    joined front i back items later f o b

at_most_here : (front : List (ℕ × ℕ × ℕ)) (i : ℕ × ℕ × ℕ) (back : List (ℕ × ℕ × ℕ)) (boxes : Boxes) (p : ℤ) → fixed_at (box_of boxes i.0) p ≡ true → tight_room p (front ++ i ∷ back) boxes ≤ℤ high_of (box_of boxes i.2)
at_most_here front i back boxes p e =
    let items = front ++ i ∷ back in (front_at_most p (tight_room p items boxes) front (i ∷ back) boxes (tight_at_most p items boxes)).1.0 e

bin_part : (i : ℕ × ℕ × ℕ) (boxes : Boxes) (x : ℕ) (v p : ℤ) → x < length boxes → i.0 ≡ x → (i.1 == x) ≡ false → part p i (fixing boxes x v) ≡ cond (fixed_at ((v, v) ∷ []) p) (low_of (box_of boxes i.1)) (pos 0)
bin_part i boxes x v p n e f =
    let bin : box_of (fixing boxes x v) i.0 ≡ (v, v) ∷ [] = subst (λ (z : ℕ). box_of (fixing boxes x v) z ≡ (v, v) ∷ []) (sym e) (fixing_same boxes x v n) in
    let size = other_box boxes x i.1 v f in rw (bin, size) refl

bin_now : (front : List (ℕ × ℕ × ℕ)) (i : ℕ × ℕ × ℕ) (back : List (ℕ × ℕ × ℕ)) (boxes : Boxes) (x : ℕ) (v : ℤ) → HasSlack front i back boxes x v → i.0 ≡ x → (i.1 == x) ≡ false → (p : ℤ) →
    fixed_load p (front ++ i ∷ back) (fixing boxes x v) ≡ fixed_load p (front ++ i ∷ back) boxes +ℤ cond (fixed_at ((v, v) ∷ []) p) (low_of (box_of boxes i.1)) (pos 0)
bin_now front i back boxes x v r e f p =
    let open_bin : is_one (box_of boxes i.0) ≡ false = subst (λ (z : ℕ). is_one (box_of boxes z) ≡ false) (sym e) r.is_open in
    let none : part p i boxes ≡ pos 0 = let o = open_not_fixed (box_of boxes i.0) p open_bin in rw o refl in
    bin_load p (fixed_load p (front ++ i ∷ back) boxes) (fixed_load p (front ++ i ∷ back) (fixing boxes x v)) (part p i boxes) (part p i (fixing boxes x v)) (change front i back boxes x v r p) none ∙ ap (λ (z : ℤ). fixed_load p (front ++ i ∷ back) boxes +ℤ z) (bin_part i boxes x v p r.named e f)

bin_open : (front : List (ℕ × ℕ × ℕ)) (i : ℕ × ℕ × ℕ) (back : List (ℕ × ℕ × ℕ)) (boxes : Boxes) (x : ℕ) (v : ℤ) → HasSlack front i back boxes x v → i.0 ≡ x →
    FitsOpen v (fixed_load v (front ++ i ∷ back) boxes) (tight_room v (front ++ i ∷ back) boxes) i boxes
bin_open front i back boxes x v r e =
    let open_bin : is_one (box_of boxes i.0) ≡ false = subst (λ (z : ℕ). is_one (box_of boxes z) ≡ false) (sym e) r.is_open in
    let there : has (box_of boxes i.0) v ≡ true = subst (λ (z : ℕ). has (box_of boxes z) v ≡ true) (sym e) r.member in
    fits_open v _ _ i boxes (fit_here front i back boxes x v r v) (open_not_fixed (box_of boxes i.0) v open_bin) there

bin_fine : (front : List (ℕ × ℕ × ℕ)) (i : ℕ × ℕ × ℕ) (back : List (ℕ × ℕ × ℕ)) (boxes : Boxes) (x : ℕ) (v : ℤ) → HasSlack front i back boxes x v → i.0 ≡ x → (i.1 == x) ≡ false → (i.2 == x) ≡ false →
    some_overfull (front ++ i ∷ back) (front ++ i ∷ back) (fixing boxes x v) ≡ false
bin_fine front i back boxes x v r e f g =
    let items = front ++ i ∷ back in
    let open_fit = bin_open front i back boxes x v r e in
    let tight_left = open_fit.tight_left in
    let room_left = open_fit.room_left in
    let bin : box_of (fixing boxes x v) i.0 ≡ (v, v) ∷ [] = subst (λ (z : ℕ). box_of (fixing boxes x v) z ≡ (v, v) ∷ []) (sym e) (fixing_same boxes x v r.named) in
    let room = other_box boxes x i.2 v g in
    let kept : Kept items boxes (fixing boxes x v) = λ p h.
    bin_kept v p (fixed_at ((v, v) ∷ []) p) (low_of (box_of boxes i.1)) items boxes (fixing boxes x v) (value_fixed v p) (bin_now front i back boxes x v r e f p) tight_left h in
    others_fine front i back boxes x v r kept
    (rw (bin, room) (not_over (high_of (box_of boxes i.2)) (fixed_load v items (fixing boxes x v)) (fixed_at ((v, v) ∷ []) v) (λ q. let now = bin_now front i back boxes x v r e f v in let at = rw q at now in omega (arith, ints))))

size_fine : (front : List (ℕ × ℕ × ℕ)) (i : ℕ × ℕ × ℕ) (back : List (ℕ × ℕ × ℕ)) (boxes : Boxes) (x : ℕ) (v : ℤ) → HasSlack front i back boxes x v → (i.0 == x) ≡ false → i.1 ≡ x → (i.2 == x) ≡ false →
    some_overfull (front ++ i ∷ back) (front ++ i ∷ back) (fixing boxes x v) ≡ false
size_fine front i back boxes x v r e f g =
    let items = front ++ i ∷ back in
    let later = fixing boxes x v in
    let bin = other_box boxes x i.0 v e in
    let room = other_box boxes x i.2 v g in
    let size : box_of later i.1 ≡ (v, v) ∷ [] = subst (λ (z : ℕ). box_of later z ≡ (v, v) ∷ []) (sym f) (fixing_same boxes x v r.named) in
    let there : has (box_of boxes i.1) v ≡ true = subst (λ (z : ℕ). has (box_of boxes z) v ≡ true) (sym f) r.member in
    let high = below_high (box_of boxes i.1) v (r.sets i.1) there in
    let kept : Kept items boxes later = λ p h.
    let now : part p i later ≡ cond (fixed_at (box_of boxes i.0) p) v (pos 0) = rw (bin, size) refl in
    size_kept p (fixed_at (box_of boxes i.0) p) v i items boxes later high (λ q. fits_fixed p _ _ i boxes (fit_here front i back boxes x v r p) q) (change front i back boxes x v r p) now h in
    let p = low_of (box_of boxes i.0) in
    let order = ends_in_order (box_of boxes i.1) (r.sets i.1) in
    others_fine front i back boxes x v r kept
    (rw (bin, room) (not_over (high_of (box_of boxes i.2)) (fixed_load p items later) (fixed_at (box_of boxes i.0) p) (λ q.
    let fixed = fits_fixed p _ _ i boxes (fit_here front i back boxes x v r p) q in let s = fixed.size in
    let now = kept p (omega (arith, ints)) in let tight = at_most_here front i back boxes p q in omega (arith, ints))))

room_fine : (front : List (ℕ × ℕ × ℕ)) (i : ℕ × ℕ × ℕ) (back : List (ℕ × ℕ × ℕ)) (boxes : Boxes) (x : ℕ) (v : ℤ) → HasSlack front i back boxes x v → (i.0 == x) ≡ false → (i.1 == x) ≡ false → i.2 ≡ x →
    some_overfull (front ++ i ∷ back) (front ++ i ∷ back) (fixing boxes x v) ≡ false
room_fine front i back boxes x v r e f g =
    let items = front ++ i ∷ back in
    let later = fixing boxes x v in
    let bin = other_box boxes x i.0 v e in
    let size = other_box boxes x i.1 v f in
    let room : box_of later i.2 ≡ (v, v) ∷ [] = subst (λ (z : ℕ). box_of later z ≡ (v, v) ∷ []) (sym g) (fixing_same boxes x v r.named) in
    let there : has (box_of boxes i.2) v ≡ true = subst (λ (z : ℕ). has (box_of boxes z) v ≡ true) (sym g) r.member in
    let low = above_low (box_of boxes i.2) v (r.sets i.2) there in
    let same : (p : ℤ) → fixed_load p items later ≡ fixed_load p items boxes = λ p.
    let now : part p i later ≡ part p i boxes = rw (bin, size) refl in let c = change front i back boxes x v r p in omega (arith, ints) in
    let p = low_of (box_of boxes i.0) in
    others_fine front i back boxes x v r (λ p h. let s = same p in omega (arith, ints))
    (rw (bin, room) (not_over v (fixed_load p items later) (fixed_at (box_of boxes i.0) p) (λ q.
    let fixed = fits_fixed p _ _ i boxes (fit_here front i back boxes x v r p) q in let s = fixed.room in let l = same p in omega (arith, ints))))

pub loads_fine : (front : List (ℕ × ℕ × ℕ)) (i : ℕ × ℕ × ℕ) (back : List (ℕ × ℕ × ℕ)) (boxes : Boxes) (x : ℕ) (v : ℤ) → HasSlack front i back boxes x v → Role x i →
    some_overfull (front ++ i ∷ back) (front ++ i ∷ back) (fixing boxes x v) ≡ false
loads_fine front i back boxes x v r (Bin e f g) = bin_fine front i back boxes x v r e f g
loads_fine front i back boxes x v r (Size e f g) = size_fine front i back boxes x v r e f g
loads_fine front i back boxes x v r (Room e f g) = room_fine front i back boxes x v r e f g
