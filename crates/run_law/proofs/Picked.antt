-- What a chooser picks may be decided, and is decided by its order.
use Rattle.std.proofs.Common.{◌≡◌, ℕ, ◌<◌, Bool, true, false, not, ◌&&◌, [], ◌∷◌, ℤ, length, refl, sym, ap, ◌∙◌, subst, All, Some}
use Rattle.std.specs.Option.{ForSome}
use Rattle.std.proofs.lemmas.Bool.{and_parts, and_from, false_from_ne_true}
use Rattle.signed_clause.specs.Ranges.{Ranges, has, is_nil, IsValid, IsSubset}
use Rattle.signed_clause.specs.SetAlgebra.{is_disjoint, is_within, meet}
use Rattle.signed_clause.specs.Clauses.{Boxes, box_of}
use Rattle.signed_clause.proofs.SetFacts.{within_law}
use Rattle.signed_clause.proofs.RangeSteps.{has-meet_valid, IsValid-meet}
use Rattle.learn_clauses.proofs.WithinLaws.{valid_boxes}
use Rattle.branch_choice.specs.declared.split.Split.{Split}
use Rattle.branch_choice.specs.declared.split.Order.{Order}
use Rattle.branch_choice.specs.declared.split.Order.TheVariants.{First, Small, Former, Own}
use Rattle.branch_choice.specs.Picks.{Hints, half_of, IsSplit, IsPick}
use Rattle.run_law.specs.Replay.{is_split}
use Rattle.run_law.specs.Ordered.{IsHalfOf, IsDecidedBy}

both_ways : (b : Bool) → b ≡ true → b ≡ false → ⊥
both_ways b h k = let wrong = sym h ∙ k in cc

-- what a part takes of a box splits it, where it takes something and leaves something
takes_part : (part box : Ranges) → IsValid part → IsValid box → is_disjoint part box ≡ false →
    is_within box part ≡ false → is_split (meet part box) box ≡ true
takes_part part box f g some left =
    let half = meet part box in
    let valid = IsValid-meet part box f g in
    let both : (v : ℤ) → has half v ≡ true → (has part v ≡ true) × (has box v ≡ true) = λ v h.
    and_parts (has part v) (has box v) (sym (has-meet_valid part box f g v) ∙ h) in
    let within : is_within half box ≡ true =
    (within_law half box valid g).1 (λ v h. (both v h).1) in
    let proper : is_within box half ≡ false = false_from_ne_true (is_within box half) (λ e.
    let all : is_within box part ≡ true = (within_law box part g f).1 (λ v h.
    (both v ((within_law box half g valid).0 e v h)).0) in
    absurd (both_ways (is_within box part) all left)) in
    rw (some, within, proper) refl

-- ---- what was picked

-- the answer of a chooser of the order, and the set of the values that its split is about
pub record IsPicked (order : Order) (boxes : Boxes) (hints : Hints) (count : ℕ) (s : Split)
    (part : Ranges) : Type 0 where
  pub pick : IsPick order boxes hints count (Some s)
  pub part_is : part ≡ half_of s
  pub part_valid : IsValid part
  pub sets : All (λ s. IsValid s) boxes

pub picked_split : (order : Order) (boxes : Boxes) (hints : Hints) (count : ℕ) (s : Split)
    (part : Ranges) → IsPicked order boxes hints count s part →
    is_split (meet part (box_of boxes s.var)) (box_of boxes s.var) ≡ true
picked_split order boxes hints count s part w =
    let box = box_of boxes s.var in
    let split : IsSplit boxes count s = w.pick.split s refl in
    let some : is_disjoint part box ≡ false =
    ap (λ z. is_disjoint z box) w.part_is ∙ split.taken in
    let left : is_within box part ≡ false = ap (λ z. is_within box z) w.part_is ∙ split.left in
    takes_part part box w.part_valid (valid_boxes boxes w.sets s.var) some left

pub picked_searched : (order : Order) (boxes : Boxes) (hints : Hints) (count : ℕ) (s : Split)
    (part : Ranges) → IsPicked order boxes hints count s part → s.var < count
picked_searched order boxes hints count s part w =
    let split : IsSplit boxes count s = w.pick.split s refl in split.undecided.searched

half_by : (P : Split → Type 0) (boxes : Boxes) (s : Split) (part : Ranges) → P s →
    part ≡ half_of s → IsHalfOf P boxes s.var (meet part (box_of boxes s.var))
half_by P boxes s part h e = record {
  split = s;
  picked = h;
  var = refl;
  taken = ap (λ (z : Ranges). meet z (box_of boxes s.var)) e;
}

pub picked_by : (order : Order) (boxes : Boxes) (hints : Hints) (count : ℕ) (s : Split)
    (part : Ranges) → IsPicked order boxes hints count s part →
    IsDecidedBy order boxes hints count s.var (meet part (box_of boxes s.var))
picked_by First boxes hints count s part w =
    half_by _ boxes s part (w.pick.first refl s refl) w.part_is
picked_by Small boxes hints count s part w =
    half_by _ boxes s part (w.pick.small refl s refl) w.part_is
picked_by Former boxes hints count s part w =
    half_by _ boxes s part (w.pick.former refl s refl) w.part_is
picked_by Own boxes hints count s part w = tt
