-- A constraint is quiet where it isn't refuted, and not by any value of a box either.
use Rattle.std.proofs.Common.{◌≡◌, ℕ, zero, suc, ◌<◌, Bool, true, false, cond, List, [], ◌∷◌, ◌++◌, ℤ, pos, ◌+ℤ◌, ◌-ℤ◌, ◌≤ℤ◌, ◌<ℤ◌, unsigned_abs, All, length, refl, arith, subst, sym, ap}
use Rattle.std.specs.Prelude.{nat_le}
use Rattle.std.proofs.lemmas.Int.{ints}
use Rattle.signed_clause.specs.Ranges.{Ranges, has, is_nil, in_range, IsValid, Ascends, count_of}
use Rattle.signed_clause.specs.Clauses.{Boxes, box_of}
use Rattle.ground_form.specs.declared.con.Con.{Con}
use Rattle.ground_form.specs.declared.con.Con.TheVariants.{AllDiff}
use Rattle.ground_form.specs.Meaning.{vars_of}
use Rattle.ground_form.specs.Bounds.{low_of, high_of}
use Rattle.box_view.specs.Views.{fixing}
use Rattle.box_rules.specs.Quiet.{values_from, values_of, probed, none_refutes, quiet_at, quiet}
use Rattle.box_rules.specs.Refuted.{width, refuted, some_empty, some_crowded}
use Rattle.ground_form.specs.WellMade.{IsWellMadeCon}
use Rattle.rule_law.specs.Answers.{AreBoxesWithin}
use Rattle.box_view.proofs.EndLaws.{AreSets, are_sets}
use Rattle.box_view.proofs.EndLaws.{has_low, has_high}
use Rattle.rule_law.specs.Reasons.{has_number, no_repeat}
use Rattle.all_different_pruner.specs.Intervals.{AreAtFixpoint}
use Rattle.all_different_pruner.proofs.FixpointQuiet.{none_empty, fixed_not_empty, none_crowded, fixed_not_crowded}
use Rattle.all_different_pruner.proofs.Fixpoint.{all_at, stands_at}

-- the values are of the set
abbrev Members : Ranges → List ℤ → Type 0
Members s [] = Unit {0}
Members s (v ∷ vs) = (has s v ≡ true) × Members s vs

members_append : (s : Ranges) (vs ws : List ℤ) → Members s vs → Members s ws → Members s (vs ++ ws)
members_append s [] ws h k = k
members_append s (v ∷ vs) ws h k = (h.0, members_append s vs ws h.1 k)

members_from : (s : Ranges) (n : ℕ) (v : ℤ) → ((u : ℤ) → v ≤ℤ u → u <ℤ (v +ℤ pos n) → has s u ≡ true) → Members s (values_from n v)
members_from s zero v h = tt
members_from s (suc n) v h = (h v (omega (arith, ints)) (omega (arith, ints)), members_from s n (v +ℤ pos 1) (λ u le lt. h u (omega (arith, ints)) (omega (arith, ints))))

in_from : (r : ℤ × ℤ) (u : ℤ) → r.0 ≤ℤ r.1 → r.0 ≤ℤ u → u <ℤ (r.0 +ℤ pos (width r.0 r.1)) → in_range r u ≡ true
in_from r u o h k = let e : r.0 +ℤ pos (suc (unsigned_abs (r.1 -ℤ r.0))) ≡ r.1 +ℤ pos 1 = omega (arith, ints) in let l : u ≤ℤ r.1 = omega (arith, ints) in grind (arith, ints)

members_of : (low top : ℤ) (s rs : Ranges) → Ascends low top rs → ((u : ℤ) → has rs u ≡ true → has s u ≡ true) → Members s (values_of rs)
members_of low top s [] a h = tt
members_of low top s (r ∷ rs) a h =
    members_append s (values_from (width r.0 r.1) r.0) (values_of rs)
    (members_from s (width r.0 r.1) r.0 (λ u le lt. h u (let is = in_from r u a.1 le lt in rw is refl)))
    (members_of (r.1 +ℤ pos 2) top s rs a.2 (λ u k. h u (grind arith)))

members_probed : (s : Ranges) → IsValid s → is_nil s ≡ false → Members s (probed s)
members_probed s f n =
    let P : Bool → Type 0 = λ t. Members s (cond t (values_of s) (low_of s ∷ high_of s ∷ [])) in
    elim (nat_le (count_of s) 64) as P [
      | true ↦ members_of _ _ s s f (λ u h. h)
      | false ↦ (has_low s f n, (has_high s f n, tt))
    ]

none_of : (con : Con) (boxes : Boxes) (x : ℕ) (vs : List ℤ) → Members (box_of boxes x) vs → ((v : ℤ) → has (box_of boxes x) v ≡ true → refuted con (fixing boxes x v) ≡ false) → none_refutes con boxes x vs ≡ true
none_of con boxes x [] m h = refl
none_of con boxes x (v ∷ vs) m h = let here = h v m.0 in let more = none_of con boxes x vs m.1 h in grind arith

pub record IsUnrefuted (con : Con) (boxes : Boxes) (x : ℕ) : Type 0 where
  pub some : is_nil (box_of boxes x) ≡ false
  pub values : (v : ℤ) → has (box_of boxes x) v ≡ true → refuted con (fixing boxes x v) ≡ false

pub quiet_all : (con : Con) (boxes : Boxes) (xs : List ℕ) → AreSets boxes → ((x : ℕ) → has_number x xs ≡ true → IsUnrefuted con boxes x) → quiet_at con boxes xs ≡ true
quiet_all con boxes [] s h = refl
quiet_all con boxes (x ∷ xs) s h =
    let this = h x (stands_at x xs) in
    let here = none_of con boxes x (probed (box_of boxes x)) (members_probed (box_of boxes x) (s x) this.some) this.values in
    let more = quiet_all con boxes xs s (λ y k. h y (grind arith)) in grind arith

-- the definition
quiet_parts : (con : Con) (boxes : Boxes) → refuted con boxes ≡ false → quiet_at con boxes (vars_of con) ≡ true → quiet con boxes ≡ true
unfolding quiet
quiet_parts con boxes n all = grind arith

pub quiet_from : (con : Con) (boxes : Boxes) → AreSets boxes → refuted con boxes ≡ false → ((x : ℕ) → has_number x (vars_of con) ≡ true → IsUnrefuted con boxes x) → quiet con boxes ≡ true
quiet_from con boxes s n h = quiet_parts con boxes n (quiet_all con boxes (vars_of con) s h)

-- ---- values that differ

diff_not_refuted : (vars : List ℕ) (boxes : Boxes) → some_empty vars boxes ≡ false → some_crowded vars vars boxes ≡ false → refuted (AllDiff vars) boxes ≡ false
diff_not_refuted vars boxes h k = grind arith

named_at : (x : ℕ) (xs : List ℕ) (boxes : Boxes) → All (λ y. y < length boxes) xs → has_number x xs ≡ true → x < length boxes
named_at x xs boxes n h = all_at (λ y. y < length boxes) x xs n h

pub fixpoint_quiet : (domains boxes : Boxes) (vars : List ℕ) → AreBoxesWithin domains boxes → All (λ y. y < length boxes) vars → no_repeat vars ≡ true → AreAtFixpoint vars vars boxes → quiet (AllDiff vars) boxes ≡ true
fixpoint_quiet domains boxes vars w n once fixpoint =
    let s = are_sets boxes w.sets in
    quiet_from (AllDiff vars) boxes s (diff_not_refuted vars boxes (none_empty vars boxes w.some n) (none_crowded vars boxes s fixpoint))
    (λ x there. record {
      some = w.some x (named_at x vars boxes n there);
      values = λ v member.
          let named = named_at x vars boxes n there in
          diff_not_refuted vars (fixing boxes x v) (fixed_not_empty vars boxes x v named w.some n) (fixed_not_crowded v x vars boxes s fixpoint once there named member);
    })

pub differing_quiet : (con : Con) (domains boxes : Boxes) (vars : List ℕ) → con ≡ AllDiff vars → AreBoxesWithin domains boxes → All (λ y. y < length boxes) vars → no_repeat vars ≡ true → AreAtFixpoint vars vars boxes → quiet con boxes ≡ true
differing_quiet con domains boxes vars e w n once fixpoint = subst (λ (z : Con). quiet z boxes ≡ true) (sym e) (fixpoint_quiet domains boxes vars w n once fixpoint)

pub differing_named : (con : Con) (domains : Boxes) (vars : List ℕ) → con ≡ AllDiff vars → IsWellMadeCon domains con → All (λ x. x < length domains) vars
differing_named con domains vars e w = subst (λ (z : List ℕ). All (λ x. x < length domains) z) (ap (λ (z : Con). vars_of z) e) w.named

pub named_boxes : (domains boxes : Boxes) (vars : List ℕ) → AreBoxesWithin domains boxes → All (λ x. x < length domains) vars → All (λ x. x < length boxes) vars
named_boxes domains boxes vars w n k d lt = let l = n k d lt in let e = w.size in omega arith
