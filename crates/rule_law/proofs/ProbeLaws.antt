-- What probing finds is a reason: boxes that refute, and a value that does when it stands alone in
-- its box.
use Rattle.std.proofs.Common.{◌≡◌, ℕ, suc, zero, ◌<◌, ◌≤◌, ◌+◌, ◌==◌, max, Bool, true, false, inl, inr, List, [], ◌∷◌, ◌++◌, ℤ, ◌≤ℤ◌, unsigned_abs, All, length, get_or, drop, arith, refl, ap, sym, subst, ◌∙◌}
use Rattle.std.proofs.lemmas.Int.{ints}
use Rattle.std.proofs.lemmas.Bool.{cases_eq, cases_lt}
use Rattle.signed_clause.specs.Ranges.{Ranges, has, is_nil, IsValid}
use Rattle.signed_clause.specs.SetAlgebra.{is_disjoint, is_within, less}
use Rattle.signed_clause.specs.Clauses.{Boxes, Literals, box_of}
use Rattle.signed_clause.proofs.RangeSteps.{left_at}
use Rattle.signed_clause.proofs.SetFacts.{within_law}
use Rattle.ground_form.specs.declared.con.Con.{Con}
use Rattle.ground_form.specs.Meaning.{vars_of}
use Rattle.ground_form.specs.Bounds.{low_of, high_of, reach_of, IsBounded}
use Rattle.ground_form.specs.WellMade.{IsWellMadeCon}
use Rattle.box_rules.specs.Named.{IsNamed}
use Rattle.box_rules.specs.Refuted.{refuted}
use Rattle.box_view.specs.Views.{fixing}
use Rattle.box_rules.specs.Quiet.{quiet, quiet_at, IsCulprit}
use Rattle.rule_law.specs.Answers.{AreBoxesWithin}
use Rattle.rule_law.specs.Reasons.{has_number, no_repeat, IsReason, kept_one, kept}
use Rattle.box_view.proofs.EndLaws.{are_sets, above_low, below_high, has_low, has_high}
use Rattle.box_view.proofs.SetLaws.{is_within-single, fixing_same, fixing_other}
use Rattle.box_rules.proofs.QuietLaws.{AreNarrower, bounded_narrower}
use Rattle.box_view.proofs.CutLaws.{low_within, top_within}
use Rattle.box_rules.proofs.NamedVars.{named}
use Rattle.rule_law.proofs.NumberLists.{number_at, number_below}
use Rattle.rule_law.proofs.Keeping.{AreLeft, kept_follows, kept_reason, kept_false, kept_acts, acts_false, rest_apart, rest_takes}

-- ---- boxes within domains

within_self : (s : Ranges) → IsValid s → is_within s s ≡ true
within_self s f = (within_law s s f f).1 (λ v h. h)

box_beyond : (boxes : Boxes) (x : ℕ) → length boxes ≤ x → box_of boxes x ≡ []
box_beyond [] x h = refl
box_beyond (b ∷ boxes) zero h = absurd (omega arith)
box_beyond (b ∷ boxes) (suc x) h = box_beyond boxes x (omega arith)

within_nil : (d : Ranges) → is_within [] d ≡ true
within_nil d = refl

record IsPart (s d : Ranges) : Type 0 where
  low : low_of d ≤ℤ low_of s
  high : high_of s ≤ℤ high_of d
  reach : reach_of s ≤ reach_of d

reach_between : (low high a b : ℤ) → low ≤ℤ a → a ≤ℤ high → low ≤ℤ b → b ≤ℤ high → max (unsigned_abs a) (unsigned_abs b) ≤ max (unsigned_abs low) (unsigned_abs high)
reach_between low high a b h k l m = omega (arith, ints)

part_of : (s d : Ranges) → IsValid s → IsValid d → is_nil s ≡ false → is_within s d ≡ true → IsPart s d
part_of s d f g n h =
    let sub = (within_law s d f g).0 h in
    let low = sub (low_of s) (has_low s f n) in
    let high = sub (high_of s) (has_high s f n) in
    record {
      low = above_low d _ g low;
      high = below_high d _ g high;
      reach = reach_between (low_of d) (high_of d) (low_of s) (high_of s) (above_low d _ g low) (below_high d _ g low) (above_low d _ g high) (below_high d _ g high);
    }

same_part : (s : Ranges) → IsPart s s
same_part s = record { low = omega (arith, ints); high = omega (arith, ints); reach = omega arith }

part_at : (domains boxes : Boxes) → AreBoxesWithin domains boxes → ((x : ℕ) → IsValid (box_of domains x)) → (x : ℕ) → IsPart (box_of boxes x) (box_of domains x)
part_at domains boxes w f x =
    elim (cases_lt x (length boxes)) [
      | inl lt ↦ part_of (box_of boxes x) (box_of domains x) (are_sets boxes w.sets x) (f x) (w.some x lt) (w.within x lt)
      | inr ge ↦
          let size = w.size in
          let one : [] ≡ box_of boxes x = sym (box_beyond boxes x (omega arith)) in
          let other : [] ≡ box_of domains x = sym (box_beyond domains x (omega arith)) in
          subst (λ (s : Ranges). IsPart s (box_of domains x)) one (subst (λ (d : Ranges). IsPart [] d) other (same_part []))
    ]

pub boxes_narrower : (domains boxes : Boxes) → AreBoxesWithin domains boxes → All (λ d. IsValid d) domains → AreNarrower boxes domains
boxes_narrower domains boxes w f = record {
  low = λ x. (part_at domains boxes w (are_sets domains f) x).low;
  high = λ x. (part_at domains boxes w (are_sets domains f) x).high;
  reach = λ x. (part_at domains boxes w (are_sets domains f) x).reach;
}

pub boxes_bounded : (con : Con) (domains boxes : Boxes) → AreBoxesWithin domains boxes → All (λ d. IsValid d) domains → IsWellMadeCon domains con → IsBounded con boxes
boxes_bounded con domains boxes w f m = bounded_narrower con boxes domains (boxes_narrower domains boxes w f) m.bounded

pub boxes_vars : (con : Con) (domains boxes : Boxes) → AreBoxesWithin domains boxes → IsWellMadeCon domains con → All (λ x. x < length boxes) (vars_of con)
boxes_vars con domains boxes w m k d lt = let h = m.named k d lt in let size = w.size in omega arith

pub boxes_named : (con : Con) (domains boxes : Boxes) → AreBoxesWithin domains boxes → IsWellMadeCon domains con → IsNamed con boxes
boxes_named con domains boxes w m = named con boxes (boxes_vars con domains boxes w m)

-- ---- the variables of the constraint, each once

pub record AreVarsOnce (con : Con) (xs : List ℕ) : Type 0 where
  pub differ : no_repeat xs ≡ true
  pub same : (x : ℕ) → has_number x xs ≡ has_number x (vars_of con)

once_below : (con : Con) (xs : List ℕ) (n : ℕ) → AreVarsOnce con xs → All (λ x. x < n) (vars_of con) → (x : ℕ) → has_number x xs ≡ true → x < n
once_below con xs n o h x q = number_below x (vars_of con) (sym (o.same x) ∙ q) n h

pub once_from : (con : Con) (named xs ys : List ℕ) → named ≡ vars_of con → no_repeat xs ≡ true → ((x : ℕ) → has_number x xs ≡ has_number x named) → ys ≡ xs → AreVarsOnce con ys
once_from con named xs ys e d s i =
    subst (λ (zs : List ℕ). AreVarsOnce con zs) (sym i) (record { differ = d; same = λ x. s x ∙ ap (λ (zs : List ℕ). has_number x zs) e })

pub once_all : (con : Con) (xs : List ℕ) (n : ℕ) → AreVarsOnce con xs → All (λ x. x < n) (vars_of con) → All (λ x. x < n) xs
once_all con xs n o h k d lt = once_below con xs n o h (get_or xs k d) (number_at (get_or xs k d) xs k d lt refl)

-- ---- boxes that refute

boxes_left : (domains boxes : Boxes) (xs : List ℕ) → AreBoxesWithin domains boxes → All (λ d. IsValid d) domains → no_repeat xs ≡ true → ((x : ℕ) → has_number x xs ≡ true → x < length boxes) → AreLeft domains (λ x. box_of boxes x) xs
boxes_left domains boxes xs w f d n = record {
  differ = d;
  domains_valid = are_sets domains f;
  valid = λ x q. are_sets boxes w.sets x;
  within = λ x q. w.within x (n x q);
}

pub boxes_reason : (con : Con) (domains boxes : Boxes) (xs : List ℕ) → AreBoxesWithin domains boxes → All (λ d. IsValid d) domains → All (λ x. x < length boxes) (vars_of con) → AreVarsOnce con xs → refuted con boxes ≡ true →
    IsReason con domains boxes (kept domains (λ x. box_of boxes x) xs)
boxes_reason con domains boxes xs w f h o r =
    let n = once_below con xs (length boxes) o h in
    let left = boxes_left domains boxes xs w f o.differ n in
    kept_reason con domains boxes (λ x. box_of boxes x) xs left n
    (kept_follows con domains boxes (λ x. box_of boxes x) xs left (λ y q. o.same y ∙ q) (λ y q. refl) r)
    (acts_false boxes (kept domains (λ x. box_of boxes x) xs)
    (kept_false domains boxes (λ x. box_of boxes x) xs
    (λ x q. rest_apart (box_of domains x) (box_of boxes x) (box_of boxes x) (are_sets domains f x) (are_sets boxes w.sets x) (are_sets boxes w.sets x) (within_self (box_of boxes x) (are_sets boxes w.sets x)))))

-- ---- a value that refutes

value_valid : (s : Ranges) (v : ℤ) → IsValid s → has s v ≡ true → IsValid ((v, v) ∷ [])
value_valid s v f h = let low = low_within _ _ s v f h in let top = top_within _ _ s v f h in grind (arith, ints)

fixing_valid : (boxes : Boxes) (x : ℕ) (v : ℤ) → x < length boxes → ((y : ℕ) → IsValid (box_of boxes y)) → has (box_of boxes x) v ≡ true → (y : ℕ) → IsValid (box_of (fixing boxes x v) y)
fixing_valid boxes x v n f h y =
    elim (cases_eq y x) [
      | inl e ↦ subst (λ (z : ℕ). IsValid (box_of (fixing boxes x v) z)) (sym e) (subst IsValid (sym (fixing_same boxes x v n)) (value_valid (box_of boxes x) v (f x) h))
      | inr e ↦ subst IsValid (sym (fixing_other boxes x y v e)) (f y)
    ]

fixing_within : (boxes : Boxes) (x : ℕ) (v : ℤ) → x < length boxes → ((y : ℕ) → IsValid (box_of boxes y)) → has (box_of boxes x) v ≡ true → (y : ℕ) → (d : Ranges) → IsValid d → is_within (box_of boxes y) d ≡ true → is_within (box_of (fixing boxes x v) y) d ≡ true
fixing_within boxes x v n f h y d g i =
    elim (cases_eq y x) [
      | inl e ↦
          let there : is_within (box_of boxes x) d ≡ true = subst (λ (z : ℕ). is_within (box_of boxes z) d ≡ true) e i in
          let part = (within_law (box_of boxes x) d (f x) g).0 there v h in
          subst (λ (z : ℕ). is_within (box_of (fixing boxes x v) z) d ≡ true) (sym e)
          (subst (λ (s : Ranges). is_within s d ≡ true) (sym (fixing_same boxes x v n)) (is_within-single v d (value_valid (box_of boxes x) v (f x) h) g ∙ part))
      | inr e ↦ subst (λ (s : Ranges). is_within s d ≡ true) (sym (fixing_other boxes x y v e)) i
    ]

fixing_left : (domains boxes : Boxes) (x : ℕ) (v : ℤ) (xs : List ℕ) → AreBoxesWithin domains boxes → All (λ d. IsValid d) domains → no_repeat xs ≡ true → ((y : ℕ) → has_number y xs ≡ true → y < length boxes) →
    x < length boxes → has (box_of boxes x) v ≡ true → AreLeft domains (λ y. box_of (fixing boxes x v) y) xs
fixing_left domains boxes x v xs w f d n lt h = record {
  differ = d;
  domains_valid = are_sets domains f;
  valid = λ y q. fixing_valid boxes x v lt (are_sets boxes w.sets) h y;
  within = λ y q. fixing_within boxes x v lt (are_sets boxes w.sets) h y (box_of domains y) (are_sets domains f y) (w.within y (n y q));
}

differs : (y x : ℕ) → (y == x) ≡ false → y ≡ x → ⊥
differs y x h e = grind arith

fixing_disjoint : (domains boxes : Boxes) (x y : ℕ) (v : ℤ) → IsValid (box_of domains y) → IsValid (box_of boxes y) → (y == x) ≡ false → is_disjoint (less (box_of domains y) (box_of (fixing boxes x v) y)) (box_of boxes y) ≡ true
fixing_disjoint domains boxes x y v f g e =
    subst (λ (s : Ranges). is_disjoint (less (box_of domains y) s) (box_of boxes y) ≡ true) (sym (fixing_other boxes x y v (differs y x e)))
    (rest_apart (box_of domains y) (box_of boxes y) (box_of boxes y) f g g (within_self (box_of boxes y) g))

has_self : (v : ℤ) → has ((v, v) ∷ []) v ≡ true
has_self v = grind (arith, ints)

fixing_takes : (domains boxes : Boxes) (x : ℕ) (v : ℤ) → x < length boxes → IsValid (box_of domains x) → IsValid (box_of boxes x) → has (box_of boxes x) v ≡ true → is_within (box_of boxes x) (less (box_of domains x) (box_of (fixing boxes x v) x)) ≡ false
fixing_takes domains boxes x v lt f g h =
    subst (λ (s : Ranges). is_within (box_of boxes x) (less (box_of domains x) s) ≡ false) (sym (fixing_same boxes x v lt))
    (rest_takes (box_of domains x) ((v, v) ∷ []) (box_of boxes x) v f (value_valid (box_of boxes x) v g h) g h (has_self v))

pub fixing_reason : (con : Con) (domains boxes : Boxes) (x : ℕ) (v : ℤ) (xs : List ℕ) → AreBoxesWithin domains boxes → All (λ d. IsValid d) domains → All (λ y. y < length boxes) (vars_of con) → AreVarsOnce con xs →
    has_number x xs ≡ true → IsCulprit con boxes x v → IsReason con domains boxes (kept domains (λ y. box_of (fixing boxes x v) y) xs)
fixing_reason con domains boxes x v xs w f h o q c =
    let n = once_below con xs (length boxes) o h in
    let lt = n x q in
    let left = fixing_left domains boxes x v xs w f o.differ n lt c.member in
    kept_reason con domains boxes (λ y. box_of (fixing boxes x v) y) xs left n
    (kept_follows con domains (fixing boxes x v) (λ y. box_of (fixing boxes x v) y) xs left (λ y p. o.same y ∙ p) (λ y p. refl) c.refutes)
    (kept_acts x domains boxes (λ y. box_of (fixing boxes x v) y) xs o.differ q
    (λ y p e. fixing_disjoint domains boxes x y v (are_sets domains f y) (are_sets boxes w.sets y) e)
    (fixing_takes domains boxes x v lt (are_sets domains f x) (are_sets boxes w.sets x) c.member))

-- ---- the walk that keeps

append_same : (ls bs cs : Literals) → (ls ++ bs) ++ cs ≡ ls ++ (bs ++ cs)
append_same [] bs cs = refl
append_same (l ∷ ls) bs cs = ap (λ (z : Literals). l ∷ z) (append_same ls bs cs)

one_then : (x : ℕ) (s : Ranges) (rest : Literals) → kept_one x s [] ++ rest ≡ kept_one x s rest
one_then x [] rest = refl
one_then x (r ∷ s) rest = refl

pub kept_more : (domains : Boxes) (leaves : ℕ → Ranges) (xs : List ℕ) (k x : ℕ) (now later whole : Literals) → k < length xs → x ≡ get_or xs k 0 →
    later ≡ now ++ kept_one x (less (box_of domains x) (leaves x)) [] → now ++ kept domains leaves (drop k xs) ≡ whole → later ++ kept domains leaves (drop (k + 1) xs) ≡ whole
kept_more domains leaves xs k x now later whole h e l w =
    ap (λ (z : Literals). z ++ kept domains leaves (drop (k + 1) xs)) l
    ∙ append_same now (kept_one x (less (box_of domains x) (leaves x)) []) (kept domains leaves (drop (k + 1) xs))
    ∙ ap (λ (z : Literals). now ++ z) (one_then x (less (box_of domains x) (leaves x)) (kept domains leaves (drop (k + 1) xs)) ∙ sym (ap (λ (z : List ℕ). kept domains leaves z) (left_at xs k x 0 h e)))
    ∙ w

pub once_has : (con : Con) (xs named walked : List ℕ) (x : ℕ) → AreVarsOnce con xs → named ≡ vars_of con → walked ≡ named → has_number x walked ≡ true → has_number x xs ≡ true
once_has con xs named walked x o e w h = o.same x ∙ sym (ap (λ (zs : List ℕ). has_number x zs) (w ∙ e)) ∙ h

pub quiet_from : (con : Con) (boxes : Boxes) (out still : Bool) → out ≡ refuted con boxes → out ≡ false → still ≡ quiet_at con boxes (vars_of con) → still ≡ true → quiet con boxes ≡ true
unfolding quiet
quiet_from con boxes out still e f g h = grind arith
