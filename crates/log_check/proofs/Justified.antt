-- A justified clause is true wherever its constraint is.
use Rattle.std.proofs.Common.{◌≡◌, ℕ, zero, suc, ◌+◌, ◌<◌, ◌≤◌, inl, inr, true, false, not, List, [], ◌∷◌, ℤ, pos, ◌+ℤ◌, ◌≤ℤ◌, max, unsigned_abs, length, refl, sym, ap, ◌∙◌, arith, All, subst, add-zero, zero-add}
use Rattle.std.proofs.lemmas.Int.{ints}
use Rattle.std.proofs.lemmas.Bool.{true_from_ne_false, and_parts, cases_lt}
use Rattle.signed_clause.specs.Ranges.{Ranges, has, IsValid, Ascends, high_from}
use Rattle.signed_clause.specs.SetAlgebra.{less}
use Rattle.signed_clause.specs.Clauses.{Boxes, Literals, box_of, clause_true, set_of, IsClause}
use Rattle.signed_clause.proofs.ClauseLaws.{has-set_of}
use Rattle.signed_clause.proofs.ResolventLaws.{set_valid}
use Rattle.signed_clause.proofs.RangeSteps.{has-less_valid, IsValid-less}
use Rattle.ground_form.specs.declared.con.Con.{Con}
use Rattle.ground_form.specs.Meaning.{value_of, con_true, vars_of}
use Rattle.ground_form.specs.Solutions.{IsPoint}
use Rattle.ground_form.specs.Bounds.{IsBounded, low_of, high_of, reach_of}
use Rattle.ground_form.specs.WellMade.{IsWellMadeCon}
use Rattle.box_view.specs.Views.{cut, cut_from}
use Rattle.box_rules.specs.Justified.{justified}
use Rattle.box_view.proofs.EndLaws.{above_low, below_high, ends_in_order}
use Rattle.box_rules.proofs.QuietLaws.{bounded_narrower}
use Rattle.box_rules.proofs.RefutedLaws.{refuted_has_no_point}

-- the box of x is its domain less the clause's set
box_of-cut_from : (n : ℕ) (ds : Boxes) (c : Literals) (x : ℕ) → box_of (cut_from n ds c) x ≡ less (box_of ds x) (set_of c (n + x))
box_of-cut_from n [] c x = refl
box_of-cut_from n (d ∷ ds) c zero = rw add-zero refl
box_of-cut_from n (d ∷ ds) c (suc x) = let e : n + suc x ≡ suc n + x = omega arith in rw e (box_of-cut_from (suc n) ds c x)

length-cut_from : (n : ℕ) (ds : Boxes) (c : Literals) → length (cut_from n ds c) ≡ length ds
length-cut_from n [] c = refl
length-cut_from n (d ∷ ds) c = ap suc (length-cut_from (suc n) ds c)

valid-cut_from : (n : ℕ) (ds : Boxes) (c : Literals) → All (λ s. IsValid s) ds → IsClause c → All (λ s. IsValid s) (cut_from n ds c)
valid-cut_from n [] c h f k d lt = absurd (omega arith)
valid-cut_from n (s ∷ ds) c h f zero d lt = IsValid-less s (set_of c n) (h 0 d (omega arith)) (set_valid 0 c n f)
valid-cut_from n (s ∷ ds) c h f (suc k) d lt = valid-cut_from (suc n) ds c (λ j e less. h (suc j) e (omega arith)) f k d (omega arith)

pub domain_valid : (ds : Boxes) (x : ℕ) → All (λ s. IsValid s) ds → x < length ds → IsValid (box_of ds x)
domain_valid ds x h lt = h x [] lt

-- a point at which the clause is false lies in what its sets leave
point_left : (ds : Boxes) (c : Literals) (a : List ℤ) → All (λ s. IsValid s) ds → IsClause c → IsPoint ds a → clause_true c a ≡ false → IsPoint (cut ds c) a
point_left ds c a s f p k = record {
  size = p.size ∙ sym (length-cut_from 0 ds c);
  within = λ x lt.
      let in_domains : x < length ds = subst (λ (n : ℕ). x < n) (length-cut_from 0 ds c) lt in
      let in_domain = p.within x in_domains in
      let lacked = has-set_of c a x k in
      let law = has-less_valid (box_of ds x) (set_of c x) (domain_valid ds x s in_domains) (set_valid 0 c x f) (value_of a x) in
      let e : box_of (cut_from 0 ds c) x ≡ less (box_of ds x) (set_of c x) = box_of-cut_from 0 ds c x ∙ ap (λ y. less (box_of ds x) (set_of c y)) (zero-add x) in
      rw e (law ∙ grind arith);
}

-- ---- what is left of the domains is bounded as they are

nonempty : (s : Ranges) (v : ℤ) → has s v ≡ true → (r : ℤ × ℤ) × (rs : Ranges) × (s ≡ r ∷ rs)
nonempty [] v h = absurd cc
nonempty (r ∷ rs) v h = (r, rs, refl)

low_member : (r : ℤ × ℤ) (rs : Ranges) → IsValid (r ∷ rs) → has (r ∷ rs) r.0 ≡ true
low_member r rs s = grind (arith, ints)

high_member : (low top : ℤ) (r : ℤ × ℤ) (rs : Ranges) → Ascends low top (r ∷ rs) → has (r ∷ rs) (high_from r.1 rs) ≡ true
high_member low top r [] s = grind (arith, ints)
high_member low top r (q ∷ rs) s = let more = high_member (r.1 +ℤ pos 2) top q rs s.2 in grind arith

narrower : (s d : Ranges) (v : ℤ) → IsValid s → IsValid d → ((w : ℤ) → has s w ≡ true → has d w ≡ true) → has s v ≡ true →
    (low_of d ≤ℤ low_of s) × (high_of s ≤ℤ high_of d)
narrower [] d v h k sub m = absurd cc
narrower (r ∷ rs) d v h k sub m =
    (above_low d r.0 k (sub r.0 (low_member r rs h)), below_high d (high_from r.1 rs) k (sub (high_from r.1 rs) (high_member _ _ r rs h)))

reach_between : (low high a b : ℤ) → low ≤ℤ a → a ≤ℤ b → b ≤ℤ high → max (unsigned_abs a) (unsigned_abs b) ≤ max (unsigned_abs low) (unsigned_abs high)
reach_between low high a b h k l = omega (arith, ints)

-- the box of a variable and what is left of it
pub record IsLeft (s d : Ranges) : Type 0 where
  pub low : low_of d ≤ℤ low_of s
  pub high : high_of s ≤ℤ high_of d
  pub reach : reach_of s ≤ reach_of d

pub left_at_point : (s d : Ranges) (v : ℤ) → IsValid s → IsValid d → ((w : ℤ) → has s w ≡ true → has d w ≡ true) → has s v ≡ true → IsLeft s d
left_at_point s d v h k sub m =
    let ends = narrower s d v h k sub m in
    record { low = ends.0; high = ends.1; reach = reach_between (low_of d) (high_of d) (low_of s) (high_of s) ends.0 (ends_in_order s h) ends.1 }

pub left_same : (s d : Ranges) → s ≡ d → IsLeft s d
left_same s d e = subst (λ (z : Ranges). IsLeft s z) e (record { low = omega (arith, ints); high = omega (arith, ints); reach = omega arith })

pub none_past : (ds : Boxes) (x : ℕ) → length ds ≤ x → box_of ds x ≡ []
none_past [] x h = refl
none_past (d ∷ ds) zero h = absurd (omega arith)
none_past (d ∷ ds) (suc x) h = none_past ds x (omega arith)

left_of_domains : (ds : Boxes) (c : Literals) (a : List ℤ) → All (λ s. IsValid s) ds → IsClause c → IsPoint (cut ds c) a → (x : ℕ) → IsLeft (box_of (cut ds c) x) (box_of ds x)
left_of_domains ds c a s f p x =
    let size = length-cut_from 0 ds c in
    let e : box_of (cut_from 0 ds c) x ≡ less (box_of ds x) (set_of c x) = box_of-cut_from 0 ds c x ∙ ap (λ y. less (box_of ds x) (set_of c y)) (zero-add x) in
    elim (cases_lt x (length ds)) [
      | inl lt ↦
          let valid = domain_valid ds x s lt in
          let member : has (less (box_of ds x) (set_of c x)) (value_of a x) ≡ true = ap (λ z. has z (value_of a x)) (sym e) ∙ p.within x (omega arith) in
          let sub : (w : ℤ) → has (less (box_of ds x) (set_of c x)) w ≡ true → has (box_of ds x) w ≡ true =
          λ w m. (and_parts (has (box_of ds x) w) (not (has (set_of c x) w)) (sym (has-less_valid (box_of ds x) (set_of c x) valid (set_valid 0 c x f) w) ∙ m)).0 in
          subst (λ (z : Ranges). IsLeft z (box_of ds x)) (sym e)
          (left_at_point (less (box_of ds x) (set_of c x)) (box_of ds x) (value_of a x) (IsValid-less (box_of ds x) (set_of c x) valid (set_valid 0 c x f)) valid sub member)
      | inr ge ↦ left_same (box_of (cut ds c) x) (box_of ds x) (none_past (cut ds c) x (omega arith) ∙ sym (none_past ds x ge))
    ]

bounded_cut : (con : Con) (ds : Boxes) (c : Literals) (a : List ℤ) → All (λ s. IsValid s) ds → IsClause c → IsPoint (cut ds c) a → IsBounded con ds → IsBounded con (cut ds c)
bounded_cut con ds c a s f p h = bounded_narrower con (cut ds c) ds (record {
  low = λ x. (left_of_domains ds c a s f p x).low;
  high = λ x. (left_of_domains ds c a s f p x).high;
  reach = λ x. (left_of_domains ds c a s f p x).reach;
}) h

named_cut : (con : Con) (ds : Boxes) (c : Literals) → All (λ x. x < length ds) (vars_of con) → All (λ x. x < length (cut ds c)) (vars_of con)
named_cut con ds c h = subst (λ (n : ℕ). All (λ x. x < n) (vars_of con)) (sym (length-cut_from 0 ds c)) h

pub justified-true : (con : Con) (ds : Boxes) (c : Literals) (a : List ℤ) → All (λ s. IsValid s) ds → IsWellMadeCon ds con → IsClause c → IsPoint ds a →
    justified con ds c ≡ true → con_true con a ≡ true → clause_true c a ≡ true
justified-true con ds c a s w f p j h =
    true_from_ne_false (clause_true c a) (λ e.
    let left = point_left ds c a s f p e in
    let none = refuted_has_no_point con (cut ds c) (valid-cut_from 0 ds c s f) w.sets (named_cut con ds c w.named) (bounded_cut con ds c a s f left w.bounded) j a left in
    let wrong : true ≡ false = sym h ∙ none in
    absurd cc)
