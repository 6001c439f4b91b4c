-- Crowded and full intervals, explained by the boxes within them.
use Rattle.std.proofs.Common.{◌≡◌, ℕ, suc, ◌<◌, Bool, true, false, ◌&&◌, ◌||◌, cond, List, [], ◌∷◌, ℤ, pos, ◌+ℤ◌, ◌-ℤ◌, ◌≤ℤ◌, ◌<ℤ◌, unsigned_abs, All, length, refl, arith, inl, inr, subst, sym, ap, ◌∙◌}
use Rattle.std.specs.Prelude.{◌==◌, int_le, int_lt}
use Rattle.std.proofs.lemmas.Int.{ints}
use Rattle.std.proofs.lemmas.Bool.Decides.{nat_tests}
use Rattle.std.proofs.lemmas.Bool.{or_cases, false_from_ne_true}
use Rattle.signed_clause.specs.Ranges.{Ranges, has, is_nil, IsValid}
use Rattle.signed_clause.specs.SetAlgebra.{less, is_disjoint, is_within}
use Rattle.signed_clause.specs.Clauses.{Boxes, Literals, box_of, set_of, false_in}
use Rattle.signed_clause.proofs.SetFacts.{disjoint_law, within_law}
use Rattle.signed_clause.proofs.RangeSteps.{has-less_valid, IsValid-less}
use Rattle.ground_form.specs.declared.con.Con.TheVariants.{AllDiff}
use Rattle.box_view.specs.Views.{cut}
use Rattle.box_rules.specs.Refuted.{width, lies_in, count_in, some_crowded, refuted, some_empty}
use Rattle.rule_law.specs.Answers.{AreBoxesWithin}
use Rattle.rule_law.specs.Reasons.{has_number, no_repeat, kept_one, kept, IsReason, Acts}
use Rattle.box_view.proofs.EndLaws.{AreSets, are_sets, above_low, below_high}
use Rattle.box_view.proofs.CutLaws.{cut_box}
use Rattle.box_rules.proofs.CrowdLaws.{in_parts, crowded_anywhere}
use Rattle.rule_law.proofs.Reasoning.{set_valid}
use Rattle.all_different_pruner.specs.Intervals.{IsCrowd, IsIntruder}
use Rattle.all_different_pruner.specs.Within.{within, outside}
use Rattle.all_different_pruner.proofs.Fixpoint.{all_at, stands_at}
use Rattle.all_different_pruner.proofs.Kept.{each_kept, kept_differ, kept_set}
use Rattle.all_different_pruner.proofs.DiffReasons.{has_some, left_lies, Shared, shared_lies, shared_reaches, outer, within_there, within_once, Lie, count_kept, count_joined}

-- what the explanations stand on
pub record IsGround (domains boxes : Boxes) (xs : List ℕ) (a b : ℤ) : Type 0 where
  pub boxes_within : AreBoxesWithin domains boxes
  pub domain_sets : All (λ d. IsValid d) domains
  pub named : All (λ x. x < length boxes) xs
  pub once : no_repeat xs ≡ true
  pub span : IsValid ((a, b) ∷ [])

-- ---- each literal

outside_valid : (domains boxes : Boxes) (xs ps : List ℕ) (a b : ℤ) → IsGround domains boxes xs a b → All (λ l. IsValid l.1) (outside a b ps domains)
outside_valid domains boxes xs ps a b g =
    each_kept (λ x s. IsValid s) domains (λ x. (a, b) ∷ []) ps (λ x there some. IsValid-less (box_of domains x) ((a, b) ∷ []) (are_sets domains g.domain_sets x) g.span)

outside_some : (domains : Boxes) (ps : List ℕ) (a b : ℤ) → All (λ l. is_nil l.1 ≡ false) (outside a b ps domains)
outside_some domains ps a b = each_kept (λ x s. is_nil s ≡ false) domains (λ x. (a, b) ∷ []) ps (λ x there some. some)

outside_named : (domains boxes : Boxes) (xs ps : List ℕ) (a b : ℤ) → IsGround domains boxes xs a b → ((y : ℕ) → has_number y ps ≡ true → has_number y xs ≡ true) → All (λ l. l.0 < length boxes) (outside a b ps domains)
outside_named domains boxes xs ps a b g h =
    each_kept (λ x s. x < length boxes) domains (λ x. (a, b) ∷ []) ps (λ x there some. all_at (λ y. y < length boxes) x xs g.named (h x there))

or_right : (x y : Bool) → y ≡ true → (x || y) ≡ true
or_right true y h = refl
or_right false y h = h

-- ---- what is left

-- the cut of a variable that is kept in lies in a..b
cut_lies : (domains boxes : Boxes) (xs ps : List ℕ) (a b : ℤ) (y : ℕ) → IsGround domains boxes xs a b → has_number y ps ≡ true → Shared (box_of boxes y) (box_of domains y) a b →
    lies_in a b (box_of (cut domains (outside a b ps domains)) y) ≡ true
cut_lies domains boxes xs ps a b y g there v =
    let is : box_of (cut domains (outside a b ps domains)) y ≡ less (box_of domains y) (less (box_of domains y) ((a, b) ∷ [])) =
    cut_box domains (outside a b ps domains) y ∙ ap (λ (s : Ranges). less (box_of domains y) s) (kept_set domains (λ x. (a, b) ∷ []) ps y there) in
    subst (λ (s : Ranges). lies_in a b s ≡ true) (sym is) (left_lies (box_of domains y) a b v.value (are_sets domains g.domain_sets y) g.span v.of_domain v.of_span)

shared_within : (domains boxes : Boxes) (xs : List ℕ) (a b : ℤ) (y : ℕ) → IsGround domains boxes xs a b → has_number y xs ≡ true → lies_in a b (box_of boxes y) ≡ true → Shared (box_of boxes y) (box_of domains y) a b
shared_within domains boxes xs a b y g there l =
    let named = all_at (λ x. x < length boxes) y xs g.named there in
    let w = g.boxes_within in
    shared_lies (box_of boxes y) (box_of domains y) a b (are_sets boxes w.sets y) (are_sets domains g.domain_sets y) (w.some y named) (w.within y named) l

cut_sets : (domains boxes : Boxes) (xs ps : List ℕ) (a b : ℤ) → IsGround domains boxes xs a b → AreSets (cut domains (outside a b ps domains))
cut_sets domains boxes xs ps a b g y =
    subst (λ (s : Ranges). IsValid s) (sym (cut_box domains (outside a b ps domains) y))
    (IsValid-less (box_of domains y) (set_of (outside a b ps domains) y) (are_sets domains g.domain_sets y) (set_valid y (outside a b ps domains) (outside_valid domains boxes xs ps a b g)))

crowds : (a b : ℤ) (m : ℕ) → a ≤ℤ b → width a b < m → (int_le a b && int_lt ((b -ℤ a) +ℤ pos 1) (pos m)) ≡ true
crowds a b m h k =
    let e : (b -ℤ a) +ℤ pos 1 ≡ pos (suc (unsigned_abs (b -ℤ a))) = omega (arith, ints) in
    let l : ((b -ℤ a) +ℤ pos 1) <ℤ pos m = omega (arith, ints) in grind (arith, ints)

refuted_by : (xs : List ℕ) (a b : ℤ) (cuts : Boxes) → AreSets cuts → a ≤ℤ b → width a b < count_in a b xs cuts → refuted (AllDiff xs) cuts ≡ true
refuted_by xs a b cuts s o c =
    let crowd : some_crowded xs xs cuts ≡ true = crowded_anywhere a b xs cuts s (crowds a b (count_in a b xs cuts) o c) in
    or_right (some_empty xs cuts) (some_crowded xs xs cuts) crowd

-- ---- it acts

out_disjoint : (box d : Ranges) (a b : ℤ) → IsValid box → IsValid d → IsValid ((a, b) ∷ []) → ((v : ℤ) → has box v ≡ true → has ((a, b) ∷ []) v ≡ true) → is_disjoint (less d ((a, b) ∷ [])) box ≡ true
out_disjoint box d a b f g h l =
    let span : Ranges = (a, b) ∷ [] in
    (disjoint_law (less d span) box (IsValid-less d span g h) f).1 (λ v k. false_from_ne_true (has box v) (λ q.
    let in_it = l v q in let out = has-less_valid d span g h v in grind arith))

lies_values : (box : Ranges) (a b : ℤ) → IsValid box → lies_in a b box ≡ true → (v : ℤ) → has box v ≡ true → has ((a, b) ∷ []) v ≡ true
lies_values box a b f l v h =
    let parts = in_parts a b box l in let low = parts.0 in let high = parts.1 in
    let above = above_low box v f h in let below = below_high box v f h in grind (arith, ints)

one_false : (boxes : Boxes) (x : ℕ) (s : Ranges) (rest : Literals) → is_disjoint s (box_of boxes x) ≡ true → false_in boxes rest ≡ true → false_in boxes (kept_one x s rest) ≡ true
one_false boxes x s rest h k = elim (is_nil s) as (λ t. false_in boxes (cond t rest ((x, s) ∷ rest)) ≡ true) [ true ↦ k | false ↦ grind arith ]

kept_false : (domains boxes : Boxes) (leaves : ℕ → Ranges) (ps : List ℕ) → ((x : ℕ) → has_number x ps ≡ true → is_disjoint (less (box_of domains x) (leaves x)) (box_of boxes x) ≡ true) → false_in boxes (kept domains leaves ps) ≡ true
kept_false domains boxes leaves [] h = refl
kept_false domains boxes leaves (x ∷ ps) h =
    one_false boxes x (less (box_of domains x) (leaves x)) (kept domains leaves ps) (h x (stands_at x ps)) (kept_false domains boxes leaves ps (λ y q. h y (grind arith)))

within_false : (domains boxes : Boxes) (xs : List ℕ) (n : ℕ) (a b : ℤ) → IsGround domains boxes xs a b → false_in boxes (outside a b (within n a b xs boxes) domains) ≡ true
within_false domains boxes xs n a b g =
    kept_false domains boxes (λ x. (a, b) ∷ []) (within n a b xs boxes) (λ x there.
    let valid = are_sets boxes g.boxes_within.sets x in
    out_disjoint (box_of boxes x) (box_of domains x) a b valid (are_sets domains g.domain_sets x) g.span
    (lies_values (box_of boxes x) a b valid (within_there n a b xs boxes x there).1))

or_left : (x y : Bool) → x ≡ true → (x || y) ≡ true
or_left x y h = rw h refl

pub crowd_reason : (domains boxes : Boxes) (xs : List ℕ) (a b : ℤ) → IsGround domains boxes xs a b → IsCrowd a b xs boxes →
    IsReason (AllDiff xs) domains boxes (outside a b (within (suc (width a b)) a b xs boxes) domains)
crowd_reason domains boxes xs a b g c =
    let n = suc (width a b) in
    let ps = within n a b xs boxes in
    let cuts = cut domains (outside a b ps domains) in
    let lie : Lie a b ps cuts = λ y there. let at = within_there n a b xs boxes y there in cut_lies domains boxes xs ps a b y g there (shared_within domains boxes xs a b y g at.0 at.1) in
    let many = count_kept n a b xs boxes cuts (let m = c.more in omega arith) lie in
    record {
      named = outside_named domains boxes xs ps a b g (λ y q. (within_there n a b xs boxes y q).0);
      differ = kept_differ domains (λ x. (a, b) ∷ []) ps (within_once n a b xs boxes g.once);
      some = outside_some domains ps a b;
      sets = outside_valid domains boxes xs ps a b g;
      follows = refuted_by xs a b cuts (cut_sets domains boxes xs ps a b g) c.order (omega arith);
      acts = or_left _ _ (within_false domains boxes xs n a b g);
    }

-- ---- the box that is narrowed

unit_first : (boxes : Boxes) (x : ℕ) (s : Ranges) (rest : Literals) → is_nil s ≡ false → is_disjoint s (box_of boxes x) ≡ false → is_within (box_of boxes x) s ≡ false → false_in boxes rest ≡ true → Acts boxes (kept_one x s rest)
unit_first boxes x s rest n m i f = rw (n, m, f, i) refl

pub intruder_reason : (domains boxes : Boxes) (xs : List ℕ) (a b : ℤ) (x : ℕ) → IsGround domains boxes xs a b → IsIntruder a b x xs boxes →
    IsReason (AllDiff xs) domains boxes (outside a b (x ∷ within (width a b) a b xs boxes) domains)
intruder_reason domains boxes xs a b x g c =
    let n = width a b in
    let qs = within n a b xs boxes in
    let ps = x ∷ qs in
    let w = g.boxes_within in
    let span : Ranges = (a, b) ∷ [] in
    let box = box_of boxes x in
    let d = box_of domains x in
    let named = all_at (λ y. y < length boxes) x xs g.named c.there in
    let valid = are_sets boxes w.sets x in
    let d_valid = are_sets domains g.domain_sets x in
    let reaches = c.reaches in
    let lies_not : lies_in a b box ≡ false = grind arith in
    let meets : is_disjoint box span ≡ false = grind arith in
    let shared = shared_reaches box d a b valid d_valid g.span (w.within x named) meets in
    let cuts = cut domains (outside a b ps domains) in
    let x_lies = cut_lies domains boxes xs ps a b x g (stands_at x qs) shared in
    let lie : Lie a b qs cuts = λ y there. let at = within_there n a b xs boxes y there in cut_lies domains boxes xs ps a b y g (grind arith) (shared_within domains boxes xs a b y g at.0 at.1) in
    let many = count_joined n a b x xs boxes cuts c.full lie c.there lies_not x_lies in
    let x_not : has_number x qs ≡ false = false_from_ne_true (has_number x qs) (λ q. let l = (within_there n a b xs boxes x q).1 in absurd cc) in
    let others = within_once n a b xs boxes g.once in
    let out = outer box a b valid (w.some x named) lies_not in
    let out_of_d : has d out.value ≡ true = (within_law box d valid d_valid).0 (w.within x named) out.value out.of_box in
    let set = less d span in
    let set_sets : IsValid set = IsValid-less d span d_valid g.span in
    let out_in_set : has set out.value ≡ true = let l = has-less_valid d span d_valid g.span out.value in let o = out.out in grind arith in
    let set_meets : is_disjoint set box ≡ false = false_from_ne_true (is_disjoint set box) (λ q. let no = (disjoint_law set box set_sets valid).0 q out.value out_in_set in let yes = out.of_box in grind arith) in
    let set_less : is_within box set ≡ false = false_from_ne_true (is_within box set) (λ q.
    let yes = (within_law box set valid set_sets).0 q shared.value shared.of_box in
    let l = has-less_valid d span d_valid g.span shared.value in let s = shared.of_span in grind arith) in
    record {
      named = outside_named domains boxes xs ps a b g (λ y q. elim (or_cases (x == y) (has_number y qs) q) [
        | inl e ↦ let same : x ≡ y = grind (arith, nat_tests) in subst (λ (z : ℕ). has_number z xs ≡ true) same c.there
        | inr e ↦ (within_there n a b xs boxes y e).0
      ]);
      differ = kept_differ domains (λ y. (a, b) ∷ []) ps (grind arith);
      some = outside_some domains ps a b;
      sets = outside_valid domains boxes xs ps a b g;
      follows = refuted_by xs a b cuts (cut_sets domains boxes xs ps a b g) c.order (omega arith);
      acts = unit_first boxes x set (outside a b qs domains) (has_some set out.value out_in_set) set_meets set_less (within_false domains boxes xs n a b g);
    }
