-- What collected literals leave of the domains: it has all values of the boxes, and less with each
-- set that is said.
use Rattle.std.proofs.Common.{◌≡◌, ℕ, suc, ◌<◌, Bool, true, false, not, ◌&&◌, cond, [], ◌∷◌, ℤ, ◌≤ℤ◌, All, length, refl, arith, subst, sym, ap, ◌∙◌}
use Rattle.std.proofs.lemmas.Bool.{false_from_ne_true}
use Rattle.std.specs.Prelude.{◌==◌}
use Rattle.std.proofs.lemmas.Bool.Decides.{nat_tests}
use Rattle.signed_clause.specs.Ranges.{Ranges, has, is_nil, IsValid}
use Rattle.signed_clause.specs.SetAlgebra.{is_within}
use Rattle.signed_clause.specs.Clauses.{Boxes, Literals, box_of, set_of}
use Rattle.signed_clause.proofs.SetFacts.{disjoint_law, within_law}
use Rattle.signed_clause.proofs.RangeSteps.{has-less_valid, IsValid-less}
use Rattle.ground_form.specs.declared.con.Con.{Con}
use Rattle.ground_form.specs.Bounds.{low_of, high_of}
use Rattle.box_view.specs.Views.{cut}
use Rattle.box_rules.specs.Justified.{justified}
use Rattle.rule_law.specs.Reasons.{IsReason, Acts}
use Rattle.box_view.proofs.CutLaws.{cut_box}
use Rattle.box_view.proofs.EndLaws.{AreSets, above_low, below_high}
use Rattle.box_view.proofs.EndLaws.{has_low, has_high}
use Rattle.pack_prop.specs.Collected.{IsFalse, AreCollected, SaysMore}
use Rattle.pack_prop.proofs.Collecting.{collected_sets}

-- ---- sets within one another

pub low_within : (a b : Ranges) → IsValid a → IsValid b → is_nil a ≡ false → ((v : ℤ) → has a v ≡ true → has b v ≡ true) → low_of b ≤ℤ low_of a
low_within a b f g n h = above_low b (low_of a) g (h (low_of a) (has_low a f n))

pub high_within : (a b : Ranges) → IsValid a → IsValid b → is_nil a ≡ false → ((v : ℤ) → has a v ≡ true → has b v ≡ true) → high_of a ≤ℤ high_of b
high_within a b f g n h = below_high b (high_of a) g (h (high_of a) (has_high a f n))

some_from : (s : Ranges) (v : ℤ) → has s v ≡ true → is_nil s ≡ false
some_from [] v h = absurd (grind arith)
some_from (r ∷ s) v h = refl

-- ---- what is left

set_disjoint : (boxes : Boxes) (ls : Literals) (y : ℕ) (v : ℤ) → AreSets boxes → All (λ l. IsFalse boxes l) ls → has (set_of ls y) v ≡ true → has (box_of boxes y) v ≡ false
set_disjoint boxes [] y v b a h = absurd (grind arith)
set_disjoint boxes (l ∷ ls) y v b a h =
    let head = a 0 l (omega arith) in
    (elim (l.0 == y) as (λ t. (l.0 == y) ≡ t → has (cond t l.1 (set_of ls y)) v ≡ true → has (box_of boxes y) v ≡ false) [
      | true ↦ λ e k. let same : l.0 ≡ y = grind (arith, nat_tests) in
          subst (λ (z : ℕ). has (box_of boxes z) v ≡ false) same ((disjoint_law l.1 (box_of boxes l.0) head.valid (b l.0)).0 head.disjoint v k)
      | false ↦ λ e k. set_disjoint boxes ls y v b (λ j d lt. a (suc j) d (omega arith)) k
    ]) refl h

pub cut_has : (domains : Boxes) (ls : Literals) (y : ℕ) (v : ℤ) → AreSets domains → IsValid (set_of ls y) → has (box_of (cut domains ls) y) v ≡ (has (box_of domains y) v && not (has (set_of ls y) v))
cut_has domains ls y v s f = ap (λ (z : Ranges). has z v) (cut_box domains ls y) ∙ has-less_valid (box_of domains y) (set_of ls y) (s y) f v

pub cut_valid : (domains boxes : Boxes) (ls : Literals) → AreSets domains → AreCollected boxes ls → AreSets (cut domains ls)
cut_valid domains boxes ls s h y = subst (λ (z : Ranges). IsValid z) (sym (cut_box domains ls y)) (IsValid-less (box_of domains y) (set_of ls y) (s y) (collected_sets boxes ls h y))

-- boxes within domains that are sets
pub record AreOver (domains boxes : Boxes) : Type 0 where
  pub domain_sets : AreSets domains
  pub box_sets : AreSets boxes
  pub within : (y : ℕ) → y < length boxes → is_within (box_of boxes y) (box_of domains y) ≡ true
  pub some : (y : ℕ) → y < length boxes → is_nil (box_of boxes y) ≡ false

pub box_in : (domains boxes : Boxes) (y : ℕ) (v : ℤ) → AreOver domains boxes → y < length boxes → has (box_of boxes y) v ≡ true → has (box_of domains y) v ≡ true
box_in domains boxes y v o n h = (within_law (box_of boxes y) (box_of domains y) (o.box_sets y) (o.domain_sets y)).0 (o.within y n) v h

pub cut_keeps : (domains boxes : Boxes) (ls : Literals) (y : ℕ) (v : ℤ) → AreOver domains boxes → AreCollected boxes ls → y < length boxes → has (box_of boxes y) v ≡ true → has (box_of (cut domains ls) y) v ≡ true
cut_keeps domains boxes ls y v o h n k =
    let there = box_in domains boxes y v o n k in
    let out : has (set_of ls y) v ≡ false = false_from_ne_true (has (set_of ls y) v) (λ q. let gone = set_disjoint boxes ls y v o.box_sets h.each q in absurd cc) in
    let e = cut_has domains ls y v o.domain_sets (collected_sets boxes ls h y) in grind arith

pub cut_some : (domains boxes : Boxes) (ls : Literals) (y : ℕ) → AreOver domains boxes → AreCollected boxes ls → y < length boxes → is_nil (box_of (cut domains ls) y) ≡ false
cut_some domains boxes ls y o h n =
    some_from (box_of (cut domains ls) y) (low_of (box_of boxes y)) (cut_keeps domains boxes ls y (low_of (box_of boxes y)) o h n (has_low (box_of boxes y) (o.box_sets y) (o.some y n)))

pub cut_in : (domains boxes : Boxes) (ls : Literals) (y : ℕ) (v : ℤ) → AreOver domains boxes → AreCollected boxes ls → has (box_of (cut domains ls) y) v ≡ true → has (box_of domains y) v ≡ true
cut_in domains boxes ls y v o h k = let e = cut_has domains ls y v o.domain_sets (collected_sets boxes ls h y) in grind arith

pub cut_out : (domains boxes : Boxes) (ls : Literals) (y : ℕ) (v : ℤ) → AreOver domains boxes → AreCollected boxes ls → has (box_of (cut domains ls) y) v ≡ true → has (set_of ls y) v ≡ false
cut_out domains boxes ls y v o h k = let e = cut_has domains ls y v o.domain_sets (collected_sets boxes ls h y) in grind arith

pub cut_less : (domains boxes : Boxes) (old new : Literals) (y : ℕ) (v : ℤ) → AreOver domains boxes → AreCollected boxes old → AreCollected boxes new → SaysMore old new →
    has (box_of (cut domains new) y) v ≡ true → has (box_of (cut domains old) y) v ≡ true
cut_less domains boxes old new y v o h k m q =
    let here = cut_in domains boxes new y v o k q in
    let out = cut_out domains boxes new y v o k q in
    let before : has (set_of old y) v ≡ false = false_from_ne_true (has (set_of old y) v) (λ t. let more = m y v t in absurd cc) in
    let e = cut_has domains old y v o.domain_sets (collected_sets boxes old h y) in grind arith

pub cut_low : (domains boxes : Boxes) (old new : Literals) (y : ℕ) → AreOver domains boxes → AreCollected boxes old → AreCollected boxes new → SaysMore old new → y < length boxes →
    low_of (box_of (cut domains old) y) ≤ℤ low_of (box_of (cut domains new) y)
cut_low domains boxes old new y o h k m n =
    low_within (box_of (cut domains new) y) (box_of (cut domains old) y) (cut_valid domains boxes new o.domain_sets k y) (cut_valid domains boxes old o.domain_sets h y) (cut_some domains boxes new y o k n)
    (λ v q. cut_less domains boxes old new y v o h k m q)

pub cut_high : (domains boxes : Boxes) (old new : Literals) (y : ℕ) → AreOver domains boxes → AreCollected boxes old → AreCollected boxes new → SaysMore old new → y < length boxes →
    high_of (box_of (cut domains new) y) ≤ℤ high_of (box_of (cut domains old) y)
cut_high domains boxes old new y o h k m n =
    high_within (box_of (cut domains new) y) (box_of (cut domains old) y) (cut_valid domains boxes new o.domain_sets k y) (cut_valid domains boxes old o.domain_sets h y) (cut_some domains boxes new y o k n)
    (λ v q. cut_less domains boxes old new y v o h k m q)

-- each value that is left passes a test where the others are said of the variable
pub cut_passes : (domains boxes : Boxes) (ls : Literals) (y : ℕ) (v : ℤ) (b : Bool) → AreOver domains boxes → AreCollected boxes ls → (has (box_of domains y) v ≡ true → b ≡ false → has (set_of ls y) v ≡ true) →
    has (box_of (cut domains ls) y) v ≡ true → b ≡ true
cut_passes domains boxes ls y v b o h f q =
    let there = cut_in domains boxes ls y v o h q in
    let out = cut_out domains boxes ls y v o h q in
    (elim b as (λ t. b ≡ t → t ≡ true) [ true ↦ λ e. refl | false ↦ λ e. (let gone = f there e in absurd cc) ]) refl

-- ---- reasons

pub collected_reason : (con : Con) (domains boxes later : Boxes) (ls : Literals) → length later ≡ length boxes → AreCollected later ls → justified con domains ls ≡ true → Acts boxes ls → IsReason con domains boxes ls
collected_reason con domains boxes later ls e h f a = record {
  named = λ k d lt. (let n = (h.each k d lt).named in omega arith);
  differ = h.differ;
  some = λ k d lt. (h.each k d lt).some;
  sets = λ k d lt. (h.each k d lt).valid;
  follows = f;
  acts = a;
}
