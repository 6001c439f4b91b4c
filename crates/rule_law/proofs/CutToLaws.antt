-- A clause that is cut to the domains says the same within them.
use Rattle.std.proofs.Common.{◌≡◌, ℕ, suc, zero, ◌<◌, ◌≤◌, ◌==◌, true, false, cond, List, [], ◌∷◌, ◌++◌, All, length, arith, refl, ap, sym, subst, ◌∙◌, inl, inr, append-nil}
use Rattle.std.proofs.lemmas.Int.{ints}
use Rattle.std.proofs.lemmas.Bool.{and_parts, cases_eq, cases_lt, ne_eqb, eq-eqb}
use Rattle.std.proofs.lemmas.Bool.Decides.{nat_tests}
use Rattle.signed_clause.specs.Ranges.{Ranges, has, is_nil, IsValid}
use Rattle.signed_clause.specs.SetAlgebra.{is_within, less, meet}
use Rattle.signed_clause.specs.Clauses.{Boxes, Literal, Literals, box_of, set_of, clause_from, IsClauseFrom, false_in, unit_of}
use Rattle.signed_clause.proofs.ClauseLaws.{IsClauseFrom-weaken}
use Rattle.signed_clause.proofs.RangeSteps.{meet-none, has-less_valid, has-meet_valid, IsValid-less, IsValid-meet}
use Rattle.signed_clause.proofs.SetFacts.{within_law, same_law}
use Rattle.ground_form.specs.declared.con.Con.{Con}
use Rattle.ground_form.specs.Meaning.{vars_of}
use Rattle.box_rules.specs.Justified.{justified}
use Rattle.box_rules.specs.Named.{Agree}
use Rattle.box_rules.proofs.Agreeing.{agree_refuted}
use Rattle.box_view.specs.Views.{cut}
use Rattle.box_view.proofs.CutLaws.{cut_box}
use Rattle.box_view.proofs.EndLaws.{AreSets, are_sets}
use Rattle.rule_law.specs.Answers.{AreBoxesWithin, IsPruning}
use Rattle.rule_law.specs.CutTo.{cut_to, AreSetsWithin}
use Rattle.rule_law.specs.Reasons.{kept_one}
use Rattle.rule_law.proofs.Keeping.{one_all, set_one, set_here}

box_past : (boxes : Boxes) (x : ℕ) → length boxes ≤ x → box_of boxes x ≡ []
box_past [] x h = refl
box_past (b ∷ boxes) zero h = absurd (omega arith)
box_past (b ∷ boxes) (suc x) h = box_past boxes x (omega arith)

-- ---- sets

-- what a set has of a domain takes the same away from it
less_meet : (d s : Ranges) → IsValid d → IsValid s → less d (meet s d) ≡ less d s
less_meet d s f g =
    let m = IsValid-meet s d g f in
    (same_law (less d (meet s d)) (less d s) (IsValid-less d (meet s d) f m)
    (IsValid-less d s f g)).1 (λ v.
    let part = has-less_valid d (meet s d) f m v in
    let both = has-meet_valid s d g f v in
    let whole = has-less_valid d s f g v in grind arith)

-- and has the same of a box within the domain
meet_meet : (d s b : Ranges) → IsValid d → IsValid s → IsValid b → is_within b d ≡ true →
    meet (meet s d) b ≡ meet s b
meet_meet d s b f g i h =
    let m = IsValid-meet s d g f in
    (same_law (meet (meet s d) b) (meet s b) (IsValid-meet (meet s d) b m i)
    (IsValid-meet s b g i)).1 (λ v.
    let part = has-meet_valid (meet s d) b m i v in
    let both = has-meet_valid s d g f v in
    let whole = has-meet_valid s b g i v in
    let sub = (within_law b d i f).0 h v in grind arith)

less_box : (d s b : Ranges) → IsValid d → IsValid s → IsValid b → is_within b d ≡ true →
    less b (meet s d) ≡ less b s
less_box d s b f g i h =
    let m = IsValid-meet s d g f in
    (same_law (less b (meet s d)) (less b s) (IsValid-less b (meet s d) i m)
    (IsValid-less b s i g)).1 (λ v.
    let part = has-less_valid b (meet s d) i m v in
    let both = has-meet_valid s d g f v in
    let whole = has-less_valid b s i g v in
    let sub = (within_law b d i f).0 h v in grind arith)

meet_within : (d s : Ranges) → IsValid d → IsValid s → is_within (meet s d) d ≡ true
meet_within d s f g =
    (within_law (meet s d) d (IsValid-meet s d g f) f).1
    (λ v h. (and_parts (has s v) (has d v) (sym (has-meet_valid s d g f v) ∙ h)).1)

pub meet_all : (d s : Ranges) → IsValid d → IsValid s → is_within s d ≡ true → meet s d ≡ s
meet_all d s f g h =
    (same_law (meet s d) s (IsValid-meet s d g f) g).1 (λ v.
    let both = has-meet_valid s d g f v in
    let sub = (within_law s d g f).0 h v in grind arith)

-- ---- the form

cut_clause : (n : ℕ) (x : ℕ) (s : Ranges) (rest : Literals) → n ≤ x → IsValid s →
    IsClauseFrom (suc x) rest → IsClauseFrom n (kept_one x s rest)
cut_clause n x [] rest h f r = IsClauseFrom-weaken n (suc x) rest (omega arith) r
cut_clause n x (t ∷ s) rest h f r = (h, refl, f, r)

pub cut_form : (n : ℕ) (domains : Boxes) (c : Literals) → AreSets domains → IsClauseFrom n c →
    IsClauseFrom n (cut_to domains c)
cut_form n domains [] f s = tt
cut_form n domains (l ∷ c) f s =
    cut_clause n l.0 (meet l.1 (box_of domains l.0)) (cut_to domains c) s.0
    (IsValid-meet l.1 (box_of domains l.0) s.2 (f l.0)) (cut_form (suc l.0) domains c f s.3)

-- the same as a test, whatever the domains are
tested_later : (n m : ℕ) (c : Literals) → n ≤ m → clause_from m c ≡ true → clause_from n c ≡ true
tested_later n m [] h t = refl
tested_later n m (l ∷ c) h t = grind (arith, nat_tests)

tested_one : (n : ℕ) (x : ℕ) (s : Ranges) (rest : Literals) → n ≤ x →
    clause_from (suc x) rest ≡ true → clause_from n (kept_one x s rest) ≡ true
tested_one n x [] rest h t = tested_later n (suc x) rest (omega arith) t
tested_one n x (r ∷ s) rest h t = grind (arith, nat_tests)

pub cut_tested : (n : ℕ) (domains : Boxes) (c : Literals) → IsClauseFrom n c →
    clause_from n (cut_to domains c) ≡ true
cut_tested n domains [] s = refl
cut_tested n domains (l ∷ c) s =
    tested_one n l.0 (meet l.1 (box_of domains l.0)) (cut_to domains c) s.0
    (cut_tested (suc l.0) domains c s.3)

cut_within : (n : ℕ) (domains : Boxes) (c : Literals) → AreSets domains → IsClauseFrom n c →
    AreSetsWithin domains (cut_to domains c)
cut_within n domains [] f s k d lt = absurd (omega arith)
cut_within n domains (l ∷ c) f s k d lt =
    one_all (λ m. is_within m.1 (box_of domains m.0) ≡ true)
    (is_nil (meet l.1 (box_of domains l.0))) (l.0, meet l.1 (box_of domains l.0))
    (cut_to domains c)
    (λ e. meet_within (box_of domains l.0) l.1 (f l.0) s.2) (cut_within (suc l.0) domains c f s.3)
    k d lt

cut_named : (n : ℕ) (domains : Boxes) (c : Literals) → All (λ l. l.0 < n) c →
    All (λ l. l.0 < n) (cut_to domains c)
cut_named n domains [] h k d lt = absurd (omega arith)
cut_named n domains (l ∷ c) h k d lt =
    one_all (λ m. m.0 < n) (is_nil (meet l.1 (box_of domains l.0)))
    (l.0, meet l.1 (box_of domains l.0)) (cut_to domains c)
    (λ e. h 0 l (omega arith)) (cut_named n domains c (λ i e le. h (suc i) e (omega arith))) k d lt

-- ---- the sets of the variables

set_before : (n : ℕ) (c : Literals) (x : ℕ) → IsClauseFrom n c → x < n → set_of c x ≡ []
set_before n [] x s h = refl
set_before n (l ∷ c) x s h =
    let up = s.0 in
    let other : (l.0 == x) ≡ false = ne_eqb l.0 x (λ e. omega arith) in
    rw other (set_before (suc l.0) c x s.3 (omega arith))

set_is : (n : ℕ) (c : Literals) (x : ℕ) → IsClauseFrom n c → IsValid (set_of c x)
set_is n [] x s = omega (arith, ints)
set_is n (l ∷ c) x s =
    elim (l.0 == x) as (λ b. IsValid (cond b l.1 (set_of c x)))
    [ true ↦ s.2 | false ↦ set_is (suc l.0) c x s.3 ]

pub set_cut : (n : ℕ) (domains : Boxes) (c : Literals) (x : ℕ) → IsClauseFrom n c →
    set_of (cut_to domains c) x ≡ meet (set_of c x) (box_of domains x)
set_cut n domains [] x s = refl
set_cut n domains (l ∷ c) x s =
    let rest = cut_to domains c in
    let part = meet l.1 (box_of domains l.0) in
    elim (cases_eq l.0 x) [
      | inl e ↦
          let none : set_of rest l.0 ≡ [] = set_cut (suc l.0) domains c l.0 s.3
          ∙ ap (λ (z : Ranges). meet z (box_of domains l.0))
          (set_before (suc l.0) c l.0 s.3 (omega arith)) in
          let first : set_of (l ∷ c) l.0 ≡ l.1 = rw (eq-eqb l.0 l.0 refl) refl in
          subst (λ (z : ℕ). set_of (kept_one l.0 part rest) z ≡ meet (set_of (l ∷ c) z)
          (box_of domains z)) e
          (set_here l.0 part rest none ∙ ap (λ (z : Ranges). meet z (box_of domains l.0))
          (sym first))
      | inr f ↦
          let later : set_of (l ∷ c) x ≡ set_of c x = rw (ne_eqb l.0 x f) refl in
          set_one x l.0 part rest (ne_eqb l.0 x f) ∙ set_cut (suc l.0) domains c x s.3
          ∙ ap (λ (z : Ranges). meet z (box_of domains x)) (sym later)
    ]

-- of a variable without a domain nothing is left
pub no_part : (domains : Boxes) (l : Literal) (ls : Literals) → length domains ≤ l.0 →
    ls ≡ ls ++ kept_one l.0 (meet l.1 (box_of domains l.0)) []
no_part domains l ls h =
    let none : meet l.1 (box_of domains l.0) ≡ [] =
    ap (λ (z : Ranges). meet l.1 z) (box_past domains l.0 h) ∙ meet-none l.1 in
    sym (ap (λ (s : Ranges). ls ++ kept_one l.0 s []) none ∙ append-nil ls)

-- ---- what is justified

agree_all : (a b : Boxes) (xs : List ℕ) → ((x : ℕ) → box_of a x ≡ box_of b x) → Agree a b xs
agree_all a b [] h = tt
agree_all a b (x ∷ xs) h = (h x, agree_all a b xs h)

pub cut_justified : (con : Con) (domains : Boxes) (c : Literals) → AreSets domains →
    IsClauseFrom 0 c → justified con domains (cut_to domains c) ≡ justified con domains c
cut_justified con domains c f s =
    agree_refuted con (cut domains (cut_to domains c)) (cut domains c)
    (agree_all _ _ (vars_of con) (λ x.
    cut_box domains (cut_to domains c) x
    ∙ ap (λ (z : Ranges). less (box_of domains x) z) (set_cut 0 domains c x s)
    ∙ less_meet (box_of domains x) (set_of c x) (f x) (set_is 0 c x s)
    ∙ sym (cut_box domains c x)))

-- ---- what it does in boxes

-- boxes and domains are sets, and each box lies within its domain
pub record AreParts (domains boxes : Boxes) : Type 0 where
  pub wide : AreSets domains
  pub narrow : AreSets boxes
  pub within : (x : ℕ) → is_within (box_of boxes x) (box_of domains x) ≡ true

pub parts_from : (domains boxes : Boxes) → All (λ d. IsValid d) domains →
    AreBoxesWithin domains boxes → AreParts domains boxes
parts_from domains boxes f w = record {
  wide = are_sets domains f;
  narrow = are_sets boxes w.sets;
  within = λ x. elim (cases_lt x (length boxes)) [
    | inl h ↦ w.within x h
    | inr h ↦ ap (λ (z : Ranges). is_within z (box_of domains x)) (box_past boxes x h)
  ];
}

false_one : (boxes : Boxes) (x : ℕ) (s : Ranges) (rest : Literals) →
    false_in boxes (kept_one x s rest) ≡ false_in boxes ((x, s) ∷ rest)
false_one boxes x [] rest = refl
false_one boxes x (r ∷ s) rest = refl

unit_one : (boxes : Boxes) (x : ℕ) (s : Ranges) (rest : Literals) →
    unit_of boxes (kept_one x s rest) ≡ unit_of boxes ((x, s) ∷ rest)
unit_one boxes x [] rest = refl
unit_one boxes x (r ∷ s) rest = refl

pub cut_false : (n : ℕ) (domains boxes : Boxes) (c : Literals) → AreParts domains boxes →
    IsClauseFrom n c → false_in boxes (cut_to domains c) ≡ false_in boxes c
cut_false n domains boxes [] p s = refl
cut_false n domains boxes (l ∷ c) p s =
    let common = meet_meet (box_of domains l.0) l.1 (box_of boxes l.0) (p.wide l.0) s.2
    (p.narrow l.0) (p.within l.0) in
    let more = cut_false (suc l.0) domains boxes c p s.3 in
    false_one boxes l.0 (meet l.1 (box_of domains l.0)) (cut_to domains c) ∙ rw (common, more) refl

pub cut_unit : (n : ℕ) (domains boxes : Boxes) (c : Literals) → AreParts domains boxes →
    IsClauseFrom n c → unit_of boxes (cut_to domains c) ≡ unit_of boxes c
cut_unit n domains boxes [] p s = refl
cut_unit n domains boxes (l ∷ c) p s =
    let common = meet_meet (box_of domains l.0) l.1 (box_of boxes l.0) (p.wide l.0) s.2
    (p.narrow l.0) (p.within l.0) in
    let outside = less_box (box_of domains l.0) l.1 (box_of boxes l.0) (p.wide l.0) s.2
    (p.narrow l.0) (p.within l.0) in
    let none = cut_false (suc l.0) domains boxes c p s.3 in
    let more = cut_unit (suc l.0) domains boxes c p s.3 in
    unit_one boxes l.0 (meet l.1 (box_of domains l.0)) (cut_to domains c)
    ∙ rw (common, outside, none, more) refl

-- ---- the laws

pub law_within : (domains : Boxes) (c : Literals) → All (λ d. IsValid d) domains →
    IsClauseFrom 0 c → AreSetsWithin domains (cut_to domains c)
law_within domains c f s = cut_within 0 domains c (are_sets domains f) s

pub law_form : (domains : Boxes) (c : Literals) → All (λ d. IsValid d) domains →
    IsClauseFrom 0 c → IsClauseFrom 0 (cut_to domains c)
law_form domains c f s = cut_form 0 domains c (are_sets domains f) s

pub law_justified : (con : Con) (domains : Boxes) (c : Literals) → All (λ d. IsValid d) domains →
    IsClauseFrom 0 c → justified con domains (cut_to domains c) ≡ justified con domains c
law_justified con domains c f s = cut_justified con domains c (are_sets domains f) s

pub law_false : (domains boxes : Boxes) (c : Literals) → All (λ d. IsValid d) domains →
    AreBoxesWithin domains boxes → IsClauseFrom 0 c →
    false_in boxes (cut_to domains c) ≡ false_in boxes c
law_false domains boxes c f w s = cut_false 0 domains boxes c (parts_from domains boxes f w) s

pub law_unit : (domains boxes : Boxes) (c : Literals) → All (λ d. IsValid d) domains →
    AreBoxesWithin domains boxes → IsClauseFrom 0 c →
    unit_of boxes (cut_to domains c) ≡ unit_of boxes c
law_unit domains boxes c f w s = cut_unit 0 domains boxes c (parts_from domains boxes f w) s

pub law_pruning : (con : Con) (domains boxes : Boxes) (c : Literals) →
    All (λ d. IsValid d) domains → AreBoxesWithin domains boxes → IsClauseFrom 0 c →
    IsPruning con domains boxes c →
    IsPruning con domains boxes (cut_to domains c)
law_pruning con domains boxes c f w s p = record {
  named = cut_named (length boxes) domains c p.named;
  form = law_form domains c f s;
  follows = law_justified con domains c f s ∙ p.follows;
  acts = rw (law_false domains boxes c f w s, law_unit domains boxes c f w s) p.acts;
}

pub ruleset cut_laws = (law_within, law_form, law_justified, law_false, law_unit)
