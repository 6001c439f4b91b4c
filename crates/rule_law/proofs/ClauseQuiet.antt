-- A clause follows from itself, and where it is neither false nor unit it is quiet.
use Rattle.std.proofs.Common.{◌≡◌, ℕ, suc, ◌<◌, ◌≤◌, Bool, true, false, not, ◌&&◌, ◌||◌, cond, List, [], ◌∷◌, ℤ, Option, Some, None, length, All, refl, arith, subst, sym, ap, ◌∙◌, inl, inr}
use Rattle.std.specs.Prelude.{is_some, ◌==◌}
use Rattle.std.proofs.lemmas.Bool.{and_from, cases_eq}
use Rattle.std.proofs.lemmas.Bool.Decides.{nat_tests}
use Rattle.signed_clause.specs.Ranges.{Ranges, has, IsValid}
use Rattle.signed_clause.specs.SetAlgebra.{is_disjoint, is_within, less}
use Rattle.signed_clause.specs.Clauses.{Boxes, Literal, Literals, box_of, set_of, false_in, unit_of, alone_of, IsClause, IsClauseFrom, IsWithinBoxes}
use Rattle.signed_clause.proofs.SetFacts.{within_law}
use Rattle.ground_form.specs.declared.con.Con.TheVariants.{ClauseCon}
use Rattle.ground_form.specs.Meaning.{clause_vars}
use Rattle.ground_form.proofs.VarLists.{all_literals}
use Rattle.rule_law.specs.Answers.{IsPruning}
use Rattle.box_view.specs.Views.{cut, fixing}
use Rattle.box_rules.specs.Refuted.{some_empty}
use Rattle.box_rules.specs.Quiet.{quiet}
use Rattle.box_view.proofs.EndLaws.{AreSets}
use Rattle.box_view.proofs.CutLaws.{cut_box}
use Rattle.box_view.proofs.SetLaws.{fixing_same, fixing_other, single-is_disjoint}
use Rattle.box_rules.proofs.QuietFrom.{AreSome, quiet_from}
use Rattle.box_view.proofs.Leaving.{value_valid, disjoint_rest}

-- ---- it follows from itself

set_later : (l : Literal) (ls : Literals) (x : ℕ) → suc l.0 ≤ x → set_of (l ∷ ls) x ≡ set_of ls x
set_later l ls x h = let n : (l.0 == x) ≡ false = grind (arith, nat_tests) in rw n refl

set_first : (l : Literal) (ls : Literals) → set_of (l ∷ ls) l.0 ≡ l.1
set_first l ls = let n : (l.0 == l.0) ≡ true = grind (arith, nat_tests) in rw n refl

false_cut : (domains : Boxes) (whole ls : Literals) (n : ℕ) → AreSets domains → IsClauseFrom n ls → ((x : ℕ) → n ≤ x → set_of whole x ≡ set_of ls x) → false_in (cut domains whole) ls ≡ true
false_cut domains whole [] n s f h = refl
false_cut domains whole (l ∷ ls) n s f h =
    let box : box_of (cut domains whole) l.0 ≡ less (box_of domains l.0) l.1 =
    cut_box domains whole l.0 ∙ ap (λ (z : Ranges). less (box_of domains l.0) z) (h l.0 f.0 ∙ set_first l ls) in
    let this : is_disjoint l.1 (box_of (cut domains whole) l.0) ≡ true = ap (λ (z : Ranges). is_disjoint l.1 z) box ∙ disjoint_rest (box_of domains l.0) l.1 (s l.0) f.2 in
    let first = f.0 in
    and_from (is_disjoint l.1 (box_of (cut domains whole) l.0)) (false_in (cut domains whole) ls) this
    (false_cut domains whole ls (suc l.0) s f.3 (λ x k. h x (omega arith) ∙ set_later l ls x k))

right_or : (a b : Bool) → b ≡ true → (a || b) ≡ true
right_or a b h = grind arith

pub clause_pruning : (domains boxes : Boxes) (c : Literals) → AreSets domains → IsClause c → All (λ x. x < length boxes) (clause_vars c) → (false_in boxes c || is_some (unit_of boxes c)) ≡ true →
    IsPruning (ClauseCon c) domains boxes c
clause_pruning domains boxes c s f n a = record {
  named = all_literals c (length boxes) n;
  form = f;
  follows = right_or (some_empty (clause_vars c) (cut domains c)) (false_in (cut domains c) c) (false_cut domains c c 0 s f (λ x h. refl));
  acts = a;
}

-- ---- quietness

-- the variables from n on keep their boxes
false_above : (boxes : Boxes) (ls : Literals) (n x : ℕ) (v : ℤ) → IsClauseFrom n ls → x < n → false_in (fixing boxes x v) ls ≡ false_in boxes ls
false_above boxes [] n x v f h = refl
false_above boxes (l ∷ ls) n x v f h =
    let first = f.0 in
    let same = fixing_other boxes x l.0 v (λ e. omega arith) in
    let more = false_above boxes ls (suc l.0) x v f.3 (omega arith) in
    rw (same, more) refl

-- a literal that meets its box meets it still where another box has one of its values alone, and
-- where its own has and lies in its set
still_meets : (boxes : Boxes) (l : Literal) (x : ℕ) (v : ℤ) → x < length boxes → AreSets boxes → IsValid l.1 → has (box_of boxes x) v ≡ true → is_disjoint l.1 (box_of boxes l.0) ≡ false →
    (l.0 ≡ x → has l.1 v ≡ true) → is_disjoint l.1 (box_of (fixing boxes x v) l.0) ≡ false
still_meets boxes l x v lt s f h m k =
    elim (cases_eq l.0 x) [
      | inl e ↦
          let valid = value_valid (box_of boxes x) v (s x) h in
          let yes = k e in
          subst (λ (z : ℕ). is_disjoint l.1 (box_of (fixing boxes x v) z) ≡ false) (sym e)
          (subst (λ (b : Ranges). is_disjoint l.1 b ≡ false) (sym (fixing_same boxes x v lt)) (single-is_disjoint v l.1 valid f ∙ ap (λ (b : Bool). not b) yes))
      | inr e ↦ subst (λ (b : Ranges). is_disjoint l.1 b ≡ false) (sym (fixing_other boxes x l.0 v e)) m
    ]

not_both : (m f : Bool) → m ≡ false → (m && f) ≡ false
not_both m f h = rw h refl

not_second : (m f : Bool) → f ≡ false → (m && f) ≡ false
not_second m f h = grind arith

-- what stays open behind the first literal that meets its box
behind : (f i : Bool) (u : ℕ × List (ℤ × ℤ)) → is_some (cond (f && not i) (Some u) None) ≡ false → f ≡ true → i ≡ true
behind f true u h k = refl
behind true false u h k = absurd cc
behind false false u h k = absurd cc

neither_part : (f : Bool) (u : Option (ℕ × List (ℤ × ℤ))) → (f || is_some u) ≡ false → is_some u ≡ false
neither_part f u h = grind arith

when_disjoint : (m f : Bool) (u v : Option (ℕ × List (ℤ × ℤ))) → m ≡ true → ((m && f) || is_some (cond m u v)) ≡ false → (f || is_some u) ≡ false
when_disjoint true f u v e h = h
when_disjoint false f u v e h = absurd cc

when_met : (m f : Bool) (u v : Option (ℕ × List (ℤ × ℤ))) → m ≡ false → ((m && f) || is_some (cond m u v)) ≡ false → is_some v ≡ false
when_met true f u v e h = absurd cc
when_met false f u v e h = h

pub still_open : (boxes : Boxes) (c : Literals) (n x : ℕ) (v : ℤ) → x < length boxes → AreSets boxes → IsClauseFrom n c → has (box_of boxes x) v ≡ true →
    (false_in boxes c || is_some (unit_of boxes c)) ≡ false → false_in (fixing boxes x v) c ≡ false
still_open boxes [] n x v lt s f h k = absurd cc
still_open boxes (l ∷ ls) n x v lt s f h k =
    let box = box_of boxes l.0 in
    let P : Bool → Type 0 = λ t. is_disjoint l.1 box ≡ t → false_in (fixing boxes x v) (l ∷ ls) ≡ false in
    (elim (is_disjoint l.1 box) as P [
      | true ↦ λ e. not_second (is_disjoint l.1 (box_of (fixing boxes x v) l.0)) (false_in (fixing boxes x v) ls)
          (still_open boxes ls (suc l.0) x v lt s f.3 h (when_disjoint (is_disjoint l.1 box) (false_in boxes ls) (unit_of boxes ls) (alone_of boxes l ls) e k))
      | false ↦ λ e.
          let none : is_some (alone_of boxes l ls) ≡ false = when_met (is_disjoint l.1 box) (false_in boxes ls) (unit_of boxes ls) (alone_of boxes l ls) e k in
          let Q : Bool → Type 0 = λ t. false_in boxes ls ≡ t → false_in (fixing boxes x v) (l ∷ ls) ≡ false in
          (elim (false_in boxes ls) as Q [
            | true ↦ λ g. not_both (is_disjoint l.1 (box_of (fixing boxes x v) l.0)) (false_in (fixing boxes x v) ls)
                (still_meets boxes l x v lt s f.2 h e (λ q.
                let all : is_within box l.1 ≡ true = behind (false_in boxes ls) (is_within box l.1) _ none g in
                (within_law box l.1 (s l.0) f.2).0 all v (subst (λ (z : ℕ). has (box_of boxes z) v ≡ true) (sym q) h)))
            | false ↦ λ g. elim (cases_eq l.0 x) [
              | inl q ↦ not_second (is_disjoint l.1 (box_of (fixing boxes x v) l.0)) (false_in (fixing boxes x v) ls)
                  (false_above boxes ls (suc l.0) x v f.3 (omega arith) ∙ g)
              | inr q ↦ not_both (is_disjoint l.1 (box_of (fixing boxes x v) l.0)) (false_in (fixing boxes x v) ls)
                  (still_meets boxes l x v lt s f.2 h e (λ r. absurd (q r)))
            ]
          ]) refl
    ]) refl

left_false : (a b : Bool) → (a || b) ≡ false → a ≡ false
left_false true b h = h
left_false false b h = refl

-- a clause that doesn't act is quiet
pub clause_quiet : (boxes : Boxes) (c : Literals) → AreSets boxes → AreSome (length boxes) boxes → IsClause c → All (λ x. x < length boxes) (clause_vars c) →
    (false_in boxes c || is_some (unit_of boxes c)) ≡ false → quiet (ClauseCon c) boxes ≡ true
clause_quiet boxes c s o f n h =
    quiet_from (ClauseCon c) boxes s n o (left_false (false_in boxes c) (is_some (unit_of boxes c)) h) (λ x v lt k. still_open boxes c 0 x v lt s f k h)

-- variables that have domains have boxes
pub named_here : (xs : List ℕ) (domains boxes : Boxes) → length boxes ≡ length domains → All (λ x. x < length domains) xs → All (λ x. x < length boxes) xs
named_here xs domains boxes e h = λ k d lt. let n = h k d lt in omega arith

-- so have the literals
pub literals_here : (ls c : Literals) (domains boxes : Boxes) → ls ≡ c → length boxes ≡ length domains → All (λ x. x < length domains) (clause_vars c) → IsWithinBoxes ls boxes
literals_here ls c domains boxes e s n =
    subst (λ (z : Literals). IsWithinBoxes z boxes) (sym e) (all_literals c (length boxes) (named_here (clause_vars c) domains boxes s n))
