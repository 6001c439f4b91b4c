-- Clauses that lie within the domains.
use Rattle.std.proofs.Common.{◌≡◌, ℕ, suc, ◌<◌, ◌≤◌, Bool, true, false, ◌&&◌, ◌||◌, List, [], ◌∷◌, length, refl, sym, ap, ◌∙◌, arith, inl, inr, subst}
use Rattle.std.proofs.lemmas.Int.{ints}
use Rattle.std.proofs.lemmas.List.{get_or_past}
use Rattle.std.proofs.lemmas.List.Elements.{All-cons, All-get_or}
use Rattle.std.proofs.lemmas.Bool.{and_parts, cases_eq, cases_lt}
use Rattle.std.specs.List.{All}
use Rattle.signed_clause.specs.Ranges.{Ranges, has, is_nil, IsValid, IsSubset, HasNoValue}
use Rattle.signed_clause.specs.SetAlgebra.{is_disjoint}
use Rattle.signed_clause.specs.Clauses.{Boxes, Literals, box_of, set_of, has_var, false_in, resolvent, IsClauseFrom, IsClause, AreValid}
use Rattle.signed_clause.proofs.SetFacts.{nil_law, disjoint_law}
use Rattle.signed_clause.proofs.RangeSteps.{has-meet_valid, has-join_valid}
use Rattle.signed_clause.proofs.ResolventLaws.{set_here, set_later, set_below, set_valid, other_is, pivot_is}
use Rattle.learn_clauses.specs.Walk.{clause_at}
use Rattle.learn_clauses.specs.Learnt.{IsWithinDomains}

pub valid_boxes : (boxes : Boxes) → All (λ s. IsValid s) boxes → AreValid boxes
valid_boxes boxes a y =
    elim (cases_lt y (length boxes)) [
      | inl lt ↦ All-get_or (λ s. IsValid s) boxes y [] lt a
      | inr le ↦
          let none : IsValid [] = omega (arith, ints) in
          subst IsValid (sym (get_or_past boxes y [] le)) none
    ]

true_either : (a b z : Bool) → (a || b) ≡ true → (a ≡ true → z ≡ true) → (b ≡ true → z ≡ true) →
    z ≡ true
true_either true b z h p q = p refl
true_either false b z h p q = q h

pub within-resolvent : (domains : Boxes) (x : ℕ) (c d : Literals) → IsClause c → IsClause d →
    has_var c x ≡ true → has_var d x ≡ true → IsWithinDomains domains c →
    IsWithinDomains domains d → IsWithinDomains domains (resolvent x c d)
within-resolvent domains x c d f g p q s t y v h =
    elim (cases_eq y x) [
      | inl e ↦
          let law : has (set_of (resolvent x c d) x) v
          ≡ (has (set_of c x) v && has (set_of d x) v) =
          ap (λ z. has z v) (pivot_is x c d 0 0 f g p q)
          ∙ has-meet_valid (set_of c x) (set_of d x) (set_valid 0 c x f) (set_valid 0 d x g) v in
          let h' : has (set_of (resolvent x c d) x) v ≡ true =
          subst (λ (y : ℕ). has (set_of (resolvent x c d) y) v ≡ true) e h in
          let both = and_parts (has (set_of c x) v) (has (set_of d x) v) (sym law ∙ h') in
          s y v (subst (λ (y : ℕ). has (set_of c y) v ≡ true) (sym e) both.0)
      | inr e ↦
          let law : has (set_of (resolvent x c d) y) v
          ≡ (has (set_of c y) v || has (set_of d y) v) =
          ap (λ z. has z v) (other_is x y c d 0 0 e f g)
          ∙ has-join_valid (set_of c y) (set_of d y) (set_valid 0 c y f) (set_valid 0 d y g) v in
          true_either (has (set_of c y) v) (has (set_of d y) v) (has (box_of domains y) v)
          (sym law ∙ h) (s y v) (t y v)
    ]

-- a set of a clause has a value
has_value : (s : Ranges) → is_nil s ≡ false → IsValid s → HasNoValue s → ⊥
has_value s some f none = let nil = (nil_law s f).1 none in absurd (cc)

-- a clause that is false in its domains is empty
pub empty_from_false : (boxes : Boxes) (c : Literals) → IsClause c → AreValid boxes →
    IsWithinDomains boxes c → false_in boxes c ≡ true → c ≡ []
empty_from_false boxes [] f a w h = refl
empty_from_false boxes (l ∷ c) f a w h =
    let parts = and_parts (is_disjoint l.1 (box_of boxes l.0)) (false_in boxes c) h in
    let none : HasNoValue l.1 = λ v. (elim (has l.1 v) as (λ b. has l.1 v ≡ b → b ≡ false) [
      | true ↦ λ e.
          let there = w l.0 v (ap (λ s. has s v) (set_here l c l.0 refl) ∙ e) in
          let out = (disjoint_law l.1 (box_of boxes l.0) f.2 (a l.0)).0 parts.0 v e in
          absurd (cc)
      | false ↦ λ e. refl
    ]) refl in
    absurd (has_value l.1 f.1 f.2 none)

-- its variables have domains
within_later : (domains : Boxes) (l : ℕ × Ranges) (c : Literals) → IsClauseFrom (suc l.0) c →
    IsWithinDomains domains (l ∷ c) → IsWithinDomains domains c
within_later domains l c f w y v h =
    elim (cases_eq l.0 y) [
      | inl e ↦
          let none : has (set_of c y) v ≡ false =
          ap (λ z. has z v) (set_below (suc l.0) c y f (omega arith)) in
          absurd (cc)
      | inr e ↦ w y v (ap (λ z. has z v) (set_later l c y e) ∙ h)
    ]

var_within : (domains : Boxes) (l : ℕ × Ranges) → is_nil l.1 ≡ false → IsValid l.1 →
    IsSubset l.1 (box_of domains l.0) → l.0 < length domains
var_within domains l some f w =
    elim (cases_lt l.0 (length domains)) [
      | inl lt ↦ lt
      | inr le ↦
          let none : HasNoValue l.1 = λ v. (elim (has l.1 v) as (λ b. has l.1 v ≡ b → b ≡ false) [
            | true ↦ λ e.
                let there = w v e in
                let out : has (box_of domains l.0) v ≡ false =
                ap (λ z. has z v) (get_or_past domains l.0 [] le) in
                absurd (cc)
            | false ↦ λ e. refl
          ]) refl in
          absurd (has_value l.1 some f none)
    ]

pub vars_within : (domains : Boxes) (c : Literals) (n count : ℕ) → IsClauseFrom n c →
    length domains ≤ count → IsWithinDomains domains c → All (λ l. l.0 < count) c
vars_within domains [] n count f le w = λ k d lt. absurd (omega arith)
vars_within domains (l ∷ c) n count f le w =
    let lt : l.0 < length domains =
    var_within domains l f.1 f.2 (λ v e. w l.0 v (ap (λ s. has s v) (set_here l c l.0 refl) ∙ e)) in
    All-cons (λ l. l.0 < count) l c (omega arith)
    (vars_within domains c (suc l.0) count f.3 le (within_later domains l c f.3 w))

-- clauses by number
pub within_at : (domains : Boxes) (clauses : List Literals) (j : ℕ) →
    All (λ c. IsWithinDomains domains c) clauses → IsWithinDomains domains (clause_at clauses j)
within_at domains clauses j w =
    elim (cases_lt j (length clauses)) [
      | inl lt ↦ All-get_or (λ c. IsWithinDomains domains c) clauses j [] lt w
      | inr le ↦
          subst (λ (c : Literals). IsWithinDomains domains c) (sym (get_or_past clauses j [] le))
          (λ y v h. absurd (cc))
    ]
