-- Reading ranges and literals, one by one.
use Rattle.std.proofs.Common.{◌≡◌, ℕ, zero, suc, ◌-◌, ◌<◌, true, not, IsTrue, List, [], ◌∷◌, ◌++◌, ℤ, refl, sym, ap, ◌∙◌, subst, arith}
use Rattle.std.specs.List.{AllByRecursion}
use Rattle.std.proofs.lemmas.Bool.{and_from, le-leb}
use Rattle.std.proofs.lemmas.List.{append_assoc}
use Rattle.signed_clause.specs.Ranges.{Ranges, IsValid}
use Rattle.signed_clause.specs.Clauses.{Literal, Literals, IsClause, IsClauseFrom, clause_from, is_clause}
use Rattle.numbered_clauses.specs.Coded.{range_at, behind_range, ranges_at, behind_ranges, literal_at, behind_literal, literals_at}

less_one : (n : ℕ) → suc n - 1 ≡ n
less_one n = omega arith

ranges_step : (n : ℕ) (bs : List ℕ) → 0 < n → ranges_at n bs ≡ range_at bs ∷ ranges_at (n - 1) (behind_range bs)
ranges_step zero bs h = absurd (omega arith)
ranges_step (suc n) bs h = rw (less_one n) refl

behind_step : (n : ℕ) (bs : List ℕ) → 0 < n → behind_ranges n bs ≡ behind_ranges (n - 1) (behind_range bs)
behind_step zero bs h = absurd (omega arith)
behind_step (suc n) bs h = rw (less_one n) refl

literals_step : (n : ℕ) (bs : List ℕ) → 0 < n → literals_at n bs ≡ literal_at bs ∷ literals_at (n - 1) (behind_literal bs)
literals_step zero bs h = absurd (omega arith)
literals_step (suc n) bs h = rw (less_one n) refl

pub ranges_more : (out now whole : Ranges) (n : ℕ) (left behind : List ℕ) (r : ℤ × ℤ) → 0 < n → now ≡ out ++ r ∷ [] → out ++ ranges_at n left ≡ whole → r ≡ range_at left → behind ≡ behind_range left →
    now ++ ranges_at (n - 1) behind ≡ whole
ranges_more out now whole n left behind r h pushed e same past =
    ap (λ (z : Ranges). z ++ ranges_at (n - 1) behind) pushed
    ∙ append_assoc out (r ∷ []) (ranges_at (n - 1) behind)
    ∙ rw (same, past) (ap (λ (z : Ranges). out ++ z) (sym (ranges_step n left h)))
    ∙ e

pub behind_more : (whole left behind : List ℕ) (n : ℕ) → 0 < n → behind_ranges n left ≡ whole → behind ≡ behind_range left → behind_ranges (n - 1) behind ≡ whole
behind_more whole left behind n h e past = rw past (sym (behind_step n left h)) ∙ e

pub literals_more : (out now whole : Literals) (n : ℕ) (left behind : List ℕ) (l : Literal) → 0 < n → now ≡ out ++ l ∷ [] → out ++ literals_at n left ≡ whole → l ≡ literal_at left → behind ≡ behind_literal left →
    now ++ literals_at (n - 1) behind ≡ whole
literals_more out now whole n left behind l h pushed e same past =
    ap (λ (z : Literals). z ++ literals_at (n - 1) behind) pushed
    ∙ append_assoc out (l ∷ []) (literals_at (n - 1) behind)
    ∙ rw (same, past) (ap (λ (z : Literals). out ++ z) (sym (literals_step n left h)))
    ∙ e

-- the sets of what is left are valid, the first one among them
left_valid : (n : ℕ) (left : List ℕ) → 0 < n → AllByRecursion (λ l. IsValid l.1) (literals_at n left) → AllByRecursion (λ l. IsValid l.1) (literal_at left ∷ literals_at (n - 1) (behind_literal left))
left_valid n left h v = subst (λ (z : Literals). AllByRecursion (λ l. IsValid l.1) z) (literals_step n left h) v

pub first_valid : (n : ℕ) (left : List ℕ) → 0 < n → AllByRecursion (λ l. IsValid l.1) (literals_at n left) → IsValid (literal_at left).1
first_valid n left h v = (left_valid n left h v).0

pub rest_valid : (n : ℕ) (left behind : List ℕ) → 0 < n → AllByRecursion (λ l. IsValid l.1) (literals_at n left) → behind ≡ behind_literal left → AllByRecursion (λ l. IsValid l.1) (literals_at (n - 1) behind)
rest_valid n left behind h v past = rw past (left_valid n left h v).1

-- ---- a clause's form

valid_from : (n : ℕ) (c : Literals) → IsClauseFrom n c → AllByRecursion (λ l. IsValid l.1) c
valid_from n [] f = tt
valid_from n (l ∷ c) f = (f.2, valid_from (suc l.0) c f.3)

pub sets_are_valid : (c : Literals) → IsClause c → AllByRecursion (λ l. IsValid l.1) c
sets_are_valid c f = valid_from 0 c f

tests_from : (n : ℕ) (c : Literals) → IsClauseFrom n c → clause_from n c ≡ true
tests_from n [] f = refl
tests_from n (l ∷ c) f = and_from _ _ (le-leb n l.0 f.0) (and_from _ _ (ap not f.1) (tests_from (suc l.0) c f.3))

pub passes : (c d : Literals) → IsClause c → d ≡ c → IsTrue (is_clause d)
passes c d f e = tests_from 0 d (subst IsClause (sym e) f)
