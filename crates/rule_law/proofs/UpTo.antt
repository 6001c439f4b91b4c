-- Boxes that are found to lie within their domains one by one.
use Rattle.std.proofs.Common.{◌≡◌, ℕ, zero, suc, ◌+◌, ◌<◌, ◌≤◌, ◌&&◌, not, true, false, [], ◌∷◌, length, get_or, arith, refl, subst, inl, inr}
use Rattle.std.proofs.lemmas.Bool.{cases_lt}
use Rattle.signed_clause.specs.Ranges.{Ranges, is_nil, IsValid}
use Rattle.signed_clause.specs.SetAlgebra.{is_within}
use Rattle.signed_clause.specs.Clauses.{Boxes, box_of}
use Rattle.rule_law.specs.Answers.{AreBoxesWithin}

-- the box isn't empty, and lies within its domain
abbrev pub IsPart : Boxes → Boxes → ℕ → Type 0
IsPart domains boxes x = ((is_within (box_of boxes x) (box_of domains x) && not (is_nil (box_of boxes x))) ≡ true) × IsValid (box_of boxes x)

-- so do the first n
abbrev pub AreParts : Boxes → Boxes → ℕ → Type 0
AreParts domains boxes n = (x : ℕ) → x < n → IsPart domains boxes x

pub next_part : (domains boxes : Boxes) (n : ℕ) → AreParts domains boxes n → IsPart domains boxes n → AreParts domains boxes (n + 1)
next_part domains boxes n h k x lt =
    elim (cases_lt x n) [
      | inl less ↦ h x less
      | inr more ↦ let e : n ≡ x = omega arith in subst (λ (z : ℕ). IsPart domains boxes z) e k
    ]

any_default : (boxes : Boxes) (k : ℕ) (d e : Ranges) → k < length boxes → get_or boxes k d ≡ get_or boxes k e
any_default [] k d e lt = absurd (omega arith)
any_default (b ∷ boxes) zero d e lt = refl
any_default (b ∷ boxes) (suc k) d e lt = any_default boxes k d e (omega arith)

pub all_parts : (domains boxes : Boxes) (n : ℕ) → length boxes ≡ length domains → length boxes ≤ n → AreParts domains boxes n → AreBoxesWithin domains boxes
all_parts domains boxes n e le h = record {
  size = e;
  within = λ x lt. let part = (h x (omega arith)).0 in grind arith;
  some = λ x lt. let part = (h x (omega arith)).0 in grind arith;
  sets = λ k d lt. subst (λ (s : Ranges). IsValid s) (any_default boxes k [] d lt) (h k (omega arith)).1;
}

-- a box that is no part, or too few or too many boxes, refute it
pub no_part : (domains boxes : Boxes) (n : ℕ) → n < length boxes → (is_within (box_of boxes n) (box_of domains n) && not (is_nil (box_of boxes n))) ≡ false → AreBoxesWithin domains boxes → ⊥
no_part domains boxes n lt h w = let a = w.within n lt in let b = w.some n lt in absurd (grind arith)

pub other_size : (domains boxes : Boxes) → (length boxes ≡ length domains → ⊥) → AreBoxesWithin domains boxes → ⊥
other_size domains boxes h w = h w.size
