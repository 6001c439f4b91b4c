-- One variable more on the walk for hints.
use Rattle.std.proofs.Common.{◌≡◌, ℕ, ◌+◌, true, false, Option, Some, None, arith, inl, inr, subst, sym}
use Rattle.std.proofs.lemmas.Bool.{cases_eq}
use Rattle.signed_clause.specs.Clauses.{Boxes, box_of}
use Rattle.branch_choice.specs.Picks.{Hints, hint_in, hint_of, is_single, AreAllSingle}
use Rattle.branch_choice.specs.Walks.{IsFirstBelow, IsWithoutHint}

all_more : (boxes : Boxes) (n : ℕ) → is_single (box_of boxes n) ≡ true →
    AreAllSingle boxes n → AreAllSingle boxes (n + 1)
all_more boxes n e h x lt =
    elim (cases_eq x n) [
      | inl same ↦ subst (λ (z : ℕ). is_single (box_of boxes z) ≡ true) (sym same) e
      | inr other ↦ h x (omega arith)
    ]

first_single : (boxes : Boxes) (n : ℕ) (undecided : Option ℕ) → is_single (box_of boxes n) ≡ true →
    IsFirstBelow boxes n undecided → IsFirstBelow boxes (n + 1) undecided
first_single boxes n None e h = record { some = tt; none = all_more boxes n e h.none }
first_single boxes n (Some x) e h =
    let below = h.some.below in
    record { some = record { below = omega arith; several = h.some.several; first = h.some.first }; none = tt }

-- a single value changes nothing
pub hint_single : (boxes : Boxes) (hints : Hints) (n : ℕ) (undecided now : Option ℕ) →
    IsWithoutHint boxes hints n undecided → is_single (box_of boxes n) ≡ true →
    now ≡ undecided → IsWithoutHint boxes hints (n + 1) now
hint_single boxes hints n undecided now h e same = record {
  first = subst (λ (u : Option ℕ). IsFirstBelow boxes (n + 1) u) (sym same)
      (first_single boxes n undecided e h.first);
  none = λ x lt several. elim (cases_eq x n) [
    | inl here ↦
        let one = subst (λ (z : ℕ). is_single (box_of boxes z) ≡ true) (sym here) e in
        absurd (cc)
    | inr other ↦ h.none x (omega arith) several
  ];
}

-- another box has no hint
pub hint_none : (boxes : Boxes) (hints : Hints) (n : ℕ) (undecided now : Option ℕ) →
    IsWithoutHint boxes hints n undecided → hint_in (hint_of hints n) (box_of boxes n) ≡ false →
    IsFirstBelow boxes (n + 1) now → IsWithoutHint boxes hints (n + 1) now
hint_none boxes hints n undecided now h e first = record {
  first = first;
  none = λ x lt several. elim (cases_eq x n) [
    | inl here ↦ subst (λ (z : ℕ). hint_in (hint_of hints z) (box_of boxes z) ≡ false) (sym here) e
    | inr other ↦ h.none x (omega arith) several
  ];
}
