-- The text of an order from its pieces.
use Rattle.std.proofs.Common.{◌≡◌, ℕ, suc, decimal, Bool, true, false, ◌||◌, List, [], ◌∷◌, ◌++◌, codes, length, refl, sym, ap, ◌∙◌, arith, append_assoc, map}
use Rattle.std.specs.List.{flat_map, list_any}
use Rattle.std.proofs.lemmas.List.Folds.{list_any-append}
use Rattle.view_plan.specs.Plan.{PlanLine}
use Rattle.view_plan.specs.Text.{line_text, shows_fraction}
use Rattle.view_steps.specs.Text.{counted_text, IsStepsText}
use Rattle.view_steps.specs.Views.{move_line}
use Rattle.view_steps.specs.declared.moves.Move.{Move}

first_none : (a b : Bool) → (a || b) ≡ false → a ≡ false
first_none true b h = absurd cc
first_none false b h = refl

second_none : (a b : Bool) → (a || b) ≡ false → b ≡ false
second_none true b h = absurd cc
second_none false b h = h

none_first : (xs ys : List PlanLine) → list_any shows_fraction (xs ++ ys) ≡ false
    → list_any shows_fraction xs ≡ false
none_first xs ys h =
    first_none (list_any shows_fraction xs) (list_any shows_fraction ys)
    (sym (list_any-append shows_fraction xs ys) ∙ h)

none_second : (xs ys : List PlanLine) → list_any shows_fraction (xs ++ ys) ≡ false
    → list_any shows_fraction ys ≡ false
none_second xs ys h =
    second_none (list_any shows_fraction xs) (list_any shows_fraction ys)
    (sym (list_any-append shows_fraction xs ys) ∙ h)

pub lines_counted : {X : Type 0} (f : X → PlanLine) (xs : List X) → length (map f xs) ≡ length xs
lines_counted f [] = refl
lines_counted f (x ∷ xs) = ap suc (lines_counted f xs)

-- lines and their count
pub counted : (ls : List PlanLine) (n : ℕ) (what old mid new : List ℕ) → length ls ≡ n
    → (list_any shows_fraction ls ≡ false → mid ≡ old ++ flat_map line_text ls)
    → new ≡ mid ++ decimal n ++ what
    → list_any shows_fraction ls ≡ false
    → new ≡ old ++ counted_text what ls
counted ls n what old mid new many lines count h =
    let all = flat_map line_text ls in
    count
    ∙ ap (λ t. t ++ decimal n ++ what) (lines h)
    ∙ ap (λ k. old ++ all ++ decimal k ++ what) (sym many)
    ∙ ap (λ t. t ++ what) (append_assoc old all (decimal (length ls)))
    ∙ append_assoc old (all ++ decimal (length ls)) what

-- no move is left
pub text_done : (made : List PlanLine) (left : List Move) (t : List ℕ)
    → (list_any shows_fraction made ≡ false
    → t ≡ counted_text (codes " steps\n") made)
    → length left ≡ 0 → IsStepsText made (map move_line left) t
text_done made [] t h none = record {
  needs = [];
  same = λ k. h (none_first made [] k);
}
text_done made (l ∷ ls) t h none = absurd (omega arith)

-- some are left
pub text_left : (made : List PlanLine) (left : List Move) (t u v needs : List ℕ)
    → (list_any shows_fraction made ≡ false
    → t ≡ counted_text (codes " steps\n") made)
    → (list_any shows_fraction (map move_line left) ≡ false
    → u ≡ t ++ counted_text (codes " left\n") (map move_line left))
    → v ≡ u ++ needs → (length left ≡ 0 → ⊥)
    → IsStepsText made (map move_line left) v
text_left made [] t u v needs h k e some = absurd (some refl)
text_left made (l ∷ ls) t u v needs h k e some = record {
  needs = needs;
  same = λ f.
      e ∙ ap (λ x. x ++ needs) (k (none_second made (map move_line (l ∷ ls)) f)
      ∙ ap (λ x. x ++ counted_text (codes " left\n") (map move_line (l ∷ ls))) (h (none_first made (map move_line (l ∷ ls)) f)));
}
