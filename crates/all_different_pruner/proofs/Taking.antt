-- Taking boxes one by one.
use Rattle.std.proofs.Common.{◌≡◌, ℕ, zero, suc, ◌≤◌, false, List, [], ◌∷◌, ◌++◌, ℤ, length, refl, arith, subst, sym, ap, ◌∙◌}
use Rattle.signed_clause.specs.SetAlgebra.{less}
use Rattle.signed_clause.specs.Clauses.{Boxes, Literals, box_of}
use Rattle.ground_form.specs.declared.con.Con.{Con}
use Rattle.ground_form.specs.declared.con.Con.TheVariants.{AllDiff}
use Rattle.box_rules.specs.Refuted.{width, lies_in}
use Rattle.rule_law.specs.Reasons.{kept_one, IsReason}
use Rattle.all_different_pruner.specs.Intervals.{IsCrowd, IsIntruder}
use Rattle.all_different_pruner.specs.Within.{within, outside}
use Rattle.all_different_pruner.proofs.Fixpoint.{count_at_most}
use Rattle.all_different_pruner.proofs.Kept.{one_append}
use Rattle.all_different_pruner.proofs.DiffExplained.{IsGround, crowd_reason, intruder_reason}

within_none : (a b : ℤ) (xs : List ℕ) (boxes : Boxes) → within 0 a b xs boxes ≡ []
within_none a b [] boxes = refl
within_none a b (x ∷ xs) boxes = refl

pub none_needed : (n : ℕ) (a b : ℤ) (y : ℕ) (rest : List ℕ) (boxes : Boxes) → n ≡ 0 → within 0 a b rest boxes ≡ within n a b (y ∷ rest) boxes
none_needed n a b y rest boxes h = within_none a b rest boxes ∙ sym (ap (λ (m : ℕ). within m a b (y ∷ rest) boxes) h)

pub passed_by : (n : ℕ) (a b : ℤ) (y : ℕ) (rest : List ℕ) (boxes : Boxes) → (n ≡ 0 → ⊥) → lies_in a b (box_of boxes y) ≡ false → within n a b rest boxes ≡ within n a b (y ∷ rest) boxes
passed_by zero a b y rest boxes h l = absurd (h refl)
passed_by (suc n) a b y rest boxes h l = rw l refl

pub crowd_size : (a b : ℤ) (xs : List ℕ) (boxes : Boxes) → IsCrowd a b xs boxes → suc (width a b) ≤ length xs
crowd_size a b xs boxes c = let most = count_at_most a b xs boxes in let more = c.more in omega arith

pub full_size : (a b : ℤ) (x : ℕ) (xs : List ℕ) (boxes : Boxes) → IsIntruder a b x xs boxes → width a b ≤ length xs
full_size a b x xs boxes c = let most = count_at_most a b xs boxes in let full = c.full in omega arith

pub crowd_is : (con : Con) (domains boxes : Boxes) (xs : List ℕ) (a b : ℤ) (literals : Literals) → con ≡ AllDiff xs → IsGround domains boxes xs a b → IsCrowd a b xs boxes →
    literals ≡ outside a b (within (suc (width a b)) a b xs boxes) domains → IsReason con domains boxes literals
crowd_is con domains boxes xs a b literals e g c l =
    subst (λ (z : Con). IsReason z domains boxes literals) (sym e) (subst (λ (z : Literals). IsReason (AllDiff xs) domains boxes z) (sym l) (crowd_reason domains boxes xs a b g c))

pub full_is : (con : Con) (domains boxes : Boxes) (xs : List ℕ) (a b : ℤ) (x : ℕ) (first literals : Literals) → con ≡ AllDiff xs → IsGround domains boxes xs a b → IsIntruder a b x xs boxes →
    first ≡ kept_one x (less (box_of domains x) ((a, b) ∷ [])) [] → literals ≡ first ++ outside a b (within (width a b) a b xs boxes) domains → IsReason con domains boxes literals
full_is con domains boxes xs a b x first literals e g c f l =
    let rest = outside a b (within (width a b) a b xs boxes) domains in
    let is : literals ≡ outside a b (x ∷ within (width a b) a b xs boxes) domains =
    l ∙ ap (λ (z : Literals). z ++ rest) f ∙ one_append x (less (box_of domains x) ((a, b) ∷ [])) rest in
    subst (λ (z : Con). IsReason z domains boxes literals) (sym e) (subst (λ (z : Literals). IsReason (AllDiff xs) domains boxes z) (sym is) (intruder_reason domains boxes xs a b x g c))
