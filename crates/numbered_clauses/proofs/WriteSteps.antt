-- Writing ranges and literals, one by one.
use Rattle.std.proofs.Common.{◌≡◌, ℕ, ◌+◌, ◌<◌, List, ◌++◌, ℤ, length, get_or, drop, sym, ap, ◌∙◌, subst}
use Rattle.std.specs.List.{AllByRecursion}
use Rattle.std.proofs.lemmas.List.{append_assoc}
use Rattle.signed_clause.proofs.RangeSteps.{left_at}
use Rattle.signed_clause.specs.Ranges.{Ranges}
use Rattle.signed_clause.specs.Clauses.{Literal, Literals}
use Rattle.numbered_clauses.specs.Coded.{range_bytes, ranges_bytes, literal_bytes, literals_bytes}

pub fits_step : {X : Type 0} (P : X → Type 0) (xs : List X) (k : ℕ) (x : X) → k < length xs → x ≡ get_or xs k x → P x → AllByRecursion P (drop (k + 1) xs) → AllByRecursion P (drop k xs)
fits_step P xs k x h e this rest = subst (AllByRecursion P) (sym (left_at xs k x x h e)) (this, rest)

pub ranges_more : (before now whole : List ℕ) (rs : Ranges) (k : ℕ) (r : ℤ × ℤ) → k < length rs → r ≡ get_or rs k r → now ≡ before ++ range_bytes r → before ++ ranges_bytes (drop k rs) ≡ whole →
    now ++ ranges_bytes (drop (k + 1) rs) ≡ whole
ranges_more before now whole rs k r h e pushed all =
    ap (λ (z : List ℕ). z ++ ranges_bytes (drop (k + 1) rs)) pushed
    ∙ append_assoc before (range_bytes r) (ranges_bytes (drop (k + 1) rs))
    ∙ ap (λ (z : Ranges). before ++ ranges_bytes z) (sym (left_at rs k r r h e))
    ∙ all

pub literals_more : (before now whole : List ℕ) (c : Literals) (k : ℕ) (l : Literal) → k < length c → l ≡ get_or c k l → now ≡ before ++ literal_bytes l → before ++ literals_bytes (drop k c) ≡ whole →
    now ++ literals_bytes (drop (k + 1) c) ≡ whole
literals_more before now whole c k l h e pushed all =
    ap (λ (z : List ℕ). z ++ literals_bytes (drop (k + 1) c)) pushed
    ∙ append_assoc before (literal_bytes l) (literals_bytes (drop (k + 1) c))
    ∙ ap (λ (z : Literals). before ++ literals_bytes z) (sym (left_at c k l l h e))
    ∙ all
