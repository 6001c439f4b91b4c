-- Lists of lines whose clauses have a clause's form.
use Rattle.std.proofs.Common.{◌≡◌, ℕ, ◌+◌, ◌<◌, ◌≤◌, List, length, sym, subst, All, take, get_or}
use Rattle.std.proofs.lemmas.List.{take_all}
use Rattle.std.proofs.lemmas.List.Elements.{All-more, All-same}
use Rattle.log_form.specs.declared.line.Line.{Line}
use Rattle.log_check.specs.Soundness.{HasClause}

-- ---- along a loop

pub forms_step : (ls : List Line) (i : ℕ) (l : Line) → i < length ls → l ≡ get_or ls i l →
    HasClause l → All (λ l. HasClause l) (take i ls) → All (λ l. HasClause l) (take (i + 1) ls)
forms_step ls i l h e one s =
    All-more (λ l. HasClause l) ls i l h s (subst (λ l. HasClause l) e one)

pub forms_all : (ls : List Line) (i : ℕ) → length ls ≤ i → All (λ l. HasClause l) (take i ls) →
    All (λ l. HasClause l) ls
forms_all ls i h s = All-same (λ l. HasClause l) ls (take i ls) (sym (take_all i ls h)) s
