-- Lists of lines whose parts keep what their types say.
use Rattle.std.proofs.Common.{◌≡◌, ℕ, zero, suc, ◌+◌, ◌<◌, ◌≤◌, List, [], ◌∷◌, ◌++◌, length, sym, arith, subst, All, take, get_or}
use Rattle.std.proofs.lemmas.List.{take_all}
use Rattle.std.proofs.lemmas.List.Elements.{All-more, All-same}
use Rattle.log_form.specs.declared.line.Line.{Line}
use Rattle.log_form.specs.declared.line.Line.TheVariants.{Axiom, Chain, Bound, Use, Found, Decide, Empty}
use Rattle.log_check.specs.Soundness.{HasClause}
use Rattle.run_law.specs.Lines.{HasSets}

-- ---- along a loop

pub sets_step : (ls : List Line) (i : ℕ) (l : Line) → i < length ls → l ≡ get_or ls i l →
    HasSets l → All (λ l. HasSets l) (take i ls) → All (λ l. HasSets l) (take (i + 1) ls)
sets_step ls i l h e one s = All-more (λ l. HasSets l) ls i l h s (subst HasSets e one)

pub sets_all : (ls : List Line) (i : ℕ) → length ls ≤ i → All (λ l. HasSets l) (take i ls) →
    All (λ l. HasSets l) ls
sets_all ls i h s = All-same (λ l. HasSets l) ls (take i ls) (sym (take_all i ls h)) s

-- ---- one line more, one line less

pub has_clause : (l : Line) → HasSets l → HasClause l
has_clause (Axiom k c) h = h
has_clause (Chain chain c) h = h
has_clause (Bound values) h = tt
has_clause (Use i) h = tt
has_clause (Found a) h = tt
has_clause (Decide x half) h = tt
has_clause (Empty x) h = tt

pub first_has : (l : Line) (ls : List Line) → All (λ l. HasSets l) (l ∷ ls) → HasSets l
first_has l ls h = h 0 l (omega arith)

pub rest_has : (l : Line) (ls : List Line) → All (λ l. HasSets l) (l ∷ ls) → All (λ l. HasSets l) ls
rest_has l ls h = λ k d lt. h (suc k) d (omega arith)

pub one_more : (ls : List Line) (l : Line) → All (λ l. HasSets l) ls → HasSets l →
    All (λ l. HasSets l) (ls ++ l ∷ [])
one_more [] l h one zero d lt = one
one_more [] l h one (suc k) d lt = absurd (omega arith)
one_more (m ∷ ls) l h one zero d lt = first_has m ls h
one_more (m ∷ ls) l h one (suc k) d lt = one_more ls l (rest_has m ls h) one k d (omega arith)
