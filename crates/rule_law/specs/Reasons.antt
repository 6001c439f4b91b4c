-- Reasons, of which prunings are made. What a reader believes after this file: literals of
-- different variables, in any order, that a constraint justifies and that take something away are
-- those of a pruning; and the usual literals say that a variable is in its domain and outside what
-- the reason leaves of it.
use Rattle.std.specs.Prelude.{◌≡◌, ℕ, ◌<◌, ◌==◌, Bool, true, false, not, ◌&&◌, ◌||◌, cond, List, [], ◌∷◌, is_some, length}
use Rattle.std.specs.List.{All}
use Rattle.signed_clause.specs.Ranges.{Ranges, is_nil, IsValid}
use Rattle.signed_clause.specs.SetAlgebra.{less}
use Rattle.signed_clause.specs.Clauses.{Boxes, Literals, box_of, false_in, unit_of}
use Rattle.ground_form.specs.declared.con.Con.{Con}
use Rattle.ground_form.specs.Meaning.{clause_vars}
use Rattle.box_rules.specs.Justified.{justified}

-- the number stands in the list
abbrev pub has_number : ℕ → List ℕ → Bool
has_number x [] = false
has_number x (y ∷ ys) = y == x || has_number x ys

-- no number stands twice in the list
abbrev pub no_repeat : List ℕ → Bool
no_repeat [] = true
no_repeat (x ∷ xs) = not (has_number x xs) && no_repeat xs

-- every set misses its box; or all but one do, and the box of that one isn't within its set
abbrev pub Acts : Boxes → Literals → Type 0
Acts boxes literals = (false_in boxes literals || is_some (unit_of boxes literals)) ≡ true

-- literals of different variables, in any order, that the constraint justifies, and that are false
-- in the boxes or unit
pub record IsReason (con : Con) (domains boxes : Boxes) (literals : Literals) : Type 0 where
  pub named : All (λ l. l.0 < length boxes) literals
  pub differ : no_repeat (clause_vars literals) ≡ true
  pub some : All (λ l. is_nil l.1 ≡ false) literals
  pub sets : All (λ l. IsValid l.1) literals
  pub follows : justified con domains literals ≡ true
  pub acts : Acts boxes literals

-- the literal of x before the others, where its set isn't empty
abbrev pub kept_one : ℕ → Ranges → Literals → Literals
kept_one x s rest = cond (is_nil s) rest ((x, s) ∷ rest)

-- of each variable of the list, what its domain has beside what is left of it
abbrev pub kept : Boxes → (ℕ → Ranges) → List ℕ → Literals
kept domains leaves [] = []
kept domains leaves (x ∷ xs) =
    kept_one x (less (box_of domains x) (leaves x)) (kept domains leaves xs)
