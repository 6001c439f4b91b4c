-- Literals that are collected one by one. What a reader believes after this file: they are of
-- different variables, and each is false in the boxes.
use Rattle.std.specs.Prelude.{◌≡◌, ℕ, ◌<◌, ◌==◌, true, false, cond, [], ◌∷◌, ℤ, length}
use Rattle.std.specs.List.{All}
use Rattle.signed_clause.specs.Ranges.{Ranges, has, is_nil, IsValid}
use Rattle.signed_clause.specs.SetAlgebra.{is_disjoint, join}
use Rattle.signed_clause.specs.Clauses.{Boxes, Literal, Literals, box_of, set_of}
use Rattle.ground_form.specs.Meaning.{clause_vars}
use Rattle.rule_law.specs.Reasons.{no_repeat}

-- the set added to what the literals say of y
abbrev pub with_set : ℕ → Ranges → Literals → Literals
with_set y s [] = (y, s) ∷ []
with_set y s (l ∷ ls) = cond (l.0 == y) ((l.0, join l.1 s) ∷ ls) (l ∷ with_set y s ls)

-- the same, where it says anything
abbrev pub said : ℕ → Ranges → Literals → Literals
said y s ls = cond (is_nil s) ls (with_set y s ls)

-- the literal says something, of a variable that has a box, and is false there
pub record IsFalse (boxes : Boxes) (l : Literal) : Type 0 where
  pub named : l.0 < length boxes
  pub some : is_nil l.1 ≡ false
  pub valid : IsValid l.1
  pub disjoint : is_disjoint l.1 (box_of boxes l.0) ≡ true

-- each literal is so, and no two are of one variable
pub record AreCollected (boxes : Boxes) (ls : Literals) : Type 0 where
  pub each : All (λ l. IsFalse boxes l) ls
  pub differ : no_repeat (clause_vars ls) ≡ true

-- the second list says of each variable at least what the first says
abbrev pub SaysMore : Literals → Literals → Type 0
SaysMore old new = (y : ℕ) (v : ℤ) → has (set_of old y) v ≡ true → has (set_of new y) v ≡ true
