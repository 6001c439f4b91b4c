-- What a single line adds, apart from the lines before it.
use Rattle.std.specs.Prelude.{List, [], ◌∷◌, ℤ, Option, Some, None}
use Rattle.signed_clause.specs.Clauses.{Literals}
use Rattle.ground_form.specs.declared.ground.Ground.{Ground}
use Rattle.log_form.specs.declared.line.Line.{Line}
use Rattle.log_form.specs.declared.line.Line.TheVariants.{Axiom, Chain, Bound, Use, Found, Decide, Empty}
use Rattle.log_form.specs.Acceptance.{bounds}

-- the clauses that it makes behind what was found last
abbrev pub added : Ground → Option (List ℤ) → Line → List Literals
added g found (Axiom k c) = c ∷ []
added g found (Chain chain c) = c ∷ []
added g found (Bound values) = bounds g found
added g found (Use i) = []
added g found (Found a) = []
added g found (Decide x set) = []
added g found (Empty x) = [] ∷ []

-- what was found last, behind it
abbrev pub found_after : Option (List ℤ) → Line → Option (List ℤ)
found_after found (Axiom k c) = found
found_after found (Chain chain c) = found
found_after found (Bound values) = found
found_after found (Use i) = found
found_after found (Found a) = Some a
found_after found (Decide x set) = found
found_after found (Empty x) = found

-- and behind lines
abbrev pub found_from : Option (List ℤ) → List Line → Option (List ℤ)
found_from found [] = found
found_from found (l ∷ ls) = found_from (found_after found l) ls

-- the values of the last Found line
abbrev pub last_values : List Line → Option (List ℤ)
last_values ls = found_from None ls
