-- One of something where a test holds, and nothing where it doesn't.
use Rattle.std.specs.Prelude.{Bool, true, false, cond, List, [], ◌∷◌, Option, None, Some}

-- a list of one, or of nothing
abbrev pub only_if : {X : Type 0} → Bool → X → List X
only_if true x = x ∷ []
only_if false x = []

abbrev pub some_if : {X : Type 0} → Bool → X → Option X
some_if b x = cond b (Some x) None
