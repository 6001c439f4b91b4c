-- Clauses cut to the domains. What a reader believes after this file: of each literal the values
-- are left that its variable's domain has, and a literal without such values is dropped.
use Rattle.std.specs.Prelude.{◌≡◌, true, [], ◌∷◌}
use Rattle.std.specs.List.{All}
use Rattle.signed_clause.specs.SetAlgebra.{is_within, meet}
use Rattle.signed_clause.specs.Clauses.{Boxes, Literals, box_of}
use Rattle.rule_law.specs.Reasons.{kept_one}

-- of each literal what its variable's domain has
abbrev pub cut_to : Boxes → Literals → Literals
cut_to domains [] = []
cut_to domains (l ∷ ls) = kept_one l.0 (meet l.1 (box_of domains l.0)) (cut_to domains ls)

-- each literal's set lies within its variable's domain
abbrev pub AreSetsWithin : Boxes → Literals → Type 0
AreSetsWithin domains ls = All (λ l. is_within l.1 (box_of domains l.0) ≡ true) ls
