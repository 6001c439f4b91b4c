-- What the types of a line's parts keep. What a reader believes after this file: nothing on runs;
-- these are facts that every line has.
use Rattle.signed_clause.specs.Ranges.{IsValid}
use Rattle.signed_clause.specs.Clauses.{IsClause}
use Rattle.log_form.specs.declared.line.Line.{Line}
use Rattle.log_form.specs.declared.line.Line.TheVariants.{Axiom, Chain, Bound, Use, Found, Decide, Empty}

-- the clause of a line is a clause, and the part that it narrows a variable to is a set
abbrev pub HasSets : Line → Type 0
HasSets (Axiom k c) = IsClause c
HasSets (Chain chain c) = IsClause c
HasSets (Bound values) = Unit {0}
HasSets (Use i) = Unit {0}
HasSets (Found a) = Unit {0}
HasSets (Decide x half) = IsValid half
HasSets (Empty x) = Unit {0}
