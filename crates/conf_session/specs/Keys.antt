-- Clauses as keys of a table. What a reader believes after this file: nothing that a session says;
-- this is how it finds out whether a clause stands already.
use Rattle.std.specs.Prelude.{◌≡◌, ◌∷◌, ◌++◌, [], Bool, List, ℤ, pos, length}
use Rattle.std.specs.Cmp.Lexicographic.{pointwise}
use Rattle.std.specs.List.{list_any}
use Rattle.std.specs.Ordering.{int_eq}
use Rattle.ground_form.specs.declared.con.Con.{Con}
use Rattle.signed_clause.specs.Clauses.{Literals}
use Rattle.signed_clause.specs.Ranges.{Ranges}
use Rattle.conf_session.specs.Keeping.{is_stated}
use Rattle.conf_session.specs.declared.stated.ClauseKey.{ClauseKey}

-- the ends of ranges, in order
abbrev pub range_ends : Ranges → List ℤ
range_ends [] = []
range_ends (r ∷ rs) = r.0 ∷ r.1 ∷ range_ends rs

-- a clause as a list of numbers: of each literal its variable, how many ranges it has, and their
-- ends
abbrev pub clause_words : Literals → List ℤ
clause_words [] = []
clause_words (l ∷ ls) = pos l.0 ∷ pos (length l.1) ∷ (range_ends l.1 ++ clause_words ls)

-- the clause is among the keys
abbrev pub has_key : List ClauseKey → Literals → Bool
has_key keys c = list_any (λ (k : ClauseKey). pointwise int_eq (clause_words c) k.words.items) keys

-- the keys are those of the clauses that stand as constraints
abbrev pub AreKeysOf : List Con → List ClauseKey → Type 0
AreKeysOf cons keys = (c : Literals) → has_key keys c ≡ is_stated cons c
