-- What a walk that explains a row has come to. What a reader believes after this file: the literals
-- so far are those of different variables that the rest of the row doesn't have; and with what they
-- leave of the domains for the terms before, and with the boxes for the rest, the sum is still
-- above the bound, by what is left of the slack.
use Rattle.std.specs.Prelude.{◌≡◌, ℕ, ◌<◌, ◌≤◌, ◌^◌, true, false, ◌&&◌, cond, List, ℤ, pos, ◌+ℤ◌, ◌-ℤ◌, ◌*ℤ◌, ◌≤ℤ◌, ◌<ℤ◌, slice_index_or, length, unsigned_abs, ◌*◌, take, drop, nat_le, nat_lt}
use Rattle.std.specs.List.{All}
use Rattle.signed_clause.specs.Ranges.{Ranges, is_nil, IsValid}
use Rattle.signed_clause.specs.SetAlgebra.{is_within}
use Rattle.signed_clause.specs.Clauses.{Boxes, Literals, box_of, false_in}
use Rattle.ground_form.specs.Meaning.{clause_vars, term_vars}
use Rattle.ground_form.specs.Bounds.{low_of, high_of, least_term, greatest_term, least_sum}
use Rattle.box_view.specs.Views.{cut}
use Rattle.box_rules.specs.Named.{AreTermsNamed}
use Rattle.rule_law.specs.Answers.{AreBoxesWithin}
use Rattle.linear_prop.specs.Rows.{greatest_spread}
use Rattle.rule_law.specs.Reasons.{has_number, no_repeat, Acts}

-- the term at the index
abbrev pub term_at : List (ℤ × ℕ) → ℕ → ℤ × ℕ
term_at ts index = slice_index_or ts index (pos 0, 0)

-- how far the term at the index, where there is one from i on, rises above its least when its
-- variable is `to`
abbrev pub rise : List (ℤ × ℕ) → Boxes → ℕ → ℤ → ℕ → ℤ
rise ts boxes index to i =
    cond (nat_le i index && nat_lt index (length ts)) (((term_at ts index).0 *ℤ to) -ℤ least_term
    (term_at ts index) boxes) (pos 0)

-- how far the values of a set lie apart
abbrev pub span_of : Ranges → ℕ
span_of s = unsigned_abs (high_of s -ℤ low_of s)

-- why a row has something to say: its sum is above the bound by more than the slack, and where
-- there is a term at the index, its variable is `to` there, at which it isn't the least that it is
-- in its box, and no more than the greatest
pub record IsCause (ts : List (ℤ × ℕ)) (boxes : Boxes) (bound : ℤ) (index : ℕ) (to : ℤ) (slack : ℕ) : Type 0 where
  pub owed : ((bound +ℤ pos 1) +ℤ pos slack) ≤ℤ (least_sum ts boxes +ℤ rise ts boxes index to 0)
  pub above : index < length ts → least_term (term_at ts index) boxes
      <ℤ ((term_at ts index).0 *ℤ to)
  pub below : index < length ts → ((term_at ts index).0 *ℤ to) ≤ℤ greatest_term (term_at ts index)
      boxes
  pub low : index < length ts → low_of (box_of boxes (term_at ts index).1) ≤ℤ to
  pub high : index < length ts → to ≤ℤ high_of (box_of boxes (term_at ts index).1)

-- the literals are of different variables, have boxes, and their sets are sets and not empty
pub record AreLiterals (boxes : Boxes) (out : Literals) : Type 0 where
  pub named : All (λ l. l.0 < length boxes) out
  pub differ : no_repeat (clause_vars out) ≡ true
  pub some : All (λ l. is_nil l.1 ≡ false) out
  pub sets : All (λ l. IsValid l.1) out

-- the walk has come to term i
pub record IsSoFar (ts : List (ℤ × ℕ)) (domains boxes : Boxes) (bound : ℤ) (index : ℕ) (to : ℤ) (i : ℕ) (out : Literals) (slack : ℕ) : Type 0 where
  pub literals : AreLiterals boxes out
  pub fresh : All (λ t. has_number t.1 (clause_vars out) ≡ false) (drop i ts)
  pub acts : Acts boxes out
  pub missed : i ≤ index → false_in boxes out ≡ true
  pub only : (x : ℕ) → has_number x (term_vars ts) ≡ false → has_number x (clause_vars out) ≡ false
  pub owed : ((bound +ℤ pos 1) +ℤ pos slack) ≤ℤ (least_sum (take i ts) (cut domains out)
      +ℤ (least_sum (drop i ts) boxes +ℤ rise ts boxes index to i))

-- what a turn at term i stands on: no variable has two terms, and the term's variable has a box
-- that isn't empty, within its domain
pub record IsTurn (ts : List (ℤ × ℕ)) (domains boxes : Boxes) (i : ℕ) (t : ℤ × ℕ) : Type 0 where
  pub here : i < length ts
  pub term : t ≡ term_at ts i
  pub differ : no_repeat (term_vars ts) ≡ true
  pub var : t.1 < length boxes
  pub domain : IsValid (box_of domains t.1)
  pub box : IsValid (box_of boxes t.1)
  pub some : is_nil (box_of boxes t.1) ≡ false
  pub within : is_within (box_of boxes t.1) (box_of domains t.1) ≡ true

-- a row over domains and boxes: no variable has two terms, each has a box within its domain, and no
-- term moves further than 64 bits can say
pub record IsRowOver (ts : List (ℤ × ℕ)) (domains boxes : Boxes) : Type 0 where
  pub differ : no_repeat (term_vars ts) ≡ true
  pub named : AreTermsNamed ts boxes
  pub spans : All (λ t. unsigned_abs t.0 * span_of (box_of domains t.1) < 2 ^ 64) ts
  pub domains_valid : All (λ d. IsValid d) domains
  pub boxes_within : AreBoxesWithin domains boxes

-- the row has nothing to say: its sum is within the bound, also where a variable is set to any
-- value of its box
pub record IsTight (ts : List (ℤ × ℕ)) (boxes : Boxes) (bound : ℤ) : Type 0 where
  pub least : least_sum ts boxes ≤ℤ bound
  pub spread : (least_sum ts boxes +ℤ greatest_spread ts boxes) ≤ℤ bound
