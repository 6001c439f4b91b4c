-- A clause is a disjunction of literals, each a variable and a set. What a reader believes after
-- this file: when a clause is true at values and false or unit in boxes, and which clause is the
-- resolvent of two.
use Rattle.std.specs.Prelude.{◌≡◌, ◌≢◌, ℕ, suc, ◌<◌, ◌≤◌, Bool, true, false, not, ◌&&◌, ◌||◌, cond, List, [], ◌∷◌, ℤ, pos, Option, Some, None, length, slice_index_or, nat_le, nat_lt, ◌==◌}
use Rattle.std.specs.List.{All}
use Rattle.signed_clause.specs.Ranges.{Ranges, has, IsValid, is_nil}
use Rattle.signed_clause.specs.SetAlgebra.{is_disjoint, is_within, meet, join}

-- a variable and a set
abbrev pub Literal : Type 0
Literal = ℕ × List (ℤ × ℤ)

abbrev pub Literals : Type 0
Literals = List (ℕ × List (ℤ × ℤ))

-- one set for each variable
abbrev pub Boxes : Type 0
Boxes = List (List (ℤ × ℤ))

-- the variables ascend from n on, and no set is empty
abbrev pub clause_from : ℕ → Literals → Bool
clause_from n [] = true
clause_from n (l ∷ ls) = nat_le n l.0 && (not (is_nil l.1) && clause_from (suc l.0) ls)

-- the literals are those of a clause
abbrev pub is_clause : Literals → Bool
is_clause ls = clause_from 0 ls

-- the variables ascend from n on, and the sets are valid and not empty
abbrev pub IsClauseFrom : ℕ → Literals → Type 0
IsClauseFrom n [] = Unit {0}
IsClauseFrom n (l ∷ ls) = (n ≤ l.0) × (is_nil l.1 ≡ false) × IsValid l.1 × IsClauseFrom (suc l.0) ls

-- what every clause keeps
abbrev pub IsClause : Literals → Type 0
IsClause ls = IsClauseFrom 0 ls

-- ---- variables

-- what a clause says of a variable: its set, or the empty one where no literal has the variable
abbrev pub set_of : Literals → ℕ → Ranges
set_of [] x = []
set_of (l ∷ ls) x = cond (l.0 == x) l.1 (set_of ls x)

-- some literal has the variable
abbrev pub has_var : Literals → ℕ → Bool
has_var [] x = false
has_var (l ∷ ls) x = l.0 == x || has_var ls x

-- ---- at values

-- some literal's set holds the value of its variable
abbrev pub clause_true : Literals → List ℤ → Bool
clause_true [] a = false
clause_true (l ∷ ls) a = has l.1 (slice_index_or a l.0 (pos 0)) || clause_true ls a

-- ---- in boxes

-- the box of a variable
abbrev pub box_of : Boxes → ℕ → Ranges
box_of boxes x = slice_index_or boxes x []

-- each set is valid
abbrev pub AreValid : Boxes → Type 0
AreValid sets = (x : ℕ) → IsValid (box_of sets x)

-- each variable has a box
abbrev pub IsWithinBoxes : Literals → Boxes → Type 0
IsWithinBoxes ls boxes = All (λ l. l.0 < length boxes) ls

-- every set misses its box
abbrev pub false_in : Boxes → Literals → Bool
false_in boxes [] = true
false_in boxes (l ∷ ls) = is_disjoint l.1 (box_of boxes l.0) && false_in boxes ls

-- what a literal that meets its box leaves of it, where those behind it all miss and something is
-- taken away
abbrev pub alone_of : Boxes → ℕ × List (ℤ × ℤ) → Literals → Option (ℕ × List (ℤ × ℤ))
alone_of boxes l ls =
    cond (false_in boxes ls && not (is_within (box_of boxes l.0) l.1))
    (Some (l.0, meet l.1 (box_of boxes l.0))) None

-- the one literal that meets its box, where the box isn't within its set: its variable, and what is
-- left of the box
abbrev pub unit_of : Boxes → Literals → Option (ℕ × List (ℤ × ℤ))
unit_of boxes [] = None
unit_of boxes (l ∷ ls) =
    cond (is_disjoint l.1 (box_of boxes l.0)) (unit_of boxes ls) (alone_of boxes l ls)

-- ---- resolution

-- what two literals of one variable leave: of x the meet, and nothing where that is empty; of
-- another variable the join
abbrev pub both_literals : ℕ → ℕ × List (ℤ × ℤ) → Ranges → Literals → Literals
both_literals x l s rest =
    cond (l.0 == x) (cond (is_nil (meet l.1 s)) rest ((l.0, meet l.1 s) ∷ rest))
    ((l.0, join l.1 s) ∷ rest)

-- the resolvent of `l ∷ a` and the clause, where `rest` resolves a with what is left of it
abbrev pub resolve_from : ℕ → (Literals → Literals) → ℕ × List (ℤ × ℤ) → Literals → Literals
resolve_from x rest l [] = l ∷ rest []
resolve_from x rest l (m ∷ b) =
    cond (nat_lt l.0 m.0) (l ∷ rest (m ∷ b))
    (cond (nat_lt m.0 l.0) (m ∷ resolve_from x rest l b) (both_literals x l m.1 (rest b)))

-- the resolvent of two clauses on x
abbrev pub resolvent : ℕ → Literals → Literals → Literals
resolvent x [] b = b
resolvent x (l ∷ a) b = resolve_from x (resolvent x a) l b

-- c says of x what both a and b say, and of any other variable what either says; and it is true
-- wherever both are. Of clauses this leaves one c: their sets are not empty, so each set tells
-- whether the literal is there.
pub record IsResolvent (x : ℕ) (a b c : Literals) : Type 0 where
  pub pivot : set_of c x ≡ meet (set_of a x) (set_of b x)
  pub others : (y : ℕ) → y ≢ x → set_of c y ≡ join (set_of a y) (set_of b y)
  pub follows : (values : List ℤ) → clause_true a values ≡ true → clause_true b values ≡ true
      → clause_true c values ≡ true
