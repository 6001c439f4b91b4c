-- What constraints mean. What a reader believes after this file: at which values of the variables a
-- constraint of each kind
-- is true, and which variables it names.
use Rattle.std.specs.Prelude.{ℕ, Bool, true, false, not, ◌&&◌, ◌||◌, cond, List, [], ◌∷◌, ℤ, pos, ◌+ℤ◌, ◌*ℤ◌, slice_index_or, int_le}
use Rattle.std.specs.Ordering.{int_eq}
use Rattle.signed_clause.specs.Ranges.{has}
use Rattle.signed_clause.specs.Clauses.{Literals, clause_true}
use Rattle.ground_form.specs.declared.con.Con.{Con}
use Rattle.ground_form.specs.declared.con.Con.TheVariants.{LinLe, LinDef, ReifLe, AndDef, MemberDef, EqDef, ElementDef, CondDef, ClauseCon, AllDiff, Pack}

-- the value of a variable
abbrev pub value_of : List ℤ → ℕ → ℤ
value_of a x = slice_index_or a x (pos 0)

-- the value that stands for a truth
abbrev pub bit : Bool → ℤ
bit b = cond b (pos 1) (pos 0)

-- coefficient times value, added up
abbrev pub sum_at : List (ℤ × ℕ) → List ℤ → ℤ
sum_at [] a = pos 0
sum_at (t ∷ ts) a = (t.0 *ℤ value_of a t.1) +ℤ sum_at ts a

-- each part has the truth that it wants
abbrev pub parts_true : List (ℕ × Bool) → List ℤ → Bool
parts_true [] a = true
parts_true (p ∷ ps) a = int_eq (value_of a p.0) (bit p.1) && parts_true ps a

-- some item's value is that of the index, and its variable has the value of out
abbrev pub picks : ℤ → ℤ → List (ℤ × ℕ) → List ℤ → Bool
picks out index [] a = false
picks out index (t ∷ ts) a =
    (int_eq t.0 index && int_eq (value_of a t.1) out) || picks out index ts a

-- none of the variables has the value
abbrev pub lacks : ℤ → List ℕ → List ℤ → Bool
lacks v [] a = true
lacks v (x ∷ xs) a = not (int_eq (value_of a x) v) && lacks v xs a

-- the values at different places of the list differ
abbrev pub all_differ : List ℕ → List ℤ → Bool
all_differ [] a = true
all_differ (x ∷ xs) a = lacks (value_of a x) xs a && all_differ xs a

-- the sizes of the items at the place, added up
abbrev pub load_at : ℤ → List (ℕ × ℕ × ℕ) → List ℤ → ℤ
load_at place [] a = pos 0
load_at place (i ∷ rest) a =
    cond (int_eq (value_of a i.0) place) (value_of a i.1 +ℤ load_at place rest a)
    (load_at place rest a)

-- of each item of the second list, the load of its place is at most its room
abbrev pub rooms_hold : List (ℕ × ℕ × ℕ) → List (ℕ × ℕ × ℕ) → List ℤ → Bool
rooms_hold items [] a = true
rooms_hold items (i ∷ rest) a =
    int_le (load_at (value_of a i.0) items a) (value_of a i.2) && rooms_hold items rest a

-- the constraint is true at the values
abbrev pub con_true : Con → List ℤ → Bool
con_true (LinLe terms bound) a = int_le (sum_at terms a) bound
con_true (LinDef out terms offset) a = int_eq (value_of a out) (sum_at terms a +ℤ offset)
con_true (ReifLe flag terms bound) a =
    int_eq (value_of a flag) (bit (int_le (sum_at terms a) bound))
con_true (AndDef flag parts) a = int_eq (value_of a flag) (bit (parts_true parts a))
con_true (MemberDef flag var set) a = int_eq (value_of a flag) (bit (has set (value_of a var)))
con_true (EqDef flag left right) a =
    int_eq (value_of a flag) (bit (int_eq (value_of a left) (value_of a right)))
con_true (ElementDef out index items) a = picks (value_of a out) (value_of a index) items a
con_true (CondDef out flag item) a =
    (int_eq (value_of a flag) (pos 1) && int_eq (value_of a out) (value_of a item))
    || (int_eq (value_of a flag) (pos 0) && int_eq (value_of a out) (pos 0))
con_true (ClauseCon clause) a = clause_true clause a
con_true (AllDiff vars) a = all_differ vars a
con_true (Pack items) a = rooms_hold items items a

-- ---- the variables that a constraint names

abbrev pub term_vars : List (ℤ × ℕ) → List ℕ
term_vars [] = []
term_vars (t ∷ ts) = t.1 ∷ term_vars ts

abbrev pub part_vars : List (ℕ × Bool) → List ℕ
part_vars [] = []
part_vars (p ∷ ps) = p.0 ∷ part_vars ps

abbrev pub clause_vars : Literals → List ℕ
clause_vars [] = []
clause_vars (l ∷ ls) = l.0 ∷ clause_vars ls

abbrev pub item_vars : List (ℕ × ℕ × ℕ) → List ℕ
item_vars [] = []
item_vars (i ∷ rest) = i.0 ∷ i.1 ∷ i.2 ∷ item_vars rest

abbrev pub vars_of : Con → List ℕ
vars_of (LinLe terms bound) = term_vars terms
vars_of (LinDef out terms offset) = out ∷ term_vars terms
vars_of (ReifLe flag terms bound) = flag ∷ term_vars terms
vars_of (AndDef flag parts) = flag ∷ part_vars parts
vars_of (MemberDef flag var set) = flag ∷ var ∷ []
vars_of (EqDef flag left right) = flag ∷ left ∷ right ∷ []
vars_of (ElementDef out index items) = out ∷ index ∷ term_vars items
vars_of (CondDef out flag item) = out ∷ flag ∷ item ∷ []
vars_of (ClauseCon clause) = clause_vars clause
vars_of (AllDiff vars) = vars
vars_of (Pack items) = item_vars items
