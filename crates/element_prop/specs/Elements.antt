-- What is found of an element in the boxes. What a reader believes after this file: which clauses
-- an element has to state there, where its variables are different, and when it has nothing to
-- state.
use Rattle.std.specs.Prelude.{◌≡◌, ℕ, suc, ◌≤◌, Bool, true, false, not, ◌&&◌, ◌||◌, cond, ◌==◌, List, [], ◌∷◌, ℤ, ◌⊎◌}
use Rattle.signed_clause.specs.Ranges.{Ranges, has, count_of}
use Rattle.signed_clause.specs.SetAlgebra.{is_disjoint, is_within, less}
use Rattle.signed_clause.specs.Clauses.{Boxes, Literals, box_of}
use Rattle.box_rules.specs.Refuted.{fixed_at}
use Rattle.box_rules.specs.Quiet.{probed}
use Rattle.element_prop.specs.declared.element.Further.{Further}
use Rattle.element_prop.specs.declared.element.Further.TheVariants.{Idle, Unoffered, OutOfSet}

-- the index can be the value though the boxes have no common value, or is it though the one box
-- isn't inside the other
abbrev pub HasToPick : Ranges → ℤ → Ranges → Ranges → Type 0
HasToPick index v box other =
    ((has index v ≡ true) × (is_disjoint box other ≡ true))
    ⊎ ((fixed_at index v ≡ true) × (is_within box other ≡ false))

-- what the clause leaves that says that the index has no value of the set, or a has a value that
-- b's box has, or b is outside its box
abbrev pub pick_plan : Boxes → Boxes → ℕ → Ranges → ℕ → ℕ → Literals
pick_plan domains boxes x s a b =
    (x, s) ∷ (a, less (box_of domains a) (box_of boxes b)) ∷ (b, box_of boxes b) ∷ []

-- ---- values of the index

-- the set without the value
abbrev pub without_one : ℤ → Ranges → Ranges
without_one v s = cond (has s v) (less s ((v, v) ∷ [])) s

-- the set without the items' values
abbrev pub without_items : List (ℤ × ℕ) → Ranges → Ranges
without_items [] s = s
without_items (t ∷ ts) s = without_items ts (without_one t.0 s)

-- what the clause leaves that says that the index is an item's value: of the index what no item has
abbrev pub index_plan : Boxes → ℕ → List (ℤ × ℕ) → Literals
index_plan domains x items = (x, without_items items (box_of domains x)) ∷ []

-- ---- values of out

-- the set without the values of each item whose value the index can have
abbrev pub without_boxes : List (ℤ × ℕ) → Ranges → Boxes → Ranges → Ranges
without_boxes [] index boxes s = s
without_boxes (t ∷ ts) index boxes s =
    without_boxes ts index boxes (cond (has index t.0) (less s (box_of boxes t.1)) s)

-- of each such item what its domain has outside the set
abbrev pub items_plan : List (ℤ × ℕ) → Ranges → Boxes → Ranges → Literals
items_plan [] index domains s = []
items_plan (t ∷ ts) index domains s =
    cond (has index t.0) ((t.1, less (box_of domains t.1) s) ∷ items_plan ts index domains s)
    (items_plan ts index domains s)

-- what the clause leaves that says that out has no value of the set, or the index is outside its
-- box, or such an item has a value of the set
abbrev pub out_plan : List (ℤ × ℕ) → Boxes → Boxes → ℕ → ℕ → Ranges → Literals
out_plan items domains boxes o x s =
    (o, s) ∷ (x, box_of boxes x) ∷ items_plan items (box_of boxes x) domains s

-- the box of one of them has the value
abbrev pub some_offers : List (ℤ × ℕ) → ℤ → Ranges → Boxes → Bool
some_offers [] v index boxes = false
some_offers (t ∷ ts) v index boxes =
    (has index t.0 && has (box_of boxes t.1) v) || some_offers ts v index boxes

-- each value of the list is in the box of one of them
abbrev pub all_offered : List ℤ → List (ℤ × ℕ) → Ranges → Boxes → Bool
all_offered [] items index boxes = true
all_offered (v ∷ vs) items index boxes =
    some_offers items v index boxes && all_offered vs items index boxes

-- ---- an element that has nothing to say

-- how many items' values the index can be
abbrev pub count_possible : List (ℤ × ℕ) → Ranges → ℕ
count_possible [] index = 0
count_possible (t ∷ ts) index =
    cond (has index t.0) (suc (count_possible ts index)) (count_possible ts index)

-- each item whose value the index can be can be out
abbrev pub all_meet : List (ℤ × ℕ) → Ranges → Ranges → Boxes → Bool
all_meet [] out index boxes = true
all_meet (t ∷ ts) out index boxes =
    (not (has index t.0) || not (is_disjoint (box_of boxes t.1) out)) && all_meet ts out index boxes

-- the box of one of them has all of out's
abbrev pub some_covers : List (ℤ × ℕ) → Ranges → Ranges → Boxes → Bool
some_covers [] out index boxes = false
some_covers (t ∷ ts) out index boxes =
    (has index t.0 && is_within out (box_of boxes t.1)) || some_covers ts out index boxes

-- an item with the variable can be picked
abbrev pub some_with : List (ℤ × ℕ) → ℕ → Ranges → Ranges → Boxes → Bool
some_with [] x out index boxes = false
some_with (t ∷ ts) x out index boxes =
    (t.1 == x && (has index t.0 && not (is_disjoint (box_of boxes t.1) out)))
    || some_with ts x out index boxes

-- an item with another variable can
abbrev pub some_other : List (ℤ × ℕ) → ℕ → Ranges → Ranges → Boxes → Bool
some_other [] x out index boxes = false
some_other (t ∷ ts) x out index boxes =
    (not (t.1 == x) && (has index t.0 && not (is_disjoint (box_of boxes t.1) out)))
    || some_other ts x out index boxes

-- the variable is that of no item whose value the index can be
abbrev pub lacks_var : ℕ → List (ℤ × ℕ) → Ranges → Bool
lacks_var y [] index = true
lacks_var y (t ∷ ts) index = (not (has index t.0) || not (t.1 == y)) && lacks_var y ts index

-- out, the index and the variables of the items that can be picked are different, these last not
-- from each other
pub record AreHeadsDifferent (o x : ℕ) (items : List (ℤ × ℕ)) (index : Ranges) : Type 0 where
  pub differ : o ≡ x → ⊥
  pub out_different : lacks_var o items index ≡ true
  pub index_different : lacks_var x items index ≡ true

-- the variables are different, each value of the index is an item's and that item can be out, each
-- value of out that is probed is offered, and two items of different variables can be picked, or of
-- the variable of one that can be picked no value is outside out's box
pub record IsIdle (items : List (ℤ × ℕ)) (o x : ℕ) (boxes : Boxes) : Type 0 where
  pub different : AreHeadsDifferent o x items (box_of boxes x)
  pub met : all_meet items (box_of boxes o) (box_of boxes x) boxes ≡ true
  pub full : count_of (box_of boxes x) ≤ count_possible items (box_of boxes x)
  pub offered : all_offered (probed (box_of boxes o)) items (box_of boxes x) boxes ≡ true
  pub var : ℕ
  pub one : some_with items var (box_of boxes o) (box_of boxes x) boxes ≡ true
  pub free : (some_other items var (box_of boxes o) (box_of boxes x) boxes ≡ true)
      ⊎ (is_within (box_of boxes var) (box_of boxes o) ≡ true)

-- what is found of an element of which no single item tells anything
abbrev pub IsFurther : List (ℤ × ℕ) → ℕ → ℕ → Boxes → Further → Type 0
IsFurther items o x boxes Idle = IsIdle items o x boxes
IsFurther items o x boxes (Unoffered v) =
    (has (box_of boxes o) v.value ≡ true) × (some_offers items v.value (box_of boxes x) boxes
    ≡ false)
IsFurther items o x boxes (OutOfSet y) =
    (some_with items y (box_of boxes o) (box_of boxes x) boxes ≡ true)
    × (some_other items y (box_of boxes o) (box_of boxes x) boxes ≡ false)
    × (is_within (box_of boxes y) (box_of boxes o) ≡ false)
