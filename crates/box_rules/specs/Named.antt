-- Which variables have boxes, said for each kind of the lists that hold them; and which have the
-- same boxes twice.
use Rattle.std.specs.Prelude.{◌≡◌, ℕ, ◌<◌, List, [], ◌∷◌, ℤ, length}
use Rattle.std.specs.List.{All}
use Rattle.signed_clause.specs.Clauses.{Boxes, box_of}
use Rattle.ground_form.specs.declared.con.Con.{Con}
use Rattle.ground_form.specs.declared.con.Con.TheVariants.{LinLe, LinDef, ReifLe, AndDef, MemberDef, EqDef, ElementDef, CondDef, ClauseCon, AllDiff, Pack}

-- the item's variables of bin, size and room have boxes
pub record IsItemNamed (i : ℕ × ℕ × ℕ) (boxes : Boxes) : Type 0 where
  pub bin : i.0 < length boxes
  pub size : i.1 < length boxes
  pub room : i.2 < length boxes

abbrev pub AreItemsNamed : List (ℕ × ℕ × ℕ) → Boxes → Type 0
AreItemsNamed items boxes = All (λ i. IsItemNamed i boxes) items

abbrev pub AreTermsNamed : List (ℤ × ℕ) → Boxes → Type 0
AreTermsNamed terms boxes = All (λ t. t.1 < length boxes) terms

-- each variable that the constraint names has a box
abbrev pub IsNamed : Con → Boxes → Type 0
IsNamed (LinLe terms bound) boxes = AreTermsNamed terms boxes
IsNamed (LinDef out terms offset) boxes = (out < length boxes) × AreTermsNamed terms boxes
IsNamed (ReifLe flag terms bound) boxes = (flag < length boxes) × AreTermsNamed terms boxes
IsNamed (AndDef flag parts) boxes = (flag < length boxes) × All (λ p. p.0 < length boxes) parts
IsNamed (MemberDef flag var set) boxes = (flag < length boxes) × (var < length boxes)
IsNamed (EqDef flag left right) boxes =
    (flag < length boxes) × (left < length boxes) × (right < length boxes)
IsNamed (ElementDef out index items) boxes =
    (out < length boxes) × (index < length boxes) × AreTermsNamed items boxes
IsNamed (CondDef out flag item) boxes =
    (out < length boxes) × (flag < length boxes) × (item < length boxes)
IsNamed (ClauseCon clause) boxes = All (λ l. l.0 < length boxes) clause
IsNamed (AllDiff vars) boxes = All (λ x. x < length boxes) vars
IsNamed (Pack items) boxes = AreItemsNamed items boxes

-- the variables of the list have the same boxes in both
abbrev pub Agree : Boxes → Boxes → List ℕ → Type 0
Agree a b [] = Unit {0}
Agree a b (x ∷ xs) = (box_of a x ≡ box_of b x) × Agree a b xs
