-- Where each fault of a model's declarations stands.
use Rattle.std.specs.Prelude.{◌≡◌, ℕ, suc, ◌-◌, ◌^◌, ◌<◌, Bool, true, false, not, List, [], ◌∷◌, ◌++◌, Option, None, Some, length, map, slice_get, int_le, Contains}
use Rattle.std.specs.Borrow.{Bor}
use Rattle.std.specs.List.{flat_map, list_any}
use Rattle.std.specs.Option.{option_map_or}
use Rattle.conf_syntax.specs.declared.token.Ident.{Ident}
use Rattle.conf_syntax.specs.declared.tree.ClassDecl.{ClassDecl}
use Rattle.conf_syntax.specs.declared.tree.EnumDecl.{EnumDecl}
use Rattle.conf_syntax.specs.declared.tree.Item.{Item}
use Rattle.conf_syntax.specs.declared.tree.Item.TheVariants as item
use Rattle.conf_syntax.specs.declared.tree.Member.{Member}
use Rattle.conf_syntax.specs.declared.tree.Member.TheVariants as member
use Rattle.conf_syntax.specs.declared.tree.Shape.{Shape}
use Rattle.conf_syntax.specs.declared.tree.Shape.TheVariants as shape
use Rattle.conf_syntax.specs.declared.tree.VarDecl.{VarDecl}
use Rattle.conf_syntax.specs.OnlyIf.{only_if}
use Rattle.class_table.specs.declared.fault.TableFault.{TableFault}
use Rattle.class_table.specs.declared.fault.TableFault.TheVariants.{Duplicate, Unknown, NotAClass, InheritCycle, ContainCycle, AbstractObject, EmptyRange, Memory}
use Rattle.class_table.specs.declared.names.NameMeaning.{NameMeaning}
use Rattle.class_table.specs.declared.names.NameMeaning.TheVariants as meaning
use Rattle.class_table.specs.Ancestry.{attributes_within}
use Rattle.graph_walk.specs.Steps.{StepsBy}
use Rattle.class_table.specs.Names.{Space, space, means, same_name, classes, enumerations, own, declared}
use Rattle.class_table.specs.Outline.{bound_value, class_of, parent_in, class_meant}

-- Names that must differ: the place of each that stands before, too

abbrev pub repeated : List Ident → List (List ℕ) → List ℕ
repeated [] seen = []
repeated (i ∷ is) seen =
    only_if (list_any (same_name i.name) seen) i.at ++ repeated is (seen ++ i.name ∷ [])

-- an attribute may not have the name of an enumeration or of a class
abbrev pub taken : Ident → Option NameMeaning → List TableFault
taken i (Some (meaning.Variable v)) = []
taken i None = []
taken i other = Duplicate i.at ∷ []

-- Names in shapes and behind `extends`, and ranges

abbrev pub is_abstract : List ClassDecl → ℕ → Bool
is_abstract decls c = option_map_or (λ (d : ClassDecl). d.is_abstract) (slice_get decls c) false

-- the name of a shape `NAME`
abbrev pub named_faults : List ClassDecl → Ident → Option NameMeaning → List TableFault
named_faults decls i None = Unknown i.at ∷ []
named_faults decls i (Some (meaning.Variable v)) = NotAClass i.at ∷ []
named_faults decls i (Some (meaning.Enumeration e)) = []
named_faults decls i (Some (meaning.Class c)) = only_if (is_abstract decls c) (AbstractObject i.at)

-- the name of a shape `NAME[count]`
abbrev pub many_faults : List ClassDecl → Ident → Option NameMeaning → List TableFault
many_faults decls i None = Unknown i.at ∷ []
many_faults decls i (Some (meaning.Class c)) = only_if (is_abstract decls c) (AbstractObject i.at)
many_faults decls i other = NotAClass i.at ∷ []

-- a name behind `ref` or `extends`
abbrev pub class_faults : Ident → Option NameMeaning → List TableFault
class_faults i None = Unknown i.at ∷ []
class_faults i (Some (meaning.Class c)) = []
class_faults i other = NotAClass i.at ∷ []

-- a range whose least value is above its greatest
abbrev pub shape_faults : Space → List ClassDecl → Shape → List TableFault
shape_faults names decls (shape.Range low high) =
    only_if (not (int_le (bound_value low) (bound_value high))) (EmptyRange low.at)
shape_faults names decls shape.Int = []
shape_faults names decls shape.Bool = []
shape_faults names decls (shape.Named i) = named_faults decls i (means names i.name)
shape_faults names decls (shape.Many i n) = many_faults decls i (means names i.name)
shape_faults names decls (shape.Ref i) = class_faults i (means names i.name)
shape_faults names decls (shape.RefSet i n) = class_faults i (means names i.name)

abbrev pub parent_faults : Space → Option Ident → List TableFault
parent_faults names parent = option_map_or (λ i. class_faults i (means names i.name)) parent []

abbrev pub member_faults : Space → List ClassDecl → Member → List TableFault
member_faults names decls (member.Var v) =
    taken v.name (means names v.name.name) ++ shape_faults names decls v.shape
member_faults names decls (member.Where w) = []

-- the faults that stand at the names and ranges within one item
abbrev pub item_faults : Space → List ClassDecl → Item → List TableFault
item_faults names decls (item.Enum d) = map Duplicate (repeated d.values [])
item_faults names decls (item.Class d) =
    parent_faults names d.parent ++ flat_map (member_faults names decls) d.members
item_faults names decls (item.Var v) = shape_faults names decls v.shape
item_faults names decls (item.Where w) = []
item_faults names decls (item.Goal g) = []

-- Derivation, attributes and containment in a program

abbrev pub parent_of : List Item → ℕ → Option ℕ
parent_of items = parent_in (map (class_of (space items)) (classes items))

-- the class's own attributes, by its number
abbrev pub own_of : List Item → ℕ → List VarDecl
own_of items c = option_map_or own (slice_get (classes items) c) []

abbrev pub class_count : List Item → ℕ
class_count items = length (classes items)

-- the class's attributes: its parent's and then its own
abbrev pub attributes_of : List Item → ℕ → List VarDecl
attributes_of items c =
    attributes_within (parent_of items) (own_of items) (class_count items) (class_count items) c

abbrev pub variable_ident : VarDecl → Ident
variable_ident v = v.name

-- the name in a shape `NAME` or `NAME[count]`
abbrev pub contained_name : Shape → Option Ident
contained_name (shape.Named i) = Some i
contained_name (shape.Many i n) = Some i
contained_name other = None

-- the attribute holds objects of class d, whose name stands at this place
pub record Holds (items : List Item) (v : VarDecl) (d at : ℕ) : Type 0 where
  pub ident : Ident
  pub name : contained_name v.shape ≡ Some ident
  pub class : class_meant (means (space items) ident.name) ≡ Some d
  pub place : ident.at ≡ at

-- an object of class c contains one of class d: an attribute of c, inherited ones too, holds
-- objects of class d
pub record ContainsOne (items : List Item) (c d : ℕ) : Type 0 where
  pub attribute : VarDecl
  pub at : ℕ
  pub has : Contains (attributes_of items c) attribute
  pub holds : Holds items attribute d at

-- class d is the parent of class c
abbrev pub IsParent : List Item → ℕ → ℕ → Type 0
IsParent items c d = parent_of items c ≡ Some d

-- The faults

pub data Stands : List Item → TableFault → Type 0 where
  -- two declarations of one name
  name_repeated : {items : List Item} {at : ℕ} → Contains (repeated (declared items) []) at
      → Stands items (Duplicate at)
  -- a fault at a name or range within an item
  within_item : {items : List Item} {fault : TableFault}
      → Contains (flat_map (item_faults (space items) (classes items)) items) fault
      → Stands items fault
  -- two attributes of one name in a class
  attribute_repeated : {items : List Item} {at : ℕ} (c : ℕ) → c < class_count items
      → Contains (repeated (map variable_ident (attributes_of items c)) []) at
      → Stands items (Duplicate at)
  -- the parent of a class that derives from itself: so many parents on, the class stands again
  derives_itself : {items : List Item} (c k : ℕ) (d : ClassDecl) (i : Ident)
      → slice_get (classes items) c ≡ Some d → d.parent ≡ Some i → StepsBy (IsParent items) (suc k)
      c c → Stands items (InheritCycle i.at)
  -- an attribute, inherited or not, that makes an object of class c contain an object of class c
  contains_itself : {items : List Item} {at : ℕ} (c d n : ℕ) (v : VarDecl)
      → Contains (attributes_of items c) v → Holds items v d at → StepsBy (ContainsOne items) n d c
      → Stands items (ContainCycle at)

-- P holds of a fault that is told; want of memory has no cause
abbrev pub OnFault : TableFault → (TableFault → Type 0) → Type 0
OnFault Memory P = Unit {0}
OnFault fault P = P fault

-- each class that a name means is one of the n classes
abbrev pub IsNumbered : Space → ℕ → Type 0
IsNumbered names n = (w : List ℕ) (c : ℕ) → means names w ≡ Some (meaning.Class c) → c < n

-- the declarations that references point to
abbrev pub pointed : List (Bor ClassDecl) → List ClassDecl
pointed decls = map (λ (decl : Bor ClassDecl). decl.now) decls

-- no fault stands in how classes derive, in their attributes' names, or in what they contain
pub record HaveNoFault (items : List Item) : Type 0 where
  pub derivation : (k c : ℕ) → StepsBy (IsParent items) (suc k) c c → ⊥
  pub attributes : (c : ℕ) → c < class_count items
      → repeated (map variable_ident (attributes_of items c)) [] ≡ []
  pub containment : (c d n at : ℕ) (v : VarDecl) → Contains (attributes_of items c) v
      → Holds items v d at → StepsBy (ContainsOne items) n d c → ⊥

-- the numbers of items, of attributes and of each enumeration's values fit 32 bits
pub record IsSmall (items : List Item) : Type 0 where
  pub items_few : length items < 2 ^ 32 - 1
  pub attributes_few : length (flat_map own (classes items)) < 2 ^ 32
  pub values_few : (d : EnumDecl) → Contains (enumerations items) d → length d.values < 2 ^ 32
