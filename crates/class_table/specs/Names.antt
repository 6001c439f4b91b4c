-- What a name means: classes, enumerations and top-level variables share one space of names, in
-- which the first declaration of a name counts, and each kind is numbered from 0 in order of
-- declaration.
use Rattle.std.specs.Prelude.{ℕ, ◌+◌, List, [], ◌∷◌, Option}
use Rattle.std.specs.List.{flat_map}
use Rattle.std.specs.Map.{lookup}
use Rattle.conf_syntax.specs.declared.token.Ident.{Ident}
use Rattle.conf_syntax.specs.declared.tree.ClassDecl.{ClassDecl}
use Rattle.conf_syntax.specs.declared.tree.EnumDecl.{EnumDecl}
use Rattle.conf_syntax.specs.declared.tree.Item.{Item}
use Rattle.conf_syntax.specs.declared.tree.Item.TheVariants as item
use Rattle.conf_syntax.specs.declared.tree.Member.{Member}
use Rattle.conf_syntax.specs.declared.tree.Member.TheVariants as member
use Rattle.conf_syntax.specs.declared.tree.VarDecl.{VarDecl}
pub use Rattle.class_table.specs.Same.{same_name}
use Rattle.class_table.specs.declared.names.NameMeaning.{NameMeaning}
use Rattle.class_table.specs.declared.names.NameMeaning.TheVariants as meaning

-- a space of names: what each declared name means, in order of declaration
abbrev pub Space : Type 0
Space = List (List ℕ × NameMeaning)

-- the space of the items, from these numbers of classes, enumerations and variables on
abbrev pub space_from : List Item → ℕ → ℕ → ℕ → Space
space_from [] c e v = []
space_from (item.Class d ∷ is) c e v = (d.name.name, meaning.Class c) ∷ space_from is (c + 1) e v
space_from (item.Enum d ∷ is) c e v =
    (d.name.name, meaning.Enumeration e) ∷ space_from is c (e + 1) v
space_from (item.Var d ∷ is) c e v = (d.name.name, meaning.Variable v) ∷ space_from is c e (v + 1)
space_from (other ∷ is) c e v = space_from is c e v

abbrev pub space : List Item → Space
space items = space_from items 0 0 0

-- what a name means in a space: its first declaration counts
abbrev pub means : Space → List ℕ → Option NameMeaning
means names w = lookup (same_name w) names

-- The declarations of each kind, in order

abbrev pub item_class : Item → List ClassDecl
item_class (item.Class d) = d ∷ []
item_class other = []

abbrev pub item_enumeration : Item → List EnumDecl
item_enumeration (item.Enum d) = d ∷ []
item_enumeration other = []

abbrev pub item_root : Item → List VarDecl
item_root (item.Var d) = d ∷ []
item_root other = []

abbrev pub classes : List Item → List ClassDecl
classes items = flat_map item_class items

abbrev pub enumerations : List Item → List EnumDecl
enumerations items = flat_map item_enumeration items

abbrev pub roots : List Item → List VarDecl
roots items = flat_map item_root items

-- the variable that a member declares
abbrev pub member_variable : Member → List VarDecl
member_variable (member.Var v) = v ∷ []
member_variable (member.Where w) = []

-- a class's own attributes
abbrev pub own : ClassDecl → List VarDecl
own d = flat_map member_variable d.members

-- the name that an item declares in the one space
abbrev pub item_name : Item → List Ident
item_name (item.Class d) = d.name ∷ []
item_name (item.Enum d) = d.name ∷ []
item_name (item.Var d) = d.name ∷ []
item_name other = []

abbrev pub declared : List Item → List Ident
declared items = flat_map item_name items
