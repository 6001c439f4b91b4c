-- A walk from classes down to those that derive from them, with the names of the attributes of the
-- class where it stands.
use Rattle.std.specs.Prelude.{◌≡◌, ℕ, ◌+◌, ◌^◌, ◌<◌, List, [], ◌∷◌, ◌++◌, None, Some, length, map, slice_get, slice_index, Contains}
use Rattle.std.specs.List.{flat_map}
use Rattle.std.specs.Option.{option_map_or}
use Rattle.conf_syntax.specs.declared.tree.ClassDecl.{ClassDecl}
use Rattle.conf_syntax.specs.declared.tree.VarDecl.{VarDecl}
use Rattle.class_table.specs.declared.fault.TableFault.{TableFault}
use Rattle.class_table.specs.declared.fault.TableFault.TheVariants.{Duplicate}
use Rattle.class_table.specs.declared.table.Class.{Class}
use Rattle.graph_walk.specs.declared.walk.State.{State}
use Rattle.graph_walk.specs.declared.walk.State.TheVariants.{New, Open, Done}
use Rattle.class_table.specs.Ancestry.{attributes_within}
pub use Rattle.graph_walk.specs.Children.{Falls}
use Rattle.graph_walk.specs.Children.{IsChildren}
use Rattle.class_table.specs.Faults.{repeated, variable_ident}
use Rattle.class_table.specs.Names.{own}
use Rattle.class_table.specs.Outline.{parent_in, value_name}
use Rattle.graph_walk.specs.Walk.{Graph, state_at, IsNew}

-- each parent is a class
abbrev pub HasParents : List Class → Type 0
HasParents cs = (c q : ℕ) → parent_in cs c ≡ Some q → q < length cs

-- there are ranks, less than the number of classes, that fall from each class to its parent
pub record HasRanks (cs : List Class) : Type 0 where
  pub rank : ℕ → ℕ
  pub falls : Falls (parent_in cs) rank
  pub below : (c : ℕ) → c < length cs → rank c < length cs

-- each of the first n classes that has no parent was reached
abbrev pub RootsReached : List Class → ℕ → List State → Type 0
RootsReached cs n states = (c : ℕ) → c < n → parent_in cs c ≡ None → IsNew (state_at states c) → ⊥

abbrev pub own_at : List ClassDecl → ℕ → List VarDecl
own_at ds c = option_map_or own (slice_get ds c) []

-- the attributes of a class
abbrev pub attributes_at : List Class → List ClassDecl → ℕ → List VarDecl
attributes_at cs ds c = attributes_within (parent_in cs) (own_at ds) (length ds) (length ds) c

abbrev pub names_of : List VarDecl → List (List ℕ)
names_of vs = map value_name (map variable_ident vs)

-- the attributes of c have different names
abbrev pub Differ : List Class → List ClassDecl → ℕ → Type 0
Differ cs ds c = repeated (map variable_ident (attributes_at cs ds c)) [] ≡ []

-- an attribute of some class has the name of one before it
abbrev pub IsRepeated : List Class → List ClassDecl → TableFault → Type 0
IsRepeated cs ds f =
    (c at : ℕ) × (c < length ds) × (f ≡ Duplicate at)
    × Contains (repeated (map variable_ident (attributes_at cs ds c)) []) at

-- how many attributes the open classes declare
abbrev pub open_weight : State → ℕ → ℕ
open_weight (New l) n = 0
open_weight (Open l) n = n
open_weight (Done t) n = 0

abbrev pub open_own : List State → List ClassDecl → ℕ
open_own [] ds = 0
open_own (s ∷ ss) [] = 0
open_own (s ∷ ss) (d ∷ ds) = open_weight s (length (own d)) + open_own ss ds

pub record IsScope (cs : List Class) (ds : List ClassDecl) (states : List State) (path : List ℕ) (names : List (List ℕ)) (counts : List ℕ) : Type 0 where
  pub top : (q : List ℕ) (c : ℕ) → path ≡ q ++ c ∷ [] → names ≡ names_of (attributes_at cs ds c)
  pub empty : path ≡ [] → names ≡ []
  pub root : 0 < length path → parent_in cs (slice_index path 0) ≡ None
  pub checked : (c : ℕ) → c < length ds → (IsNew (state_at states c) → ⊥) → Differ cs ds c
      × (slice_index counts c ≡ length (attributes_at cs ds c))
  pub size : length counts ≡ length ds
  pub open_names : length names ≡ open_own states ds

-- what a walk down the classes stands on: the resolved classes, their declarations, and the edges
-- from parents down
pub record IsFamily (cs : List Class) (ds : List ClassDecl) (g : Graph) : Type 0 where
  pub size : length cs ≡ length ds
  pub children : IsChildren (parent_in cs) (length cs) (length cs) g
  pub rank : ℕ → ℕ
  pub falls : Falls (parent_in cs) rank
  pub below : (c : ℕ) → c < length ds → rank c < length ds
  pub few : length (flat_map own ds) < 2 ^ 32
  pub nodes : length ds < 2 ^ 32
