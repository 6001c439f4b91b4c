-- Paths down the classes. A path begins at some class and goes on to one that derives from it, and
-- so on. The attributes of a class on it are those that its first class inherits, and then the
-- first so many of the path's own.
use Rattle.std.specs.Prelude.{◌≡◌, ℕ, ◌<◌, ◌≤◌, true, List, [], ◌++◌, Option, None, Some, length, map, slice_get, slice_index_or}
use Rattle.class_table.specs.declared.paths.Path.{Path}
use Rattle.class_table.specs.declared.paths.Spot.{Spot}
use Rattle.class_table.specs.declared.table.Class.{Class}
use Rattle.class_table.specs.declared.table.Variable.{Variable}
use Rattle.graph_walk.specs.declared.walk.State.{State}
use Rattle.graph_walk.specs.Cycles.{rank}
use Rattle.class_table.specs.Outline.{parent_in, own_in, attributes, variable_name}
use Rattle.class_table.specs.Tables.{all_differ}

-- the attribute that stands at a spot
abbrev pub variable_at : List Class → Spot → Option Variable
variable_at cs s = slice_get (own_in cs s.class) s.own

-- what a class inherits whose parent this is
abbrev pub inherited : List Class → Option ℕ → List Variable
inherited cs None = []
inherited cs (Some p) = attributes cs p

abbrev pub names_in : List Variable → List (List ℕ)
names_in vs = map variable_name vs

-- the parent of the path's first class is there, and stands before class c
abbrev pub IsAbove : List Class → List State → Option ℕ → ℕ → Type 0
IsAbove cs order above c =
    (p : ℕ) → above ≡ Some p → (p < length cs) × (rank order p < rank order c)

-- the names of all attributes along the path differ
pub record IsPath (cs : List Class) (path : Path) : Type 0 where
  pub from : path.from ≡ length (inherited cs path.above)
  pub differ : all_differ (names_in (inherited cs path.above) ++ path.names) [] ≡ true

-- what class c inherits is all that stands along the path
pub record IsEnd (cs : List Class) (order : List State) (path : Path) (c : ℕ) : Type 0 where
  pub path_is : IsPath cs path
  pub above : IsAbove cs order path.above c
  pub names : names_in (inherited cs (parent_in cs c))
      ≡ names_in (inherited cs path.above) ++ path.names
  pub spots : map Some (inherited cs (parent_in cs c))
      ≡ map Some (inherited cs path.above) ++ map (variable_at cs) path.spots.items

-- class c is on the path: some attributes may stand behind its own
pub record IsOn (cs : List Class) (order : List State) (path : Path) (c : ℕ) : Type 0 where
  pub path_is : IsPath cs path
  pub above : IsAbove cs order path.above c
  pub long : length (inherited cs path.above) ≤ length (attributes cs c)
  pub names_behind : List (List ℕ)
  pub names : names_in (attributes cs c) ++ names_behind
      ≡ names_in (inherited cs path.above) ++ path.names
  pub spots_behind : List (Option Variable)
  pub spots : map Some (attributes cs c) ++ spots_behind
      ≡ map Some (inherited cs path.above) ++ map (variable_at cs) path.spots.items

-- the number of a class's path, where it has one
abbrev pub path_of : List (Option ℕ) → ℕ → Option ℕ
path_of on c = slice_index_or on c None

-- each class that has a path is on it
pub record ArePaths (cs : List Class) (order : List State) (paths : List Path) (on : List (Option ℕ)) : Type 0 where
  pub size : length on ≡ length cs
  pub each : (c q : ℕ) → c < length cs → path_of on c ≡ Some q → (q < length paths)
      × ((d : Path) → IsOn cs order (slice_index_or paths q d) c)

-- each class has one
abbrev pub HavePaths : List Class → List (Option ℕ) → Type 0
HavePaths cs on = (c : ℕ) → c < length cs → path_of on c ≡ None → ⊥
