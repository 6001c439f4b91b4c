-- The parts of a configuration: the paths of its leaves, and of all that they stand in.
use Rattle.std.specs.Prelude.{ℕ, zero, suc, Bool, if◌then◌else◌, List, [], ◌∷◌, ◌++◌, drop, map}
use Rattle.std.specs.Ordering.{is_eq}
use Rattle.view_leaves.specs.Leaves.{PathLeaf}
use Rattle.view_leaves.specs.Paths.{PathStep, Path, step_cmp}

-- how many steps two paths share
abbrev pub shared : Path → Path → ℕ
shared [] q = 0
shared (s ∷ p) [] = 0
shared (s ∷ p) (t ∷ q) = if is_eq (step_cmp s t) then suc (shared p q) else 0

-- the parts on the way along a path: after one step, after two, and so on
abbrev pub ways : Path → List Path
ways [] = []
ways (s ∷ p) = (s ∷ []) ∷ map (λ q. s ∷ q) (ways p)

-- the parts on the ways to these leaves, but for those on the way along the path before
abbrev pub parts_behind : Path → List PathLeaf → List Path
parts_behind before [] = []
parts_behind before (l ∷ ls) = drop (shared before l.0) (ways l.0) ++ parts_behind l.0 ls

-- the parts of a configuration, by its leaves
abbrev pub parts : List PathLeaf → List Path
parts ls = parts_behind [] ls

-- the path of the leaf of a number, and of the one before it
abbrev pub path_at : List PathLeaf → ℕ → Path
path_at [] n = []
path_at (l ∷ ls) zero = l.0
path_at (l ∷ ls) (suc n) = path_at ls n

abbrev pub path_before : List PathLeaf → ℕ → Path
path_before ls zero = []
path_before ls (suc n) = path_at ls n
