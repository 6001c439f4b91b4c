-- Nodes of which each has at most one parent, and the graph that leads from parents down. `up`
-- gives the parent of a node.
use Rattle.std.specs.Prelude.{◌≡◌, ℕ, ◌<◌, Option, None, Some, length}
use Rattle.graph_walk.specs.declared.walk.Edge.{Edge}
use Rattle.graph_walk.specs.Cycles.{Leads}
use Rattle.graph_walk.specs.Walk.{Graph, edges_at, edge_at}

-- each node's rank is above its parent's
abbrev pub Falls : (ℕ → Option ℕ) → (ℕ → ℕ) → Type 0
Falls up r = (c d : ℕ) → up c ≡ Some d → r d < r c

-- each parent is one of the first n nodes
abbrev pub AreParents : (ℕ → Option ℕ) → ℕ → Type 0
AreParents up n = (c q : ℕ) → up c ≡ Some q → q < n

-- an edge to a node
abbrev pub child : ℕ → Edge
child c = record { to = c; place = None }

-- there are `count` nodes, and the edges lead from each to those of the first n whose parent it is
pub record IsChildren (up : ℕ → Option ℕ) (count n : ℕ) (g : Graph) : Type 0 where
  pub size : length g ≡ count
  pub sound : (q k : ℕ) → k < length (edges_at g q) → ((edge_at g q k).to < count)
      × (up (edge_at g q k).to ≡ Some q)
  pub complete : (c q : ℕ) → c < n → up c ≡ Some q → Leads g q c
