-- Cycles in a graph, and orders of graphs that have none.
use Rattle.std.specs.Prelude.{◌≡◌, ℕ, suc, ◌<◌, ◌≤◌, List, None, Some, length, slice_index}
use Rattle.graph_walk.specs.declared.cycle.Outcome.{Outcome}
use Rattle.graph_walk.specs.declared.cycle.Outcome.TheVariants.{Ordered, Cycle}
use Rattle.graph_walk.specs.declared.walk.State.{State}
use Rattle.graph_walk.specs.declared.walk.State.TheVariants.{New, Open, Done}
use Rattle.graph_walk.specs.Steps.{StepsBy}
use Rattle.graph_walk.specs.Walk.{Graph, edges_at, edge_at, state_at, IsNew, looked_at}

-- an edge of c leads to d
abbrev pub Leads : Graph → ℕ → ℕ → Type 0
Leads g c d = (k : ℕ) × (k < length (edges_at g c)) × ((edge_at g c k).to ≡ d)

-- an edge of c without a place leads to d
abbrev pub PlainLeads : Graph → ℕ → ℕ → Type 0
PlainLeads g c d =
    (k : ℕ) × (k < length (edges_at g c)) × ((edge_at g c k).to ≡ d)
    × ((edge_at g c k).place ≡ None)

-- an edge with this place lies on a cycle: from where it leads one comes back
pub record IsOnCycle (g : Graph) (at : ℕ) : Type 0 where
  pub node : ℕ
  pub number : ℕ
  pub back : ℕ
  pub on_graph : node < length g
  pub edge : number < length (edges_at g node)
  pub place : (edge_at g node number).place ≡ Some at
  pub returns : StepsBy (Leads g) back (edge_at g node number).to node

-- there is a cycle of edges without a place
pub record IsPlainCycle (g : Graph) : Type 0 where
  pub node : ℕ
  pub back : ℕ
  pub on_graph : node < length g
  pub returns : StepsBy (PlainLeads g) (suc back) node node

-- the number at which a node was left
abbrev pub left_at : State → ℕ
left_at (New n) = 0
left_at (Open n) = 0
left_at (Done n) = n

abbrev pub rank : List State → ℕ → ℕ
rank states c = left_at (state_at states c)

-- each edge leads to a node of a lower rank
pub record IsOrdered (g : Graph) (states : List State) : Type 0 where
  pub size : length states ≡ length g
  pub below : (c : ℕ) → c < length g → rank states c < length g
  pub falls : (c k : ℕ) → c < length g → k < length (edges_at g c) → rank states (edge_at g c k).to
      < rank states c

abbrev pub IsOutcome : Graph → Outcome → Type 0
IsOutcome g (Ordered states) = IsOrdered g states.items
IsOutcome g (Cycle (Some at)) = IsOnCycle g at
IsOutcome g (Cycle None) = IsPlainCycle g

-- what is new was new before
abbrev pub NewStays : List State → List State → Type 0
NewStays old new = (c : ℕ) → IsNew (state_at new c) → IsNew (state_at old c)

-- no node of the path from number `at` on is this one, nor has the edge that it looks at a place
pub record IsScanned (g : Graph) (states : List State) (path : List ℕ) (to at : ℕ) : Type 0 where
  pub within : at ≤ length path
  pub others : (j : ℕ) → at ≤ j → j < length path → slice_index path j ≡ to → ⊥
  pub plain : (j : ℕ) → at ≤ j → j < length path
      → (edge_at g (slice_index path j) (looked_at (state_at states (slice_index path j)))).place
      ≡ None
