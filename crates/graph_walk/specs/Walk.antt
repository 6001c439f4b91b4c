-- Walks along a graph: what holds of the states of nodes and of the path between two steps.
use Rattle.std.specs.Prelude.{◌≡◌, ℕ, zero, suc, ◌+◌, ◌-◌, ◌<◌, ◌≤◌, List, [], ◌∷◌, ◌++◌, None, length, slice_index, slice_index_or, slice_set, ◌⊎◌}
use Rattle.graph_walk.specs.declared.walk.Edge.{Edge}
use Rattle.graph_walk.specs.declared.walk.State.{State}
use Rattle.graph_walk.specs.declared.walk.State.TheVariants.{New, Open, Done}
use Rattle.graph_walk.specs.declared.walk.Step.{Step}
use Rattle.graph_walk.specs.declared.walk.Step.TheVariants.{Entered, Passed, Left, Closed}

-- a graph: the edges that leave each node
abbrev pub Graph : Type 0
Graph = List (List Edge)

abbrev pub no_edge : Edge
no_edge = record { to = 0; place = None }

abbrev pub edges_at : Graph → ℕ → List Edge
edges_at g c = slice_index_or g c []

abbrev pub edge_at : Graph → ℕ → ℕ → Edge
edge_at g c k = slice_index_or (edges_at g c) k no_edge

abbrev pub state_at : List State → ℕ → State
state_at states c = slice_index_or states c (Done 0)

-- each edge leads to a node of the graph
abbrev pub InRange : Graph → Type 0
InRange g = (c k : ℕ) → c < length g → k < length (edges_at g c) → (edge_at g c k).to < length g

abbrev pub IsNew : State → Type 0
IsNew (New n) = Unit {0}
IsNew (Open n) = ⊥
IsNew (Done n) = ⊥

abbrev pub IsOpen : State → Type 0
IsOpen (New n) = ⊥
IsOpen (Open n) = Unit {0}
IsOpen (Done n) = ⊥

abbrev pub IsDone : State → Type 0
IsDone (New n) = ⊥
IsDone (Open n) = ⊥
IsDone (Done n) = Unit {0}

-- the node was left before time t
abbrev pub IsDoneBefore : ℕ → State → Type 0
IsDoneBefore t (New n) = ⊥
IsDoneBefore t (Open n) = ⊥
IsDoneBefore t (Done u) = u < t

-- the edges of c from number l on lead to nodes that were left before time t
abbrev pub LeadsBefore : Graph → List State → ℕ → ℕ → ℕ → Type 0
LeadsBefore g states t c l =
    (k : ℕ) → l ≤ k → k < length (edges_at g c)
    → IsDoneBefore t (state_at states (edge_at g c k).to)

-- what holds of the edges of c, by its state
abbrev pub IsRight : Graph → List State → ℕ → ℕ → State → Type 0
IsRight g states time c (New n) = n ≡ length (edges_at g c)
IsRight g states time c (Open l) = (l ≤ length (edges_at g c)) × LeadsBefore g states time c l
IsRight g states time c (Done t) = (t < time) × LeadsBefore g states t c 0

-- the edge of c that is looked at leads to d
abbrev pub Links : Graph → ℕ → State → ℕ → Type 0
Links g c (New n) d = ⊥
Links g c (Open zero) d = ⊥
Links g c (Open (suc l)) d = (edge_at g c l).to ≡ d
Links g c (Done t) d = ⊥

abbrev pub total : (State → ℕ) → List State → ℕ
total f [] = 0
total f (s ∷ ss) = f s + total f ss

-- a node that is not done
abbrev pub undone : State → ℕ
undone (New n) = 1
undone (Open n) = 1
undone (Done n) = 0

-- the most steps that are to come for a node
abbrev pub weight : State → ℕ
weight (New n) = n + 2
weight (Open n) = n + 1
weight (Done n) = 0

abbrev pub measure : List State → ℕ
measure states = total weight states

pub record IsWalk (g : Graph) (states : List State) (path : List ℕ) (time : ℕ) : Type 0 where
  pub size : length states ≡ length g
  pub count : time + total undone states ≤ length g
  pub right : (c : ℕ) → c < length g → IsRight g states time c (state_at states c)
  pub on_graph : (i : ℕ) → i < length path → slice_index path i < length g
  pub opened : (i : ℕ) → i < length path → IsOpen (state_at states (slice_index path i))
  pub apart : (i j : ℕ) → i < j → j < length path → slice_index path i ≡ slice_index path j → ⊥
  pub on_path : (c : ℕ) → c < length g → IsOpen (state_at states c) → (i : ℕ) × (i < length path)
      × (slice_index path i ≡ c)
  pub linked : (i : ℕ) → suc i < length path → Links g (slice_index path i)
      (state_at states (slice_index path i)) (slice_index path (suc i))

-- the states before the first step
abbrev pub fresh : List Edge → State
fresh edges = New (length edges)

-- What a step does to the states and to the path

-- a new node d goes on the path
pub record Enters (g : Graph) (old : List State) (path : List ℕ) (d : ℕ) (new : List State) (path' : List ℕ) : Type 0 where
  pub edges : ℕ
  pub was : state_at old d ≡ New edges
  pub on_graph : d < length g
  pub states : new ≡ slice_set old d (Open edges)
  pub path_is : path' ≡ path ++ d ∷ []

-- the last node of the path passes an edge to a node that is done
pub record Passes (g : Graph) (old : List State) (path : List ℕ) (new : List State) (path' : List ℕ) : Type 0 where
  pub node : ℕ
  pub edges : ℕ
  pub front : List ℕ
  pub top : path ≡ front ++ node ∷ []
  pub was : state_at old node ≡ Open (suc edges)
  pub target : IsDone (state_at old (edge_at g node edges).to)
  pub states : new ≡ slice_set old node (Open edges)
  pub path_is : path' ≡ path

-- the last node of the path, c, is left
pub record Leaves (g : Graph) (old : List State) (path : List ℕ) (time c : ℕ) (new : List State) (path' : List ℕ) : Type 0 where
  pub top : path ≡ path' ++ c ∷ []
  pub was : state_at old c ≡ Open 0
  pub states : new ≡ slice_set old c (Done time)

-- the last node of the path stands at an edge to d
pub record StandsAt (g : Graph) (states : List State) (path : List ℕ) (d : ℕ) : Type 0 where
  pub node : ℕ
  pub front : List ℕ
  pub top : path ≡ front ++ node ∷ []
  pub links : Links g node (state_at states node) d

abbrev pub Steps : Graph → List State → List ℕ → ℕ → List State → List ℕ → Step → Type 0
Steps g old path time new path' (Entered d) = StandsAt g old path d × Enters g old path d new path'
Steps g old path time new path' Passed = Passes g old path new path'
Steps g old path time new path' (Left c) = Leaves g old path time c new path'
Steps g old path time new path' (Closed d) =
    StandsAt g old path d × IsOpen (state_at old d) × (d < length g) × (new ≡ old) × (path' ≡ path)

abbrev pub IsClosed : Step → Type 0
IsClosed (Entered d) = ⊥
IsClosed Passed = ⊥
IsClosed (Left c) = ⊥
IsClosed (Closed d) = Unit {0}

-- a step is made: the walk is one still, and where no cycle is closed fewer steps are to come
pub record Makes (g : Graph) (old : List State) (path : List ℕ) (time : ℕ) (new : List State) (path' : List ℕ) (time' : ℕ) (step : Step) : Type 0 where
  pub walk : IsWalk g new path' time'
  pub steps : Steps g old path time new path' step
  pub measure_is : IsClosed step ⊎ (measure new < measure old)

-- the node is open and looks at an edge
abbrev pub HasEdge : State → Type 0
HasEdge (New n) = ⊥
HasEdge (Open n) = 0 < n
HasEdge (Done n) = ⊥

-- the number of the edge that is looked at
abbrev pub looked_at : State → ℕ
looked_at (New n) = 0
looked_at (Open n) = n - 1
looked_at (Done n) = 0
