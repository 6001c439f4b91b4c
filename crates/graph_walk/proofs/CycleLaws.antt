-- Cycles that a walk closes, and the order of a walk that closes none.
use Rattle.std.proofs.Common.{◌≡◌, ℕ, zero, suc, ◌+◌, ◌-◌, ◌<◌, ◌≤◌, List, [], ◌∷◌, ◌++◌, None, Some, length, refl, ap, sym, ◌∙◌, subst, arith, length-append, ◌⊎◌, inl, inr}
use Rattle.std.proofs.Math.ListN.{set}
use Rattle.std.proofs.lemmas.Bool.{cases_eq, cases_lt}
use Rattle.std.specs.Prelude.{slice_index}
use Rattle.graph_walk.specs.declared.walk.State.{State}
use Rattle.graph_walk.specs.declared.walk.State.TheVariants.{New, Open, Done}
use Rattle.graph_walk.specs.declared.walk.Step.{Step}
use Rattle.graph_walk.specs.declared.walk.Step.TheVariants.{Entered, Passed, Left, Closed}
use Rattle.graph_walk.specs.Cycles.{Leads, PlainLeads, IsOnCycle, IsPlainCycle, left_at, rank, IsOrdered, NewStays, IsScanned}
use Rattle.graph_walk.specs.Steps.{StepsBy}
use Rattle.graph_walk.specs.Walk.{Graph, edges_at, edge_at, state_at, IsNew, IsOpen, IsDone, IsDoneBefore, IsRight, Links, IsWalk, Steps, StandsAt, Enters, IsClosed, Makes, measure, HasEdge, looked_at}
use Rattle.graph_walk.proofs.WalkLaws.{state_same, state_other, path_front, path_last, top_on}

-- What was new

set_stays : (ss : List State) (d : ℕ) (v : State) → (IsNew v → ⊥) → d < length ss → NewStays ss (set ss d v)
set_stays ss d v old within c new = by (cases_eq c d)
  where
    by : (c ≡ d) ⊎ (c ≡ d → ⊥) → IsNew (state_at ss c)
    by (inl e) = absurd (old (subst IsNew (ap (λ x. state_at (set ss d v) x) e ∙ state_same ss d v within) new))
    by (inr ne) = subst IsNew (state_other ss d c v ne) new

pub step_stays : (g : Graph) (ss : List State) (p : List ℕ) (time : ℕ) (ss' : List State) (p' : List ℕ) (step : Step) → IsWalk g ss p time → Steps g ss p time ss' p' step → NewStays ss ss'
step_stays g ss p time ss' p' (Entered d) w s = subst (λ x. NewStays ss x) (sym s.1.states) (set_stays ss d (Open s.1.edges) (λ h. h) (omega (arith, s.1.on_graph, w.size)))
step_stays g ss p time ss' p' Passed w s = subst (λ x. NewStays ss x) (sym s.states) (set_stays ss s.node (Open s.edges) (λ h. h) (omega (arith, top_on g ss p s.front time s.node w s.top, w.size)))
step_stays g ss p time ss' p' (Left c) w s = subst (λ x. NewStays ss x) (sym s.states) (set_stays ss c (Done time) (λ h. h) (omega (arith, top_on g ss p p' time c w s.top, w.size)))
step_stays g ss p time ss' p' (Closed d) w s = subst (λ x. NewStays ss x) (sym s.3) (λ c h. h)

pub enters_stays : (g : Graph) (ss : List State) (p : List ℕ) (time d : ℕ) (ss' : List State) (p' : List ℕ) → IsWalk g ss p time → Enters g ss p d ss' p' → NewStays ss ss'
enters_stays g ss p time d ss' p' w s = subst (λ x. NewStays ss x) (sym s.states) (set_stays ss d (Open s.edges) (λ h. h) (omega (arith, s.on_graph, w.size)))

pub enters_reached : (g : Graph) (ss : List State) (p : List ℕ) (time d : ℕ) (ss' : List State) (p' : List ℕ) → IsWalk g ss p time → Enters g ss p d ss' p' → IsNew (state_at ss' d) → ⊥
enters_reached g ss p time d ss' p' w s new =
    let within : d < length ss = omega (arith, s.on_graph, w.size) in
    subst IsNew (ap (λ x. state_at x d) s.states ∙ state_same ss d (Open s.edges) within) new

-- a step that closes no cycle leaves fewer steps to come
pub fewer_left : (g : Graph) (ss : List State) (p : List ℕ) (time : ℕ) (ss' : List State) (p' : List ℕ) (time' : ℕ) (step : Step) → Makes g ss p time ss' p' time' step → ((d : ℕ) → step ≡ Closed d → ⊥) → measure ss' < measure ss
fewer_left g ss p time ss' p' time' step m open_still = by m.measure_is
  where
    closed : (s : Step) → IsClosed s → (d : ℕ) × (s ≡ Closed d)
    closed (Entered d) h = absurd h
    closed Passed h = absurd h
    closed (Left d) h = absurd h
    closed (Closed d) h = (d, refl)

    by : IsClosed step ⊎ (measure ss' < measure ss) → measure ss' < measure ss
    by (inl h) = let at = closed step h in absurd (open_still at.0 at.1)
    by (inr h) = h

-- Orders

pub ordered : (g : Graph) (ss : List State) (p : List ℕ) (time : ℕ) → IsWalk g ss p time → p ≡ [] → ((c : ℕ) → c < length g → IsNew (state_at ss c) → ⊥) → IsOrdered g ss
ordered g ss p time w none reached =
    record {
      size = w.size;
      below = λ c a. let d = is_done c a in omega (arith, rank_below c a, w.count);
      falls = λ c k a b. falls c k a b;
    }
  where
    is_done' : (c : ℕ) → c < length g → (s : State) → state_at ss c ≡ s → IsDone s
    is_done' c a (New n) e = absurd (reached c a (subst IsNew (sym e) tt))
    is_done' c a (Open n) e = let on = w.on_path c a (subst IsOpen (sym e) tt) in absurd (omega (arith, on.1, ap length none))
    is_done' c a (Done n) e = tt

    is_done : (c : ℕ) → c < length g → IsDone (state_at ss c)
    is_done c a = is_done' c a (state_at ss c) refl

    rank_below : (c : ℕ) → c < length g → rank ss c < time
    rank_below c a = by (state_at ss c) (is_done c a) (w.right c a)
      where
        by : (s : State) → IsDone s → IsRight g ss time c s → left_at s < time
        by (New n) d r = absurd d
        by (Open n) d r = absurd d
        by (Done n) d r = r.0

    falls : (c k : ℕ) → c < length g → k < length (edges_at g c) → rank ss (edge_at g c k).to < rank ss c
    falls c k a b = by (state_at ss c) (is_done c a) (w.right c a)
      where
        less : (t : ℕ) (s : State) → IsDoneBefore t s → left_at s < t
        less t (New n) h = absurd h
        less t (Open n) h = absurd h
        less t (Done n) h = h

        by : (s : State) → IsDone s → IsRight g ss time c s → rank ss (edge_at g c k).to < left_at s
        by (New n) d r = absurd d
        by (Open n) d r = absurd d
        by (Done n) d r = less n (state_at ss (edge_at g c k).to) (r.1 k (omega arith) b)

-- Steps

pub steps_append : (R : ℕ → ℕ → Type 0) (m n a b c : ℕ) → StepsBy R m a b → StepsBy R n b c → StepsBy R (m + n) a c
steps_append R zero n a b c s t = let e : n ≡ zero + n = omega arith in subst (λ k. StepsBy R k a c) e (subst (λ x. StepsBy R n x c) (sym s) t)
steps_append R (suc m) n a b c s t =
    let e : suc (m + n) ≡ suc m + n = omega arith in
    let more : StepsBy R (suc (m + n)) a c = (s.0, s.1, steps_append R m n s.0 b c s.2 t) in
    subst (λ k. StepsBy R k a c) e more

-- steps along a row of numbers
pub steps_along : (R : ℕ → ℕ → Type 0) (f : ℕ → ℕ) (n a : ℕ) → ((j : ℕ) → a ≤ j → j < a + n → R (f j) (f (suc j))) → StepsBy R n (f a) (f (a + n))
steps_along R f zero a each = let e : a ≡ a + zero = omega arith in ap f e
steps_along R f (suc n) a each =
    let e : suc a + n ≡ a + suc n = omega arith in
    (f (suc a), each a (omega arith) (omega arith), subst (λ k. StepsBy R n (f (suc a)) (f k)) e (steps_along R f n (suc a) (λ j x y. each j (omega arith) (omega arith))))

-- The path that an edge to an open node closes

pub record IsLooked (g : Graph) (s : State) (c d : ℕ) : Type 0 where
  pub has : HasEdge s
  pub within : looked_at s < length (edges_at g c)
  pub to : (edge_at g c (looked_at s)).to ≡ d

pub looked : (g : Graph) (ss : List State) (time c d : ℕ) (s : State) → IsRight g ss time c s → Links g c s d → IsLooked g s c d
looked g ss time c d (New n) r l = absurd l
looked g ss time c d (Open zero) r l = absurd l
looked g ss time c d (Open (suc n)) r l =
    let same : suc n - 1 ≡ n = omega arith in
    record { has = omega arith; within = omega (arith, r.0); to = ap (λ k. (edge_at g c k).to) same ∙ l }
looked g ss time c d (Done n) r l = absurd l

module _ (g : Graph) (ss : List State) (p : List ℕ) (time to : ℕ) (w : IsWalk g ss p time) (s : StandsAt g ss p to) where
  pub node : ℕ → ℕ
  node i = slice_index (p ++ to ∷ []) i

  node_is : (i : ℕ) → i < length p → node i ≡ slice_index p i
  unfolding node
  node_is i a = path_front p to i a

  end_is : node (length p) ≡ to
  unfolding node
  end_is = path_last p to

  -- each node of the path looks at an edge to the next
  pub each_looks : (i : ℕ) → i < length p → IsLooked g (state_at ss (slice_index p i)) (slice_index p i) (node (suc i))
  each_looks i a = by (cases_eq (suc i) (length p))
    where
      last_is : suc i ≡ length p → slice_index p i ≡ s.node
      last_is e =
          let same : i ≡ length s.front = omega (arith, ap length s.top, length-append s.front (s.node ∷ [])) in
          ap (λ x. slice_index x i) s.top ∙ ap (λ k. slice_index (s.front ++ s.node ∷ []) k) same ∙ path_last s.front s.node

      by : (suc i ≡ length p) ⊎ (suc i ≡ length p → ⊥) → IsLooked g (state_at ss (slice_index p i)) (slice_index p i) (node (suc i))
      by (inl e) =
          looked g ss time (slice_index p i) (node (suc i)) (state_at ss (slice_index p i)) (w.right (slice_index p i) (w.on_graph i a))
          (subst (λ d. Links g (slice_index p i) (state_at ss (slice_index p i)) d) (sym (ap node e ∙ end_is)) (subst (λ x. Links g x (state_at ss x) to) (sym (last_is e)) s.links))
      by (inr ne) =
          let b : suc i < length p = omega arith in
          looked g ss time (slice_index p i) (node (suc i)) (state_at ss (slice_index p i)) (w.right (slice_index p i) (w.on_graph i a))
          (subst (λ d. Links g (slice_index p i) (state_at ss (slice_index p i)) d) (sym (node_is (suc i) b)) (w.linked i b))

  leads : (i : ℕ) → i < length p → Leads g (node i) (node (suc i))
  leads i a = let l = each_looks i a in subst (λ x. Leads g x (node (suc i))) (sym (node_is i a)) (looked_at (state_at ss (slice_index p i)), l.within, l.to)

  pub on_cycle : (i at : ℕ) → i < length p → IsOpen (state_at ss to) → to < length g → IsScanned g ss p to (i + 1) → (edge_at g (slice_index p i) (looked_at (state_at ss (slice_index p i)))).place ≡ Some at → IsOnCycle g at
  on_cycle i at a open_to on scanned place =
      let l = each_looks i a in
      let start = w.on_path to on open_to in
      let before : start.0 ≤ i = by (cases_lt i start.0) in
      let rest = steps_along (Leads g) node (length p - suc i) (suc i) (λ j x y. leads j (omega arith)) in
      let front = steps_along (Leads g) node (i - start.0) start.0 (λ j x y. leads j (omega arith)) in
      let end : suc i + (length p - suc i) ≡ length p = omega arith in
      let mid : start.0 + (i - start.0) ≡ i = omega arith in
      let to_end : StepsBy (Leads g) (length p - suc i) (node (suc i)) to = subst (λ x. StepsBy (Leads g) (length p - suc i) (node (suc i)) x) (ap node end ∙ end_is) rest in
      let from_start : StepsBy (Leads g) (i - start.0) to (slice_index p i) =
      subst (λ x. StepsBy (Leads g) (i - start.0) x (slice_index p i)) (node_is start.0 start.1 ∙ start.2)
      (subst (λ x. StepsBy (Leads g) (i - start.0) (node start.0) x) (ap node mid ∙ node_is i a) front) in
      record {
        node = slice_index p i;
        number = looked_at (state_at ss (slice_index p i));
        back = (length p - suc i) + (i - start.0);
        on_graph = w.on_graph i a;
        edge = l.within;
        place = place;
        returns = subst (λ x. StepsBy (Leads g) ((length p - suc i) + (i - start.0)) x (slice_index p i)) (sym l.to) (steps_append (Leads g) (length p - suc i) (i - start.0) (node (suc i)) to (slice_index p i) to_end from_start);
      }
    where
      start' : (k : ℕ) × (k < length p) × (slice_index p k ≡ to)
      start' = w.on_path to on open_to

      by : (i < start'.0) ⊎ (start'.0 ≤ i) → start'.0 ≤ i
      by (inl h) = absurd (scanned.others start'.0 (omega arith) start'.1 start'.2)
      by (inr h) = h

  pub plain_cycle : (i : ℕ) → i < length p → slice_index p i ≡ to → IsScanned g ss p to (i + 1) → (edge_at g (slice_index p i) (looked_at (state_at ss (slice_index p i)))).place ≡ None → IsPlainCycle g
  plain_cycle i a here scanned place =
      let all = steps_along (PlainLeads g) node (suc (length p - suc i)) i (λ j x y. plain j x (omega arith) (cases_eq j i)) in
      let end : i + suc (length p - suc i) ≡ length p = omega arith in
      let ends : StepsBy (PlainLeads g) (suc (length p - suc i)) (slice_index p i) (slice_index p i) =
      subst (λ x. StepsBy (PlainLeads g) (suc (length p - suc i)) x (slice_index p i)) (node_is i a)
      (subst (λ x. StepsBy (PlainLeads g) (suc (length p - suc i)) (node i) x) (ap node end ∙ end_is ∙ sym here) all) in
      record { node = slice_index p i; back = length p - suc i; on_graph = w.on_graph i a; returns = ends }
    where
      plain : (j : ℕ) → i ≤ j → j < length p → (j ≡ i) ⊎ (j ≡ i → ⊥) → PlainLeads g (node j) (node (suc j))
      plain j x y (inl e) =
          let l = each_looks j y in
          subst (λ x. PlainLeads g x (node (suc j))) (sym (node_is j y)) (looked_at (state_at ss (slice_index p j)), l.within, l.to, subst (λ k. (edge_at g (slice_index p k) (looked_at (state_at ss (slice_index p k)))).place ≡ None) (sym e) place)
      plain j x y (inr ne) =
          let l = each_looks j y in
          subst (λ x. PlainLeads g x (node (suc j))) (sym (node_is j y)) (looked_at (state_at ss (slice_index p j)), l.within, l.to, scanned.plain j (omega arith) y)
