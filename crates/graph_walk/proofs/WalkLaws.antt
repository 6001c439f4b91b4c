-- What a step of a walk keeps: a node is entered, an edge is passed, a node is left.
use Rattle.std.proofs.Common.{◌≡◌, ℕ, zero, suc, ◌+◌, ◌-◌, ◌<◌, ◌≤◌, List, [], ◌∷◌, ◌++◌, length, get_or, refl, ap, sym, ◌∙◌, subst, arith, length-append, get_or-set_same, get_or-set_other, ◌⊎◌, inl, inr}
use Rattle.std.proofs.Math.ListN.{set, length-set}
use Rattle.std.proofs.lemmas.Bool.{cases_eq, cases_lt}
use Rattle.std.proofs.lemmas.List.{get_or-append-add, get_or_append_left}
use Rattle.std.specs.Prelude.{slice_index, map}
use Rattle.graph_walk.specs.declared.walk.State.{State}
use Rattle.graph_walk.specs.declared.walk.State.TheVariants.{New, Open, Done}
use Rattle.graph_walk.specs.declared.walk.Step.TheVariants.{Entered, Passed, Left, Closed}
use Rattle.graph_walk.specs.Walk.{Graph, edges_at, edge_at, state_at, InRange, IsNew, IsOpen, IsDone, IsDoneBefore, LeadsBefore, IsRight, Links, total, undone, weight, measure, IsWalk, fresh, Makes}

-- one state is changed
pub total_set : (f : State → ℕ) (ss : List State) (i : ℕ) (v : State) → i < length ss → total f (set ss i v) + f (state_at ss i) ≡ total f ss + f v
total_set f [] i v h = absurd (omega (arith, h))
total_set f (s ∷ ss) zero v h = omega arith
total_set f (s ∷ ss) (suc i) v h = let rest = total_set f ss i v (omega (arith, h)) in omega (arith, rest)

pub state_same : (ss : List State) (d : ℕ) (v : State) → d < length ss → state_at (set ss d v) d ≡ v
state_same ss d v h = get_or-set_same ss d v (Done 0) h

pub state_other : (ss : List State) (d c : ℕ) (v : State) → (c ≡ d → ⊥) → state_at (set ss d v) c ≡ state_at ss c
state_other ss d c v ne = get_or-set_other ss d c v (Done 0) ne

done_from : (t : ℕ) (s : State) → IsDoneBefore t s → IsDone s
done_from t (New n) h = h
done_from t (Open n) h = h
done_from t (Done u) h = tt

done_later : (t u : ℕ) (s : State) → t ≤ u → IsDoneBefore t s → IsDoneBefore u s
done_later t u (New n) le h = h
done_later t u (Open n) le h = h
done_later t u (Done w) le h = omega arith

-- a node that is not done changes: what was done stays so
pub kept : (ss : List State) (d x t : ℕ) (v : State) → (IsDone (state_at ss d) → ⊥) → IsDoneBefore t (state_at ss x) → IsDoneBefore t (state_at (set ss d v) x)
kept ss d x t v undone_d before = by (cases_eq x d)
  where
    by : (x ≡ d) ⊎ (x ≡ d → ⊥) → IsDoneBefore t (state_at (set ss d v) x)
    by (inl e) = absurd (undone_d (done_from t (state_at ss d) (subst (λ c. IsDoneBefore t (state_at ss c)) e before)))
    by (inr ne) = subst (λ s. IsDoneBefore t s) (sym (state_other ss d x v ne)) before

right_kept : (g : Graph) (ss : List State) (time c d : ℕ) (v s : State) → (IsDone (state_at ss d) → ⊥) → IsRight g ss time c s → IsRight g (set ss d v) time c s
right_kept g ss time c d v (New n) u h = h
right_kept g ss time c d v (Open l) u h = (h.0, λ k a b. kept ss d (edge_at g c k).to time v u (h.1 k a b))
right_kept g ss time c d v (Done t) u h = (h.0, λ k a b. kept ss d (edge_at g c k).to t v u (h.1 k a b))

right_later : (g : Graph) (ss : List State) (time c : ℕ) (s : State) → IsRight g ss time c s → IsRight g ss (time + 1) c s
right_later g ss time c (New n) h = h
right_later g ss time c (Open l) h = (h.0, λ k a b. done_later time (time + 1) (state_at ss (edge_at g c k).to) (omega arith) (h.1 k a b))
right_later g ss time c (Done t) h = (omega (arith, h.0), h.1)

-- where the new state of d is right, all states are
rights : (g : Graph) (ss : List State) (time d : ℕ) (v : State) → d < length ss → (IsDone (state_at ss d) → ⊥) → ((c : ℕ) → c < length g → IsRight g ss time c (state_at ss c)) → IsRight g (set ss d v) time d v → (c : ℕ) → c < length g → IsRight g (set ss d v) time c (state_at (set ss d v) c)
rights g ss time d v within u all here c lt = by (cases_eq c d)
  where
    by : (c ≡ d) ⊎ (c ≡ d → ⊥) → IsRight g (set ss d v) time c (state_at (set ss d v) c)
    by (inl e) = subst (λ x. IsRight g (set ss d v) time x (state_at (set ss d v) x)) (sym e) (subst (λ s. IsRight g (set ss d v) time d s) (sym (state_same ss d v within)) here)
    by (inr ne) = subst (λ s. IsRight g (set ss d v) time c s) (sym (state_other ss d c v ne)) (right_kept g ss time c d v (state_at ss c) u (all c lt))

-- Paths with one more node

pub path_front : (p : List ℕ) (d i : ℕ) → i < length p → slice_index (p ++ d ∷ []) i ≡ slice_index p i
path_front p d i h = get_or_append_left p (d ∷ []) 0 i h

pub path_last : (p : List ℕ) (d : ℕ) → slice_index (p ++ d ∷ []) (length p) ≡ d
path_last p d = subst (λ n. get_or (p ++ d ∷ []) n 0 ≡ d) (omega arith) (get_or-append-add p (d ∷ []) 0 0)

length_more : (p : List ℕ) (d : ℕ) → length (p ++ d ∷ []) ≡ length p + 1
length_more p d = length-append p (d ∷ [])

pub each_more : (p : List ℕ) (d : ℕ) (P : ℕ → Type 0) → ((i : ℕ) → i < length p → P i) → P (length p) → (i : ℕ) → i < length (p ++ d ∷ []) → P i
each_more p d P before here i lt = by (cases_lt i (length p))
  where
    by : (i < length p) ⊎ (length p ≤ i) → P i
    by (inl a) = before i a
    by (inr b) = let e : length p ≡ i = omega (arith, length_more p d) in subst P e here

pub new_no_open : (s : State) → IsNew s → IsOpen s → ⊥
new_no_open (New n) a b = b
new_no_open (Open n) a b = a
new_no_open (Done n) a b = a

new_no_done : (s : State) → IsNew s → IsDone s → ⊥
new_no_done (New n) a b = b
new_no_done (Open n) a b = a
new_no_done (Done n) a b = a

open_no_done : (s : State) → IsOpen s → IsDone s → ⊥
open_no_done (New n) a b = a
open_no_done (Open n) a b = b
open_no_done (Done n) a b = a

-- a new node is entered
pub entered : (g : Graph) (ss : List State) (p : List ℕ) (time d n : ℕ) → IsWalk g ss p time → d < length g → state_at ss d ≡ New n → ((i : ℕ) → suc i ≡ length p → Links g (slice_index p i) (state_at ss (slice_index p i)) d) → IsWalk g (set ss d (Open n)) (p ++ d ∷ []) time
entered g ss p time d n w lt new link =
    let within : d < length ss = omega (arith, w.size) in
    let undone_d : IsDone (state_at ss d) → ⊥ = λ h. subst IsDone new h in
    let is_new : IsNew (state_at ss d) = subst IsNew (sym new) tt in
    let differs : (i : ℕ) → i < length p → slice_index p i ≡ d → ⊥ = λ i a e. new_no_open (state_at ss d) is_new (subst (λ x. IsOpen (state_at ss x)) e (w.opened i a)) in
    let same_state : (i : ℕ) → i < length p → state_at (set ss d (Open n)) (slice_index p i) ≡ state_at ss (slice_index p i) = λ i a. state_other ss d (slice_index p i) (Open n) (differs i a) in
    let open_d : state_at (set ss d (Open n)) d ≡ Open n = state_same ss d (Open n) within in
    let n_is : n ≡ length (edges_at g d) = subst (λ s. IsRight g ss time d s) new (w.right d lt) in
    let count = total_set undone ss d (Open n) within in
    let was : undone (state_at ss d) ≡ 1 = ap undone new in
    record {
      size = length-set ss d (Open n) ∙ w.size;
      count = omega (arith, w.count);
      right = rights g ss time d (Open n) within undone_d w.right (omega arith, λ k a b. absurd (omega arith));
      on_graph = each_more p d (λ i. slice_index (p ++ d ∷ []) i < length g) (λ i a. subst (λ x. x < length g) (sym (path_front p d i a)) (w.on_graph i a)) (subst (λ x. x < length g) (sym (path_last p d)) lt);
      opened = each_more p d (λ i. IsOpen (state_at (set ss d (Open n)) (slice_index (p ++ d ∷ []) i)))
          (λ i a. subst (λ x. IsOpen (state_at (set ss d (Open n)) x)) (sym (path_front p d i a)) (subst IsOpen (sym (same_state i a)) (w.opened i a)))
          (subst (λ x. IsOpen (state_at (set ss d (Open n)) x)) (sym (path_last p d)) (subst IsOpen (sym open_d) tt));
      apart = λ i j ij jl. apart_at i j ij (cases_lt j (length p)) jl;
      on_path = λ c a b. found c a b (cases_eq c d);
      linked = λ i il. linked_at i il (cases_eq (suc i) (length p));
    }
  where
    within' : d < length ss
    within' = omega (arith, w.size)

    differs' : (i : ℕ) → i < length p → slice_index p i ≡ d → ⊥
    differs' i a e = new_no_open (state_at ss d) (subst IsNew (sym new) tt) (subst (λ x. IsOpen (state_at ss x)) e (w.opened i a))

    apart_at : (i j : ℕ) → i < j → (j < length p) ⊎ (length p ≤ j) → j < length (p ++ d ∷ []) → slice_index (p ++ d ∷ []) i ≡ slice_index (p ++ d ∷ []) j → ⊥
    apart_at i j ij (inl a) jl e = w.apart i j ij a (sym (path_front p d i (omega arith)) ∙ e ∙ path_front p d j a)
    apart_at i j ij (inr b) jl e =
        let j_is : j ≡ length p = omega (arith, length_more p d) in
        differs' i (omega arith) (sym (path_front p d i (omega arith)) ∙ e ∙ ap (λ x. slice_index (p ++ d ∷ []) x) j_is ∙ path_last p d)

    found : (c : ℕ) → c < length g → IsOpen (state_at (set ss d (Open n)) c) → (c ≡ d) ⊎ (c ≡ d → ⊥) → (i : ℕ) × (i < length (p ++ d ∷ [])) × (slice_index (p ++ d ∷ []) i ≡ c)
    found c a b (inl e) = (length p, omega (arith, length_more p d), path_last p d ∙ sym e)
    found c a b (inr ne) =
        let old = w.on_path c a (subst IsOpen (state_other ss d c (Open n) ne) b) in
        (old.0, omega (arith, old.1, length_more p d), path_front p d old.0 old.1 ∙ old.2)

    linked_at : (i : ℕ) → suc i < length (p ++ d ∷ []) → (suc i ≡ length p) ⊎ (suc i ≡ length p → ⊥) → Links g (slice_index (p ++ d ∷ []) i) (state_at (set ss d (Open n)) (slice_index (p ++ d ∷ []) i)) (slice_index (p ++ d ∷ []) (suc i))
    linked_at i il (inl e) =
        let a : i < length p = omega arith in
        let last : slice_index (p ++ d ∷ []) (suc i) ≡ d = ap (λ x. slice_index (p ++ d ∷ []) x) e ∙ path_last p d in
        subst (λ x. Links g x (state_at (set ss d (Open n)) x) (slice_index (p ++ d ∷ []) (suc i))) (sym (path_front p d i a))
        (subst (λ y. Links g (slice_index p i) (state_at (set ss d (Open n)) (slice_index p i)) y) (sym last)
        (subst (λ s. Links g (slice_index p i) s d) (sym (state_other ss d (slice_index p i) (Open n) (differs' i a))) (link i e)))
    linked_at i il (inr ne) =
        let b : suc i < length p = omega (arith, length_more p d) in
        let a : i < length p = omega arith in
        subst (λ x. Links g x (state_at (set ss d (Open n)) x) (slice_index (p ++ d ∷ []) (suc i))) (sym (path_front p d i a))
        (subst (λ y. Links g (slice_index p i) (state_at (set ss d (Open n)) (slice_index p i)) y) (sym (path_front p d (suc i) b))
        (subst (λ s. Links g (slice_index p i) s (slice_index p (suc i))) (sym (state_other ss d (slice_index p i) (Open n) (differs' i a))) (w.linked i b)))

-- a node without further edges is left
pub left : (g : Graph) (ss : List State) (q : List ℕ) (time c : ℕ) → IsWalk g ss (q ++ c ∷ []) time → state_at ss c ≡ Open 0 → IsWalk g (set ss c (Done time)) q (time + 1)
left g ss q time c w is =
    let on : c < length g = subst (λ x. x < length g) (path_last q c) (w.on_graph (length q) (omega (arith, length_more q c))) in
    let within : c < length ss = omega (arith, w.size) in
    let undone_c : IsDone (state_at ss c) → ⊥ = λ h. subst IsDone is h in
    let was : undone (state_at ss c) ≡ 1 = ap undone is in
    let sums = total_set undone ss c (Done time) within in
    let old = subst (λ s. IsRight g ss time c s) is (w.right c on) in
    record {
      size = length-set ss c (Done time) ∙ w.size;
      count = omega (arith, w.count);
      right = rights g ss (time + 1) c (Done time) within undone_c (λ x a. right_later g ss time x (state_at ss x) (w.right x a)) (omega arith, λ k a b. kept ss c (edge_at g c k).to time (Done time) undone_c (old.1 k a b));
      on_graph = λ i a. subst (λ x. x < length g) (path_front q c i a) (w.on_graph i (omega (arith, length_more q c)));
      opened = λ i a. subst IsOpen (sym (state_other ss c (slice_index q i) (Done time) (differs i a))) (subst (λ x. IsOpen (state_at ss x)) (path_front q c i a) (w.opened i (omega (arith, length_more q c))));
      apart = λ i j ij jl e. w.apart i j ij (omega (arith, length_more q c)) (path_front q c i (omega arith) ∙ e ∙ sym (path_front q c j jl));
      on_path = λ x a b. found x a b (cases_eq x c);
      linked = λ i il.
          let a : i < length q = omega arith in
          subst (λ s. Links g (slice_index q i) s (slice_index q (suc i))) (sym (state_other ss c (slice_index q i) (Done time) (differs i a)))
          (subst (λ y. Links g (slice_index q i) (state_at ss (slice_index q i)) y) (path_front q c (suc i) il)
          (subst (λ x. Links g x (state_at ss x) (slice_index (q ++ c ∷ []) (suc i))) (path_front q c i a) (w.linked i (omega (arith, length_more q c)))));
    }
  where
    differs : (i : ℕ) → i < length q → slice_index q i ≡ c → ⊥
    differs i a e = w.apart i (length q) a (omega (arith, length_more q c)) (path_front q c i a ∙ e ∙ sym (path_last q c))

    on' : c < length g
    on' = subst (λ x. x < length g) (path_last q c) (w.on_graph (length q) (omega (arith, length_more q c)))

    found : (x : ℕ) → x < length g → IsOpen (state_at (set ss c (Done time)) x) → (x ≡ c) ⊎ (x ≡ c → ⊥) → (i : ℕ) × (i < length q) × (slice_index q i ≡ x)
    found x a b (inl e) = let within : c < length ss = omega (arith, on', w.size) in absurd (subst IsOpen (ap (λ y. state_at (set ss c (Done time)) y) e ∙ state_same ss c (Done time) within) b)
    found x a b (inr ne) = inside (w.on_path x a (subst IsOpen (state_other ss c x (Done time) ne) b))
      where
        inside : (i : ℕ) × (i < length (q ++ c ∷ [])) × (slice_index (q ++ c ∷ []) i ≡ x) → (i : ℕ) × (i < length q) × (slice_index q i ≡ x)
        inside (i, il, e) = by (cases_lt i (length q))
          where
            by : (i < length q) ⊎ (length q ≤ i) → (i : ℕ) × (i < length q) × (slice_index q i ≡ x)
            by (inl h) = (i, h, sym (path_front q c i h) ∙ e)
            by (inr h) = let i_is : i ≡ length q = omega (arith, length_more q c) in absurd (ne (sym e ∙ ap (λ k. slice_index (q ++ c ∷ []) k) i_is ∙ path_last q c))

-- an edge to a node that is done is passed
pub passed : (g : Graph) (ss : List State) (q : List ℕ) (time c l : ℕ) → IsWalk g ss (q ++ c ∷ []) time → state_at ss c ≡ Open (suc l) → IsDone (state_at ss (edge_at g c l).to) → (edge_at g c l).to < length g → IsWalk g (set ss c (Open l)) (q ++ c ∷ []) time
passed g ss q time c l w is target target_on =
    let on : c < length g = subst (λ x. x < length g) (path_last q c) (w.on_graph (length q) (omega (arith, length_more q c))) in
    let within : c < length ss = omega (arith, w.size) in
    let undone_c : IsDone (state_at ss c) → ⊥ = λ h. subst IsDone is h in
    let was : undone (state_at ss c) ≡ 1 = ap undone is in
    let sums = total_set undone ss c (Open l) within in
    let old = subst (λ s. IsRight g ss time c s) is (w.right c on) in
    record {
      size = length-set ss c (Open l) ∙ w.size;
      count = omega (arith, w.count);
      right = rights g ss time c (Open l) within undone_c w.right (omega (arith, old.0), λ k a b. kept ss c (edge_at g c k).to time (Open l) undone_c (by k b (cases_eq k l) old.1 a));
      on_graph = w.on_graph;
      opened = λ i a. still i a (cases_eq (slice_index (q ++ c ∷ []) i) c);
      apart = w.apart;
      on_path = λ x a b. w.on_path x a (was_open x b (cases_eq x c));
      linked = λ i il. subst (λ s. Links g (slice_index (q ++ c ∷ []) i) s (slice_index (q ++ c ∷ []) (suc i))) (sym (state_other ss c (slice_index (q ++ c ∷ []) i) (Open l) (differs i il))) (w.linked i il);
    }
  where
    on' : c < length g
    on' = subst (λ x. x < length g) (path_last q c) (w.on_graph (length q) (omega (arith, length_more q c)))

    done_before : (x : ℕ) → x < length g → IsDone (state_at ss x) → IsDoneBefore time (state_at ss x)
    done_before x a h = cases (state_at ss x) h (w.right x a)
      where
        cases : (s : State) → IsDone s → IsRight g ss time x s → IsDoneBefore time s
        cases (New n) d r = d
        cases (Open n) d r = d
        cases (Done t) d r = r.0

    by : (k : ℕ) → k < length (edges_at g c) → (k ≡ l) ⊎ (k ≡ l → ⊥) → LeadsBefore g ss time c (suc l) → l ≤ k → IsDoneBefore time (state_at ss (edge_at g c k).to)
    by k b (inl e) old a = subst (λ j. IsDoneBefore time (state_at ss (edge_at g c j).to)) (sym e) (done_before (edge_at g c l).to target_on target)
    by k b (inr ne) old a = old k (omega arith) b

    still : (i : ℕ) → i < length (q ++ c ∷ []) → (slice_index (q ++ c ∷ []) i ≡ c) ⊎ (slice_index (q ++ c ∷ []) i ≡ c → ⊥) → IsOpen (state_at (set ss c (Open l)) (slice_index (q ++ c ∷ []) i))
    still i a (inl e) = let within : c < length ss = omega (arith, on', w.size) in subst (λ x. IsOpen (state_at (set ss c (Open l)) x)) (sym e) (subst IsOpen (sym (state_same ss c (Open l) within)) tt)
    still i a (inr ne) = subst IsOpen (sym (state_other ss c (slice_index (q ++ c ∷ []) i) (Open l) ne)) (w.opened i a)

    was_open : (x : ℕ) → IsOpen (state_at (set ss c (Open l)) x) → (x ≡ c) ⊎ (x ≡ c → ⊥) → IsOpen (state_at ss x)
    was_open x b (inl e) = subst (λ y. IsOpen (state_at ss y)) (sym e) (subst IsOpen (sym is) tt)
    was_open x b (inr ne) = subst IsOpen (state_other ss c x (Open l) ne) b

    differs : (i : ℕ) → suc i < length (q ++ c ∷ []) → slice_index (q ++ c ∷ []) i ≡ c → ⊥
    differs i il e = w.apart i (length q) (omega (arith, length_more q c)) (omega (arith, length_more q c)) (e ∙ sym (path_last q c))

-- before the first step
count_fresh : (g : Graph) → total undone (map fresh g) ≡ length g
count_fresh [] = refl
count_fresh (e ∷ es) = let rest = count_fresh es in omega (arith, rest)

length_fresh : (g : Graph) → length (map fresh g) ≡ length g
length_fresh [] = refl
length_fresh (e ∷ es) = ap suc (length_fresh es)

pub fresh_at : (g : Graph) (c : ℕ) → c < length g → state_at (map fresh g) c ≡ New (length (edges_at g c))
fresh_at [] c h = absurd (omega (arith, h))
fresh_at (e ∷ es) zero h = refl
fresh_at (e ∷ es) (suc c) h = fresh_at es c (omega (arith, h))

pub begun : (g : Graph) → IsWalk g (map fresh g) [] 0
begun g =
    record {
      size = length_fresh g;
      count = omega (arith, count_fresh g);
      right = λ c a. subst (λ s. IsRight g (map fresh g) 0 c s) (sym (fresh_at g c a)) refl;
      on_graph = λ i a. absurd (omega arith);
      opened = λ i a. absurd (omega arith);
      apart = λ i j ij jl e. absurd (omega arith);
      on_path = λ c a b. absurd (subst IsOpen (fresh_at g c a) b);
      linked = λ i a. absurd (omega arith);
    }

pub begun_at : (g : Graph) (ss : List State) (p : List ℕ) → ss ≡ map fresh g → p ≡ [] → IsWalk g ss p 0
begun_at g ss p states path = subst (λ x. IsWalk g x p 0) (sym states) (subst (λ x. IsWalk g (map fresh g) x 0) (sym path) (begun g))

-- Whole steps

pub top_on : (g : Graph) (ss : List State) (p q : List ℕ) (time c : ℕ) → IsWalk g ss p time → p ≡ q ++ c ∷ [] → c < length g
top_on g ss p q time c w e =
    let v = subst (λ x. IsWalk g ss x time) e w in
    subst (λ x. x < length g) (path_last q c) (v.on_graph (length q) (omega (arith, length_more q c)))

pub top_open : (g : Graph) (ss : List State) (p q : List ℕ) (time c : ℕ) → IsWalk g ss p time → p ≡ q ++ c ∷ [] → IsOpen (state_at ss c)
top_open g ss p q time c w e =
    let v = subst (λ x. IsWalk g ss x time) e w in
    subst (λ x. IsOpen (state_at ss x)) (path_last q c) (v.opened (length q) (omega (arith, length_more q c)))

pub makes_left : (g : Graph) (ss : List State) (p q : List ℕ) (time c : ℕ) (ss' : List State) (q' : List ℕ) (time' : ℕ) → IsWalk g ss p time → p ≡ q' ++ c ∷ [] → state_at ss c ≡ Open 0 → ss' ≡ set ss c (Done time) → q ≡ q' → time' ≡ time + 1 → Makes g ss p time ss' q time' (Left c)
makes_left g ss p q time c ss' q' time' w top' is states path times =
    let top : p ≡ q ++ c ∷ [] = top' ∙ ap (λ x. x ++ c ∷ []) (sym path) in
    let v = subst (λ x. IsWalk g ss x time) top w in
    let within : c < length ss = omega (arith, top_on g ss p q time c w top, w.size) in
    let sums = total_set weight ss c (Done time) within in
    let was : weight (state_at ss c) ≡ 1 = ap weight is in
    let fewer : measure (set ss c (Done time)) < measure ss = omega arith in
    record {
      walk = subst (λ n. IsWalk g ss' q n) (sym times) (subst (λ x. IsWalk g x q (time + 1)) (sym states) (left g ss q time c v is));
      steps = record { top = top; was = is; states = states };
      measure_is = inr (subst (λ x. measure x < measure ss) (sym states) fewer);
    }

pub makes_entered : (g : Graph) (ss : List State) (p q : List ℕ) (time c l d n : ℕ) (ss' : List State) (p' : List ℕ) (time' : ℕ) → IsWalk g ss p time → p ≡ q ++ c ∷ [] → state_at ss c ≡ Open (suc l) → (edge_at g c l).to ≡ d → d < length g → state_at ss d ≡ New n → ss' ≡ set ss d (Open n) → p' ≡ p ++ d ∷ [] → time' ≡ time → Makes g ss p time ss' p' time' (Entered d)
makes_entered g ss p q time c l d n ss' p' time' w top is target on new states path times =
    let within : d < length ss = omega (arith, w.size) in
    let sums = total_set weight ss d (Open n) within in
    let was : weight (state_at ss d) ≡ n + 2 = ap weight new in
    let fewer : measure (set ss d (Open n)) < measure ss = omega arith in
    let links : Links g c (state_at ss c) d = subst (λ s. Links g c s d) (sym is) target in
    let at_top : (i : ℕ) → suc i ≡ length p → slice_index p i ≡ c = λ i e.
    let i_is : i ≡ length q = omega (arith, ap length top, length_more q c) in
    ap (λ x. slice_index x i) top ∙ ap (λ k. slice_index (q ++ c ∷ []) k) i_is ∙ path_last q c in
    record {
      walk = subst (λ k. IsWalk g ss' p' k) (sym times) (subst (λ x. IsWalk g x p' time) (sym states) (subst (λ x. IsWalk g (set ss d (Open n)) x time) (sym path) (entered g ss p time d n w on new (λ i e. subst (λ x. Links g x (state_at ss x) d) (sym (at_top i e)) links))));
      steps = (record { node = c; front = q; top = top; links = links }, record { edges = n; was = new; on_graph = on; states = states; path_is = path });
      measure_is = inr (subst (λ x. measure x < measure ss) (sym states) fewer);
    }

pub makes_passed : (g : Graph) (ss : List State) (p q : List ℕ) (time c l u : ℕ) (ss' : List State) (p' : List ℕ) (time' : ℕ) → IsWalk g ss p time → p ≡ q ++ c ∷ [] → state_at ss c ≡ Open (suc l) → state_at ss (edge_at g c l).to ≡ Done u → (edge_at g c l).to < length g → ss' ≡ set ss c (Open l) → p' ≡ p → time' ≡ time → Makes g ss p time ss' p' time' Passed
makes_passed g ss p q time c l u ss' p' time' w top is target on states path times =
    let v = subst (λ x. IsWalk g ss x time) top w in
    let within : c < length ss = omega (arith, top_on g ss p q time c w top, w.size) in
    let sums = total_set weight ss c (Open l) within in
    let was : weight (state_at ss c) ≡ suc l + 1 = ap weight is in
    let fewer : measure (set ss c (Open l)) < measure ss = omega arith in
    let done : IsDone (state_at ss (edge_at g c l).to) = subst IsDone (sym target) tt in
    record {
      walk = subst (λ k. IsWalk g ss' p' k) (sym times) (subst (λ x. IsWalk g x p' time) (sym states) (subst (λ x. IsWalk g (set ss c (Open l)) x time) (sym (path ∙ top)) (passed g ss q time c l v is done on)));
      steps = record { node = c; edges = l; front = q; top = top; was = is; target = done; states = states; path_is = path };
      measure_is = inr (subst (λ x. measure x < measure ss) (sym states) fewer);
    }

pub makes_closed : (g : Graph) (ss : List State) (p q : List ℕ) (time c l d n : ℕ) → IsWalk g ss p time → p ≡ q ++ c ∷ [] → state_at ss c ≡ Open (suc l) → (edge_at g c l).to ≡ d → d < length g → state_at ss d ≡ Open n → Makes g ss p time ss p time (Closed d)
makes_closed g ss p q time c l d n w top is target on open_d =
    record {
      walk = w;
      steps = (record { node = c; front = q; top = top; links = subst (λ s. Links g c s d) (sym is) target }, subst IsOpen (sym open_d) tt, on, refl, refl);
      measure_is = inl tt;
    }

pub begins : (g : Graph) (ss : List State) (p : List ℕ) (time d n : ℕ) (ss' : List State) (p' : List ℕ) (time' : ℕ) → IsWalk g ss p time → p ≡ [] → d < length g → state_at ss d ≡ New n → ss' ≡ set ss d (Open n) → p' ≡ p ++ d ∷ [] → time' ≡ time → IsWalk g ss' p' time'
begins g ss p time d n ss' p' time' w none on new states path times =
    let no_link : (i : ℕ) → suc i ≡ length p → Links g (slice_index p i) (state_at ss (slice_index p i)) d = λ i e. absurd (omega (arith, ap length none)) in
    subst (λ k. IsWalk g ss' p' k) (sym times) (subst (λ x. IsWalk g x p' time) (sym states) (subst (λ x. IsWalk g (set ss d (Open n)) x time) (sym path) (entered g ss p time d n w on new no_link)))

-- an open state with an edge left, by the edge's number
pub open_suc : (s : State) (e : ℕ) → 0 < e → s ≡ Open e → s ≡ Open (suc (e - 1))
open_suc s e some is = is ∙ ap (λ n. Open n) (omega arith)

pub never_new : (s : State) (n : ℕ) → IsOpen s → s ≡ New n → ⊥
never_new s n open_s is = subst IsOpen is open_s

pub never_done : (s : State) (n : ℕ) → IsOpen s → s ≡ Done n → ⊥
never_done s n open_s is = subst IsOpen is open_s

-- fewer nodes are done than there are, while one is open
pub some_undone : (g : Graph) (ss : List State) (p q : List ℕ) (time c : ℕ) → IsWalk g ss p time → p ≡ q ++ c ∷ [] → time < length ss
some_undone g ss p q time c w top =
    let on = top_on g ss p q time c w top in
    let within : c < length ss = omega (arith, w.size) in
    let sums = total_set undone ss c (Done 0) within in
    let one : undone (state_at ss c) ≡ 1 = counts (state_at ss c) (top_open g ss p q time c w top) in
    omega (arith, w.count, w.size)
  where
    counts : (s : State) → IsOpen s → undone s ≡ 1
    counts (New n) h = absurd h
    counts (Open n) h = refl
    counts (Done n) h = absurd h

-- the edge that is looked at leads to a node of the graph
pub target_on : (g : Graph) (ss : List State) (p q : List ℕ) (time c l : ℕ) → InRange g → IsWalk g ss p time → p ≡ q ++ c ∷ [] → state_at ss c ≡ Open (suc l) → (edge_at g c l).to < length g
target_on g ss p q time c l range w top is =
    let on = top_on g ss p q time c w top in
    let right = subst (λ s. IsRight g ss time c s) is (w.right c on) in
    range c l on (omega (arith, right.0))
