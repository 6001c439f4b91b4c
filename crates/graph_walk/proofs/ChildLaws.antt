-- The graph that leads from parents down.
use Rattle.std.proofs.Common.{◌≡◌, ℕ, ◌+◌, ◌<◌, ◌≤◌, List, [], ◌∷◌, ◌++◌, Option, None, Some, length, get_or, ap, sym, ◌∙◌, subst, arith, ◌⊎◌, inl, inr, length-append, get_or-set_same, get_or-set_other}
use Rattle.std.proofs.Math.ListN.{set, length-set}
use Rattle.std.proofs.lemmas.Bool.{cases_eq, cases_lt}
use Rattle.std.proofs.lemmas.List.{get_or-append-add, get_or_append_left}
use Rattle.graph_walk.specs.declared.walk.Edge.{Edge}
use Rattle.graph_walk.specs.Children.{IsChildren, child}
use Rattle.graph_walk.specs.Cycles.{Leads}
use Rattle.graph_walk.specs.Walk.{Graph, edges_at, edge_at, no_edge}

edges_same : (g : Graph) (q : ℕ) (es : List Edge) → q < length g → edges_at (set g q es) q ≡ es
edges_same g q es h = get_or-set_same g q es [] h

edges_other : (g : Graph) (q c : ℕ) (es : List Edge) → (c ≡ q → ⊥) → edges_at (set g q es) c ≡ edges_at g c
edges_other g q c es ne = get_or-set_other g q c es [] ne

edge_front : (xs : List Edge) (e : Edge) (k : ℕ) → k < length xs → get_or (xs ++ e ∷ []) k no_edge ≡ get_or xs k no_edge
edge_front xs e k h = get_or_append_left xs (e ∷ []) no_edge k h

edge_last : (xs : List Edge) (e : Edge) → get_or (xs ++ e ∷ []) (length xs) no_edge ≡ e
edge_last xs e = let same : length xs + 0 ≡ length xs = omega arith in subst (λ n. get_or (xs ++ e ∷ []) n no_edge ≡ e) same (get_or-append-add xs (e ∷ []) 0 no_edge)

-- the next node has a parent
pub child_more : (up : ℕ → Option ℕ) (n : ℕ) (i q : ℕ) (g g' : Graph) → IsChildren up n i g → i < n → q < n → up i ≡ Some q → g' ≡ set g q (edges_at g q ++ child i ∷ []) → IsChildren up n (i + 1) g'
child_more up n i q g g' w i_on q_on is_up is =
    subst (λ x. IsChildren up n (i + 1) x) (sym is) (record {
      size = length-set g q (edges_at g q ++ child i ∷ []) ∙ w.size;
      sound = λ c k h. sound c k h (cases_eq c q);
      complete = λ c p h u. complete c p h u (cases_eq c i) (cases_eq p q);
    })
  where
    es : List Edge
    es = edges_at g q ++ child i ∷ []

    len : length (edges_at g q ++ child i ∷ []) ≡ length (edges_at g q) + 1
    len = length-append (edges_at g q) (child i ∷ [])

    on : q < length g
    on = omega (arith, w.size)

    Fine : ℕ → Edge → Type 0
    Fine c e = (e.to < n) × (up e.to ≡ Some c)

    sound_q : (k : ℕ) → k < length (edges_at g q ++ child i ∷ []) → (k < length (edges_at g q)) ⊎ (length (edges_at g q) ≤ k) → ((get_or (edges_at g q ++ child i ∷ []) k no_edge).to < n) × (up (get_or (edges_at g q ++ child i ∷ []) k no_edge).to ≡ Some q)
    sound_q k h (inl a) = subst (λ (e : Edge). (e.to < n) × (up e.to ≡ Some q)) (sym (edge_front (edges_at g q) (child i) k a)) (w.sound q k a)
    sound_q k h (inr b) =
        let last : length (edges_at g q) ≡ k = omega (arith, len) in
        subst (λ m. ((get_or (edges_at g q ++ child i ∷ []) m no_edge).to < n) × (up (get_or (edges_at g q ++ child i ∷ []) m no_edge).to ≡ Some q)) last
        (subst (λ (e : Edge). (e.to < n) × (up e.to ≡ Some q)) (sym (edge_last (edges_at g q) (child i))) (i_on, is_up))

    sound : (c k : ℕ) → k < length (edges_at (set g q (edges_at g q ++ child i ∷ [])) c) → (c ≡ q) ⊎ (c ≡ q → ⊥) → ((edge_at (set g q (edges_at g q ++ child i ∷ [])) c k).to < n) × (up (edge_at (set g q (edges_at g q ++ child i ∷ [])) c k).to ≡ Some c)
    sound c k h (inl e) =
        let here = edges_same g q (edges_at g q ++ child i ∷ []) on in
        let same : edges_at (set g q (edges_at g q ++ child i ∷ [])) c ≡ edges_at g q ++ child i ∷ [] = ap (λ x. edges_at (set g q (edges_at g q ++ child i ∷ [])) x) e ∙ here in
        subst (λ x. ((edge_at (set g q (edges_at g q ++ child i ∷ [])) c k).to < n) × (up (edge_at (set g q (edges_at g q ++ child i ∷ [])) c k).to ≡ Some x)) (sym e)
        (subst (λ xs. ((get_or xs k no_edge).to < n) × (up (get_or xs k no_edge).to ≡ Some q)) (sym same)
        (sound_q k (subst (λ xs. k < length xs) same h) (cases_lt k (length (edges_at g q)))))
    sound c k h (inr ne) =
        let same = edges_other g q c (edges_at g q ++ child i ∷ []) ne in
        subst (λ xs. ((get_or xs k no_edge).to < n) × (up (get_or xs k no_edge).to ≡ Some c)) (sym same) (w.sound c k (subst (λ xs. k < length xs) same h))

    kept : (c p : ℕ) → Leads g p c → (p ≡ q) ⊎ (p ≡ q → ⊥) → Leads (set g q (edges_at g q ++ child i ∷ [])) p c
    kept c p (k, lt, to) (inl e) =
        let here = edges_same g q (edges_at g q ++ child i ∷ []) on in
        let same : edges_at (set g q (edges_at g q ++ child i ∷ [])) p ≡ edges_at g q ++ child i ∷ [] = ap (λ x. edges_at (set g q (edges_at g q ++ child i ∷ [])) x) e ∙ here in
        let lt' : k < length (edges_at g q) = subst (λ x. k < length (edges_at g x)) e lt in
        let to' : (get_or (edges_at g q) k no_edge).to ≡ c = subst (λ x. (edge_at g x k).to ≡ c) e to in
        (k, subst (λ xs. k < length xs) (sym same) (omega (arith, lt', len)), ap (λ xs. (get_or xs k no_edge).to) same ∙ ap (λ (x : Edge). x.to) (edge_front (edges_at g q) (child i) k lt') ∙ to')
    kept c p (k, lt, to) (inr ne) =
        let same = edges_other g q p (edges_at g q ++ child i ∷ []) ne in
        (k, subst (λ xs. k < length xs) (sym same) lt, ap (λ xs. (get_or xs k no_edge).to) same ∙ to)

    complete : (c p : ℕ) → c < i + 1 → up c ≡ Some p → (c ≡ i) ⊎ (c ≡ i → ⊥) → (p ≡ q) ⊎ (p ≡ q → ⊥) → Leads (set g q (edges_at g q ++ child i ∷ [])) p c
    complete c p h u (inr ne) t = kept c p (w.complete c p (omega arith) u) t
    complete c p h u (inl e) t =
        let both : Some p ≡ Some q = sym u ∙ ap up e ∙ is_up in
        let p_is : p ≡ q = cc in
        let here = edges_same g q (edges_at g q ++ child i ∷ []) on in
        let same : edges_at (set g q (edges_at g q ++ child i ∷ [])) p ≡ edges_at g q ++ child i ∷ [] = ap (λ x. edges_at (set g q (edges_at g q ++ child i ∷ [])) x) p_is ∙ here in
        (length (edges_at g q), subst (λ xs. length (edges_at g q) < length xs) (sym same) (omega (arith, len)), ap (λ xs. (get_or xs (length (edges_at g q)) no_edge).to) same ∙ ap (λ (x : Edge). x.to) (edge_last (edges_at g q) (child i)) ∙ sym e)

-- the next node has none
pub child_none : (up : ℕ → Option ℕ) (n : ℕ) (i : ℕ) (g : Graph) → IsChildren up n i g → up i ≡ None → IsChildren up n (i + 1) g
child_none up n i g w none =
    record {
      size = w.size;
      sound = w.sound;
      complete = λ c p h u. complete c p h u (cases_eq c i);
    }
  where
    complete : (c p : ℕ) → c < i + 1 → up c ≡ Some p → (c ≡ i) ⊎ (c ≡ i → ⊥) → Leads g p c
    complete c p h u (inl e) = let never : Some p ≡ None = sym u ∙ ap up e ∙ none in cc
    complete c p h u (inr ne) = w.complete c p (omega arith) u

pub no_child : (up : ℕ → Option ℕ) (n : ℕ) (g : Graph) → length g ≡ n → ((q : ℕ) → edges_at g q ≡ []) → IsChildren up n 0 g
no_child up n g size none =
    record {
      size = size;
      sound = λ q k h. absurd (empty q k h);
      complete = λ c q h u. absurd (omega arith);
    }
  where
    empty : (q k : ℕ) → k < length (edges_at g q) → ⊥
    empty q k h = let e = ap length (none q) in omega arith
