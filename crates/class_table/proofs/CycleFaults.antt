-- What the search for a cycle in the graphs of derivation and containment says of the model's faults.
use Rattle.std.proofs.Common.{◌≡◌, ℕ, zero, suc, ◌+◌, ◌<◌, ◌≤◌, List, [], ◌∷◌, None, Some, length, map, refl, ap, sym, ◌∙◌, subst, arith, ◌⊎◌, inl, inr}
use Rattle.std.specs.Prelude.{Contains}
use Rattle.conf_syntax.specs.declared.tree.ClassDecl.{ClassDecl}
use Rattle.conf_syntax.specs.declared.tree.Item.{Item}
use Rattle.conf_syntax.specs.declared.tree.VarDecl.{VarDecl}
use Rattle.class_table.specs.declared.fault.TableFault.TheVariants.{InheritCycle, ContainCycle}
use Rattle.graph_walk.specs.declared.walk.Edge.{Edge}
use Rattle.graph_walk.specs.declared.walk.State.{State}
use Rattle.graph_walk.specs.Cycles.{Leads, PlainLeads, IsOnCycle, IsPlainCycle, IsOrdered, rank}
use Rattle.class_table.specs.Faults.{Stands, derives_itself, contains_itself, parent_of, own_of, attributes_of, Holds, IsParent, ContainsOne, class_count}
use Rattle.class_table.specs.Graphs.{derivation, containment, parent_edges, class_edges}
use Rattle.class_table.specs.Names.{space, classes}
use Rattle.class_table.specs.Outline.{parent_named}
use Rattle.graph_walk.specs.Steps.{StepsBy}
use Rattle.graph_walk.specs.Walk.{Graph, edges_at, edge_at}
use Rattle.class_table.proofs.AncestryLaws.{Falls, falls_steps, declared_by, is_attribute}
use Rattle.graph_walk.proofs.CycleLaws.{steps_append}
use Rattle.class_table.proofs.GraphLaws.{within, parent_is, parent_found, own_found, derivation_edge, containment_edge, parent_leads, parent_contained, attribute_leads, IsHeld}

steps_map : (R S : ℕ → ℕ → Type 0) → ((c d : ℕ) → R c d → S c d) → (n c d : ℕ) → StepsBy R n c d → StepsBy S n c d
steps_map R S go zero c d s = s
steps_map R S go (suc n) c d s = (s.0, go c s.0 s.1, steps_map R S go n s.0 d s.2)

-- edges leave nodes of the graph alone
leads_within : (f : ClassDecl → List Edge) (ds : List ClassDecl) (c k : ℕ) → k < length (edges_at (map f ds) c) → c < length ds
leads_within f [] c k h = absurd (omega (arith, h))
leads_within f (d ∷ ds) zero k h = omega arith
leads_within f (d ∷ ds) (suc c) k h = let r = leads_within f ds c k h in omega arith

length_edges : (f : ClassDecl → List Edge) (ds : List ClassDecl) → length (map f ds) ≡ length ds
length_edges f [] = refl
length_edges f (d ∷ ds) = ap suc (length_edges f ds)

module _ (items : List Item) where
  abbrev D : Graph
  D = derivation (space items) (classes items)

  abbrev C : Graph
  C = containment (space items) (classes items)

  leads_parent : (c d : ℕ) → Leads D c d → IsParent items c d
  leads_parent c d (k, lt, to) =
      let e = derivation_edge items c k lt in
      parent_is items c e.0 e.1 ∙ ap (λ o. parent_named (space items) o) e.2.name ∙ e.2.class ∙ ap (λ n. Some n) to

  pub inherit_cycle : (at : ℕ) → IsOnCycle D at → Stands items (InheritCycle at)
  inherit_cycle at w =
      let e = derivation_edge items w.node w.number w.edge in
      let to = (edge_at D w.node w.number).to in
      let up = leads_parent w.node to (w.number, w.edge, refl) in
      let back = steps_map (Leads D) (IsParent items) leads_parent w.back to w.node w.returns in
      let round : StepsBy (IsParent items) (suc w.back) w.node w.node = (to, up, back) in
      let same : Some e.2.ident.at ≡ Some at = sym e.2.place ∙ w.place in
      let at_is : e.2.ident.at ≡ at = cc in
      subst (λ n. Stands items (InheritCycle n)) at_is (derives_itself w.node w.back e.0 e.2.ident e.1 e.2.name round)

  pub inherit_marked : IsPlainCycle D → ⊥
  inherit_marked w =
      let first = w.returns.1 in
      let e = derivation_edge items w.node first.0 first.1 in
      let marked : None ≡ Some e.2.ident.at = sym first.3 ∙ e.2.place in
      cc

  pub inherit_falls : (states : List State) → IsOrdered D states → Falls (parent_of items) (rank states)
  inherit_falls states o c d up =
      let l = parent_leads items c d up in
      let on = leads_within (parent_edges (space items)) (classes items) c l.0 l.1 in
      subst (λ x. rank states x < rank states c) l.2 (o.falls c l.0 (omega (arith, on, length_edges (parent_edges (space items)) (classes items))) l.1)

  pub contained_below : (states : List State) → IsOrdered C states → (c : ℕ) → c < class_count items → rank states c < class_count items
  contained_below states o c lt =
      let len = length_edges (class_edges (space items)) (classes items) in
      let b = o.below c (omega (arith, lt, len)) in omega (arith, b, len)

  pub inherit_below : (states : List State) → IsOrdered D states → (c : ℕ) → c < class_count items → rank states c < class_count items
  inherit_below states o c lt =
      let len = length_edges (parent_edges (space items)) (classes items) in
      let b = o.below c (omega (arith, lt, len)) in omega (arith, b, len)

  module _ (r : ℕ → ℕ) (falls : Falls (parent_of items) r) (below : (c : ℕ) → c < class_count items → r c < class_count items) where
    -- no class derives from itself
    pub no_inherit : (k c : ℕ) → StepsBy (IsParent items) (suc k) c c → ⊥
    no_inherit k c s = let f = falls_steps (parent_of items) r falls (suc k) c c s in omega arith

    parent_within : (c q : ℕ) → IsParent items c q → c < class_count items
    parent_within c q h = let d = parent_found items c q h in within (classes items) c d.0 d.1

    steps_within : (j c b : ℕ) → StepsBy (IsParent items) j c b → b < class_count items → c < class_count items
    steps_within zero c b s h = subst (λ x. x < class_count items) (sym s) h
    steps_within (suc j) c b s h = parent_within c s.0 s.1

    has_own : (c : ℕ) (v : VarDecl) → Contains (own_of items c) v → Contains (attributes_of items c) v
    has_own c v h =
        let d = own_found items c v h in
        let b = below c (within (classes items) c d.0 d.1) in
        is_attribute (parent_of items) r falls (own_of items) (class_count items) zero (class_count items) c c v refl h (omega (arith, b))

    inherits : (c q e : ℕ) → IsParent items c q → ContainsOne items q e → ContainsOne items c e
    inherits c q e up one =
        let d = declared_by (parent_of items) r falls (own_of items) (class_count items) (class_count items) q one.attribute one.has in
        let b = below c (parent_within c q up) in
        record {
          attribute = one.attribute;
          at = one.at;
          has = is_attribute (parent_of items) r falls (own_of items) (class_count items) (suc d.0) (class_count items) c d.1 one.attribute (q, up, d.2) d.3 (omega (arith, b));
          holds = one.holds;
        }

    -- steps in the graph of containment: first containment, and then derivation
    pub split : (n d b : ℕ) → StepsBy (Leads C) n d b → (c m j : ℕ) × StepsBy (ContainsOne items) m d c × StepsBy (IsParent items) j c b
    split zero d b s = (d, 0, 0, refl, s)
    split (suc n) d b (e, (k, lt, to), rest) = by (split n e b rest) (containment_edge items d k lt)
      where
        further : (c m j : ℕ) → StepsBy (ContainsOne items) m e c → StepsBy (IsParent items) j c b → IsParent items d e → (c m j : ℕ) × StepsBy (ContainsOne items) m d c × StepsBy (IsParent items) j c b
        further c zero j one up p = (d, 0, suc j, refl, (e, p, subst (λ x. StepsBy (IsParent items) j x b) (sym one) up))
        further c (suc m) j (f, first, more) up p = (c, suc m, j, (f, inherits d e f p first, more), up)

        by : (c m j : ℕ) × StepsBy (ContainsOne items) m e c × StepsBy (IsParent items) j c b → IsHeld items d (edge_at C d k) ⊎ ((parent_of items d ≡ Some (edge_at C d k).to) × ((edge_at C d k).place ≡ None)) → (c m j : ℕ) × StepsBy (ContainsOne items) m d c × StepsBy (IsParent items) j c b
        by (c, m, j, one, up) (inl h) =
            (c, suc m, j, (e, record { attribute = h.attribute; at = h.at; has = has_own d h.attribute h.has; holds = subst (λ x. Holds items h.attribute x h.at) to h.holds }, one), up)
        by (c, m, j, one, up) (inr p) = further c m j one up (p.0 ∙ ap (λ x. Some x) to)

    pub contain_cycle : (at : ℕ) → IsOnCycle C at → Stands items (ContainCycle at)
    contain_cycle at w = by (containment_edge items w.node w.number w.edge)
      where
        by : IsHeld items w.node (edge_at C w.node w.number) ⊎ ((parent_of items w.node ≡ Some (edge_at C w.node w.number).to) × ((edge_at C w.node w.number).place ≡ None)) → Stands items (ContainCycle at)
        by (inr p) = let never : None ≡ Some at = sym p.1 ∙ w.place in cc
        by (inl h) =
            let s = split w.back (edge_at C w.node w.number).to w.node w.returns in
            let same : Some h.at ≡ Some at = sym h.place ∙ w.place in
            let at_is : h.at ≡ at = cc in
            let on : w.node < class_count items = omega (arith, w.on_graph, length_edges (class_edges (space items)) (classes items)) in
            let c_on = steps_within s.2 s.0 w.node s.4 on in
            let b = below s.0 c_on in
            contains_itself s.0 (edge_at C w.node w.number).to s.1 h.attribute
            (is_attribute (parent_of items) r falls (own_of items) (class_count items) s.2 (class_count items) s.0 w.node h.attribute s.4 h.has (omega (arith, b)))
            (subst (λ n. Holds items h.attribute (edge_at C w.node w.number).to n) at_is h.holds) s.3

    pub contain_marked : IsPlainCycle C → ⊥
    contain_marked w = no_inherit w.back w.node (steps_map (PlainLeads C) (IsParent items) plain (suc w.back) w.node w.node w.returns)
      where
        plain : (c d : ℕ) → PlainLeads C c d → IsParent items c d
        plain c d (k, lt, to, none) = by (containment_edge items c k lt)
          where
            by : IsHeld items c (edge_at C c k) ⊎ ((parent_of items c ≡ Some (edge_at C c k).to) × ((edge_at C c k).place ≡ None)) → IsParent items c d
            by (inl h) = let never : None ≡ Some h.at = sym none ∙ h.place in cc
            by (inr p) = p.0 ∙ ap (λ x. Some x) to

    contains_leads : (c e : ℕ) → ContainsOne items c e → (n : ℕ) × StepsBy (Leads C) (suc n) c e
    contains_leads c e one =
        let d = declared_by (parent_of items) r falls (own_of items) (class_count items) (class_count items) c one.attribute one.has in
        let up = steps_map (IsParent items) (Leads C) (parent_contained items) d.0 c d.1 d.2 in
        let l = attribute_leads items d.1 e one.at one.attribute d.3 one.holds in
        let all = steps_append (Leads C) d.0 1 c d.1 e up (e, l, refl) in
        let same : d.0 + 1 ≡ suc d.0 = omega arith in
        (d.0, subst (λ n. StepsBy (Leads C) n c e) same all)

    all_lead : (m d c : ℕ) → StepsBy (ContainsOne items) m d c → (n : ℕ) × StepsBy (Leads C) n d c
    all_lead zero d c s = (0, s)
    all_lead (suc m) d c (e, one, rest) =
        let a = contains_leads d e one in
        let b = all_lead m e c rest in
        (suc a.0 + b.0, steps_append (Leads C) (suc a.0) b.0 d e c a.1 b.1)

    -- where the graph of containment has an order, it falls from each class to those of which its objects contain one
    pub contained_falls : (states : List State) → IsOrdered C states → (c d : ℕ) → ContainsOne items c d → rank states d < rank states c
    contained_falls states o c d one =
        let l = contains_leads c d one in
        let a = one_falls c l.1.0 l.1.1 in
        let b = all_fall l.0 l.1.0 d l.1.2 in
        omega arith
      where
        one_falls : (x y : ℕ) → Leads C x y → rank states y < rank states x
        one_falls x y (k, lt, to) =
            let on = leads_within (class_edges (space items)) (classes items) x k lt in
            subst (λ z. rank states z < rank states x) to (o.falls x k (omega (arith, on, length_edges (class_edges (space items)) (classes items))) lt)

        all_fall : (m x y : ℕ) → StepsBy (Leads C) m x y → rank states y ≤ rank states x
        all_fall zero x y e = let f = ap (rank states) e in omega arith
        all_fall (suc m) x y (z, l, rest) = let a = one_falls x z l in let q = all_fall m z y rest in omega arith

    -- where the graph of containment has an order, no attribute lies on a cycle
    pub no_contain : (states : List State) → IsOrdered C states → (c d n at : ℕ) (v : VarDecl) → Contains (attributes_of items c) v → Holds items v d at → StepsBy (ContainsOne items) n d c → ⊥
    no_contain states o c d n at v has holds s =
        let up = declared_by (parent_of items) r falls (own_of items) (class_count items) (class_count items) c v has in
        let first = steps_map (IsParent items) (Leads C) (parent_contained items) up.0 c up.1 up.2 in
        let down = all_lead n d c s in
        let back = steps_append (Leads C) down.0 up.0 d c up.1 down.1 first in
        let l = attribute_leads items up.1 d at v up.3 holds in
        let r1 = one_falls up.1 d l in
        let r2 = all_fall (down.0 + up.0) d up.1 back in
        omega arith
      where
        one_falls : (x y : ℕ) → Leads C x y → rank states y < rank states x
        one_falls x y (k, lt, to) =
            let on = leads_within (class_edges (space items)) (classes items) x k lt in
            subst (λ z. rank states z < rank states x) to (o.falls x k (omega (arith, on, length_edges (class_edges (space items)) (classes items))) lt)

        all_fall : (m x y : ℕ) → StepsBy (Leads C) m x y → rank states y ≤ rank states x
        all_fall zero x y e = let f = ap (rank states) e in omega arith
        all_fall (suc m) x y (z, l, rest) = let a = one_falls x z l in let q = all_fall m z y rest in omega arith
