-- What the edges of the graphs of derivation and containment say of the model.
use Rattle.std.proofs.Common.{◌≡◌, ℕ, zero, suc, ◌<◌, List, [], ◌∷◌, Option, None, Some, length, get_or, map, refl, ap, sym, ◌∙◌, subst, arith, ◌⊎◌, inl, inr}
use Rattle.std.specs.Prelude.{Contains, slice_get}
use Rattle.std.specs.List.{flat_map}
use Rattle.std.specs.Option.{option_map_or}
use Rattle.std.proofs.lemmas.List.Elements.{Contains-append_left, Contains-append_right, Contains-append_cases, Contains-get_or}
use Rattle.conf_syntax.specs.declared.token.Ident.{Ident}
use Rattle.conf_syntax.specs.declared.tree.ClassDecl.{ClassDecl}
use Rattle.conf_syntax.specs.declared.tree.Item.{Item}
use Rattle.conf_syntax.specs.declared.tree.Member.{Member}
use Rattle.conf_syntax.specs.declared.tree.Member.TheVariants as member
use Rattle.conf_syntax.specs.declared.tree.VarDecl.{VarDecl}
use Rattle.class_table.specs.declared.table.Class.{Class}
use Rattle.graph_walk.specs.declared.walk.Edge.{Edge}
use Rattle.graph_walk.specs.Cycles.{Leads}
use Rattle.class_table.specs.Faults.{contained_name, parent_of, own_of, Holds}
use Rattle.class_table.specs.Graphs.{to_class, named_edges, parent_edges, derivation, member_edges, class_edges, containment}
use Rattle.class_table.specs.Names.{Space, space, means, classes, own, member_variable}
use Rattle.class_table.specs.Outline.{class_meant, parent_named, class_of}
use Rattle.graph_walk.specs.Walk.{Graph, edges_at, edge_at, no_edge}
use Rattle.class_table.proofs.ListLaws.{contains_flat, flat_contains, contains_one, contains_none}

-- The declaration of a class, by its number

pub edges_found : (f : ClassDecl → List Edge) (ds : List ClassDecl) (c k : ℕ) → k < length (edges_at (map f ds) c) → (d : ClassDecl) × (slice_get ds c ≡ Some d) × (edges_at (map f ds) c ≡ f d)
edges_found f [] c k h = absurd (omega (arith, h))
edges_found f (d ∷ ds) zero k h = (d, refl, refl)
edges_found f (d ∷ ds) (suc c) k h = edges_found f ds c k h

pub edges_are : (f : ClassDecl → List Edge) (ds : List ClassDecl) (c : ℕ) (d : ClassDecl) → slice_get ds c ≡ Some d → edges_at (map f ds) c ≡ f d
edges_are f [] c d h = cc
edges_are f (x ∷ ds) zero d h = ap f (some_is h)
  where
    some_is : {X : Type 0} {a b : X} → Some a ≡ Some b → a ≡ b
    some_is e = cc
edges_are f (x ∷ ds) (suc c) d h = edges_are f ds c d h

pub within : {X : Type 0} (xs : List X) (c : ℕ) (x : X) → slice_get xs c ≡ Some x → c < length xs
within [] c x h = cc
within (y ∷ ys) zero x h = omega arith
within (y ∷ ys) (suc c) x h = let r = within ys c x h in omega arith

parent_at : (names : Space) (ds : List ClassDecl) (c : ℕ) → option_map_or (λ (k : Class). k.parent) (slice_get (map (class_of names) ds) c) None ≡ option_map_or (λ (d : ClassDecl). parent_named names d.parent) (slice_get ds c) None
parent_at names [] c = refl
parent_at names (d ∷ ds) zero = refl
parent_at names (d ∷ ds) (suc c) = parent_at names ds c

module _ (items : List Item) where
  pub parent_is : (c : ℕ) (d : ClassDecl) → slice_get (classes items) c ≡ Some d → parent_of items c ≡ parent_named (space items) d.parent
  parent_is c d h = parent_at (space items) (classes items) c ∙ ap (λ o. option_map_or (λ (d : ClassDecl). parent_named (space items) d.parent) o None) h

  pub parent_found : (c q : ℕ) → parent_of items c ≡ Some q → (d : ClassDecl) × (slice_get (classes items) c ≡ Some d) × (parent_named (space items) d.parent ≡ Some q)
  parent_found c q h = by (slice_get (classes items) c) refl
    where
      by : (o : Option ClassDecl) → slice_get (classes items) c ≡ o → (d : ClassDecl) × (slice_get (classes items) c ≡ Some d) × (parent_named (space items) d.parent ≡ Some q)
      by None e = let none : None ≡ Some q = sym (parent_at (space items) (classes items) c ∙ ap (λ o. option_map_or (λ (d : ClassDecl). parent_named (space items) d.parent) o None) e) ∙ h in cc
      by (Some d) e = (d, e, sym (parent_is c d e) ∙ h)

  pub own_is : (c : ℕ) (d : ClassDecl) → slice_get (classes items) c ≡ Some d → own_of items c ≡ own d
  own_is c d h = ap (λ o. option_map_or own o []) h

  pub own_found : (c : ℕ) (v : VarDecl) → Contains (own_of items c) v → (d : ClassDecl) × (slice_get (classes items) c ≡ Some d) × Contains (own d) v
  own_found c v h = by (slice_get (classes items) c) refl
    where
      by : (o : Option ClassDecl) → slice_get (classes items) c ≡ o → (d : ClassDecl) × (slice_get (classes items) c ≡ Some d) × Contains (own d) v
      by None e = absurd (contains_none v (subst (λ xs. Contains xs v) (ap (λ o. option_map_or own o []) e) h))
      by (Some d) e = (d, e, subst (λ xs. Contains xs v) (own_is c d e) h)

  -- Edges

  pub record IsNamed (o : Option Ident) (e : Edge) : Type 0 where
    pub ident : Ident
    pub name : o ≡ Some ident
    pub class : class_meant (means (space items) ident.name) ≡ Some e.to
    pub place : e.place ≡ Some ident.at

  pub named_edge : (o : Option Ident) (e : Edge) → Contains (named_edges (space items) o) e → IsNamed o e
  named_edge None e h = absurd (contains_none e h)
  named_edge (Some i) e h = by (class_meant (means (space items) i.name)) refl h
    where
      by : (m : Option ℕ) → class_meant (means (space items) i.name) ≡ m → Contains (to_class m (Some i.at)) e → IsNamed (Some i) e
      by None g h = absurd (contains_none e h)
      by (Some q) g h =
          let is = contains_one (record { to = q; place = Some i.at }) e h in
          record { ident = i; name = refl; class = g ∙ ap (λ (x : Edge). Some x.to) is; place = sym (ap (λ (x : Edge). x.place) is) }

  pub edge_of_name : (i : Ident) (q : ℕ) → class_meant (means (space items) i.name) ≡ Some q → Contains (named_edges (space items) (Some i)) (record { to = q; place = Some i.at })
  edge_of_name i q h = subst (λ m. Contains (to_class m (Some i.at)) (record { to = q; place = Some i.at })) (sym h) (0, omega arith, refl)

  -- the last edge of a class in the graph of containment
  plain_edge : (m : Option ℕ) (e : Edge) → Contains (to_class m None) e → (m ≡ Some e.to) × (e.place ≡ None)
  plain_edge None e h = absurd (contains_none e h)
  plain_edge (Some q) e h = let is = contains_one (record { to = q; place = None }) e h in (ap (λ (x : Edge). Some x.to) is, sym (ap (λ (x : Edge). x.place) is))

  member_edge : (m : Member) (e : Edge) → Contains (member_edges (space items) m) e → (v : VarDecl) × (m ≡ member.Var v) × IsNamed (contained_name v.shape) e
  member_edge (member.Var v) e h = (v, refl, named_edge (contained_name v.shape) e h)
  member_edge (member.Where w) e h = absurd (contains_none e h)

  member_of : (m : Member) (v : VarDecl) → Contains (member_variable m) v → m ≡ member.Var v
  member_of (member.Var x) v h = ap (λ y. member.Var y) (contains_one x v h)
  member_of (member.Where w) v h = absurd (contains_none v h)

  -- an edge of the graph of derivation
  pub derivation_edge : (c k : ℕ) → k < length (edges_at (derivation (space items) (classes items)) c) → (d : ClassDecl) × (slice_get (classes items) c ≡ Some d) × IsNamed d.parent (edge_at (derivation (space items) (classes items)) c k)
  derivation_edge c k h =
      let found = edges_found (parent_edges (space items)) (classes items) c k h in
      let has = Contains-get_or (edges_at (derivation (space items) (classes items)) c) k no_edge h in
      (found.0, found.1, named_edge found.0.parent (edge_at (derivation (space items) (classes items)) c k) (subst (λ xs. Contains xs (edge_at (derivation (space items) (classes items)) c k)) found.2 has))

  -- an edge of the graph of containment: an attribute's, or to the parent
  pub record IsHeld (c : ℕ) (e : Edge) : Type 0 where
    pub attribute : VarDecl
    pub at : ℕ
    pub has : Contains (own_of items c) attribute
    pub holds : Holds items attribute e.to at
    pub place : e.place ≡ Some at

  pub containment_edge : (c k : ℕ) → k < length (edges_at (containment (space items) (classes items)) c) → IsHeld c (edge_at (containment (space items) (classes items)) c k) ⊎ ((parent_of items c ≡ Some (edge_at (containment (space items) (classes items)) c k).to) × ((edge_at (containment (space items) (classes items)) c k).place ≡ None))
  containment_edge c k h =
      let e = edge_at (containment (space items) (classes items)) c k in
      let found = edges_found (class_edges (space items)) (classes items) c k h in
      let has = Contains-get_or (edges_at (containment (space items) (classes items)) c) k no_edge h in
      by found.0 found.1 (Contains-append_cases (flat_map (member_edges (space items)) found.0.members) (to_class (parent_named (space items) found.0.parent) None) e (subst (λ xs. Contains xs e) found.2 has))
    where
      by : (d : ClassDecl) → slice_get (classes items) c ≡ Some d → Contains (flat_map (member_edges (space items)) d.members) (edge_at (containment (space items) (classes items)) c k) ⊎ Contains (to_class (parent_named (space items) d.parent) None) (edge_at (containment (space items) (classes items)) c k) → IsHeld c (edge_at (containment (space items) (classes items)) c k) ⊎ ((parent_of items c ≡ Some (edge_at (containment (space items) (classes items)) c k).to) × ((edge_at (containment (space items) (classes items)) c k).place ≡ None))
      by d is (inl a) =
          let e = edge_at (containment (space items) (classes items)) c k in
          let m = contains_flat (member_edges (space items)) d.members e a in
          let v = member_edge m.0 e m.2 in
          let mine : Contains (own d) v.0 = flat_contains member_variable d.members m.0 v.0 m.1 (subst (λ x. Contains (member_variable x) v.0) (sym v.1) (0, omega arith, refl)) in
          inl (record { attribute = v.0; at = v.2.ident.at; has = subst (λ xs. Contains xs v.0) (sym (own_is c d is)) mine; holds = record { ident = v.2.ident; name = v.2.name; class = v.2.class; place = refl }; place = v.2.place })
      by d is (inr a) =
          let e = edge_at (containment (space items) (classes items)) c k in
          let p = plain_edge (parent_named (space items) d.parent) e a in
          inr (parent_is c d is ∙ p.0, p.1)

  leads_by : (g : Graph) (c : ℕ) (e : Edge) → Contains (edges_at g c) e → Leads g c e.to
  leads_by g c e h = (h.0, h.1, ap (λ (x : Edge). x.to) (at_same (edges_at g c) h.0 h.1 h.2))
    where
      at_same : (xs : List Edge) (k : ℕ) → k < length xs → get_or xs k e ≡ e → get_or xs k no_edge ≡ e
      at_same [] k lt i = absurd (omega (arith, lt))
      at_same (x ∷ xs) zero lt i = i
      at_same (x ∷ xs) (suc k) lt i = at_same xs k (omega (arith, lt)) i

  pub parent_leads : (c q : ℕ) → parent_of items c ≡ Some q → Leads (derivation (space items) (classes items)) c q
  parent_leads c q h =
      let d = parent_found c q h in
      by d.0 d.1 d.0.parent refl d.2
    where
      by : (d : ClassDecl) → slice_get (classes items) c ≡ Some d → (o : Option Ident) → d.parent ≡ o → parent_named (space items) o ≡ Some q → Leads (derivation (space items) (classes items)) c q
      by d is None e p = cc
      by d is (Some i) e p =
          leads_by (derivation (space items) (classes items)) c (record { to = q; place = Some i.at })
          (subst (λ xs. Contains xs (record { to = q; place = Some i.at })) (sym (edges_are (parent_edges (space items)) (classes items) c d is))
          (subst (λ o. Contains (named_edges (space items) o) (record { to = q; place = Some i.at })) (sym e) (edge_of_name i q p)))

  pub parent_contained : (c q : ℕ) → parent_of items c ≡ Some q → Leads (containment (space items) (classes items)) c q
  parent_contained c q h =
      let d = parent_found c q h in
      leads_by (containment (space items) (classes items)) c (record { to = q; place = None })
      (subst (λ xs. Contains xs (record { to = q; place = None })) (sym (edges_are (class_edges (space items)) (classes items) c d.0 d.1))
      (Contains-append_right (flat_map (member_edges (space items)) d.0.members) (to_class (parent_named (space items) d.0.parent) None) (record { to = q; place = None })
      (subst (λ m. Contains (to_class m None) (record { to = q; place = None })) (sym d.2) (0, omega arith, refl))))

  pub attribute_leads : (c d at : ℕ) (v : VarDecl) → Contains (own_of items c) v → Holds items v d at → Leads (containment (space items) (classes items)) c d
  attribute_leads c d at v has holds =
      let f = own_found c v has in
      let m = contains_flat member_variable f.0.members v f.2 in
      let e : Edge = record { to = d; place = Some holds.ident.at } in
      let named : Contains (member_edges (space items) m.0) e =
      subst (λ x. Contains (member_edges (space items) x) e) (sym (member_of m.0 v m.2))
      (subst (λ o. Contains (named_edges (space items) o) e) (sym holds.name) (edge_of_name holds.ident d holds.class)) in
      leads_by (containment (space items) (classes items)) c e
      (subst (λ xs. Contains xs e) (sym (edges_are (class_edges (space items)) (classes items) c f.0 f.1))
      (Contains-append_left (flat_map (member_edges (space items)) f.0.members) (to_class (parent_named (space items) f.0.parent) None) e (flat_contains (member_edges (space items)) f.0.members m.0 e m.1 named)))
