-- The edges of the graphs lead to classes.
use Rattle.std.proofs.Common.{◌≡◌, ℕ, suc, ◌<◌, List, [], ◌∷◌, Option, None, Some, length, map, refl, ap, sym, ◌∙◌, subst, arith, ◌⊎◌, inl, inr, Bor}
use Rattle.std.specs.Prelude.{Contains}
use Rattle.std.specs.List.{flat_map}
use Rattle.std.proofs.lemmas.List.Elements.{Contains-append_cases, Contains-get_or}
use Rattle.conf_syntax.specs.declared.token.Ident.{Ident}
use Rattle.conf_syntax.specs.declared.tree.ClassDecl.{ClassDecl}
use Rattle.conf_syntax.specs.declared.tree.Member.{Member}
use Rattle.conf_syntax.specs.declared.tree.Member.TheVariants as member
use Rattle.class_table.specs.declared.names.NameMeaning.{NameMeaning}
use Rattle.class_table.specs.declared.names.NameMeaning.TheVariants as meaning
use Rattle.graph_walk.specs.declared.walk.Edge.{Edge}
use Rattle.class_table.specs.Faults.{contained_name, IsNumbered, pointed}
use Rattle.class_table.specs.Graphs.{to_class, named_edges, parent_edges, derivation, member_edges, class_edges, containment}
use Rattle.class_table.specs.Names.{Space, means}
use Rattle.class_table.specs.Outline.{class_meant, parent_named}
use Rattle.graph_walk.specs.Walk.{Graph, edges_at, edge_at, no_edge, InRange}
use Rattle.class_table.proofs.GraphLaws.{edges_found}
use Rattle.class_table.proofs.ListLaws.{contains_flat, contains_one, contains_none}

length_made : (f : ClassDecl → List Edge) (ds : List ClassDecl) → length (map f ds) ≡ length ds
length_made f [] = refl
length_made f (d ∷ ds) = ap suc (length_made f ds)

pub length_pointed : (ds : List (Bor ClassDecl)) → length (pointed ds) ≡ length ds
length_pointed [] = refl
length_pointed (d ∷ ds) = ap suc (length_pointed ds)

range : (f : ClassDecl → List Edge) (ds : List ClassDecl) → ((d : ClassDecl) (e : Edge) → Contains (f d) e → e.to < length ds) → InRange (map f ds)
range f ds each c k lt h =
    let found = edges_found f ds c k h in
    let has = Contains-get_or (edges_at (map f ds) c) k no_edge h in
    let b = each found.0 (edge_at (map f ds) c k) (subst (λ xs. Contains xs (edge_at (map f ds) c k)) found.2 has) in
    omega (arith, b, length_made f ds)

module _ (names : Space) (n : ℕ) (numbered : IsNumbered names n) where
  to_is : (m : Option ℕ) (place : Option ℕ) (e : Edge) → Contains (to_class m place) e → m ≡ Some e.to
  to_is None place e h = absurd (contains_none e h)
  to_is (Some q) place e h = ap (λ (x : Edge). Some x.to) (contains_one (record { to = q; place = place }) e h)

  meant : (w : List ℕ) (c : ℕ) → class_meant (means names w) ≡ Some c → c < n
  meant w c h = by (means names w) refl h
    where
      by : (m : Option NameMeaning) → means names w ≡ m → class_meant m ≡ Some c → c < n
      by None e g = cc
      by (Some (meaning.Class k)) e g = let same : k ≡ c = cc in subst (λ x. x < n) same (numbered w k e)
      by (Some (meaning.Enumeration k)) e g = cc
      by (Some (meaning.Variable k)) e g = cc

  named : (o : Option Ident) (e : Edge) → Contains (named_edges names o) e → e.to < n
  named None e h = absurd (contains_none e h)
  named (Some i) e h = meant i.name e.to (to_is (class_meant (means names i.name)) (Some i.at) e h)

  of_member : (m : Member) (e : Edge) → Contains (member_edges names m) e → e.to < n
  of_member (member.Var v) e h = named (contained_name v.shape) e h
  of_member (member.Where w) e h = absurd (contains_none e h)

  to_parent : (o : Option Ident) (e : Edge) → Contains (to_class (parent_named names o) None) e → e.to < n
  to_parent None e h = absurd (contains_none e h)
  to_parent (Some i) e h = meant i.name e.to (to_is (class_meant (means names i.name)) None e h)

  of_class : (d : ClassDecl) (e : Edge) → Contains (class_edges names d) e → e.to < n
  of_class d e h = by (Contains-append_cases (flat_map (member_edges names) d.members) (to_class (parent_named names d.parent) None) e h)
    where
      by : Contains (flat_map (member_edges names) d.members) e ⊎ Contains (to_class (parent_named names d.parent) None) e → e.to < n
      by (inl a) = let m = contains_flat (member_edges names) d.members e a in of_member m.0 e m.2
      by (inr a) = to_parent d.parent e a

pub derivation_in_range : (names : Space) (ds : List (Bor ClassDecl)) (g : Graph) → g ≡ derivation names (pointed ds) → IsNumbered names (length ds) → InRange g
derivation_in_range names ds g e numbered =
    subst InRange (sym e) (range (parent_edges names) (pointed ds) (λ d x h. subst (λ n. x.to < n) (sym (length_pointed ds)) (named names (length ds) numbered d.parent x h)))

pub containment_in_range : (names : Space) (ds : List (Bor ClassDecl)) (g : Graph) → g ≡ containment names (pointed ds) → IsNumbered names (length ds) → InRange g
containment_in_range names ds g e numbered =
    subst InRange (sym e) (range (class_edges names) (pointed ds) (λ d x h. subst (λ n. x.to < n) (sym (length_pointed ds)) (of_class names (length ds) numbered d x h)))

pub derivation_length : (names : Space) (ds : List (Bor ClassDecl)) → length (derivation names (pointed ds)) ≡ length ds
derivation_length names ds = length_made (parent_edges names) (pointed ds) ∙ length_pointed ds

pub containment_length : (names : Space) (ds : List (Bor ClassDecl)) → length (containment names (pointed ds)) ≡ length ds
containment_length names ds = length_made (class_edges names) (pointed ds) ∙ length_pointed ds
