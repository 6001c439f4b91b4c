-- The classes of a model without a fault have an order of containment.
use Rattle.std.proofs.Common.{◌≡◌, ℕ, ◌<◌, List, Option, None, Some, length, map, refl, ap, sym, ◌∙◌, subst, arith}
use Rattle.std.specs.Prelude.{Contains}
use Rattle.conf_syntax.specs.declared.token.Ident.{Ident}
use Rattle.conf_syntax.specs.declared.tree.Item.{Item}
use Rattle.conf_syntax.specs.declared.tree.Shape.{Shape}
use Rattle.conf_syntax.specs.declared.tree.Shape.TheVariants as shape
use Rattle.conf_syntax.specs.declared.tree.ClassDecl.{ClassDecl}
use Rattle.class_table.specs.declared.names.NameMeaning.{NameMeaning}
use Rattle.class_table.specs.declared.names.NameMeaning.TheVariants as meaning
use Rattle.class_table.specs.declared.table.Class.{Class}
use Rattle.class_table.specs.declared.table.Resolved.TheVariants.{Many, Ref, RefSet}
use Rattle.class_table.specs.declared.table.Variable.{Variable}
use Rattle.graph_walk.specs.declared.walk.State.{State}
use Rattle.class_table.specs.Ancestry.{attributes_within}
use Rattle.graph_walk.specs.Cycles.{IsOrdered, rank}
use Rattle.class_table.specs.Faults.{contained_name, parent_of, attributes_of, class_count}
use Rattle.class_table.specs.Graphs.{derivation, containment}
use Rattle.class_table.specs.Names.{Space, space, means, classes}
use Rattle.class_table.specs.Outline.{class_of, variable_of, parent_in, own_in, attributes, resolved, named, of_class, class_meant}
use Rattle.class_table.specs.Scopes.{Falls, own_at}
use Rattle.class_table.specs.Sound.{held_class, HasNesting}
use Rattle.class_table.proofs.BuildLaws.{contains_map, attributes_map, own_row, length_rows}
use Rattle.class_table.proofs.CycleFaults.{contained_falls, contained_below, inherit_falls, inherit_below}

-- a shape that holds objects of class d names d
record IsHolder (names : Space) (s : Shape) (d : ℕ) : Type 0 where
  pub ident : Ident
  pub name : contained_name s ≡ Some ident
  pub class : class_meant (means names ident.name) ≡ Some d

holder : (names : Space) (s : Shape) (d : ℕ) → held_class (resolved names s) ≡ Some d → IsHolder names s d
holder names (shape.Range low high) d h = cc
holder names shape.Int d h = cc
holder names shape.Bool d h = cc
holder names (shape.Named i) d h = record { ident = i; name = refl; class = by (means names i.name) h }
  where
    by : (m : Option NameMeaning) → held_class (named m) ≡ Some d → class_meant m ≡ Some d
    by None g = cc
    by (Some (meaning.Class c)) g = g
    by (Some (meaning.Enumeration e)) g = cc
    by (Some (meaning.Variable v)) g = cc
holder names (shape.Many i n) d h = record { ident = i; name = refl; class = by (means names i.name) h }
  where
    by : (m : Option NameMeaning) → held_class (of_class (λ c. Many c n) m) ≡ Some d → class_meant m ≡ Some d
    by None g = cc
    by (Some (meaning.Class c)) g = g
    by (Some (meaning.Enumeration e)) g = cc
    by (Some (meaning.Variable v)) g = cc
holder names (shape.Ref i) d h = by (means names i.name) h
  where
    by : (m : Option NameMeaning) → held_class (of_class Ref m) ≡ Some d → IsHolder names (shape.Ref i) d
    by None g = cc
    by (Some (meaning.Class c)) g = cc
    by (Some (meaning.Enumeration e)) g = cc
    by (Some (meaning.Variable v)) g = cc
holder names (shape.RefSet i n) d h = by (means names i.name) h
  where
    by : (m : Option NameMeaning) → held_class (of_class (λ c. RefSet c n) m) ≡ Some d → IsHolder names (shape.RefSet i n) d
    by None g = cc
    by (Some (meaning.Class c)) g = cc
    by (Some (meaning.Enumeration e)) g = cc
    by (Some (meaning.Variable v)) g = cc

module _ (items : List Item) where
  abbrev cs : List Class
  cs = map (class_of (space items)) (classes items)

  -- the attributes of a class are those of its declaration, resolved
  attributes_made : (c : ℕ) → attributes cs c ≡ map (variable_of (space items)) (attributes_of items c)
  attributes_made c =
      ap (λ n. attributes_within (parent_in cs) (own_in cs) n n c) (length_rows (space items) (classes items))
      ∙ attributes_map (parent_in cs) (own_at (classes items)) (own_in cs) (variable_of (space items)) (own_row (space items) (classes items)) (length (classes items)) (length (classes items)) c

  module _ (r : ℕ → ℕ) (falls : Falls (parent_of items) r) (below : (c : ℕ) → c < class_count items → r c < class_count items) (states : List State) (o : IsOrdered (containment (space items) (classes items)) states) where
    nested_falls : (c d : ℕ) (v : Variable) → Contains (attributes cs c) v → held_class v.shape ≡ Some d → rank states d < rank states c
    nested_falls c d v has held =
        let m = contains_map (variable_of (space items)) (attributes_of items c) v (subst (λ xs. Contains xs v) (attributes_made c) has) in
        let h = holder (space items) m.0.shape d (ap (λ (x : Variable). held_class x.shape) (sym m.1) ∙ held) in
        contained_falls items r falls below states o c d (record { attribute = m.0; at = h.ident.at; has = m.2; holds = record { ident = h.ident; name = h.name; class = h.class; place = refl } })

    pub has_nesting : (made : List Class) → made ≡ cs → HasNesting made
    has_nesting made e =
        subst HasNesting (sym e) (record {
          rank = rank states;
          below = λ c h. let b = contained_below items states o c (omega (arith, h, length_rows (space items) (classes items))) in omega (arith, b, length_rows (space items) (classes items));
          falls = nested_falls;
        })

  pub nesting : (names : Space) (ds : List ClassDecl) (made : List Class) (order : List State) → names ≡ space items → ds ≡ classes items → made ≡ cs → IsOrdered (derivation names ds) order → (states : List State) × IsOrdered (containment names ds) states → HasNesting made
  nesting names ds made order e1 e2 e3 o (states, contained) =
      let o' : IsOrdered (derivation (space items) (classes items)) order = subst (λ n. IsOrdered (derivation n (classes items)) order) e1 (subst (λ x. IsOrdered (derivation names x) order) e2 o) in
      let c' : IsOrdered (containment (space items) (classes items)) states = subst (λ n. IsOrdered (containment n (classes items)) states) e1 (subst (λ x. IsOrdered (containment names x) states) e2 contained) in
      has_nesting (rank order) (inherit_falls items order o') (inherit_below items order o') states c' made e3
