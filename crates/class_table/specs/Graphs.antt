-- The graph of derivation and the graph of containment. In each a node is a class, by its number.
use Rattle.std.specs.Prelude.{ℕ, List, [], ◌∷◌, ◌++◌, Option, None, Some, map}
use Rattle.std.specs.List.{flat_map}
use Rattle.conf_syntax.specs.declared.token.Ident.{Ident}
use Rattle.conf_syntax.specs.declared.tree.ClassDecl.{ClassDecl}
use Rattle.conf_syntax.specs.declared.tree.Member.{Member}
use Rattle.conf_syntax.specs.declared.tree.Member.TheVariants as member
use Rattle.graph_walk.specs.declared.walk.Edge.{Edge}
use Rattle.class_table.specs.Faults.{contained_name}
use Rattle.class_table.specs.Names.{Space, means}
use Rattle.class_table.specs.Outline.{class_meant, parent_named}
use Rattle.graph_walk.specs.Walk.{Graph}

abbrev pub to_class : Option ℕ → Option ℕ → List Edge
to_class None place = []
to_class (Some c) place = record { to = c; place = place } ∷ []

-- an edge to the class that a name means, with the name's place
abbrev pub named_edges : Space → Option Ident → List Edge
named_edges names None = []
named_edges names (Some i) = to_class (class_meant (means names i.name)) (Some i.at)

-- from each class to its parent
abbrev pub parent_edges : Space → ClassDecl → List Edge
parent_edges names d = named_edges names d.parent

abbrev pub derivation : Space → List ClassDecl → Graph
derivation names decls = map (parent_edges names) decls

abbrev pub member_edges : Space → Member → List Edge
member_edges names (member.Var v) = named_edges names (contained_name v.shape)
member_edges names (member.Where w) = []

-- from each class to the classes whose objects its own attributes hold, and without a place to its
-- parent
abbrev pub class_edges : Space → ClassDecl → List Edge
class_edges names d =
    flat_map (member_edges names) d.members ++ to_class (parent_named names d.parent) None

abbrev pub containment : Space → List ClassDecl → Graph
containment names decls = map (class_edges names) decls
