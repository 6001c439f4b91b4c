-- The types of expressions, the faults that stand in them, and what they are resolved to: one
-- definition for each kind of expression. An expression has a type where each of its parts has one
-- and what is needed is met; the faults of a kind stand beside those of its parts, whether or not
-- these have a type.
use Rattle.std.specs.Prelude.{ℕ, ◌+◌, Bool, true, false, not, ◌&&◌, cond, List, [], ◌∷◌, ◌++◌, Option, None, Some, position, slice_index_or}
use Rattle.std.specs.Option.{option_map, option_map_or}
use Rattle.class_table.specs.Outline.{Outline}
use Rattle.class_table.specs.Same.{same_name}
use Rattle.conf_syntax.specs.declared.token.Ident.{Ident}
use Rattle.conf_syntax.specs.declared.tree.Expr.{Expr}
use Rattle.conf_syntax.specs.declared.tree.Node as node
use Rattle.conf_syntax.specs.declared.tree.Op.{Op}
use Rattle.conf_syntax.specs.declared.tree.Quant as quant
use Rattle.conf_syntax.specs.declared.tree.QuantKind.{QuantKind}
use Rattle.conf_syntax.specs.OnlyIf.{only_if, some_if}
use Rattle.conf_types.specs.declared.fault.TypeFault.{TypeFault}
use Rattle.conf_types.specs.declared.fault.TypeFault.TheVariants.{Unknown, WrongType, NonLinear, Shadow}
use Rattle.conf_types.specs.declared.scope.Found.{Found}
use Rattle.conf_types.specs.declared.types.ExprType.{ExprType}
use Rattle.conf_types.specs.declared.types.ExprType.TheVariants.{Int, Truth, Choice, Object, Objects, Class}
use Rattle.conf_types.specs.declared.types.Need.{Need}
use Rattle.conf_types.specs.declared.types.Need.TheVariants as need
use Rattle.conf_types.specs.Scopes.{Scope, within, Sense, ALocal, AnOwn, ARoot, AnEnumeration, AClass, Nothing, attribute_named, sense}
use Rattle.conf_types.specs.Trees.{Tree, Filter, Bodies, NoFilter, Where, NoBody, Body}
use Rattle.conf_types.specs.Trees as tree
use Rattle.conf_types.specs.Types.{shape_type, meets, body_need, quant_result}
use Rattle.conf_types.specs.Operators.{is_linear, is_in, class_of, left_by, right_by, taken_by, made_by, makes_numbers}

-- what is told of an expression where it stands: its type, if it has one; all faults that stand in
-- it; what it is resolved to; the place of its first token; whether it is built of literals
pub record Reading : Type 0 where
  pub type : Option ExprType
  pub faults : List TypeFault
  pub tree : Tree
  pub first : ℕ
  pub literal : Bool

-- Needs

-- the expression has a type, and it is the one that is needed
abbrev pub has : Need → Option ExprType → Bool
has n type = option_map_or (meets n) type false

-- an expression that has a type which isn't the needed one is wrong at its first token
abbrev pub needs : Need → Option ExprType → ℕ → List TypeFault
needs n type at = option_map_or (λ t. only_if (not (meets n t)) (WrongType at)) type []

abbrev pub needed : Need → Reading → List TypeFault
needed n r = r.faults ++ needs n r.type r.first

-- what has this type where no fault stands in it
abbrev pub typed : ExprType → Tree → ℕ → Reading
typed t x at = record { type = Some t; faults = []; tree = x; first = at; literal = false }

-- what has no type, with the faults that stand in it; `at` is the place of what is missing
abbrev pub untyped : List TypeFault → ℕ → ℕ → Reading
untyped fs at first =
    record { type = None; faults = fs; tree = tree.Missing at; first = first; literal = false }

-- Leaves

abbrev pub number_reading : ℕ → ℕ → Reading
number_reading at n = record (typed Int (tree.Number at n) at) { literal = true }

abbrev pub truth_reading : ℕ → Bool → Reading
truth_reading at b = typed Truth (tree.Truth at b) at

-- a word that means nothing where it stands
abbrev pub unknown_reading : ℕ → Reading
unknown_reading at = untyped (Unknown at ∷ []) at at

-- `this` stands in a class
abbrev pub this_reading : ℕ → Option ℕ → Reading
this_reading at (Some c) = typed (Object c) (tree.This at) at
this_reading at None = unknown_reading at

-- a word: a variable or an attribute. An enumeration and a class mean nothing here
abbrev pub word_reading : ℕ → Sense → Reading
word_reading at (ALocal k c) =
    record (untyped [] at at) { type = option_map Object c; tree = tree.Local at k }
word_reading at (AnOwn k s) = typed (shape_type s) (tree.Own at k s) at
word_reading at (ARoot k s) = typed (shape_type s) (tree.Root at k s) at
word_reading at other = unknown_reading at

-- a class behind `in`, as the whole of what stands there; all else is read as elsewhere
abbrev pub over_reading : ℕ → Sense → Reading → Reading
over_reading at (AClass c) r = typed (Class c) (tree.Class at c) at
over_reading at other r = r

-- Parentheses, `-` and `not`

abbrev pub paren_reading : ℕ → Reading → Reading
paren_reading at r = record r { tree = tree.Paren at r.tree; first = at }

abbrev pub minus_reading : ℕ → Reading → Reading
minus_reading at r = record r {
  type = some_if (has need.Int r.type) Int;
  faults = needed need.Int r;
  tree = tree.Minus at r.tree;
  first = at;
}

abbrev pub not_reading : ℕ → Reading → Reading
not_reading at r = record {
  type = some_if (has need.Truth r.type) Truth;
  faults = needed need.Truth r;
  tree = tree.Not at r.tree;
  first = at;
  literal = false;
}

-- Names behind a dot

-- the values of an enumeration, in order of declaration
abbrev pub values_of : Outline → ℕ → List (List ℕ)
values_of o e = (slice_index_or o.enumerations e (record { name = []; values = [] })).values

-- `E.v`, with the number of v among the values of enumeration e
abbrev pub value_reading : ℕ → ℕ → Ident → Option ℕ → Reading
value_reading at e i (Some k) = typed (Choice e) (tree.Value at e k) at
value_reading at e i None = untyped (Unknown i.at ∷ []) at at

-- `x.a`, with the attribute a of the class of x
abbrev pub found_reading : ℕ → Reading → Ident → Option Found → Reading
found_reading at r i (Some f) = record r {
  type = Some (shape_type f.shape);
  tree = tree.Dot at r.tree f.number f.shape;
  literal = false;
}
found_reading at r i None = untyped (r.faults ++ Unknown i.at ∷ []) at r.first

-- x is no object: it is wrong, and so is the name behind it
abbrev pub wrong_reading : ℕ → Reading → Ident → Reading
wrong_reading at r i = untyped (r.faults ++ WrongType r.first ∷ Unknown i.at ∷ []) at r.first

abbrev pub attribute_reading : Outline → ℕ → Reading → Ident → Option ExprType → Reading
attribute_reading o at r i (Some (Object c)) = found_reading at r i (attribute_named o c i.name)
attribute_reading o at r i None = untyped r.faults at r.first
attribute_reading o at r i other = wrong_reading at r i

-- an enumeration stands before a dot as a word alone
abbrev pub dot_reading : Outline → ℕ → Sense → Reading → Ident → Reading
dot_reading o at (AnEnumeration e) r i =
    value_reading at e i (position (same_name i.name) (values_of o e))
dot_reading o at other r i = attribute_reading o at r i r.type

-- Operators

-- both sides have a type, and the operator takes the pair
abbrev pub takes_both : Op → Option ExprType → Option ExprType → Bool
takes_both o (Some a) (Some b) = taken_by (class_of o) a b
takes_both o left right = false

-- a comparison whose sides both have a type and aren't a pair that it takes is wrong at its first
-- token
abbrev pub mismatch : Op → Option ExprType → Option ExprType → ℕ → List TypeFault
mismatch o (Some a) (Some b) at = only_if (not (taken_by (class_of o) a b)) (WrongType at)
mismatch o left right at = []

-- `at` is the operator's place
abbrev pub pair_reading : ℕ → Op → Reading → Reading → Reading
pair_reading at o l r = record {
  type = some_if (has (left_by (class_of o)) l.type
      && (has (right_by (class_of o)) r.type && (takes_both o l.type r.type
      && is_linear o l.literal r.literal))) (made_by (class_of o));
  faults = needed (left_by (class_of o)) l ++ (needed (right_by (class_of o)) r
      ++ (mismatch o l.type r.type l.first
      ++ only_if (not (is_linear o l.literal r.literal)) (NonLinear at)));
  tree = tree.Pair at o l.tree r.tree;
  first = l.first;
  literal = makes_numbers (class_of o) && (l.literal && r.literal);
}

-- what stands to the right of an operator
abbrev pub right_reading : Op → ℕ → Sense → Reading → Reading
right_reading o at x r = cond (is_in o) (over_reading at x r) r

-- Quantifiers

-- the class of a quantifier's variable, where it stands over a list or a class
abbrev pub list_class : Option ExprType → Option ℕ
list_class (Some (Objects c)) = Some c
list_class (Some (Class c)) = Some c
list_class other = None

-- a quantifier's variable must have a name that means nothing yet
abbrev pub shadow : ℕ → Sense → List TypeFault
shadow at Nothing = []
shadow at other = Shadow at ∷ []

abbrev pub filter_faults : Option Reading → List TypeFault
filter_faults filter = option_map_or (needed need.Truth) filter []

abbrev pub filter_holds : Option Reading → Bool
filter_holds filter = option_map_or (λ (r : Reading). has need.Truth r.type) filter true

abbrev pub filter_tree : Option Reading → Filter
filter_tree filter = option_map_or (λ (r : Reading). Where r.tree) filter NoFilter

-- the bodies from number n on
abbrev pub bodies_faults : QuantKind → List Reading → ℕ → List TypeFault
bodies_faults k [] n = []
bodies_faults k (r ∷ rs) n = needed (body_need k n) r ++ bodies_faults k rs (n + 1)

abbrev pub bodies_hold : QuantKind → List Reading → ℕ → Bool
bodies_hold k [] n = true
bodies_hold k (r ∷ rs) n = has (body_need k n) r.type && bodies_hold k rs (n + 1)

abbrev pub bodies_tree : List Reading → Bodies
bodies_tree [] = NoBody
bodies_tree (r ∷ rs) = Body r.tree (bodies_tree rs)

-- a quantifier, with what its variable's name means outside
abbrev pub quantifier_reading : ℕ → QuantKind → ℕ → Sense → Reading → Option Reading → List Reading
    → Reading
quantifier_reading at k name_at outside over filter bodies = record {
  type = some_if (has need.List over.type && (filter_holds filter && bodies_hold k bodies 0))
      (quant_result k);
  faults = shadow name_at outside
      ++ (needed need.List over ++ (filter_faults filter ++ bodies_faults k bodies 0));
  tree = tree.Quant at k over.tree (filter_tree filter) (bodies_tree bodies);
  first = at;
  literal = false;
}

-- Expressions

-- what the whole expression means, where it is a word alone
abbrev pub alone : Outline → node.Node → Scope → Sense
alone o (node.Named w) s = sense o s w
alone o other s = Nothing

abbrev mutual
  pub reading : Outline → node.Node → ℕ → Scope → Reading
  reading o (node.Number n) at s = number_reading at n
  reading o (node.Truth b) at s = truth_reading at b
  reading o node.This at s = this_reading at s.class
  reading o (node.Named w) at s = word_reading at (sense o s w)
  reading o (node.Paren' p i e) at s = paren_reading at (reading o e i s)
  reading o (node.Dot' p i e name) at s = dot_reading o at (alone o e s) (reading o e i s) name
  reading o (node.Minus' p i e) at s = minus_reading at (reading o e i s)
  reading o (node.Not' p i e) at s = not_reading at (reading o e i s)
  reading o (node.Pair' op p i l q j r) at s = pair_reading at op (reading o l i s)
      (right_reading op j (alone o r s) (reading o r j s))
  reading o (node.Quant' p q) at s = quant_reading o q at s

  pub quant_reading : Outline → quant.Quant → ℕ → Scope → Reading
  quant_reading o (quant.Quant' k var i over filter shape body) at s =
      quantifier_reading at k var.at (sense o s var.name) (over_reading i (alone o over s)
      (reading o over i s))
      (held_reading o filter (within s var.name
      (list_class (over_reading i (alone o over s) (reading o over i s)).type)))
      (row_readings o body (within s var.name
      (list_class (over_reading i (alone o over s) (reading o over i s)).type)))

  pub held_reading : Outline → quant.Held-Quant-filter → Scope → Option Reading
  held_reading o quant.None' s = None
  held_reading o (quant.Some' at e) s = Some (reading o e at s)

  pub row_readings : {m : _} → Outline → quant.Row_of-Expr m → Scope → List Reading
  row_readings o quant.end_of-Expr s = []
  row_readings o (quant.more_of-Expr at e rest) s = reading o e at s ∷ row_readings o rest s

abbrev pub read : Outline → Scope → Expr → Reading
read o s e = reading o e.node e.at s

-- the type of an expression, where it has one
abbrev pub type_of : Outline → Scope → Expr → Option ExprType
type_of o s e = (read o s e).type

-- the faults that stand in an expression
abbrev pub faults_of : Outline → Scope → Expr → List TypeFault
faults_of o s e = (read o s e).faults

-- what an expression is resolved to
abbrev pub resolved : Outline → Scope → Expr → Tree
resolved o s e = (read o s e).tree
