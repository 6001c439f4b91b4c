-- The types of resolved expressions: one line for each kind, as in the table of types. What stands
-- in a typed model has one.
use Rattle.std.specs.Prelude.{◌≡◌, ℕ, suc, ◌-◌, Bool, true, false, ◌&&◌, cond, List, [], ◌∷◌, ◌++◌, Option, None, Some, int_le, length, nat_eq, nat_lt, slice_get, All}
use Rattle.std.specs.Option.{option_map_or, option_map}
use Rattle.class_table.specs.declared.table.Enumeration.{Enumeration}
use Rattle.class_table.specs.declared.table.Resolved.{Resolved}
use Rattle.class_table.specs.declared.table.Resolved.TheVariants as shape
use Rattle.class_table.specs.declared.table.Variable.{Variable}
use Rattle.class_table.specs.Outline.{Outline, attributes}
use Rattle.conf_syntax.specs.declared.tree.QuantKind.{QuantKind}
use Rattle.conf_syntax.specs.OnlyIf.{some_if}
use Rattle.conf_types.specs.declared.types.ExprType.{ExprType}
use Rattle.conf_types.specs.declared.types.ExprType.TheVariants.{Int, Truth, Choice, Object, Objects, Class}
use Rattle.conf_types.specs.declared.types.Need.TheVariants as need
use Rattle.conf_types.specs.Programs.{ResolvedConstraint, ResolvedGoal}
use Rattle.conf_types.specs.Readings.{has, takes_both, list_class}
use Rattle.conf_types.specs.Trees.{Tree, Filter, NoFilter, Where, Bodies, NoBody, Body}
use Rattle.conf_types.specs.Trees as tree
use Rattle.conf_types.specs.Types.{shape_type, body_need, quant_result}
use Rattle.conf_types.specs.Operators.{is_linear, class_of, left_by, right_by, made_by, makes_numbers}

-- where a resolved expression stands: the class of `this`, if it stands in one, and the classes of
-- the variables of the quantifiers round it, the outermost first
pub record Place : Type 0 where
  pub class : Option ℕ
  pub locals : List ℕ

abbrev pub inside : Place → ℕ → Place
inside p c = record { class = p.class; locals = p.locals ++ c ∷ [] }

-- the class of the variable at this distance, 0 for the innermost
abbrev pub local_class : List ℕ → ℕ → Option ℕ
local_class cs k = cond (nat_lt k (length cs)) (slice_get cs (length cs - suc k)) None

abbrev pub same_shape : Resolved → Resolved → Bool
same_shape (shape.Span a b) (shape.Span c d) =
    (int_le a c && int_le c a) && (int_le b d && int_le d b)
same_shape shape.Truth shape.Truth = true
same_shape (shape.Choice d) (shape.Choice e) = nat_eq d e
same_shape (shape.One c) (shape.One d) = nat_eq c d
same_shape (shape.Many c m) (shape.Many d n) = nat_eq c d && nat_eq m n
same_shape (shape.Ref c) (shape.Ref d) = nat_eq c d
same_shape (shape.RefSet c m) (shape.RefSet d n) = nat_eq c d && nat_eq m n
same_shape r s = false

-- variable k has this shape
abbrev pub shaped : List Variable → ℕ → Resolved → Bool
shaped vs k s = option_map_or (λ (v : Variable). same_shape s v.shape) (slice_get vs k) false

-- the type of variable k, where it has this shape
abbrev pub variable_type : List Variable → ℕ → Resolved → Option ExprType
variable_type vs k s = some_if (shaped vs k s) (shape_type s)

abbrev pub attribute_type : Outline → Option ExprType → ℕ → Resolved → Option ExprType
attribute_type o (Some (Object c)) k s = variable_type (attributes o.classes c) k s
attribute_type o (Some Int) k s = None
attribute_type o (Some Truth) k s = None
attribute_type o (Some (Choice e)) k s = None
attribute_type o (Some (Objects c)) k s = None
attribute_type o (Some (Class c)) k s = None
attribute_type o None k s = None

abbrev pub value_there : Outline → ℕ → ℕ → Bool
value_there o e k =
    option_map_or (λ (d : Enumeration). nat_lt k (length d.values)) (slice_get o.enumerations e)
    false

-- built of literals
abbrev pub is_literal : Tree → Bool
is_literal (tree.Number at n) = true
is_literal (tree.Paren at e) = is_literal e
is_literal (tree.Minus at e) = is_literal e
is_literal (tree.Pair at op l r) = makes_numbers (class_of op) && (is_literal l && is_literal r)
is_literal (tree.Truth at b) = false
is_literal (tree.This at) = false
is_literal (tree.Not at e) = false
is_literal (tree.Local at k) = false
is_literal (tree.Own at k s) = false
is_literal (tree.Root at k s) = false
is_literal (tree.Value at e k) = false
is_literal (tree.Class at c) = false
is_literal (tree.Dot at e k s) = false
is_literal (tree.Quant at q over f bs) = false
is_literal (tree.Missing at) = false

-- the type of a quantifier, from the class that it stands over, whether its filter is Bool and
-- whether its bodies are as needed
abbrev pub quantifier_type : QuantKind → Option ℕ → Bool → Option ExprType
quantifier_type q None fits = None
quantifier_type q (Some c) fits = some_if fits (quant_result q)

-- the place inside of a quantifier; without a class the quantifier has no type
abbrev pub within : Place → Option ℕ → Place
within p None = p
within p (Some c) = inside p c

abbrev mutual
  pub tree_type : Outline → Tree → Place → Option ExprType
  tree_type o (tree.Number at n) p = Some Int
  tree_type o (tree.Truth at b) p = Some Truth
  tree_type o (tree.This at) p = option_map Object p.class
  tree_type o (tree.Paren at e) p = tree_type o e p
  tree_type o (tree.Minus at e) p = some_if (has need.Int (tree_type o e p)) Int
  tree_type o (tree.Not at e) p = some_if (has need.Truth (tree_type o e p)) Truth
  tree_type o (tree.Pair at op l r) p = some_if (has (left_by (class_of op)) (tree_type o l p)
      && (has (right_by (class_of op)) (tree_type o r p)
      && (takes_both op (tree_type o l p) (tree_type o r p) && is_linear op (is_literal l)
      (is_literal r)))) (made_by (class_of op))
  tree_type o (tree.Local at k) p = option_map Object (local_class p.locals k)
  tree_type o (tree.Own at k s) p = attribute_type o (option_map Object p.class) k s
  tree_type o (tree.Root at k s) p = variable_type o.roots k s
  tree_type o (tree.Value at e k) p = some_if (value_there o e k) (Choice e)
  tree_type o (tree.Class at c) p = some_if (nat_lt c (length o.classes)) (Class c)
  tree_type o (tree.Dot at e k s) p = attribute_type o (tree_type o e p) k s
  tree_type o (tree.Quant at q over f bs) p = quantifier_type q (list_class (tree_type o over p))
      (filter_fits o f (within p (list_class (tree_type o over p)))
      && bodies_fit o q bs 0 (within p (list_class (tree_type o over p))))
  tree_type o (tree.Missing at) p = None

  pub filter_fits : Outline → Filter → Place → Bool
  filter_fits o NoFilter p = true
  filter_fits o (Where e) p = has need.Truth (tree_type o e p)

  -- the bodies from number n on
  pub bodies_fit : Outline → QuantKind → Bodies → ℕ → Place → Bool
  bodies_fit o q NoBody n p = true
  bodies_fit o q (Body e bs) n p = has (body_need q n) (tree_type o e p)
      && bodies_fit o q bs (suc n) p

-- no quantifier stands round a constraint or an objective
abbrev pub outermost : Option ℕ → Place
outermost c = record { class = c; locals = [] }

-- a constraint is Bool, for the objects of a class that is there; an objective is Int
pub record IsTypedConstraint (o : Outline) (k : ResolvedConstraint) : Type 0 where
  pub class : option_map_or (λ c. nat_lt c (length o.classes)) k.class true ≡ true
  pub type : tree_type o k.tree (outermost k.class) ≡ Some Truth

abbrev pub IsTypedGoal : Outline → ResolvedGoal → Type 0
IsTypedGoal o g = tree_type o g.tree (outermost None) ≡ Some Int

-- the constraints and objectives of a typed model
pub record IsTypedModel (o : Outline) (ks : List ResolvedConstraint) (gs : List ResolvedGoal) : Type 0 where
  pub constraints : All (IsTypedConstraint o) ks
  pub goals : All (IsTypedGoal o) gs
