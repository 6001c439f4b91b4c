-- What the checker's parts say of a resolved expression and its type: that they are those of a
-- reading.
use Rattle.std.specs.Prelude.{◌≡◌, ℕ, ◌<◌, true, List, [], ◌∷◌, Option, None, Some, map, length, IfSome}
use Rattle.class_table.specs.Outline.{Outline}
use Rattle.class_table.specs.Tables.{IsShapeOf}
use Rattle.conf_syntax.specs.declared.token.Ident.{Ident}
use Rattle.conf_syntax.specs.declared.tree.Expr.{Expr}
use Rattle.conf_syntax.specs.declared.tree.Quant as quant
use Rattle.conf_syntax.specs.declared.tree.QuantKind.{QuantKind}
use Rattle.conf_syntax.specs.Trees.{depth}
use Rattle.conf_types.specs.declared.rules.Checked.{Checked}
use Rattle.conf_types.specs.declared.scope.Local.{Local}
use Rattle.conf_types.specs.declared.scope.Scope.{Scope as AScope}
use Rattle.conf_types.specs.declared.scope.Sense.{Sense as ASense}
use Rattle.conf_types.specs.declared.scope.Sense.TheVariants as sense
use Rattle.conf_types.specs.declared.tree.RExpr.{RExpr}
use Rattle.conf_types.specs.declared.types.ExprType.{ExprType}
use Rattle.conf_types.specs.declared.types.ExprType.TheVariants.{Int, Truth, Choice, Object, Objects, Class}
use Rattle.conf_types.specs.Readings.{Reading, read, alone, over_reading, list_class, quantifier_reading, filter_faults, filter_holds, filter_tree, bodies_faults, bodies_hold, bodies_tree}
use Rattle.conf_types.specs.Scopes.{Scope, within, Sense, ALocal, AnOwn, ARoot, AnEnumeration, AClass, Nothing}
use Rattle.conf_types.specs.Scopes.{sense as meaning_of}
use Rattle.conf_types.specs.Trees.{Bodies, Body}
use Rattle.conf_types.specs.TreeOf.{tree_of, trees_of, optional_tree}

-- Scopes

abbrev pub local_of : Local → List ℕ × Option ℕ
local_of l = (l.name.now, Some l.class)

abbrev pub locals_of : List Local → List (List ℕ × Option ℕ)
locals_of ls = map local_of ls

abbrev pub scope_of : AScope → Scope
scope_of s = record { class = s.class; locals = locals_of s.locals.items }

-- the class of each variable is one of n
abbrev pub AreLocals : ℕ → List Local → Type 0
AreLocals n [] = Unit {0}
AreLocals n (l ∷ ls) = (l.class < n) × AreLocals n ls

pub record IsScope (o : Outline) (s : AScope) : Type 0 where
  pub class : IfSome s.class (λ c. c < length o.classes)
  pub locals : AreLocals (length o.classes) s.locals.items

abbrev pub told : ASense → Sense
told (sense.Local k c) = ALocal k (Some c)
told (sense.Own k s) = AnOwn k s
told (sense.Root k s) = ARoot k s
told (sense.Enumeration e) = AnEnumeration e
told (sense.Class c) = AClass c
told sense.Nothing = Nothing

-- each number in it is one of the outline's
abbrev pub IsSenseOf : Outline → ASense → Type 0
IsSenseOf o (sense.Local k c) = c < length o.classes
IsSenseOf o (sense.Own k s) = IsShapeOf (length o.classes) (length o.enumerations) s
IsSenseOf o (sense.Root k s) = IsShapeOf (length o.classes) (length o.enumerations) s
IsSenseOf o (sense.Enumeration e) = e < length o.enumerations
IsSenseOf o (sense.Class c) = c < length o.classes
IsSenseOf o sense.Nothing = Unit {0}

abbrev pub IsTypeOf : Outline → ExprType → Type 0
IsTypeOf o Int = Unit {0}
IsTypeOf o Truth = Unit {0}
IsTypeOf o (Choice e) = e < length o.enumerations
IsTypeOf o (Object c) = c < length o.classes
IsTypeOf o (Objects c) = c < length o.classes
IsTypeOf o (Class c) = c < length o.classes

-- Expressions

-- no fault stands in the expression that was read, and this is its type and what it is resolved to
pub record IsRead (x : Checked) (r : Reading) : Type 0 where
  pub typed : r.type ≡ Some x.kind
  pub right : r.faults ≡ []
  pub tree_is : tree_of x.expr ≡ r.tree
  pub first_is : x.first ≡ r.first
  pub literal_is : x.literal ≡ r.literal

abbrev pub optional_reading : Outline → Scope → Option Expr → Option Reading
optional_reading o s None = None
optional_reading o s (Some e) = Some (read o s e)

abbrev pub readings : Outline → Scope → List Expr → List Reading
readings o s es = map (read o s) es

-- the scope inside of a quantifier over this
abbrev pub scope_inside : Outline → Scope → Ident → Expr → Scope
scope_inside o s var over =
    within s var.name (list_class (over_reading over.at (alone o over.node s) (read o s over)).type)

-- the reading of a quantifier, by its parts
abbrev pub quantifier_of : Outline → ℕ → Scope → QuantKind → Ident → Expr → Option Expr → List Expr
    → Reading
quantifier_of o at s k var over filter body =
    quantifier_reading at k var.at (meaning_of o s var.name)
    (over_reading over.at (alone o over.node s) (read o s over))
    (optional_reading o (scope_inside o s var over) filter) (readings o (scope_inside o s var over)
    body)

abbrev pub quantifier_at : Outline → ℕ → Scope → quant.Quant → Reading
quantifier_at o at s q =
    quantifier_of o at s (quant.out-Quant q).kind (quant.out-Quant q).var (quant.out-Quant q).over
    (quant.out-Quant q).filter (quant.out-Quant q).body.items

-- the trees of some expressions, and then these
abbrev pub trees_onto : List RExpr → Bodies → Bodies
trees_onto [] bs = bs
trees_onto (e ∷ es) bs = Body (tree_of e) (trees_onto es bs)

abbrev pub optional_depth : Option Expr → ℕ
optional_depth None = 0
optional_depth (Some e) = depth e.node

-- a filter without fault that is Bool
pub record IsFilter (x : Option RExpr) (r : Option Reading) : Type 0 where
  pub right : filter_faults r ≡ []
  pub holds : filter_holds r ≡ true
  pub tree_is : optional_tree x ≡ filter_tree r

-- bodies without fault that are as they are needed, from number n on
pub record AreBodies (k : QuantKind) (xs : List RExpr) (rs : List Reading) (n : ℕ) : Type 0 where
  pub right : bodies_faults k rs n ≡ []
  pub hold : bodies_hold k rs n ≡ true
  pub trees_are : trees_of xs ≡ bodies_tree rs
