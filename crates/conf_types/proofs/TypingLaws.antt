-- The type of what an expression is resolved to is the type that was read: one law for each kind of expression, on readings.
use Rattle.std.proofs.Common.{◌≡◌, ℕ, zero, suc, ◌+◌, ◌-◌, ◌<◌, Bool, true, false, ◌&&◌, List, [], ◌∷◌, ◌++◌, Option, None, Some, IfSome, ℤ, int_le, nat_lt, length, map, position, slice_get, slice_index_or, cond, refl, ap, sym, ◌∙◌, subst, arith}
use Rattle.std.specs.Option.{option_map_or, option_map}
use Rattle.std.proofs.lemmas.Bool.{lt-ltb, eq-eqb, and_from}
use Rattle.std.proofs.lemmas.Int.{ints}
use Rattle.std.proofs.lemmas.List.Quantifiers.{position-Some}
use Rattle.class_table.specs.declared.names.NameMeaning.{NameMeaning}
use Rattle.class_table.specs.declared.names.NameMeaning.TheVariants as meaning
use Rattle.class_table.specs.declared.table.Enumeration.{Enumeration}
use Rattle.class_table.specs.declared.table.Resolved.{Resolved}
use Rattle.class_table.specs.declared.table.Resolved.TheVariants as shape
use Rattle.class_table.specs.declared.table.Variable.{Variable}
use Rattle.class_table.specs.Names.{means}
use Rattle.class_table.specs.Outline.{Outline, attributes, variable_name}
use Rattle.class_table.specs.Same.{same_name}
use Rattle.class_table.specs.Tables.{IsClosed, IsMeant}
use Rattle.conf_syntax.specs.declared.token.Ident.{Ident}
use Rattle.conf_syntax.specs.declared.tree.Op.{Op}
use Rattle.conf_syntax.specs.declared.tree.QuantKind.{QuantKind}
use Rattle.conf_syntax.specs.OnlyIf.{some_if}
use Rattle.conf_types.specs.declared.scope.Found.{Found}
use Rattle.conf_types.specs.declared.types.ExprType.{ExprType}
use Rattle.conf_types.specs.declared.types.ExprType.TheVariants.{Int, Truth, Choice, Object, Objects, Class}
use Rattle.conf_types.specs.declared.types.Need.TheVariants as need
use Rattle.conf_types.specs.Readings.{Reading, has, takes_both, list_class, values_of, number_reading, truth_reading, this_reading, word_reading, over_reading, right_reading, paren_reading, minus_reading, not_reading, value_reading, found_reading, attribute_reading, dot_reading, pair_reading}
use Rattle.conf_types.specs.Scopes.{Scope, Sense, ALocal, AnOwn, ARoot, AnEnumeration, AClass, Nothing, shape_at, with_shape, attribute_named, own_named, own_or, local_or, declared_sense, sense}
use Rattle.conf_types.specs.Scopes as scope
use Rattle.conf_types.specs.Types.{shape_type, quant_result}
use Rattle.conf_types.specs.Operators.{is_linear, is_in, class_of, left_by, right_by, made_by, makes_numbers}
use Rattle.conf_types.specs.Typing.{Place, inside, local_class, same_shape, shaped, variable_type, attribute_type, is_literal, quantifier_type, tree_type}

-- the tree has the type that was read, and is built of literals where the expression was
pub record IsTyped (o : Outline) (r : Reading) (p : Place) : Type 0 where
  pub type : tree_type o r.tree p ≡ r.type
  pub literal : is_literal r.tree ≡ r.literal

-- Shapes

same_int : (n : ℤ) → int_le n n ≡ true
same_int n = grind (arith, ints)

same_span : (a b : ℤ) → ((int_le a a && int_le a a) && (int_le b b && int_le b b)) ≡ true
same_span a b = rw (same_int a) (rw (same_int b) refl)

same : (s : Resolved) → same_shape s s ≡ true
same (shape.Span a b) = same_span a b
same shape.Truth = refl
same (shape.Choice e) = eq-eqb e e refl
same (shape.One c) = eq-eqb c c refl
same (shape.Many c m) = and_from _ _ (eq-eqb c c refl) (eq-eqb m m refl)
same (shape.Ref c) = eq-eqb c c refl
same (shape.RefSet c m) = and_from _ _ (eq-eqb c c refl) (eq-eqb m m refl)

shaped_there : (vs : List Variable) (k : ℕ) → k < length vs → shaped vs k (shape_at vs k) ≡ true
shaped_there [] k h = absurd (omega (arith, h))
shaped_there (v ∷ vs) zero h = same v.shape
shaped_there (v ∷ vs) (suc k) h = shaped_there vs k (omega (arith, h))

pub variable_typed : (vs : List Variable) (k : ℕ) → k < length vs → variable_type vs k (shape_at vs k) ≡ Some (shape_type (shape_at vs k))
variable_typed vs k h = ap (λ b. some_if b (shape_type (shape_at vs k))) (shaped_there vs k h)

-- Names

position_there : (test : List ℕ → Bool) (ws : List (List ℕ)) → IfSome (position test ws) (λ k. k < length ws)
position_there test ws = (elim (position test ws) as (λ x. position test ws ≡ x → IfSome x (λ k. k < length ws)) [ None ↦ λ e. tt | Some k ↦ λ e. (position-Some test ws k [] e).0 ]) refl

length_names : (vs : List Variable) → length (map variable_name vs) ≡ length vs
length_names [] = refl
length_names (v ∷ vs) = ap suc (length_names vs)

abbrev IsFound : List Variable → Found → Type 0
IsFound vs f = variable_type vs f.number f.shape ≡ Some (shape_type f.shape)

with_typed : (vs : List Variable) (x : Option ℕ) → IfSome x (λ k. k < length vs) → IfSome (with_shape vs x) (IsFound vs)
with_typed vs None h = tt
with_typed vs (Some k) h = variable_typed vs k h

pub attribute_there : (o : Outline) (c : ℕ) (w : List ℕ) → IfSome (attribute_named o c w) (IsFound (attributes o.classes c))
attribute_there o c w =
    let vs = attributes o.classes c in
    with_typed vs (position (same_name w) (map variable_name vs)) (subst (λ n. IfSome (position (same_name w) (map variable_name vs)) (λ k. k < n)) (length_names vs) (position_there (same_name w) (map variable_name vs)))

-- Scopes

-- the variables of a scope have these classes
abbrev pub AreClasses : List (List ℕ × Option ℕ) → List ℕ → Type 0
AreClasses [] [] = Unit {0}
AreClasses (v ∷ vs) (c ∷ cs) = (v.1 ≡ Some c) × AreClasses vs cs
AreClasses [] (c ∷ cs) = ⊥
AreClasses (v ∷ vs) [] = ⊥

pub record IsPlace (s : Scope) (p : Place) : Type 0 where
  pub class : s.class ≡ p.class
  pub locals : AreClasses s.locals p.locals

classes_more : (vs : List (List ℕ × Option ℕ)) (cs : List ℕ) (w : List ℕ) (c : ℕ) → AreClasses vs cs → AreClasses (vs ++ (w, Some c) ∷ []) (cs ++ c ∷ [])
classes_more [] [] w c h = (refl, tt)
classes_more (v ∷ vs) (d ∷ cs) w c h = (h.0, classes_more vs cs w c h.1)
classes_more [] (d ∷ cs) w c h = absurd h
classes_more (v ∷ vs) [] w c h = absurd h

pub place_within : (s : Scope) (p : Place) (w : List ℕ) (c : ℕ) → IsPlace s p → IsPlace (scope.within s w (Some c)) (inside p c)
place_within s p w c h = record { class = h.class; locals = classes_more s.locals p.locals w c h.locals }

length_classes : (vs : List (List ℕ × Option ℕ)) (cs : List ℕ) → AreClasses vs cs → length vs ≡ length cs
length_classes [] [] h = refl
length_classes (v ∷ vs) (c ∷ cs) h = ap suc (length_classes vs cs h.1)
length_classes [] (c ∷ cs) h = absurd h
length_classes (v ∷ vs) [] h = absurd h

-- what a word means stands at the place with its class, its shape or its number
abbrev pub Holds : Outline → Place → Sense → Type 0
Holds o p (ALocal k c) = local_class p.locals k ≡ c
Holds o p (AnOwn k s) = attribute_type o (option_map Object p.class) k s ≡ Some (shape_type s)
Holds o p (ARoot k s) = variable_type o.roots k s ≡ Some (shape_type s)
Holds o p (AnEnumeration e) = Unit {0}
Holds o p (AClass c) = nat_lt c (length o.classes) ≡ true
Holds o p Nothing = Unit {0}

get_seam : (front cs : List ℕ) (c : ℕ) → slice_get (front ++ c ∷ cs) (length front) ≡ Some c
get_seam [] cs c = refl
get_seam (d ∷ front) cs c = get_seam front cs c

length_seam : (front cs : List ℕ) (c : ℕ) → length (front ++ c ∷ cs) ≡ length front + suc (length cs)
length_seam [] cs c = omega arith
length_seam (d ∷ front) cs c = let l = length_seam front cs c in omega (arith, l)

local_there : (front cs : List ℕ) (c : ℕ) → local_class (front ++ c ∷ cs) (length cs) ≡ Some c
local_there front cs c =
    let l = length_seam front cs c in
    let all = front ++ c ∷ cs in
    let before : length all - suc (length cs) ≡ length front = omega (arith, l) in
    ap (λ b. cond b (slice_get all (length all - suc (length cs))) None) (lt-ltb (length cs) (length all) (omega (arith, l)))
    ∙ ap (λ n. slice_get all n) before
    ∙ get_seam front cs c

holds_cond : (o : Outline) (p : Place) (b : Bool) (x y : Sense) → Holds o p x → Holds o p y → Holds o p (cond b x y)
holds_cond o p true x y h g = h
holds_cond o p false x y h g = g

shifted : (front cs : List ℕ) (c : ℕ) → front ++ c ∷ cs ≡ (front ++ c ∷ []) ++ cs
shifted [] cs c = refl
shifted (d ∷ front) cs c = ap (λ xs. d ∷ xs) (shifted front cs c)

-- the variables before these are those in front
local_holds : (o : Outline) (p : Place) (w : List ℕ) (vs : List (List ℕ × Option ℕ)) (front cs : List ℕ) (other : Sense) → p.locals ≡ front ++ cs → AreClasses vs cs → Holds o p other → Holds o p (local_or other w vs)
local_holds o p w [] front cs other e h g = g
local_holds o p w (v ∷ vs) front [] other e h g = absurd h
local_holds o p w (v ∷ vs) front (c ∷ cs) other e h g =
    let here : local_class p.locals (length vs) ≡ v.1 = ap (λ ls. local_class ls (length vs)) e ∙ ap (λ n. local_class (front ++ c ∷ cs) n) (length_classes vs cs h.1) ∙ local_there front cs c ∙ sym h.0 in
    local_holds o p w vs (front ++ c ∷ []) cs (cond (same_name w v.0) (ALocal (length vs) v.1) other) (e ∙ shifted front cs c) h.1
    (holds_cond o p (same_name w v.0) (ALocal (length vs) v.1) other here g)

declared_holds : (o : Outline) (p : Place) (m : Option NameMeaning) → IsMeant (length o.classes) (length o.enumerations) (length o.roots) m → Holds o p (declared_sense o m)
declared_holds o p (Some (meaning.Variable v)) h = variable_typed o.roots v h
declared_holds o p (Some (meaning.Enumeration e)) h = tt
declared_holds o p (Some (meaning.Class c)) h = lt-ltb c (length o.classes) h
declared_holds o p None h = tt

own_or_holds : (o : Outline) (p : Place) (c : ℕ) (x : Option Found) (other : Sense) → p.class ≡ Some c → IfSome x (IsFound (attributes o.classes c)) → Holds o p other → Holds o p (own_or other x)
own_or_holds o p c None other e h g = g
own_or_holds o p c (Some f) other e h g = ap (λ d. attribute_type o (option_map Object d) f.number f.shape) e ∙ h

own_holds : (o : Outline) (p : Place) (w : List ℕ) (c : Option ℕ) (other : Sense) → p.class ≡ c → Holds o p other → Holds o p (own_or other (own_named o c w))
own_holds o p w None other e g = g
own_holds o p w (Some c) other e g = own_or_holds o p c (attribute_named o c w) other e (attribute_there o c w) g

pub sense_holds : (o : Outline) (s : Scope) (p : Place) (w : List ℕ) → IsClosed o → IsPlace s p → Holds o p (sense o s w)
sense_holds o s p w closed h =
    local_holds o p w s.locals [] p.locals (own_or (declared_sense o (means o.names w)) (own_named o s.class w)) refl h.locals
    (own_holds o p w s.class (declared_sense o (means o.names w)) (sym h.class) (declared_holds o p (means o.names w) (closed.meant w)))

-- Leaves

pub number_typed : (o : Outline) (p : Place) (at n : ℕ) → IsTyped o (number_reading at n) p
number_typed o p at n = record { type = refl; literal = refl }

pub truth_typed : (o : Outline) (p : Place) (at : ℕ) (b : Bool) → IsTyped o (truth_reading at b) p
truth_typed o p at b = record { type = refl; literal = refl }

pub this_typed : (o : Outline) (p : Place) (at : ℕ) (c : Option ℕ) → p.class ≡ c → IsTyped o (this_reading at c) p
this_typed o p at None e = record { type = refl; literal = refl }
this_typed o p at (Some c) e = record { type = ap (option_map Object) e; literal = refl }

pub word_typed : (o : Outline) (p : Place) (at : ℕ) (x : Sense) → Holds o p x → IsTyped o (word_reading at x) p
word_typed o p at (ALocal k c) h = record { type = ap (option_map Object) h; literal = refl }
word_typed o p at (AnOwn k s) h = record { type = h; literal = refl }
word_typed o p at (ARoot k s) h = record { type = h; literal = refl }
word_typed o p at (AnEnumeration e) h = record { type = refl; literal = refl }
word_typed o p at (AClass c) h = record { type = refl; literal = refl }
word_typed o p at Nothing h = record { type = refl; literal = refl }

pub over_typed : (o : Outline) (p : Place) (at : ℕ) (x : Sense) (r : Reading) → Holds o p x → IsTyped o r p → IsTyped o (over_reading at x r) p
over_typed o p at (AClass c) r h t = record { type = ap (λ b. some_if b (Class c)) h; literal = refl }
over_typed o p at (ALocal k c) r h t = t
over_typed o p at (AnOwn k s) r h t = t
over_typed o p at (ARoot k s) r h t = t
over_typed o p at (AnEnumeration e) r h t = t
over_typed o p at Nothing r h t = t

-- Parentheses, `-` and `not`

pub paren_typed : (o : Outline) (p : Place) (at : ℕ) (r : Reading) → IsTyped o r p → IsTyped o (paren_reading at r) p
paren_typed o p at r t = record { type = t.type; literal = t.literal }

pub minus_typed : (o : Outline) (p : Place) (at : ℕ) (r : Reading) → IsTyped o r p → IsTyped o (minus_reading at r) p
minus_typed o p at r t = record { type = ap (λ x. some_if (has need.Int x) Int) t.type; literal = t.literal }

pub not_typed : (o : Outline) (p : Place) (at : ℕ) (r : Reading) → IsTyped o r p → IsTyped o (not_reading at r) p
not_typed o p at r t = record { type = ap (λ x. some_if (has need.Truth x) Truth) t.type; literal = refl }

-- Names behind a dot

value_is_there : (ds : List Enumeration) (e k : ℕ) → k < length (slice_index_or ds e (record { name = []; values = [] })).values → option_map_or (λ (d : Enumeration). nat_lt k (length d.values)) (slice_get ds e) false ≡ true
value_is_there [] e k h = absurd (omega (arith, h))
value_is_there (d ∷ ds) zero k h = lt-ltb k (length d.values) h
value_is_there (d ∷ ds) (suc e) k h = value_is_there ds e k h

value_typed : (o : Outline) (p : Place) (at e : ℕ) (i : Ident) (x : Option ℕ) → IfSome x (λ k. k < length (values_of o e)) → IsTyped o (value_reading at e i x) p
value_typed o p at e i None h = record { type = refl; literal = refl }
value_typed o p at e i (Some k) h = record { type = ap (λ b. some_if b (Choice e)) (value_is_there o.enumerations e k h); literal = refl }

found_typed : (o : Outline) (p : Place) (at c : ℕ) (r : Reading) (i : Ident) (x : Option Found) → tree_type o r.tree p ≡ Some (Object c) → IfSome x (IsFound (attributes o.classes c)) → IsTyped o (found_reading at r i x) p
found_typed o p at c r i None e h = record { type = refl; literal = refl }
found_typed o p at c r i (Some f) e h = record { type = ap (λ t. attribute_type o t f.number f.shape) e ∙ h; literal = refl }

attribute_typed : (o : Outline) (p : Place) (at : ℕ) (r : Reading) (i : Ident) (t : Option ExprType) → tree_type o r.tree p ≡ t → IsTyped o (attribute_reading o at r i t) p
attribute_typed o p at r i (Some (Object c)) e = found_typed o p at c r i (attribute_named o c i.name) e (attribute_there o c i.name)
attribute_typed o p at r i (Some Int) e = record { type = refl; literal = refl }
attribute_typed o p at r i (Some Truth) e = record { type = refl; literal = refl }
attribute_typed o p at r i (Some (Choice d)) e = record { type = refl; literal = refl }
attribute_typed o p at r i (Some (Objects c)) e = record { type = refl; literal = refl }
attribute_typed o p at r i (Some (Class c)) e = record { type = refl; literal = refl }
attribute_typed o p at r i None e = record { type = refl; literal = refl }

pub dot_typed : (o : Outline) (p : Place) (at : ℕ) (x : Sense) (r : Reading) (i : Ident) → IsTyped o r p → IsTyped o (dot_reading o at x r i) p
dot_typed o p at (AnEnumeration e) r i t = value_typed o p at e i (position (same_name i.name) (values_of o e)) (position_there (same_name i.name) (values_of o e))
dot_typed o p at (ALocal k c) r i t = attribute_typed o p at r i r.type t.type
dot_typed o p at (AnOwn k s) r i t = attribute_typed o p at r i r.type t.type
dot_typed o p at (ARoot k s) r i t = attribute_typed o p at r i r.type t.type
dot_typed o p at (AClass c) r i t = attribute_typed o p at r i r.type t.type
dot_typed o p at Nothing r i t = attribute_typed o p at r i r.type t.type

-- Operators

abbrev pair_type : Op → Option ExprType → Option ExprType → Bool → Bool → Option ExprType
pair_type op a b x y = some_if (has (left_by (class_of op)) a && (has (right_by (class_of op)) b && (takes_both op a b && is_linear op x y))) (made_by (class_of op))

pub pair_typed : (o : Outline) (p : Place) (at : ℕ) (op : Op) (l r : Reading) → IsTyped o l p → IsTyped o r p → IsTyped o (pair_reading at op l r) p
pair_typed o p at op l r t u =
    record {
      type =
          ap (λ a. pair_type op a (tree_type o r.tree p) (is_literal l.tree) (is_literal r.tree)) t.type
          ∙ ap (λ b. pair_type op l.type b (is_literal l.tree) (is_literal r.tree)) u.type
          ∙ ap (λ x. pair_type op l.type r.type x (is_literal r.tree)) t.literal
          ∙ ap (λ y. pair_type op l.type r.type l.literal y) u.literal;
      literal =
          ap (λ x. makes_numbers (class_of op) && (x && is_literal r.tree)) t.literal
          ∙ ap (λ y. makes_numbers (class_of op) && (l.literal && y)) u.literal;
    }

pub right_typed : (o : Outline) (p : Place) (op : Op) (at : ℕ) (x : Sense) (r : Reading) → Holds o p x → IsTyped o r p → IsTyped o (right_reading op at x r) p
right_typed o p op at x r h t = by (is_in op)
  where
    by : (b : Bool) → IsTyped o (cond b (over_reading at x r) r) p
    by true = over_typed o p at x r h t
    by false = t

-- Quantifiers

-- what fits and what holds agree at each class
pub quantifier_typed : (q : QuantKind) (fits holds : Option ℕ → Bool) (t : Option ExprType) → ((c : ℕ) → fits (Some c) ≡ holds (Some c)) → quantifier_type q (list_class t) (fits (list_class t)) ≡ some_if (has need.List t && holds (list_class t)) (quant_result q)
quantifier_typed q fits holds (Some (Objects c)) same = ap (λ b. some_if b (quant_result q)) (same c)
quantifier_typed q fits holds (Some (Class c)) same = ap (λ b. some_if b (quant_result q)) (same c)
quantifier_typed q fits holds (Some Int) same = refl
quantifier_typed q fits holds (Some Truth) same = refl
quantifier_typed q fits holds (Some (Choice e)) same = refl
quantifier_typed q fits holds (Some (Object c)) same = refl
quantifier_typed q fits holds None same = refl
