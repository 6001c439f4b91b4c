-- Models with their places and without pointers: a plain tree and its places give one back, so two trees of the program
-- with the same plain tree and the same places say the same.
use Rattle.std.proofs.Common.{◌≡◌, ℕ, true, false, Bool, List, [], ◌∷◌, ◌++◌, refl, sym, ◌∙◌, ap, subst, append_assoc, append-nil, Option, None, Some, map}
use Rattle.std.specs.List.{flat_map}
use Rattle.conf_syntax.specs.declared.token.Ident.{Ident}
use Rattle.conf_syntax.specs.declared.tree.Bound.{Bound}
use Rattle.conf_syntax.specs.declared.tree.EnumDecl.{EnumDecl}
use Rattle.conf_syntax.specs.declared.tree.Expr.{Expr}
use Rattle.conf_syntax.specs.declared.tree.Item as items
use Rattle.conf_syntax.specs.declared.tree.Item.TheVariants as item
use Rattle.conf_syntax.specs.declared.tree.Member as members
use Rattle.conf_syntax.specs.declared.tree.Member.TheVariants as member
use Rattle.conf_syntax.specs.declared.tree.Program as tree
use Rattle.conf_syntax.specs.declared.tree.Shape as shapes
use Rattle.conf_syntax.specs.declared.tree.Shape.TheVariants as shape
use Rattle.conf_syntax.specs.declared.tree.VarDecl.{VarDecl}
use Rattle.conf_syntax.specs.AllPlaces as listed
use Rattle.conf_syntax.specs.OneModel.{AreOneModel}
use Rattle.conf_syntax.specs.Plain as plain
use Rattle.conf_syntax.specs.Plain.{Exprs, NoExpr, WithExpr, Member, Members, NoMember, WithMember, Values, OneValue, WithValue, Item, Program, Empty, With, IsMember, AreMembers, IsItem, IsProgram}
use Rattle.conf_syntax.specs.Views.{tree_of, shape_of, exprs_from, where_of, member_of, members_from, values_from, enum_of, parent_of, item_of, program_from, program_of}
use Rattle.conf_syntax.proofs.Declared.{never, members_less, program_less}
use Rattle.conf_syntax.proofs.Fitting.{all_good}
use Rattle.conf_syntax.proofs.WholeTrees.{Whole, whole_of, taken, taken_is, head_place, more_places}

-- What declarations say

-- constraints, with the keyword's place
pub record WholeWhere : Type 0 where
  pub at : ℕ
  pub braces : Bool
  pub list : List Whole

pub data WholeMember : Type 0 where
  AVar : VarDecl → WholeMember
  AWhere : WholeWhere → WholeMember

pub record WholeClass : Type 0 where
  pub is_abstract : Bool
  pub name : Ident
  pub parent : Option Ident
  pub members : List WholeMember

pub record WholeGoal : Type 0 where
  pub at : ℕ
  pub max : Bool
  pub expr : Whole

pub data WholeItem : Type 0 where
  AnEnum : EnumDecl → WholeItem
  AClass : WholeClass → WholeItem
  Alone : WholeMember → WholeItem
  AGoal : WholeGoal → WholeItem

abbrev pub whole_expr : Expr → Whole
whole_expr e = whole_of e.at e.node

abbrev pub whole_member : members.Member → WholeMember
whole_member (member.Var v) = AVar v
whole_member (member.Where w) = AWhere (record { at = w.at; braces = w.braces; list = map whole_expr w.list })

abbrev pub whole_item : items.Item → WholeItem
whole_item (item.Enum e) = AnEnum e
whole_item (item.Class c) = AClass (record { is_abstract = c.is_abstract; name = c.name; parent = c.parent; members = map whole_member c.members })
whole_item (item.Var v) = Alone (whole_member (member.Var v))
whole_item (item.Where w) = Alone (whole_member (member.Where w))
whole_item (item.Goal g) = AGoal (record { at = g.at; max = g.max; expr = whole_expr g.expr })

abbrev pub whole_items : List items.Item → List WholeItem
whole_items xs = map whole_item xs

-- Taking them back from a plain tree and places

abbrev ident : List ℕ → List ℕ → Ident
ident w ps = record { name = w; at = head_place ps }

abbrev bound : plain.End → List ℕ → Bound
bound (plain.EndOf m n) ps = record { at = head_place ps; minus = m; value = n }

abbrev taken_shape : plain.Shape → List ℕ → shapes.Shape × List ℕ
taken_shape (plain.Range low high) ps = (shape.Range (bound low ps) (bound high (more_places ps)), more_places (more_places ps))
taken_shape plain.Int ps = (shape.Int, ps)
taken_shape plain.Truth ps = (shape.Bool, ps)
taken_shape (plain.Named false w) ps = (shape.Named (ident w ps), more_places ps)
taken_shape (plain.Named true w) ps = (shape.Ref (ident w ps), more_places ps)
taken_shape (plain.Counted false w n) ps = (shape.Many (ident w ps) n, more_places ps)
taken_shape (plain.Counted true w n) ps = (shape.RefSet (ident w ps) n, more_places ps)

abbrev taken_exprs : Exprs → List ℕ → List Whole × List ℕ
taken_exprs NoExpr ps = ([], ps)
taken_exprs (WithExpr es e) ps = ((taken_exprs es ps).0 ++ (taken e (taken_exprs es ps).1).0 ∷ [], (taken e (taken_exprs es ps).1).1)

abbrev one_where : ℕ → Whole → WholeMember
one_where at e = AWhere (record { at = at; braces = false; list = e ∷ [] })

abbrev many_where : ℕ → List Whole → WholeMember
many_where at es = AWhere (record { at = at; braces = true; list = es })

abbrev taken_member : Member → List ℕ → WholeMember × List ℕ
taken_member (plain.Var w s) ps = (AVar (record { name = ident w ps; shape = (taken_shape s (more_places ps)).0 }), (taken_shape s (more_places ps)).1)
taken_member (plain.Where e) ps = (one_where (head_place ps) (taken e (more_places ps)).0, (taken e (more_places ps)).1)
taken_member (plain.Braces es) ps = (many_where (head_place ps) (taken_exprs es (more_places ps)).0, (taken_exprs es (more_places ps)).1)

abbrev taken_members : Members → List ℕ → List WholeMember × List ℕ
taken_members NoMember ps = ([], ps)
taken_members (WithMember ms m) ps = ((taken_members ms ps).0 ++ (taken_member m (taken_members ms ps).1).0 ∷ [], (taken_member m (taken_members ms ps).1).1)

abbrev taken_values : Values → List ℕ → List Ident × List ℕ
taken_values (OneValue w) ps = (ident w ps ∷ [], more_places ps)
taken_values (WithValue vs w) ps = ((taken_values vs ps).0 ++ ident w (taken_values vs ps).1 ∷ [], more_places (taken_values vs ps).1)

abbrev taken_parent : Option (List ℕ) → List ℕ → Option Ident × List ℕ
taken_parent None ps = (None, ps)
taken_parent (Some w) ps = (Some (ident w ps), more_places ps)

abbrev taken_item : Item → List ℕ → WholeItem × List ℕ
taken_item (plain.Enum w vs) ps = (AnEnum (record { name = ident w ps; values = (taken_values vs (more_places ps)).0 }), (taken_values vs (more_places ps)).1)
taken_item (plain.Class a w o ms) ps = (
  AClass (record { is_abstract = a; name = ident w ps; parent = (taken_parent o (more_places ps)).0; members = (taken_members ms (taken_parent o (more_places ps)).1).0 }),
  (taken_members ms (taken_parent o (more_places ps)).1).1,
)
taken_item (plain.Alone m) ps = (Alone (taken_member m ps).0, (taken_member m ps).1)
taken_item (plain.Goal m e) ps = (AGoal (record { at = head_place ps; max = m; expr = (taken e (more_places ps)).0 }), (taken e (more_places ps)).1)

abbrev taken_program : Program → List ℕ → List WholeItem × List ℕ
taken_program Empty ps = ([], ps)
taken_program (With p i) ps = ((taken_program p ps).0 ++ (taken_item i (taken_program p ps).1).0 ∷ [], (taken_item i (taken_program p ps).1).1)

-- What is taken back is what was there

shape_is : (s : shapes.Shape) (rest : List ℕ) → taken_shape (shape_of s) (listed.shape_places s ++ rest) ≡ (s, rest)
shape_is (shape.Range low high) rest = refl
shape_is shape.Int rest = refl
shape_is shape.Bool rest = refl
shape_is (shape.Named i) rest = refl
shape_is (shape.Many i n) rest = refl
shape_is (shape.Ref i) rest = refl
shape_is (shape.RefSet i n) rest = refl

exprs_are : (es : Exprs) (xs : List Expr) (l : List Whole) (ps rest : List ℕ) → taken_exprs es ps ≡ (l, flat_map listed.expr_places xs ++ rest) → taken_exprs (exprs_from es xs) ps ≡ (l ++ map whole_expr xs, rest)
exprs_are es [] l ps rest h = h ∙ ap (λ (x : List Whole). (x, rest)) (sym (append-nil l))
exprs_are es (x ∷ xs) l ps rest h =
    let behind = flat_map listed.expr_places xs ++ rest in
    exprs_are (WithExpr es (tree_of x.node)) xs (l ++ whole_expr x ∷ []) ps rest
    (ap (λ (y : List Whole × List ℕ). (y.0 ++ (taken (tree_of x.node) y.1).0 ∷ [], (taken (tree_of x.node) y.1).1)) h
    ∙ ap (λ (qs : List ℕ). (l ++ (taken (tree_of x.node) qs).0 ∷ [], (taken (tree_of x.node) qs).1)) (append_assoc (listed.expr_places x) (flat_map listed.expr_places xs) rest)
    ∙ ap (λ (y : Whole × List ℕ). (l ++ y.0 ∷ [], y.1)) (taken_is x.at x.node behind))
    ∙ ap (λ (y : List Whole). (y, rest)) (append_assoc l (whole_expr x ∷ []) (map whole_expr xs))

where_is : (at : ℕ) (b : Bool) (xs : List Expr) (rest : List ℕ) → IsMember (where_of b xs) → taken_member (where_of b xs) (at ∷ (flat_map listed.expr_places xs ++ rest)) ≡ (AWhere (record { at = at; braces = b; list = map whole_expr xs }), rest)
where_is at true xs rest g = ap (λ (x : List Whole × List ℕ). (many_where at x.0, x.1)) (exprs_are NoExpr xs [] (flat_map listed.expr_places xs ++ rest) rest refl)
where_is at false [] rest g = absurd (never g.0)
where_is at false (e ∷ []) rest g =
    ap (λ (qs : List ℕ). (one_where at (taken (tree_of e.node) qs).0, (taken (tree_of e.node) qs).1)) (append_assoc (listed.expr_places e) [] rest)
    ∙ ap (λ (x : Whole × List ℕ). (one_where at x.0, x.1)) (taken_is e.at e.node rest)
where_is at false (e ∷ f ∷ xs) rest g = absurd (never g.0)

member_is : (m : members.Member) (rest : List ℕ) → IsMember (member_of m) → taken_member (member_of m) (listed.member_places m ++ rest) ≡ (whole_member m, rest)
member_is (member.Var v) rest g = ap (λ (x : shapes.Shape × List ℕ). (AVar (record { name = v.name; shape = x.0 }), x.1)) (shape_is v.shape rest)
member_is (member.Where w) rest g = where_is w.at w.braces w.list rest g

members_are : (ms : Members) (xs : List members.Member) (l : List WholeMember) (ps rest : List ℕ) → AreMembers (members_from ms xs) → taken_members ms ps ≡ (l, flat_map listed.member_places xs ++ rest) → taken_members (members_from ms xs) ps ≡ (l ++ map whole_member xs, rest)
members_are ms [] l ps rest g h = h ∙ ap (λ (x : List WholeMember). (x, rest)) (sym (append-nil l))
members_are ms (x ∷ xs) l ps rest g h =
    let behind = flat_map listed.member_places xs ++ rest in
    members_are (WithMember ms (member_of x)) xs (l ++ whole_member x ∷ []) ps rest g
    (ap (λ (y : List WholeMember × List ℕ). (y.0 ++ (taken_member (member_of x) y.1).0 ∷ [], (taken_member (member_of x) y.1).1)) h
    ∙ ap (λ (qs : List ℕ). (l ++ (taken_member (member_of x) qs).0 ∷ [], (taken_member (member_of x) qs).1)) (append_assoc (listed.member_places x) (flat_map listed.member_places xs) rest)
    ∙ ap (λ (y : WholeMember × List ℕ). (l ++ y.0 ∷ [], y.1)) (member_is x behind (members_less (WithMember ms (member_of x)) xs g).1))
    ∙ ap (λ (y : List WholeMember). (y, rest)) (append_assoc l (whole_member x ∷ []) (map whole_member xs))

values_are : (vs : Values) (xs : List Ident) (l : List Ident) (ps rest : List ℕ) → taken_values vs ps ≡ (l, flat_map listed.word_places xs ++ rest) → taken_values (values_from vs xs) ps ≡ (l ++ xs, rest)
values_are vs [] l ps rest h = h ∙ ap (λ (x : List Ident). (x, rest)) (sym (append-nil l))
values_are vs (x ∷ xs) l ps rest h =
    values_are (WithValue vs x.name) xs (l ++ x ∷ []) ps rest
    (ap (λ (y : List Ident × List ℕ). (y.0 ++ ident x.name y.1 ∷ [], more_places y.1)) h)
    ∙ ap (λ (y : List Ident). (y, rest)) (append_assoc l (x ∷ []) xs)

parent_is : (o : Option Ident) (rest : List ℕ) → taken_parent (parent_of o) (listed.parent_places o ++ rest) ≡ (o, rest)
parent_is None rest = refl
parent_is (Some i) rest = refl

enum_is : (name : Ident) (xs : List Ident) (rest : List ℕ) → IsItem (enum_of name.name xs) → taken_item (enum_of name.name xs) (name.at ∷ (flat_map listed.word_places xs ++ rest)) ≡ (AnEnum (record { name = name; values = xs }), rest)
enum_is name [] rest g = absurd (never g.0)
enum_is name (x ∷ xs) rest g =
    ap (λ (y : List Ident × List ℕ). (AnEnum (record { name = name; values = y.0 }), y.1)) (values_are (OneValue x.name) xs (x ∷ []) (x.at ∷ (flat_map listed.word_places xs ++ rest)) rest refl)

item_is : (i : items.Item) (rest : List ℕ) → IsItem (item_of i) → taken_item (item_of i) (listed.item_places i ++ rest) ≡ (whole_item i, rest)
item_is (item.Enum e) rest g = enum_is e.name e.values rest g
item_is (item.Class c) rest g =
    let inside = flat_map listed.member_places c.members in
    let ms = members_from NoMember c.members in
    ap (λ (qs : List ℕ). taken_item (plain.Class c.is_abstract c.name.name (parent_of c.parent) ms) (c.name.at ∷ qs)) (append_assoc (listed.parent_places c.parent) inside rest)
    ∙ ap (λ (x : Option Ident × List ℕ). (AClass (record { is_abstract = c.is_abstract; name = c.name; parent = x.0; members = (taken_members ms x.1).0 }), (taken_members ms x.1).1)) (parent_is c.parent (inside ++ rest))
    ∙ ap (λ (x : List WholeMember × List ℕ). (AClass (record { is_abstract = c.is_abstract; name = c.name; parent = c.parent; members = x.0 }), x.1)) (members_are NoMember c.members [] (inside ++ rest) rest g refl)
item_is (item.Var v) rest g = ap (λ (x : WholeMember × List ℕ). (Alone x.0, x.1)) (member_is (member.Var v) rest g)
item_is (item.Where w) rest g = ap (λ (x : WholeMember × List ℕ). (Alone x.0, x.1)) (member_is (member.Where w) rest g)
item_is (item.Goal q) rest g = ap (λ (x : Whole × List ℕ). (AGoal (record { at = q.at; max = q.max; expr = x.0 }), x.1)) (taken_is q.expr.at q.expr.node rest)

items_are : (p : Program) (xs : List items.Item) (l : List WholeItem) (ps rest : List ℕ) → IsProgram (program_from p xs) → taken_program p ps ≡ (l, flat_map listed.item_places xs ++ rest) → taken_program (program_from p xs) ps ≡ (l ++ map whole_item xs, rest)
items_are p [] l ps rest g h = h ∙ ap (λ (x : List WholeItem). (x, rest)) (sym (append-nil l))
items_are p (x ∷ xs) l ps rest g h =
    let behind = flat_map listed.item_places xs ++ rest in
    items_are (With p (item_of x)) xs (l ++ whole_item x ∷ []) ps rest g
    (ap (λ (y : List WholeItem × List ℕ). (y.0 ++ (taken_item (item_of x) y.1).0 ∷ [], (taken_item (item_of x) y.1).1)) h
    ∙ ap (λ (qs : List ℕ). (l ++ (taken_item (item_of x) qs).0 ∷ [], (taken_item (item_of x) qs).1)) (append_assoc (listed.item_places x) (flat_map listed.item_places xs) rest)
    ∙ ap (λ (y : WholeItem × List ℕ). (l ++ y.0 ∷ [], y.1)) (item_is x behind (program_less (With p (item_of x)) xs g).1))
    ∙ ap (λ (y : List WholeItem). (y, rest)) (append_assoc l (whole_item x ∷ []) (map whole_item xs))

all_taken : (xs : List items.Item) → IsProgram (program_of xs) → taken_program (program_of xs) (flat_map listed.item_places xs) ≡ (whole_items xs, [])
all_taken xs g = items_are Empty xs [] (flat_map listed.item_places xs) [] g (ap (λ (ps : List ℕ). ([], ps)) (sym (append-nil (flat_map listed.item_places xs))))

-- models with one plain tree and the same places say the same
pub same_whole : (xs ys : List items.Item) → IsProgram (program_of xs) → IsProgram (program_of ys) → program_of xs ≡ program_of ys → flat_map listed.item_places xs ≡ flat_map listed.item_places ys → whole_items xs ≡ whole_items ys
same_whole xs ys g h e places =
    ap (λ (x : List WholeItem × List ℕ). x.0) (sym (all_taken xs g) ∙ ap (λ (p : Program). taken_program p (flat_map listed.item_places xs)) e ∙ ap (λ (ps : List ℕ). taken_program (program_of ys) ps) places ∙ all_taken ys h)

-- trees that are one model say the same
pub one_whole : (p q : tree.Program) → AreOneModel p q → whole_items p.items ≡ whole_items q.items
one_whole p q h =
    let g = all_good p.items h.fits in
    same_whole p.items q.items g (subst IsProgram h.plain g) h.plain h.places
