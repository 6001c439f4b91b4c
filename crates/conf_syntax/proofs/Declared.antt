-- A model and its plain tree: same nesting, same tokens, same grammar.
use Rattle.std.proofs.Common.{◌≡◌, ℕ, true, false, Bool, ◌&&◌, ◌||◌, ◌==◌, List, [], ◌∷◌, ◌++◌, refl, sym, ◌∙◌, ap, append_assoc, append-nil, arith, max, Option, None, Some, nat_le, length}
use Rattle.std.specs.List.{flat_map, list_all}
use Rattle.std.proofs.lemmas.Bool.{and_from, le-leb}
use Rattle.conf_syntax.specs.declared.token.Ident.{Ident}
use Rattle.conf_syntax.specs.declared.token.Key.TheVariants as key
use Rattle.conf_syntax.specs.declared.token.Mark.TheVariants as mark
use Rattle.conf_syntax.specs.declared.token.Token.{Token}
use Rattle.conf_syntax.specs.declared.token.Token.TheVariants.{Word, Key, Mark}
use Rattle.conf_syntax.specs.declared.tree.Expr.{Expr}
use Rattle.conf_syntax.specs.declared.tree.Item as items
use Rattle.conf_syntax.specs.declared.tree.Item.TheVariants as item
use Rattle.conf_syntax.specs.declared.tree.Member as members
use Rattle.conf_syntax.specs.declared.tree.Member.TheVariants as member
use Rattle.conf_syntax.specs.declared.tree.Shape as shapes
use Rattle.conf_syntax.specs.declared.tree.Shape.TheVariants as shape
use Rattle.conf_syntax.specs.OnlyIf.{only_if}
use Rattle.conf_syntax.specs.Trees as trees
use Rattle.conf_syntax.specs.Plain as plain
use Rattle.conf_syntax.specs.Plain.{Tree, IsGood, IsAt, IsExpr, Exprs, WithExpr, NoExpr, Member, Members, NoMember, WithMember, Values, OneValue, WithValue, Item, Program, Empty, With, AreExprs, IsMember, AreMembers, IsItem, IsProgram}
use Rattle.conf_syntax.specs.Views.{tree_of, no_tree, shape_of, exprs_from, where_of, member_of, members_from, values_from, enum_of, parent_of, item_of, program_from, program_of}
use Rattle.conf_syntax.proofs.Tied.{nest_is, tokens_is, good_fits}

-- Nesting

exprs_nest : (es : Exprs) (xs : List Expr) → plain.exprs_nest (exprs_from es xs) ≡ max (plain.exprs_nest es) (trees.deepest trees.expr_depth xs)
exprs_nest es [] = omega arith
exprs_nest es (x ∷ xs) = omega (arith, exprs_nest (WithExpr es (tree_of x.node)) xs, nest_is x.node)

-- what the grammar hasn't is not good
pub never : IsGood no_tree → ⊥
never g = let e = g.1 in absurd (omega arith)

where_nest : (b : Bool) (xs : List Expr) → IsMember (where_of b xs) → plain.member_nest (where_of b xs) ≡ trees.deepest trees.expr_depth xs
where_nest true xs g = exprs_nest NoExpr xs ∙ omega arith
where_nest false [] g = absurd (never g.0)
where_nest false (e ∷ []) g = nest_is e.node ∙ omega arith
where_nest false (e ∷ f ∷ xs) g = absurd (never g.0)

member_nest : (m : members.Member) → IsMember (member_of m) → plain.member_nest (member_of m) ≡ trees.member_depth m
member_nest (member.Var v) g = refl
member_nest (member.Where w) g = where_nest w.braces w.list g

pub members_less : (ms : Members) (xs : List members.Member) → AreMembers (members_from ms xs) → AreMembers ms
members_less ms [] g = g
members_less ms (x ∷ xs) g = (members_less (WithMember ms (member_of x)) xs g).0

members_nest : (ms : Members) (xs : List members.Member) → AreMembers (members_from ms xs) → plain.members_nest (members_from ms xs) ≡ max (plain.members_nest ms) (trees.deepest trees.member_depth xs)
members_nest ms [] g = omega arith
members_nest ms (x ∷ xs) g = omega (arith, members_nest (WithMember ms (member_of x)) xs g, member_nest x (members_less (WithMember ms (member_of x)) xs g).1)

enum_nest : (w : List ℕ) (xs : List Ident) → IsItem (enum_of w xs) → plain.item_nest (enum_of w xs) ≡ 0
enum_nest w [] g = absurd (never g.0)
enum_nest w (x ∷ xs) g = refl

item_nest : (i : items.Item) → IsItem (item_of i) → plain.item_nest (item_of i) ≡ trees.item_depth i
item_nest (item.Enum e) g = enum_nest e.name.name e.values g
item_nest (item.Class c) g = members_nest NoMember c.members g ∙ omega arith
item_nest (item.Var v) g = refl
item_nest (item.Where w) g = where_nest w.braces w.list g
item_nest (item.Goal q) g = nest_is q.expr.node

pub program_less : (p : Program) (xs : List items.Item) → IsProgram (program_from p xs) → IsProgram p
program_less p [] g = g
program_less p (x ∷ xs) g = (program_less (With p (item_of x)) xs g).0

program_nest : (p : Program) (xs : List items.Item) → IsProgram (program_from p xs) → plain.nesting (program_from p xs) ≡ max (plain.nesting p) (trees.deepest trees.item_depth xs)
program_nest p [] g = omega arith
program_nest p (x ∷ xs) g = omega (arith, program_nest (With p (item_of x)) xs g, item_nest x (program_less (With p (item_of x)) xs g).1)

pub nesting_is : (xs : List items.Item) → IsProgram (program_of xs) → plain.nesting (program_of xs) ≡ trees.deepest trees.item_depth xs
nesting_is xs g = program_nest Empty xs g ∙ omega arith

-- Tokens

exprs_less : (es : Exprs) (xs : List Expr) → AreExprs (exprs_from es xs) → AreExprs es
exprs_less es [] g = g
exprs_less es (x ∷ xs) g = (exprs_less (WithExpr es (tree_of x.node)) xs g).0

list_row : (a b c : List Token) → (a ++ b) ++ c ≡ a ++ (b ++ c)
list_row a b c = append_assoc a b c

exprs_tokens : (es : Exprs) (xs : List Expr) → AreExprs (exprs_from es xs) → plain.exprs_tokens (exprs_from es xs) ≡ plain.exprs_tokens es ++ flat_map trees.statement_tokens xs
exprs_tokens es [] g = sym (append-nil (plain.exprs_tokens es))
exprs_tokens es (x ∷ xs) g =
    exprs_tokens (WithExpr es (tree_of x.node)) xs g
    ∙ ap (λ (y : List Token). (plain.exprs_tokens es ++ (y ++ (Mark mark.Semicolon ∷ []))) ++ flat_map trees.statement_tokens xs) (tokens_is x.node (exprs_less (WithExpr es (tree_of x.node)) xs g).1.0)
    ∙ list_row (plain.exprs_tokens es) (trees.statement_tokens x) (flat_map trees.statement_tokens xs)

where_tokens : (b : Bool) (xs : List Expr) → IsMember (where_of b xs) → plain.member_tokens (where_of b xs) ≡ Key key.Where ∷ trees.where_body b xs
where_tokens true xs g = ap (λ (y : List Token). Key key.Where ∷ Mark mark.OpenBrace ∷ (y ++ (Mark mark.CloseBrace ∷ []))) (exprs_tokens NoExpr xs g)
where_tokens false [] g = absurd (never g.0)
where_tokens false (e ∷ []) g = ap (λ (y : List Token). Key key.Where ∷ (y ++ (Mark mark.Semicolon ∷ []))) (tokens_is e.node g.0) ∙ ap (λ (y : List Token). Key key.Where ∷ y) (sym (append-nil (trees.statement_tokens e)))
where_tokens false (e ∷ f ∷ xs) g = absurd (never g.0)

shape_tokens : (s : shapes.Shape) → plain.shape_tokens (shape_of s) ≡ trees.shape_tokens s
shape_tokens (shape.Range low high) = refl
shape_tokens shape.Int = refl
shape_tokens shape.Bool = refl
shape_tokens (shape.Named i) = refl
shape_tokens (shape.Many i n) = refl
shape_tokens (shape.Ref i) = refl
shape_tokens (shape.RefSet i n) = refl

var_tokens : (w : List ℕ) (s : shapes.Shape) → plain.member_tokens (plain.Var w (shape_of s)) ≡ Key key.Var ∷ Word w ∷ Key key.As ∷ (trees.shape_tokens s ++ (Mark mark.Semicolon ∷ []))
var_tokens w s = ap (λ (y : List Token). Key key.Var ∷ Word w ∷ Key key.As ∷ (y ++ (Mark mark.Semicolon ∷ []))) (shape_tokens s)

pub member_tokens : (m : members.Member) → IsMember (member_of m) → plain.member_tokens (member_of m) ≡ trees.member_tokens m
member_tokens (member.Var v) g = var_tokens v.name.name v.shape
member_tokens (member.Where w) g = where_tokens w.braces w.list g

members_tokens : (ms : Members) (xs : List members.Member) → AreMembers (members_from ms xs) → plain.members_tokens (members_from ms xs) ≡ plain.members_tokens ms ++ flat_map trees.member_tokens xs
members_tokens ms [] g = sym (append-nil (plain.members_tokens ms))
members_tokens ms (x ∷ xs) g =
    members_tokens (WithMember ms (member_of x)) xs g
    ∙ ap (λ (y : List Token). (plain.members_tokens ms ++ y) ++ flat_map trees.member_tokens xs) (member_tokens x (members_less (WithMember ms (member_of x)) xs g).1)
    ∙ list_row (plain.members_tokens ms) (trees.member_tokens x) (flat_map trees.member_tokens xs)

values_tokens : (vs : Values) (xs : List Ident) → plain.values_tokens (values_from vs xs) ≡ plain.values_tokens vs ++ flat_map trees.further_tokens xs
values_tokens vs [] = sym (append-nil (plain.values_tokens vs))
values_tokens vs (x ∷ xs) = values_tokens (WithValue vs x.name) xs ∙ list_row (plain.values_tokens vs) (trees.further_tokens x) (flat_map trees.further_tokens xs)

enum_tokens : (w : List ℕ) (xs : List Ident) → IsItem (enum_of w xs) → plain.item_tokens (enum_of w xs) ≡ Key key.Enum ∷ Word w ∷ Mark mark.OpenBrace ∷ (trees.values_tokens xs ++ (Mark mark.CloseBrace ∷ []))
enum_tokens w [] g = absurd (never g.0)
enum_tokens w (x ∷ xs) g = ap (λ (y : List Token). Key key.Enum ∷ Word w ∷ Mark mark.OpenBrace ∷ (y ++ (Mark mark.CloseBrace ∷ []))) (values_tokens (OneValue x.name) xs)

parent_tokens : (o : Option Ident) → plain.parent_tokens (parent_of o) ≡ trees.parent_tokens o
parent_tokens None = refl
parent_tokens (Some i) = refl

class_row : (a : List Token) (k w : Token) (o ms : List Token) → (a ++ (k ∷ w ∷ (o ++ (Mark mark.OpenBrace ∷ [])))) ++ (ms ++ (Mark mark.CloseBrace ∷ [])) ≡ a ++ (k ∷ w ∷ (o ++ (Mark mark.OpenBrace ∷ (ms ++ (Mark mark.CloseBrace ∷ [])))))
class_row a k w o ms = simp append_assoc

pub item_tokens : (i : items.Item) → IsItem (item_of i) → plain.item_tokens (item_of i) ≡ trees.item_tokens i
item_tokens (item.Enum e) g = enum_tokens e.name.name e.values g
item_tokens (item.Class c) g =
    class_row (only_if c.is_abstract (Key key.Abstract)) (Key key.Class) (Word c.name.name) (plain.parent_tokens (parent_of c.parent)) (plain.members_tokens (members_from NoMember c.members))
    ∙ ap (λ (y : List Token). only_if c.is_abstract (Key key.Abstract) ++ (Key key.Class ∷ Word c.name.name ∷ (y ++ (Mark mark.OpenBrace ∷ (plain.members_tokens (members_from NoMember c.members) ++ (Mark mark.CloseBrace ∷ [])))))) (parent_tokens c.parent)
    ∙ ap (λ (y : List Token). only_if c.is_abstract (Key key.Abstract) ++ (Key key.Class ∷ Word c.name.name ∷ (trees.parent_tokens c.parent ++ (Mark mark.OpenBrace ∷ (y ++ (Mark mark.CloseBrace ∷ [])))))) (members_tokens NoMember c.members g)
item_tokens (item.Var v) g = var_tokens v.name.name v.shape
item_tokens (item.Where w) g = where_tokens w.braces w.list g
item_tokens (item.Goal q) g = ap (λ (y : List Token). trees.goal_key q.max ∷ (y ++ (Mark mark.Semicolon ∷ []))) (tokens_is q.expr.node g.0)

program_tokens : (p : Program) (xs : List items.Item) → IsProgram (program_from p xs) → plain.program_tokens (program_from p xs) ≡ plain.program_tokens p ++ flat_map trees.item_tokens xs
program_tokens p [] g = sym (append-nil (plain.program_tokens p))
program_tokens p (x ∷ xs) g =
    program_tokens (With p (item_of x)) xs g
    ∙ ap (λ (y : List Token). (plain.program_tokens p ++ y) ++ flat_map trees.item_tokens xs) (item_tokens x (program_less (With p (item_of x)) xs g).1)
    ∙ list_row (plain.program_tokens p) (trees.item_tokens x) (flat_map trees.item_tokens xs)

pub all_tokens : (xs : List items.Item) → IsProgram (program_of xs) → plain.program_tokens (program_of xs) ≡ flat_map trees.item_tokens xs
all_tokens xs g = program_tokens Empty xs g

-- The grammar

exprs_fit : (es : Exprs) (xs : List Expr) → AreExprs (exprs_from es xs) → list_all trees.expr_fits xs ≡ true
exprs_fit es [] g = refl
exprs_fit es (x ∷ xs) g = and_from (trees.expr_fits x) (list_all trees.expr_fits xs) (good_fits x.node (exprs_less (WithExpr es (tree_of x.node)) xs g).1.0) (exprs_fit (WithExpr es (tree_of x.node)) xs g)

where_fits : (b : Bool) (xs : List Expr) → IsMember (where_of b xs) → list_all trees.expr_fits xs && (b || length xs == 1) ≡ true
where_fits true xs g = and_from (list_all trees.expr_fits xs) true (exprs_fit NoExpr xs g) refl
where_fits false [] g = absurd (never g.0)
where_fits false (e ∷ []) g = and_from (list_all trees.expr_fits (e ∷ [])) true (and_from (trees.expr_fits e) true (good_fits e.node g.0) refl) refl
where_fits false (e ∷ f ∷ xs) g = absurd (never g.0)

member_fits : (m : members.Member) → IsMember (member_of m) → trees.member_fits m ≡ true
member_fits (member.Var v) g = refl
member_fits (member.Where w) g = where_fits w.braces w.list g

members_fit : (ms : Members) (xs : List members.Member) → AreMembers (members_from ms xs) → list_all trees.member_fits xs ≡ true
members_fit ms [] g = refl
members_fit ms (x ∷ xs) g = and_from (trees.member_fits x) (list_all trees.member_fits xs) (member_fits x (members_less (WithMember ms (member_of x)) xs g).1) (members_fit (WithMember ms (member_of x)) xs g)

enum_fits : (w : List ℕ) (xs : List Ident) → IsItem (enum_of w xs) → nat_le 1 (length xs) ≡ true
enum_fits w [] g = absurd (never g.0)
enum_fits w (x ∷ xs) g = le-leb 1 (length (x ∷ xs)) (omega arith)

item_fits : (i : items.Item) → IsItem (item_of i) → trees.item_fits i ≡ true
item_fits (item.Enum e) g = enum_fits e.name.name e.values g
item_fits (item.Class c) g = members_fit NoMember c.members g
item_fits (item.Var v) g = refl
item_fits (item.Where w) g = where_fits w.braces w.list g
item_fits (item.Goal q) g = good_fits q.expr.node g.0

items_fit : (p : Program) (xs : List items.Item) → IsProgram (program_from p xs) → list_all trees.item_fits xs ≡ true
items_fit p [] g = refl
items_fit p (x ∷ xs) g = and_from (trees.item_fits x) (list_all trees.item_fits xs) (item_fits x (program_less (With p (item_of x)) xs g).1) (items_fit (With p (item_of x)) xs g)

pub all_fit : (xs : List items.Item) → IsProgram (program_of xs) → list_all trees.item_fits xs ≡ true
all_fit xs g = items_fit Empty xs g
