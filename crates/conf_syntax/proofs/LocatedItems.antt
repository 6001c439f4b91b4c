-- The places of a model follow from its plain tree and its tokens.
use Rattle.std.proofs.Common.{◌≡◌, ◌+◌, ℕ, true, false, Bool, cond, List, [], ◌∷◌, ◌++◌, refl, sym, ◌∙◌, ap, subst, append_assoc, append-nil, arith, Option, None, Some, length, drop, length-append}
use Rattle.std.specs.List.{flat_map}
use Rattle.conf_syntax.specs.declared.token.Ident.{Ident}
use Rattle.conf_syntax.specs.declared.token.Mark.TheVariants as mark
use Rattle.conf_syntax.specs.declared.token.Placed.{Placed}
use Rattle.conf_syntax.specs.declared.token.Token.TheVariants.{Mark}
use Rattle.conf_syntax.specs.declared.tree.Expr.{Expr}
use Rattle.conf_syntax.specs.declared.tree.Item as items
use Rattle.conf_syntax.specs.declared.tree.Item.TheVariants as item
use Rattle.conf_syntax.specs.declared.tree.Member as members
use Rattle.conf_syntax.specs.declared.tree.Member.TheVariants as member
use Rattle.conf_syntax.specs.declared.tree.Shape as shapes
use Rattle.conf_syntax.specs.declared.tree.Shape.TheVariants as shape
use Rattle.conf_syntax.specs.AllPlaces as listed
use Rattle.conf_syntax.specs.Places.{first_at, at_index}
use Rattle.conf_syntax.specs.Plain as plain
use Rattle.conf_syntax.specs.Plain.{End, Shape, Exprs, NoExpr, WithExpr, Member, Members, NoMember, WithMember, Values, OneValue, WithValue, Item, Program, Empty, With, IsMember, AreMembers, IsItem, IsProgram}
use Rattle.conf_syntax.specs.Standing.{statement_size, value_size, member_size, item_size, abstract_size, parent_size, InRow, WordStands, ExprStands, ShapeStands, MemberStands, ParentStands, ItemStands}
use Rattle.conf_syntax.specs.Trees as trees
use Rattle.conf_syntax.specs.Views.{tree_of, shape_of, exprs_from, where_of, member_of, members_from, values_from, enum_of, parent_of, item_of, program_from, program_of}
use Rattle.conf_syntax.proofs.Declared.{never, member_tokens, item_tokens, members_less, program_less}
use Rattle.conf_syntax.proofs.Located.{tree_size, tree_places, size_is, places_are, behind}

-- Where the nodes of a plain tree stand; each list's places are those of the list before, and then those of its last element

abbrev shape_places : List Placed → Shape → List ℕ
shape_places tokens (plain.Range low high) = first_at tokens ∷ at_index (length (plain.end_tokens low) + 1) tokens ∷ []
shape_places tokens plain.Int = []
shape_places tokens plain.Truth = []
shape_places tokens (plain.Named true w) = at_index 1 tokens ∷ []
shape_places tokens (plain.Named false w) = first_at tokens ∷ []
shape_places tokens (plain.Counted true w n) = at_index 1 tokens ∷ []
shape_places tokens (plain.Counted false w n) = first_at tokens ∷ []

abbrev values_size : Values → ℕ
values_size (OneValue w) = 2
values_size (WithValue vs w) = values_size vs + 2

abbrev values_places : List Placed → Values → List ℕ
values_places tokens (OneValue w) = first_at tokens ∷ []
values_places tokens (WithValue vs w) = values_places tokens vs ++ (at_index (values_size vs) tokens ∷ [])

abbrev exprs_size : Exprs → ℕ
exprs_size NoExpr = 0
exprs_size (WithExpr es e) = exprs_size es + (tree_size e + 1)

abbrev exprs_places : List Placed → Exprs → List ℕ
exprs_places tokens NoExpr = []
exprs_places tokens (WithExpr es e) = exprs_places tokens es ++ tree_places (drop (exprs_size es) tokens) e

abbrev member_places : List Placed → Member → List ℕ
member_places tokens (plain.Var w s) = at_index 1 tokens ∷ shape_places (drop 3 tokens) s
member_places tokens (plain.Where e) = first_at tokens ∷ tree_places (drop 1 tokens) e
member_places tokens (plain.Braces es) = first_at tokens ∷ exprs_places (drop 2 tokens) es

abbrev members_places : List Placed → Members → List ℕ
members_places tokens NoMember = []
members_places tokens (WithMember ms m) = members_places tokens ms ++ member_places (drop (length (plain.members_tokens ms)) tokens) m

abbrev parent_places : List Placed → Option (List ℕ) → List ℕ
parent_places tokens None = []
parent_places tokens (Some w) = at_index 1 tokens ∷ []

abbrev item_places : List Placed → Item → List ℕ
item_places tokens (plain.Enum w vs) = at_index 1 tokens ∷ values_places (drop 3 tokens) vs
item_places tokens (plain.Class a w o ms) =
    at_index (abstract_size a + 1) tokens
    ∷ (parent_places (drop (abstract_size a + 2) tokens) o ++ members_places (drop (length (plain.parent_tokens o) + 1) (drop (abstract_size a + 2) tokens)) ms)
item_places tokens (plain.Alone m) = member_places tokens m
item_places tokens (plain.Goal m e) = first_at tokens ∷ tree_places (drop 1 tokens) e

abbrev program_places : List Placed → Program → List ℕ
program_places tokens Empty = []
program_places tokens (With p i) = program_places tokens p ++ item_places (drop (length (plain.program_tokens p)) tokens) i

-- The places of a tree are those of its plain tree

one_place : (a b : ℕ) (xs ys : List ℕ) → a ≡ b → xs ≡ ys → a ∷ xs ≡ b ∷ ys
one_place a b xs ys e f = ap (λ (x : ℕ). x ∷ xs) e ∙ ap (λ (x : List ℕ). b ∷ x) f

shape_are : (tokens : List Placed) (s : shapes.Shape) → ShapeStands tokens s → listed.shape_places s ≡ shape_places tokens (shape_of s)
shape_are tokens (shape.Range low high) h = one_place low.at (first_at tokens) (high.at ∷ []) (at_index (length (trees.bound_tokens low) + 1) tokens ∷ []) h.0 (ap (λ (x : ℕ). x ∷ []) h.1)
shape_are tokens shape.Int h = refl
shape_are tokens shape.Bool h = refl
shape_are tokens (shape.Named i) h = ap (λ (x : ℕ). x ∷ []) h
shape_are tokens (shape.Many i n) h = ap (λ (x : ℕ). x ∷ []) h
shape_are tokens (shape.Ref i) h = ap (λ (x : ℕ). x ∷ []) h
shape_are tokens (shape.RefSet i n) h = ap (λ (x : ℕ). x ∷ []) h

values_are : (tokens : List Placed) (vs : Values) (xs : List Ident) → InRow WordStands value_size (drop (values_size vs) tokens) xs → values_places tokens (values_from vs xs) ≡ values_places tokens vs ++ flat_map listed.word_places xs
values_are tokens vs [] h = sym (append-nil (values_places tokens vs))
values_are tokens vs (x ∷ xs) h =
    values_are tokens (WithValue vs x.name) xs (subst (λ (y : List Placed). InRow WordStands value_size y xs) (behind (values_size vs) 2 (values_size vs + 2) tokens refl) h.1)
    ∙ append_assoc (values_places tokens vs) (at_index (values_size vs) tokens ∷ []) (flat_map listed.word_places xs)
    ∙ ap (λ (y : ℕ). values_places tokens vs ++ (y ∷ flat_map listed.word_places xs)) (sym h.0)

exprs_are : (tokens : List Placed) (es : Exprs) (xs : List Expr) → InRow ExprStands statement_size (drop (exprs_size es) tokens) xs → exprs_places tokens (exprs_from es xs) ≡ exprs_places tokens es ++ flat_map listed.expr_places xs
exprs_are tokens es [] h = sym (append-nil (exprs_places tokens es))
exprs_are tokens es (x ∷ xs) h =
    let n : exprs_size es + statement_size x ≡ exprs_size (WithExpr es (tree_of x.node)) = omega (arith, size_is x.node, length-append (trees.tokens_of x.node) (Mark mark.Semicolon ∷ [])) in
    exprs_are tokens (WithExpr es (tree_of x.node)) xs (subst (λ (y : List Placed). InRow ExprStands statement_size y xs) (behind (exprs_size es) (statement_size x) (exprs_size (WithExpr es (tree_of x.node))) tokens n) h.1)
    ∙ append_assoc (exprs_places tokens es) (tree_places (drop (exprs_size es) tokens) (tree_of x.node)) (flat_map listed.expr_places xs)
    ∙ ap (λ (y : List ℕ). exprs_places tokens es ++ (y ++ flat_map listed.expr_places xs)) (sym (places_are (drop (exprs_size es) tokens) x.at x.node h.0))

where_are : (tokens : List Placed) (at : ℕ) (b : Bool) (xs : List Expr) → IsMember (where_of b xs) → at ≡ first_at tokens → InRow ExprStands statement_size (drop (cond b 2 1) tokens) xs → at ∷ flat_map listed.expr_places xs ≡ member_places tokens (where_of b xs)
where_are tokens at true xs g a h = one_place at (first_at tokens) (flat_map listed.expr_places xs) (exprs_places (drop 2 tokens) (exprs_from NoExpr xs)) a (sym (exprs_are (drop 2 tokens) NoExpr xs h))
where_are tokens at false [] g a h = absurd (never g.0)
where_are tokens at false (e ∷ []) g a h = one_place at (first_at tokens) (listed.expr_places e ++ []) (tree_places (drop 1 tokens) (tree_of e.node)) a (append-nil (listed.expr_places e) ∙ places_are (drop 1 tokens) e.at e.node h.0)
where_are tokens at false (e ∷ f ∷ xs) g a h = absurd (never g.0)

member_are : (tokens : List Placed) (m : members.Member) → IsMember (member_of m) → MemberStands tokens m → listed.member_places m ≡ member_places tokens (member_of m)
member_are tokens (member.Var v) g h = one_place v.name.at (at_index 1 tokens) (listed.shape_places v.shape) (shape_places (drop 3 tokens) (shape_of v.shape)) h.0 (shape_are (drop 3 tokens) v.shape h.1)
member_are tokens (member.Where w) g h = where_are tokens w.at w.braces w.list g h.0 h.1

members_are : (tokens : List Placed) (ms : Members) (xs : List members.Member) → AreMembers (members_from ms xs) → InRow MemberStands member_size (drop (length (plain.members_tokens ms)) tokens) xs → members_places tokens (members_from ms xs) ≡ members_places tokens ms ++ flat_map listed.member_places xs
members_are tokens ms [] g h = sym (append-nil (members_places tokens ms))
members_are tokens ms (x ∷ xs) g h =
    let good = (members_less (WithMember ms (member_of x)) xs g).1 in
    let n : length (plain.members_tokens ms) + member_size x ≡ length (plain.members_tokens (WithMember ms (member_of x))) = omega (arith, ap length (member_tokens x good), length-append (plain.members_tokens ms) (plain.member_tokens (member_of x))) in
    members_are tokens (WithMember ms (member_of x)) xs g (subst (λ (y : List Placed). InRow MemberStands member_size y xs) (behind (length (plain.members_tokens ms)) (member_size x) (length (plain.members_tokens (WithMember ms (member_of x)))) tokens n) h.1)
    ∙ append_assoc (members_places tokens ms) (member_places (drop (length (plain.members_tokens ms)) tokens) (member_of x)) (flat_map listed.member_places xs)
    ∙ ap (λ (y : List ℕ). members_places tokens ms ++ (y ++ flat_map listed.member_places xs)) (sym (member_are (drop (length (plain.members_tokens ms)) tokens) x good h.0))

parent_are : (tokens : List Placed) (o : Option Ident) → ParentStands tokens o → listed.parent_places o ≡ parent_places tokens (parent_of o)
parent_are tokens None h = refl
parent_are tokens (Some i) h = ap (λ (x : ℕ). x ∷ []) h

parent_long : (o : Option Ident) → parent_size o ≡ length (plain.parent_tokens (parent_of o))
parent_long None = refl
parent_long (Some i) = refl

enum_are : (tokens : List Placed) (at : ℕ) (w : List ℕ) (xs : List Ident) → IsItem (enum_of w xs) → at ≡ at_index 1 tokens → InRow WordStands value_size (drop 3 tokens) xs → at ∷ flat_map listed.word_places xs ≡ item_places tokens (enum_of w xs)
enum_are tokens at w [] g a h = absurd (never g.0)
enum_are tokens at w (x ∷ xs) g a h =
    one_place at (at_index 1 tokens) (flat_map listed.word_places (x ∷ xs)) (values_places (drop 3 tokens) (values_from (OneValue x.name) xs)) a
    (ap (λ (y : ℕ). y ∷ flat_map listed.word_places xs) h.0 ∙ sym (values_are (drop 3 tokens) (OneValue x.name) xs h.1))

item_are : (tokens : List Placed) (i : items.Item) → IsItem (item_of i) → ItemStands tokens i → listed.item_places i ≡ item_places tokens (item_of i)
item_are tokens (item.Enum e) g h = enum_are tokens e.name.at e.name.name e.values g h.0 h.1
item_are tokens (item.Class c) g h =
    let body = drop (abstract_size c.is_abstract + 2) tokens in
    one_place c.name.at (at_index (abstract_size c.is_abstract + 1) tokens) (listed.parent_places c.parent ++ flat_map listed.member_places c.members) (parent_places body (parent_of c.parent) ++ members_places (drop (length (plain.parent_tokens (parent_of c.parent)) + 1) body) (members_from NoMember c.members)) h.0
    (ap (λ (x : List ℕ). x ++ flat_map listed.member_places c.members) (parent_are body c.parent h.1.0)
    ∙ ap (λ (x : List ℕ). parent_places body (parent_of c.parent) ++ x) (sym (members_are (drop (parent_size c.parent + 1) body) NoMember c.members g h.1.1) ∙ ap (λ (x : ℕ). members_places (drop (x + 1) body) (members_from NoMember c.members)) (parent_long c.parent)))
item_are tokens (item.Var v) g h = member_are tokens (member.Var v) g h
item_are tokens (item.Where w) g h = member_are tokens (member.Where w) g h
item_are tokens (item.Goal q) g h = one_place q.at (first_at tokens) (listed.expr_places q.expr) (tree_places (drop 1 tokens) (tree_of q.expr.node)) h.0 (places_are (drop 1 tokens) q.expr.at q.expr.node h.1)

items_are : (tokens : List Placed) (p : Program) (xs : List items.Item) → IsProgram (program_from p xs) → InRow ItemStands item_size (drop (length (plain.program_tokens p)) tokens) xs → program_places tokens (program_from p xs) ≡ program_places tokens p ++ flat_map listed.item_places xs
items_are tokens p [] g h = sym (append-nil (program_places tokens p))
items_are tokens p (x ∷ xs) g h =
    let good = (program_less (With p (item_of x)) xs g).1 in
    let n : length (plain.program_tokens p) + item_size x ≡ length (plain.program_tokens (With p (item_of x))) = omega (arith, ap length (item_tokens x good), length-append (plain.program_tokens p) (plain.item_tokens (item_of x))) in
    items_are tokens (With p (item_of x)) xs g (subst (λ (y : List Placed). InRow ItemStands item_size y xs) (behind (length (plain.program_tokens p)) (item_size x) (length (plain.program_tokens (With p (item_of x)))) tokens n) h.1)
    ∙ append_assoc (program_places tokens p) (item_places (drop (length (plain.program_tokens p)) tokens) (item_of x)) (flat_map listed.item_places xs)
    ∙ ap (λ (y : List ℕ). program_places tokens p ++ (y ++ flat_map listed.item_places xs)) (sym (item_are (drop (length (plain.program_tokens p)) tokens) x good h.0))

-- models with one plain tree that stand at the same tokens have the same places
pub same_places : (tokens : List Placed) (xs ys : List items.Item) → IsProgram (program_of xs) → program_of xs ≡ program_of ys → InRow ItemStands item_size tokens xs → InRow ItemStands item_size tokens ys → flat_map listed.item_places xs ≡ flat_map listed.item_places ys
same_places tokens xs ys g e h k =
    sym (items_are tokens Empty xs g h) ∙ ap (λ (p : Program). program_places tokens p) e ∙ items_are tokens Empty ys (subst IsProgram e g) k
