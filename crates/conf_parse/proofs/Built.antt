-- Each good plain tree of less than 2 ^ 63 tokens is that of some tree of the program. Any pointers
-- and places will do.
use Rattle.std.proofs.Common.{◌≡◌, ◌≤◌, ◌<◌, ◌+◌, ◌^◌, ℕ, Bool, true, false, refl, sym, ap, ◌∙◌, arith, List, [], ◌∷◌, ◌++◌, length, length-append, Option, None, Some, Vec, Box, Global}
use denote.RawPtr.{null_ptr}
use mathlib.Core.Former.{this, list_count}
use Rattle.conf_syntax.specs.declared.token.Ident.{Ident}
use Rattle.conf_syntax.specs.declared.token.Key.TheVariants as key
use Rattle.conf_syntax.specs.declared.token.Mark.TheVariants as mark
use Rattle.conf_syntax.specs.declared.token.Token.{Token}
use Rattle.conf_syntax.specs.declared.token.Token.TheVariants.{Word, Number, Key, Mark}
use Rattle.conf_syntax.specs.declared.tree.Bound.{Bound}
use Rattle.conf_syntax.specs.declared.tree.Expr.{Expr}
use Rattle.conf_syntax.specs.declared.tree.Item as items
use Rattle.conf_syntax.specs.declared.tree.Item.TheVariants as item
use Rattle.conf_syntax.specs.declared.tree.Member as members
use Rattle.conf_syntax.specs.declared.tree.Member.TheVariants as member
use Rattle.conf_syntax.specs.declared.tree.Node as node
use Rattle.conf_syntax.specs.declared.tree.Quant as quant
use Rattle.conf_syntax.specs.declared.tree.QuantKind.{QuantKind}
use Rattle.conf_syntax.specs.declared.tree.Shape as shapes
use Rattle.conf_syntax.specs.declared.tree.Shape.TheVariants as shape
use Rattle.conf_syntax.specs.Trees.{goal_key, op_token, kind_token}
use Rattle.conf_syntax.specs.Plain as plain
use Rattle.conf_syntax.specs.Plain.{Tree, Leaf, Round, Dot, Under, Negative, Negation, Two, Many, Single, Head, HeadIf, First, Then, ALeaf, begin_by, part, bodies, semicolons, tokens_of, IsGood, IsExpr, Exprs, NoExpr, WithExpr, Member, Members, NoMember, WithMember, Values, OneValue, WithValue, Item, Program, Empty, With, AreExprs, IsMember, AreMembers, IsItem, IsProgram}
use Rattle.conf_syntax.specs.Views.{grown, closed, tree_of, filter_of, bodies_of, shape_of, exprs_from, member_of, members_from, values_from, parent_of, item_of, program_of}
use Rattle.conf_syntax.proofs.Tied.{grown_first, grown_then, head_bodies}
use Rattle.conf_parse.proofs.Items.{values_more, members_more, items_more}
use Rattle.conf_parse.proofs.Wheres.{exprs_more}

-- Pointers, places and lists of bodies

global : Global
global = record { memory = record { seal = tt } }

box : Box (Unit {0}) Global
box = record { ptr = null_ptr; alloc = global; value = tt }

abbrev ident : List ℕ → Ident
ident w = record { name = w; at = 0 }

abbrev units : List node.Node → List (Unit {0})
units [] = []
units (e ∷ es) = tt ∷ units es

units_length : (es : List node.Node) → length es ≡ length (units es)
units_length [] = refl
units_length (e ∷ es) = omega (arith, units_length es)

abbrev row_of : (es : List node.Node) → quant.Row_of-Expr (list_count (this {0}) (units es) 0)
row_of [] = quant.end_of-Expr
row_of (e ∷ es) = quant.more_of-Expr 0 e (row_of es)

abbrev list_of : (es : List node.Node) → length es < 2 ^ 63 → Vec (Unit {0}) Global
list_of es h = record { ptr = null_ptr; len = length es; cap = length es; alloc = global; items = units es; ok = (units_length es, omega arith); small = h }

-- bodies in order, as a row has them
abbrev grown_by : List node.Node → Tree → Tree
grown_by [] h = h
grown_by (e ∷ es) h = grown_by es (grown h (tree_of e))

row_grown : (es : List node.Node) (h : Tree) → bodies_of (row_of es) h ≡ grown_by es h
row_grown [] h = refl
row_grown (e ∷ es) h = row_grown es (grown h (tree_of e))

one_more_grown : (es : List node.Node) (e : node.Node) (h : Tree) → grown_by (es ++ (e ∷ [])) h ≡ grown (grown_by es h) (tree_of e)
one_more_grown [] e h = refl
one_more_grown (x ∷ es) e h = one_more_grown es e (grown h (tree_of x))

-- Tokens of parts are fewer than those of the whole

tail_short : (t : Token) (ts : List Token) → length (t ∷ ts) < 2 ^ 63 → length ts < 2 ^ 63
tail_short t ts h = omega arith

both_short : (a b : List Token) → length (a ++ b) < 2 ^ 63 → (length a < 2 ^ 63) × (length b < 2 ^ 63)
both_short a b h = (omega (arith, length-append a b), omega (arith, length-append a b))

bodies_most : (b : Tree) → bodies b ≤ length (tokens_of b)
bodies_most (First h e) = omega (arith, length-append (tokens_of h) (Mark mark.OpenBrace ∷ (tokens_of e ++ (Mark mark.Semicolon ∷ []))))
bodies_most (Then b e) = omega (arith, bodies_most b, length-append (tokens_of b) (tokens_of e ++ (Mark mark.Semicolon ∷ [])), length-append (tokens_of e) (Mark mark.Semicolon ∷ []))
bodies_most (Leaf t) = omega arith
bodies_most (Round e) = omega arith
bodies_most (Dot e w) = omega arith
bodies_most (Under s e) = omega arith
bodies_most (Two o l r) = omega arith
bodies_most (Many b) = omega arith
bodies_most (Single h e) = omega arith
bodies_most (Head k w v) = omega arith
bodies_most (HeadIf h f) = omega arith

-- Expressions

abbrev MadeOf : Tree → Type 0
MadeOf t = (e : node.Node) × (tree_of e ≡ t)

-- the parts of a quantifier
record PartsOf (h : Tree) : Type 0 where
  kind : QuantKind
  var : List ℕ
  over : node.Node
  filter : quant.Held-Quant-filter
  list : List node.Node
  kind_is : plain.quant h ≡ kind
  few : length list ≤ bodies h
  is : grown_by list (filter_of filter (Head kind var (tree_of over))) ≡ h

with_body : (h e t : Tree) → PartsOf h → MadeOf e → grown h e ≡ t → plain.quant t ≡ plain.quant h → 1 + bodies h ≤ bodies t → PartsOf t
with_body h e t m x is same more = record {
  kind = m.kind;
  var = m.var;
  over = m.over;
  filter = m.filter;
  list = m.list ++ (x.0 ∷ []);
  kind_is = same ∙ m.kind_is;
  few = (let n = m.few in omega (arith, length-append m.list (x.0 ∷ [])));
  is = one_more_grown m.list x.0 (filter_of m.filter (Head m.kind m.var (tree_of m.over))) ∙ ap (λ (y : Tree). grown y (tree_of x.0)) m.is ∙ ap (λ (y : Tree). grown h y) x.1 ∙ is;
}

quant_made : (b t : Tree) (s : Bool) (m : PartsOf b) → length m.list < 2 ^ 63 → semicolons (plain.quant b) ≡ s → closed s b ≡ t → MadeOf t
quant_made b t s m n e is = (
  node.Quant' box (quant.Quant' m.kind (ident m.var) 0 m.over m.filter (list_of m.list n) (row_of m.list)),
  ap (λ (x : Tree). closed (semicolons m.kind) x) (row_grown m.list (filter_of m.filter (Head m.kind m.var (tree_of m.over))) ∙ m.is)
      ∙ ap (λ (k : QuantKind). closed (semicolons k) b) (sym m.kind_is)
      ∙ ap (λ (x : Bool). closed x b) e
      ∙ is,
)

-- bodies have semicolons
ends_bodies : (b : Tree) → IsGood b → part b ≡ 3 → semicolons (plain.quant b) ≡ true
ends_bodies (First h e) g k = g.4
ends_bodies (Then b e) g k = ends_bodies b g.0 g.2
ends_bodies (Leaf t) g k = absurd (omega arith)
ends_bodies (Round e) g k = absurd (omega arith)
ends_bodies (Dot e w) g k = absurd (omega arith)
ends_bodies (Under s e) g k = absurd (omega arith)
ends_bodies (Two o l r) g k = absurd (omega arith)
ends_bodies (Many b) g k = absurd (omega arith)
ends_bodies (Single h e) g k = absurd (omega arith)
ends_bodies (Head q w v) g k = absurd (omega arith)
ends_bodies (HeadIf h f) g k = absurd (omega arith)

leaf_made : (t : Token) → begin_by t ≡ ALeaf → MadeOf (Leaf t)
leaf_made (Word w) e = (node.Named w, refl)
leaf_made (Number n) e = (node.Number n, refl)
leaf_made (Key key.True) e = (node.Truth true, refl)
leaf_made (Key key.False) e = (node.Truth false, refl)
leaf_made (Key key.This) e = (node.This, refl)
leaf_made (Mark mark.Minus) e = absurd cc
leaf_made _ e = absurd cc

mutual
  tree_made : (t : Tree) → IsGood t → part t ≡ 0 → length (tokens_of t) < 2 ^ 63 → MadeOf t
  tree_made (Leaf t) g k n = leaf_made t g
  tree_made (Round e) g k n =
      let x = tree_made e g.0 g.1.0 (both_short (tokens_of e) (Mark mark.CloseParen ∷ []) (tail_short (Mark mark.OpenParen) (tokens_of e ++ (Mark mark.CloseParen ∷ [])) n)).0 in
      (node.Paren' box 0 x.0, ap Round x.1)
  tree_made (Dot e w) g k n =
      let x = tree_made e g.0 g.1.0 (both_short (tokens_of e) (Mark mark.Dot ∷ Word w ∷ []) n).0 in
      (node.Dot' box 0 x.0 (ident w), ap (λ (y : Tree). Dot y w) x.1)
  tree_made (Under Negative e) g k n =
      let x = tree_made e g.0 g.1.0 (tail_short (Mark mark.Minus) (tokens_of e) n) in
      (node.Minus' box 0 x.0, ap (λ (y : Tree). Under Negative y) x.1)
  tree_made (Under Negation e) g k n =
      let x = tree_made e g.0 g.1.0 (tail_short (Key key.Not) (tokens_of e) n) in
      (node.Not' box 0 x.0, ap (λ (y : Tree). Under Negation y) x.1)
  tree_made (Two o l r) g k n =
      let short = both_short (tokens_of l) (op_token o ∷ tokens_of r) n in
      let x = tree_made l g.0 g.2.0 short.0 in
      let y = tree_made r g.1 g.3.0 (tail_short (op_token o) (tokens_of r) short.1) in
      (node.Pair' o box 0 x.0 box 0 y.0, ap (λ (z : Tree). Two o z (tree_of y.0)) x.1 ∙ ap (λ (z : Tree). Two o l z) y.1)
  tree_made (Many b) g k n =
      let short = (both_short (tokens_of b) (Mark mark.CloseBrace ∷ []) n).0 in
      let m = parts_made b g.0 (let e = g.1 in omega arith) short in
      quant_made b (Many b) true m (let few = m.few in omega (arith, bodies_most b)) (ends_bodies b g.0 g.1) refl
  tree_made (Single h e) g k n =
      let short = both_short (tokens_of h) (Mark mark.OpenBrace ∷ (tokens_of e ++ (Mark mark.CloseBrace ∷ []))) n in
      let x = tree_made e g.1 g.3.0 (both_short (tokens_of e) (Mark mark.CloseBrace ∷ []) (tail_short (Mark mark.OpenBrace) (tokens_of e ++ (Mark mark.CloseBrace ∷ [])) short.1)).0 in
      let m = with_body h e (First h e) (parts_made h g.0 g.2.0 short.0) x (grown_first h e g.2.1) refl (omega (arith, head_bodies h g.2.1)) in
      quant_made (First h e) (Single h e) false m (let few = m.few in omega arith) g.4 refl
  tree_made (Head q w v) g k n = absurd (omega arith)
  tree_made (HeadIf h f) g k n = absurd (omega arith)
  tree_made (First h e) g k n = absurd (omega arith)
  tree_made (Then b e) g k n = absurd (omega arith)

  parts_made : (h : Tree) → IsGood h → 1 ≤ part h → length (tokens_of h) < 2 ^ 63 → PartsOf h
  parts_made (Head q w v) g k n =
      let x = tree_made v g.0 g.1.0 (omega arith) in
      record { kind = q; var = w; over = x.0; filter = quant.None'; list = []; kind_is = refl; few = omega arith; is = ap (λ (y : Tree). Head q w y) x.1 }
  parts_made (HeadIf (Head q w v) f) g k n =
      let short = both_short (tokens_of (Head q w v)) (Key key.Where ∷ tokens_of f) n in
      let x = tree_made v g.0.0 g.0.1.0 (let few = short.0 in omega arith) in
      let y = tree_made f g.1 g.3.0 (tail_short (Key key.Where) (tokens_of f) short.1) in
      record { kind = q; var = w; over = x.0; filter = quant.Some' 0 y.0; list = []; kind_is = refl; few = omega arith; is = ap (λ (z : Tree). HeadIf (Head q w z) (tree_of y.0)) x.1 ∙ ap (λ (z : Tree). HeadIf (Head q w v) z) y.1 }
  parts_made (HeadIf (Leaf t) f) g k n = absurd (let e = g.2 in omega arith)
  parts_made (HeadIf (Round x) f) g k n = absurd (let e = g.2 in omega arith)
  parts_made (HeadIf (Dot x w) f) g k n = absurd (let e = g.2 in omega arith)
  parts_made (HeadIf (Under s x) f) g k n = absurd (let e = g.2 in omega arith)
  parts_made (HeadIf (Two o l r) f) g k n = absurd (let e = g.2 in omega arith)
  parts_made (HeadIf (Many b) f) g k n = absurd (let e = g.2 in omega arith)
  parts_made (HeadIf (Single h x) f) g k n = absurd (let e = g.2 in omega arith)
  parts_made (HeadIf (HeadIf h x) f) g k n = absurd (let e = g.2 in omega arith)
  parts_made (HeadIf (First h x) f) g k n = absurd (let e = g.2 in omega arith)
  parts_made (HeadIf (Then b x) f) g k n = absurd (let e = g.2 in omega arith)
  parts_made (First h e) g k n =
      let short = both_short (tokens_of h) (Mark mark.OpenBrace ∷ (tokens_of e ++ (Mark mark.Semicolon ∷ []))) n in
      let x = tree_made e g.1 g.3.0 (both_short (tokens_of e) (Mark mark.Semicolon ∷ []) (tail_short (Mark mark.OpenBrace) (tokens_of e ++ (Mark mark.Semicolon ∷ [])) short.1)).0 in
      with_body h e (First h e) (parts_made h g.0 g.2.0 short.0) x (grown_first h e g.2.1) refl (omega (arith, head_bodies h g.2.1))
  parts_made (Then b e) g k n =
      let short = both_short (tokens_of b) (tokens_of e ++ (Mark mark.Semicolon ∷ [])) n in
      let x = tree_made e g.1 g.3.0 (both_short (tokens_of e) (Mark mark.Semicolon ∷ []) short.1).0 in
      with_body b e (Then b e) (parts_made b g.0 (let p = g.2 in omega arith) short.0) x (grown_then b e g.2) refl (omega arith)
  parts_made (Leaf t) g k n = absurd (omega arith)
  parts_made (Round e) g k n = absurd (omega arith)
  parts_made (Dot e w) g k n = absurd (omega arith)
  parts_made (Under s e) g k n = absurd (omega arith)
  parts_made (Two o l r) g k n = absurd (omega arith)
  parts_made (Many b) g k n = absurd (omega arith)
  parts_made (Single h e) g k n = absurd (omega arith)

expr_made : (t : Tree) → IsExpr t → length (tokens_of t) < 2 ^ 63 → (e : Expr) × (tree_of e.node ≡ t)
expr_made t g n = let x = tree_made t g.0 g.1.0 n in (record { at = 0; node = x.0 }, x.1)

-- Declarations

statement_made : (t : Tree) → IsExpr t → length (tokens_of t ++ (Mark mark.Semicolon ∷ [])) < 2 ^ 63 → (e : Expr) × (tree_of e.node ≡ t)
statement_made t g n = expr_made t g (both_short (tokens_of t) (Mark mark.Semicolon ∷ []) n).0

exprs_made : (es : Exprs) → AreExprs es → length (plain.exprs_tokens es) < 2 ^ 63 → (xs : List Expr) × (exprs_from NoExpr xs ≡ es)
exprs_made NoExpr g n = ([], refl)
exprs_made (WithExpr es e) g n =
    let short = both_short (plain.exprs_tokens es) (tokens_of e ++ (Mark mark.Semicolon ∷ [])) n in
    let xs = exprs_made es g.0 short.0 in
    let x = statement_made e g.1 short.1 in
    (xs.0 ++ (x.0 ∷ []), exprs_more NoExpr xs.0 x.0 ∙ ap (λ (y : Exprs). WithExpr y (tree_of x.0.node)) xs.1 ∙ ap (λ (y : Tree). WithExpr es y) x.1)

abbrev bound : Bool → ℕ → Bound
bound m n = record { at = 0; minus = m; value = n }

shape_made : (s : plain.Shape) → (d : shapes.Shape) × (shape_of d ≡ s)
shape_made (plain.Range (plain.EndOf a m) (plain.EndOf b n)) = (shape.Range (bound a m) (bound b n), refl)
shape_made plain.Int = (shape.Int, refl)
shape_made plain.Truth = (shape.Bool, refl)
shape_made (plain.Named false w) = (shape.Named (ident w), refl)
shape_made (plain.Named true w) = (shape.Ref (ident w), refl)
shape_made (plain.Counted false w n) = (shape.Many (ident w) n, refl)
shape_made (plain.Counted true w n) = (shape.RefSet (ident w) n, refl)

member_made : (m : Member) → IsMember m → length (plain.member_tokens m) < 2 ^ 63 → (y : members.Member) × (member_of y ≡ m)
member_made (plain.Var w s) g n = let d = shape_made s in (member.Var (record { name = ident w; shape = d.0 }), ap (λ (y : plain.Shape). plain.Var w y) d.1)
member_made (plain.Where e) g n =
    let x = statement_made e g (tail_short (Key key.Where) (tokens_of e ++ (Mark mark.Semicolon ∷ [])) n) in
    (member.Where (record { at = 0; braces = false; list = x.0 ∷ [] }), ap (λ (y : Tree). plain.Where y) x.1)
member_made (plain.Braces es) g n =
    let inside = plain.exprs_tokens es ++ (Mark mark.CloseBrace ∷ []) in
    let xs = exprs_made es g (both_short (plain.exprs_tokens es) (Mark mark.CloseBrace ∷ []) (tail_short (Mark mark.OpenBrace) inside (tail_short (Key key.Where) (Mark mark.OpenBrace ∷ inside) n))).0 in
    (member.Where (record { at = 0; braces = true; list = xs.0 }), ap (λ (y : Exprs). plain.Braces y) xs.1)

members_made : (ms : Members) → AreMembers ms → length (plain.members_tokens ms) < 2 ^ 63 → (xs : List members.Member) × (members_from NoMember xs ≡ ms)
members_made NoMember g n = ([], refl)
members_made (WithMember ms m) g n =
    let short = both_short (plain.members_tokens ms) (plain.member_tokens m) n in
    let xs = members_made ms g.0 short.0 in
    let y = member_made m g.1 short.1 in
    (xs.0 ++ (y.0 ∷ []), members_more NoMember xs.0 y.0 ∙ ap (λ (z : Members). WithMember z (member_of y.0)) xs.1 ∙ ap (λ (z : Member). WithMember ms z) y.1)

values_made : (vs : Values) → (x : Ident) × (xs : List Ident) × (values_from (OneValue x.name) xs ≡ vs)
values_made (OneValue w) = (ident w, [], refl)
values_made (WithValue vs w) =
    let v = values_made vs in
    (v.0, v.1 ++ (ident w ∷ []), values_more (OneValue v.0.name) v.1 (ident w) ∙ ap (λ (z : Values). WithValue z w) v.2)

parent_made : (o : Option (List ℕ)) → (i : Option Ident) × (parent_of i ≡ o)
parent_made None = (None, refl)
parent_made (Some w) = (Some (ident w), refl)

abbrev alone : members.Member → items.Item
alone (member.Var v) = item.Var v
alone (member.Where w) = item.Where w

alone_is : (m : members.Member) → item_of (alone m) ≡ plain.Alone (member_of m)
alone_is (member.Var v) = refl
alone_is (member.Where w) = refl

item_made : (i : Item) → IsItem i → length (plain.item_tokens i) < 2 ^ 63 → (y : items.Item) × (item_of y ≡ i)
item_made (plain.Enum w vs) g n = let v = values_made vs in (item.Enum (record { name = ident w; values = v.0 ∷ v.1 }), ap (λ (z : Values). plain.Enum w z) v.2)
item_made (plain.Class a w o ms) g n =
    let short = (both_short (plain.class_tokens a w o) (plain.members_tokens ms ++ (Mark mark.CloseBrace ∷ [])) n).1 in
    let p = parent_made o in
    let xs = members_made ms g (both_short (plain.members_tokens ms) (Mark mark.CloseBrace ∷ []) short).0 in
    (item.Class (record { is_abstract = a; name = ident w; parent = p.0; members = xs.0 }), ap (λ (z : Option (List ℕ)). plain.Class a w z (members_from NoMember xs.0)) p.1 ∙ ap (λ (z : Members). plain.Class a w o z) xs.1)
item_made (plain.Alone m) g n = let y = member_made m g n in (alone y.0, alone_is y.0 ∙ ap (λ (z : Member). plain.Alone z) y.1)
item_made (plain.Goal m e) g n =
    let x = statement_made e g (tail_short (goal_key m) (tokens_of e ++ (Mark mark.Semicolon ∷ [])) n) in
    (item.Goal (record { at = 0; max = m; expr = x.0 }), ap (λ (z : Tree). plain.Goal m z) x.1)

pub program_made : (p : Program) → IsProgram p → length (plain.program_tokens p) < 2 ^ 63 → (xs : List items.Item) × (program_of xs ≡ p)
program_made Empty g n = ([], refl)
program_made (With p i) g n =
    let short = both_short (plain.program_tokens p) (plain.item_tokens i) n in
    let xs = program_made p g.0 short.0 in
    let y = item_made i g.1 short.1 in
    (xs.0 ++ (y.0 ∷ []), items_more Empty xs.0 y.0 ∙ ap (λ (z : Program). With z (item_of y.0)) xs.1 ∙ ap (λ (z : Item). With p z) y.1)
