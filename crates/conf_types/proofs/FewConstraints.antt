-- The tokens of a model outnumber its constraints.
use Rattle.std.proofs.Common.{◌≡◌, ℕ, ◌≤◌, true, false, Bool, List, [], ◌∷◌, ◌++◌, Some, None, map, length, ap, arith, length-append}
use Rattle.std.specs.List.{flat_map}
use Rattle.std.proofs.lemmas.List.{length-map}
use Rattle.class_table.specs.Outline.{Outline}
use Rattle.conf_syntax.specs.declared.token.Key.TheVariants as key
use Rattle.conf_syntax.specs.declared.token.Mark.TheVariants as mark
use Rattle.conf_syntax.specs.declared.token.Token.TheVariants.{Word, Key, Mark}
use Rattle.conf_syntax.specs.declared.tree.ClassDecl.{ClassDecl}
use Rattle.conf_syntax.specs.declared.tree.Expr.{Expr}
use Rattle.conf_syntax.specs.declared.tree.Item.{Item}
use Rattle.conf_syntax.specs.declared.tree.Item.TheVariants as item
use Rattle.conf_syntax.specs.declared.tree.Member.{Member}
use Rattle.conf_syntax.specs.declared.tree.Member.TheVariants as member
use Rattle.conf_syntax.specs.declared.tree.Program.{Program}
use Rattle.conf_syntax.specs.Trees.{expr_tokens, statement_tokens, where_body, member_tokens, parent_tokens, class_tokens, item_tokens, program_tokens}
use Rattle.conf_syntax.specs.OnlyIf.{only_if}
use Rattle.conf_types.specs.Programs.{stated, member_exprs, item_constraints, next_class, constraints_from, constraints, ResolvedConstraint, resolved_constraint}

append_le : {X : Type 0} (a b : List X) (n : ℕ) → n ≤ length b → n ≤ length (a ++ b)
append_le a b n h = omega (arith, length-append a b)

-- a semicolon stands behind each expression
list_few : (es : List Expr) → length es ≤ length (flat_map statement_tokens es)
list_few [] = omega arith
list_few (e ∷ es) =
    let one = append_le (expr_tokens e) (Mark mark.Semicolon ∷ []) 1 (omega arith) in
    let rest = list_few es in
    omega (arith, length-append (statement_tokens e) (flat_map statement_tokens es))

where_few : (braces : Bool) (es : List Expr) → length es ≤ length (where_body braces es)
where_few true es = let a = list_few es in omega (arith, length-append (flat_map statement_tokens es) (Mark mark.CloseBrace ∷ []))
where_few false es = list_few es

member_few : (m : Member) → length (member_exprs m) ≤ length (member_tokens m)
member_few (member.Var v) = omega arith
member_few (member.Where w) = let a = where_few w.braces w.list in omega arith

members_few : (ms : List Member) → length (flat_map member_exprs ms) ≤ length (flat_map member_tokens ms)
members_few [] = omega arith
members_few (m ∷ ms) =
    let a = member_few m in
    let b = members_few ms in
    omega (arith, length-append (member_tokens m) (flat_map member_tokens ms), length-append (member_exprs m) (flat_map member_exprs ms))

class_few : (d : ClassDecl) → length (flat_map member_exprs d.members) ≤ length (class_tokens d)
class_few d =
    let n = length (flat_map member_exprs d.members) in
    let body = flat_map member_tokens d.members ++ Mark mark.CloseBrace ∷ [] in
    let a = members_few d.members in
    let b : n ≤ length body = omega (arith, length-append (flat_map member_tokens d.members) (Mark mark.CloseBrace ∷ [])) in
    let c = append_le (parent_tokens d.parent) (Mark mark.OpenBrace ∷ body) n (omega arith) in
    append_le (only_if d.is_abstract (Key key.Abstract)) (Key key.Class ∷ Word d.name.name ∷ (parent_tokens d.parent ++ Mark mark.OpenBrace ∷ body)) n (omega arith)

item_few : (i : Item) (c : ℕ) → length (item_constraints i c) ≤ length (item_tokens i)
item_few (item.Class d) c = let a = class_few d in omega (arith, length-map (flat_map member_exprs d.members) (stated (Some c)))
item_few (item.Where w) c = let a = where_few w.braces w.list in omega (arith, length-map w.list (stated None))
item_few (item.Enum d) c = omega arith
item_few (item.Var v) c = omega arith
item_few (item.Goal g) c = omega arith

items_few : (is : List Item) (c : ℕ) → length (constraints_from is c) ≤ length (flat_map item_tokens is)
items_few [] c = omega arith
items_few (i ∷ is) c =
    let a = item_few i c in
    let b = items_few is (next_class i c) in
    omega (arith, length-append (item_constraints i c) (constraints_from is (next_class i c)), length-append (item_tokens i) (flat_map item_tokens is))

pub few_constraints : (p : Program) → length (constraints p.items) ≤ length (program_tokens p)
few_constraints p = items_few p.items 0

-- so few are the resolved ones too
pub few_resolved : (o : Outline) (p : Program) (most : ℕ) (ks : List ResolvedConstraint) → length (program_tokens p) ≤ most → ks ≡ map (resolved_constraint o) (constraints p.items) → length ks ≤ most
few_resolved o p most ks few is = omega (arith, few, few_constraints p, ap length is, length-map (constraints p.items) (resolved_constraint o))
