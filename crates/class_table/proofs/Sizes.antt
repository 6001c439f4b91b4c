-- The tokens of a model outnumber its items, its attributes and the values of each of its enumerations.
use Rattle.std.proofs.Common.{ℕ, zero, suc, ◌≤◌, List, [], ◌∷◌, ◌++◌, length, ap, arith, length-append}
use Rattle.std.specs.Prelude.{Contains}
use Rattle.std.specs.List.{flat_map}
use Rattle.model_limits.specs.Limits.{model_bytes}
use Rattle.conf_syntax.specs.declared.token.Ident.{Ident}
use Rattle.conf_syntax.specs.declared.token.Key.TheVariants as key
use Rattle.conf_syntax.specs.declared.token.Mark.TheVariants as mark
use Rattle.conf_syntax.specs.declared.token.Token.TheVariants.{Word, Key, Mark}
use Rattle.conf_syntax.specs.declared.tree.ClassDecl.{ClassDecl}
use Rattle.conf_syntax.specs.declared.tree.EnumDecl.{EnumDecl}
use Rattle.conf_syntax.specs.declared.tree.Item.{Item}
use Rattle.conf_syntax.specs.declared.tree.Item.TheVariants as item
use Rattle.conf_syntax.specs.declared.tree.Member.{Member}
use Rattle.conf_syntax.specs.declared.tree.Member.TheVariants as member
use Rattle.conf_syntax.specs.Trees.{item_tokens, member_tokens, class_tokens, enum_tokens, values_tokens, further_tokens, parent_tokens}
use Rattle.conf_syntax.specs.OnlyIf.{only_if}
use Rattle.class_table.specs.Faults.{IsSmall}
use Rattle.class_table.specs.Names.{classes, enumerations, own, member_variable}

append_le : {X : Type 0} (a b : List X) (n : ℕ) → n ≤ length b → n ≤ length (a ++ b)
append_le a b n h = omega (arith, length-append a b)

item_has : (i : Item) → 1 ≤ length (item_tokens i)
item_has (item.Enum d) = omega arith
item_has (item.Class d) = append_le (only_if d.is_abstract (Key key.Abstract)) _ 1 (omega arith)
item_has (item.Var d) = omega arith
item_has (item.Where d) = omega arith
item_has (item.Goal d) = omega arith

items_le : (items : List Item) → length items ≤ length (flat_map item_tokens items)
items_le [] = omega arith
items_le (i ∷ is) = let a = item_has i in let b = items_le is in omega (arith, length-append (item_tokens i) (flat_map item_tokens is))

member_has : (m : Member) → length (member_variable m) ≤ length (member_tokens m)
member_has (member.Var v) = omega arith
member_has (member.Where w) = omega arith

members_le : (ms : List Member) → length (flat_map member_variable ms) ≤ length (flat_map member_tokens ms)
members_le [] = omega arith
members_le (m ∷ ms) = let a = member_has m in let b = members_le ms in omega (arith, length-append (member_tokens m) (flat_map member_tokens ms), length-append (member_variable m) (flat_map member_variable ms))

own_le : (d : ClassDecl) → length (own d) ≤ length (class_tokens d)
own_le d =
    let a = members_le d.members in
    let front : length (own d) ≤ length (flat_map member_tokens d.members ++ Mark mark.CloseBrace ∷ []) = omega (arith, length-append (flat_map member_tokens d.members) (Mark mark.CloseBrace ∷ [])) in
    append_le (only_if d.is_abstract (Key key.Abstract)) (Key key.Class ∷ Word d.name.name ∷ (parent_tokens d.parent ++ Mark mark.OpenBrace ∷ (flat_map member_tokens d.members ++ Mark mark.CloseBrace ∷ []))) (length (own d))
    (let b = append_le (parent_tokens d.parent) (Mark mark.OpenBrace ∷ (flat_map member_tokens d.members ++ Mark mark.CloseBrace ∷ [])) (length (own d)) (omega arith) in omega arith)

attributes_le : (items : List Item) → length (flat_map own (classes items)) ≤ length (flat_map item_tokens items)
attributes_le [] = omega arith
attributes_le (item.Class d ∷ is) = let a = own_le d in let b = attributes_le is in omega (arith, length-append (class_tokens d) (flat_map item_tokens is), length-append (own d) (flat_map own (classes is)))
attributes_le (item.Enum d ∷ is) = append_le (item_tokens (item.Enum d)) (flat_map item_tokens is) (length (flat_map own (classes is))) (attributes_le is)
attributes_le (item.Var d ∷ is) = append_le (item_tokens (item.Var d)) (flat_map item_tokens is) (length (flat_map own (classes is))) (attributes_le is)
attributes_le (item.Where d ∷ is) = append_le (item_tokens (item.Where d)) (flat_map item_tokens is) (length (flat_map own (classes is))) (attributes_le is)
attributes_le (item.Goal d ∷ is) = append_le (item_tokens (item.Goal d)) (flat_map item_tokens is) (length (flat_map own (classes is))) (attributes_le is)

further_le : (is : List Ident) → length is ≤ length (flat_map further_tokens is)
further_le [] = omega arith
further_le (i ∷ is) = let a = further_le is in omega (arith, length-append (further_tokens i) (flat_map further_tokens is))

values_le : (is : List Ident) → length is ≤ length (values_tokens is)
values_le [] = omega arith
values_le (i ∷ is) = let a = further_le is in omega arith

enum_le : (d : EnumDecl) → length d.values ≤ length (enum_tokens d)
enum_le d = let a = values_le d.values in omega (arith, length-append (values_tokens d.values) (Mark mark.CloseBrace ∷ []))

enumerations_le : (items : List Item) (d : EnumDecl) → Contains (enumerations items) d → length d.values ≤ length (flat_map item_tokens items)
enumerations_le [] d c = absurd (omega (arith, c.1))
enumerations_le (item.Enum x ∷ is) d (zero, lt, e) = let a = enum_le d in let b = ap (λ y. length (enum_tokens y)) e in omega (arith, length-append (enum_tokens x) (flat_map item_tokens is))
enumerations_le (item.Enum x ∷ is) d (suc k, lt, e) = append_le (item_tokens (item.Enum x)) (flat_map item_tokens is) (length d.values) (enumerations_le is d (k, omega (arith, lt), e))
enumerations_le (item.Class x ∷ is) d c = append_le (item_tokens (item.Class x)) (flat_map item_tokens is) (length d.values) (enumerations_le is d c)
enumerations_le (item.Var x ∷ is) d c = append_le (item_tokens (item.Var x)) (flat_map item_tokens is) (length d.values) (enumerations_le is d c)
enumerations_le (item.Where x ∷ is) d c = append_le (item_tokens (item.Where x)) (flat_map item_tokens is) (length d.values) (enumerations_le is d c)
enumerations_le (item.Goal x ∷ is) d c = append_le (item_tokens (item.Goal x)) (flat_map item_tokens is) (length d.values) (enumerations_le is d c)

pub small : (items : List Item) → length (flat_map item_tokens items) ≤ model_bytes → IsSmall items
small items h =
    record {
      items_few = let a = items_le items in omega arith;
      attributes_few = let a = attributes_le items in omega arith;
      values_few = λ d c. let a = enumerations_le items d c in omega arith;
    }
