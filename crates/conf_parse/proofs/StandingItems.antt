-- The places of constraints, goals, enumerations, classes and items.
use Rattle.std.proofs.Common.{◌≡◌, ◌≤◌, ◌+◌, ℕ, true, false, Bool, List, [], ◌∷◌, ◌++◌, refl, sym, ◌∙◌, subst, arith, Option, None, Some, length, drop, length-append}
use Rattle.std.specs.List.{flat_map}
use Rattle.conf_syntax.specs.declared.token.Ident.{Ident}
use Rattle.conf_syntax.specs.declared.token.Key.TheVariants as key
use Rattle.conf_syntax.specs.declared.token.Mark.TheVariants as mark
use Rattle.conf_syntax.specs.declared.token.Placed.{Placed}
use Rattle.conf_syntax.specs.declared.token.Token.TheVariants.{Word, Key, Mark}
use Rattle.conf_syntax.specs.declared.tree.ClassDecl.{ClassDecl}
use Rattle.conf_syntax.specs.declared.tree.EnumDecl.{EnumDecl}
use Rattle.conf_syntax.specs.declared.tree.Expr.{Expr}
use Rattle.conf_syntax.specs.declared.tree.GoalDecl.{GoalDecl}
use Rattle.conf_syntax.specs.declared.tree.Item.TheVariants as item
use Rattle.conf_syntax.specs.declared.tree.Member.{Member}
use Rattle.conf_syntax.specs.declared.tree.Member.TheVariants as member
use Rattle.conf_syntax.specs.declared.tree.VarDecl.{VarDecl}
use Rattle.conf_syntax.specs.declared.tree.WhereDecl.{WhereDecl}
use Rattle.conf_syntax.specs.Places.{first_at}
use Rattle.conf_syntax.specs.Standing.{statement_size, value_size, enum_size, abstract_size, parent_size, member_size, class_size, where_size, goal_size, InRow, WordStands, ExprStands, MemberStands, ParentStands, ClassBodyStands}
use Rattle.conf_syntax.specs.Trees.{statement_tokens, values_tokens, further_tokens, parent_tokens, member_tokens, goal_key}
use Rattle.conf_syntax.specs.OnlyIf.{only_if}
use Rattle.conf_grammar.specs.declared.piece.Piece.TheVariants as piece
use Rattle.conf_grammar.specs.Machine.{leasts}
use Rattle.conf_parse.specs.Cursor.{Takes, Follows, NamesThen}
use Rattle.conf_parse.specs.Standing.{StandsBefore, StatementReads, VarReads, WhereReads, GoalReads, EnumReads, MemberReads, ClassReads, TopLevelReads, ParentReads, ClassBodyReads, StatementsRead, ValuesRead, MembersRead, parent_end, row_size}
use Rattle.conf_parse.proofs.Placing.{drops, same_drop}
use Rattle.conf_parse.proofs.Standing.{first_behind, row_begins, row_goes_on, flat_size}

-- `where`

braces_size : (at : ℕ) (xs : List Expr) → 2 + row_size statement_size xs + 1 ≡ where_size (record { at = at; braces = true; list = xs })
braces_size at xs = omega (arith, flat_size statement_tokens xs, length-append (flat_map statement_tokens xs) (Mark mark.CloseBrace ∷ []))

pub braces_stand : (at : ℕ) (xs ys : List Expr) (tokens after inside rest behind : List Placed) → Takes tokens (Key key.Where) after → Takes after (Mark mark.OpenBrace) inside → StatementsRead inside xs rest → Takes rest (Mark mark.CloseBrace) behind → at ≡ first_at tokens → ys ≡ xs → WhereReads tokens (record { at = at; braces = true; list = ys }) behind
braces_stand at xs ys tokens after inside rest behind k b r c a q =
    let e : inside ≡ drop 2 tokens = drops 1 1 tokens after inside k.after_is b.after_is in
    subst (λ (z : List Expr). WhereReads tokens (record { at = at; braces = true; list = z }) behind) (sym q) (record {
      stands = (a, subst (λ (z : List Placed). InRow ExprStands statement_size z xs) e r.stands);
      rest_is = same_drop (2 + row_size statement_size xs + 1) (where_size (record { at = at; braces = true; list = xs })) tokens behind (braces_size at xs) (drops (2 + row_size statement_size xs) 1 tokens rest behind (drops 2 (row_size statement_size xs) tokens inside rest e r.rest_is) c.after_is);
    })

pub lone_stands : (at : ℕ) (xs : List Expr) (x : Expr) (tokens after rest : List Placed) → Takes tokens (Key key.Where) after → StatementReads after x rest → at ≡ first_at tokens → xs ≡ x ∷ [] → WhereReads tokens (record { at = at; braces = false; list = xs }) rest
lone_stands at xs x tokens after rest k r a q =
    subst (λ (z : List Expr). WhereReads tokens (record { at = at; braces = false; list = z }) rest) (sym q) (record {
      stands = (a, (subst (λ (z : List Placed). ExprStands z x) k.after_is r.stands, tt));
      rest_is = same_drop (1 + statement_size x) (where_size (record { at = at; braces = false; list = x ∷ [] })) tokens rest (omega (arith, flat_size statement_tokens (x ∷ []))) (drops 1 (statement_size x) tokens after rest k.after_is r.rest_is);
    })

pub goal_stands : (at : ℕ) (max : Bool) (x : Expr) (tokens after rest : List Placed) → Takes tokens (goal_key max) after → StatementReads after x rest → at ≡ first_at tokens → GoalReads tokens (record { at = at; max = max; expr = x }) rest
goal_stands at max x tokens after rest k r a = record {
  stands = (a, subst (λ (z : List Placed). ExprStands z x) k.after_is r.stands);
  rest_is = same_drop (1 + statement_size x) (goal_size (record { at = at; max = max; expr = x })) tokens rest (omega arith) (drops 1 (statement_size x) tokens after rest k.after_is r.rest_is);
}

-- enumerations; in a row of values each has the mark behind it

pub value_stands : (w name : List ℕ) (at : ℕ) (after rest : List Placed) → NamesThen after w at (leasts []) rest → StandsBefore WordStands value_size after (record { name = name; at = at }) (drop 1 rest)
value_stands w name at after rest n = record { stands = n.at_is; rest_is = drops 1 1 after rest (drop 1 rest) n.rest_is refl }

pub first_value : (u v name : List ℕ) (i at : ℕ) (xs ys : List Ident) (tokens after mid rest : List Placed) → Takes tokens (Key key.Enum) after → NamesThen after u i (leasts (piece.OpenBrace ∷ [])) mid → NamesThen mid v at (leasts []) rest → xs ≡ [] → ys ≡ xs ++ (record { name = name; at = at } ∷ []) → ValuesRead (drop 3 tokens) ys (drop 1 rest)
first_value u v name i at xs ys tokens after mid rest k m n e q =
    subst (λ (z : List Placed). ValuesRead z ys (drop 1 rest)) (drops 1 2 tokens after mid k.after_is m.rest_is)
    (row_goes_on WordStands value_size mid xs ys (record { name = name; at = at }) mid (drop 1 rest) (row_begins WordStands value_size mid xs e) (value_stands v name at mid rest n) q)

pub next_value : (w name : List ℕ) (at : ℕ) (xs ys : List Ident) (mid rest after behind : List Placed) → ValuesRead mid xs (drop 1 rest) → Takes rest (Mark mark.Comma) after → NamesThen after w at (leasts []) behind → ys ≡ xs ++ (record { name = name; at = at } ∷ []) → ValuesRead mid ys (drop 1 behind)
next_value w name at xs ys mid rest after behind r k n q = row_goes_on WordStands value_size mid xs ys (record { name = name; at = at }) (drop 1 rest) (drop 1 behind) r (subst (λ (z : List Placed). StandsBefore WordStands value_size z (record { name = name; at = at }) (drop 1 behind)) k.after_is (value_stands w name at after behind n)) q

further_size : (xs : List Ident) → row_size value_size xs ≡ length (flat_map further_tokens xs)
further_size [] = refl
further_size (x ∷ xs) = omega (arith, further_size xs)

values_size : (xs : List Ident) → 1 ≤ length xs → row_size value_size xs ≡ length (values_tokens xs) + 1
values_size [] h = absurd (omega arith)
values_size (x ∷ xs) h = omega (arith, further_size xs)

enum_sized : (i : Ident) (xs : List Ident) → 1 ≤ length xs → 3 + row_size value_size xs ≡ enum_size (record { name = i; values = xs })
enum_sized i xs h = omega (arith, values_size xs h, length-append (values_tokens xs) (Mark mark.CloseBrace ∷ []))

pub enum_stands : (w name : List ℕ) (at : ℕ) (xs ys : List Ident) (tokens after mid rest behind : List Placed) → Takes tokens (Key key.Enum) after → NamesThen after w at (leasts (piece.OpenBrace ∷ [])) mid → ValuesRead (drop 3 tokens) xs (drop 1 rest) → 1 ≤ length xs → Takes rest (Mark mark.CloseBrace) behind → ys ≡ xs → EnumReads tokens (record { name = record { name = name; at = at }; values = ys }) behind
enum_stands w name at xs ys tokens after mid rest behind k n r h c q =
    subst (λ (z : List Ident). EnumReads tokens (record { name = record { name = name; at = at }; values = z }) behind) (sym q) (record {
      stands = (first_behind at 1 tokens after k.after_is n.at_is, r.stands);
      rest_is = same_drop (3 + row_size value_size xs) (enum_size (record { name = record { name = name; at = at }; values = xs })) tokens behind (enum_sized (record { name = name; at = at }) xs h) (drops 3 (row_size value_size xs) tokens (drop 3 tokens) behind refl (c.after_is ∙ r.rest_is));
    })

-- classes

pub parent_stands : (w name : List ℕ) (at : ℕ) (tokens after rest : List Placed) → Takes tokens (Key key.Extends) after → NamesThen after w at (leasts (piece.OpenBrace ∷ [])) rest → ParentReads tokens (Some (record { name = name; at = at })) rest
parent_stands w name at tokens after rest k n = record {
  stands = first_behind at 1 tokens after k.after_is n.at_is;
  rest_is = drops 1 2 tokens after rest k.after_is n.rest_is;
}

pub orphan_stands : (tokens rest : List Placed) → Takes tokens (Mark mark.OpenBrace) rest → ParentReads tokens None rest
orphan_stands tokens rest k = record { stands = tt; rest_is = k.after_is }

pub member_var : (v : VarDecl) (tokens rest : List Placed) → VarReads tokens v rest → MemberReads tokens (member.Var v) rest
member_var v tokens rest r = record { stands = r.stands; rest_is = r.rest_is }

pub member_where : (w : WhereDecl) (tokens rest : List Placed) → WhereReads tokens w rest → MemberReads tokens (member.Where w) rest
member_where w tokens rest r = record { stands = r.stands; rest_is = r.rest_is }

body_size : (a : Bool) (i : Ident) (p : Option Ident) (ms : List Member) → abstract_size a + 2 + (parent_size p + 1 + row_size member_size ms + 1) ≡ class_size (record { is_abstract = a; name = i; parent = p; members = ms })
body_size a i p ms = omega (
  arith,
  flat_size member_tokens ms,
  length-append (flat_map member_tokens ms) (Mark mark.CloseBrace ∷ []),
  length-append (parent_tokens p) (Mark mark.OpenBrace ∷ (flat_map member_tokens ms ++ (Mark mark.CloseBrace ∷ []))),
  length-append (only_if a (Key key.Abstract)) (Key key.Class ∷ Word i.name ∷ (parent_tokens p ++ (Mark mark.OpenBrace ∷ (flat_map member_tokens ms ++ (Mark mark.CloseBrace ∷ []))))),
)

pub members_begin : (p : Option Ident) (xs : List Member) (tokens inside : List Placed) → ParentReads tokens p inside → xs ≡ [] → MembersRead (drop (parent_end p) tokens) xs inside
members_begin p xs tokens inside r e = subst (λ (z : List Placed). MembersRead (drop (parent_end p) tokens) xs z) (sym r.rest_is) (row_begins MemberStands member_size (drop (parent_end p) tokens) xs e)

pub class_stands : (a : Bool) (i : Ident) (p : Option Ident) (xs ys : List Member) (tokens rest behind : List Placed) → ParentStands tokens p → MembersRead (drop (parent_end p) tokens) xs rest → Takes rest (Mark mark.CloseBrace) behind → ys ≡ xs → ClassBodyReads a i tokens (record { is_abstract = a; name = i; parent = p; members = ys }) behind
class_stands a i p xs ys tokens rest behind r m c q =
    let e : behind ≡ drop (parent_size p + 1 + row_size member_size xs + 1) tokens = drops (parent_size p + 1 + row_size member_size xs) 1 tokens rest behind (drops (parent_size p + 1) (row_size member_size xs) tokens (drop (parent_size p + 1) tokens) rest refl m.rest_is) c.after_is in
    subst (λ (z : List Member). ClassBodyReads a i tokens (record { is_abstract = a; name = i; parent = p; members = z }) behind) (sym q) (record {
      stands = λ front n h. (n, subst (λ (z : List Placed). ClassBodyStands z (record { is_abstract = a; name = i; parent = p; members = xs })) h (r, m.stands));
      rest_is = λ front h. same_drop (abstract_size a + 2 + (parent_size p + 1 + row_size member_size xs + 1)) (class_size (record { is_abstract = a; name = i; parent = p; members = xs })) front behind (body_size a i p xs) (drops (abstract_size a + 2) (parent_size p + 1 + row_size member_size xs + 1) front tokens behind h e);
    })

pub plain_class : (w name : List ℕ) (at : ℕ) (c : ClassDecl) (tokens after mid rest : List Placed) → Takes tokens (Key key.Class) after → NamesThen after w at (leasts []) mid → ClassBodyReads false (record { name = name; at = at }) mid c rest → ClassReads tokens c rest
plain_class w name at c tokens after mid rest k n b =
    let e : mid ≡ drop 2 tokens = drops 1 1 tokens after mid k.after_is n.rest_is in
    record {
      stands = b.stands tokens (first_behind at 1 tokens after k.after_is n.at_is) e;
      rest_is = b.rest_is tokens e;
    }

pub abstract_class : (w name : List ℕ) (at : ℕ) (c : ClassDecl) (tokens after mid behind rest : List Placed) → Takes tokens (Key key.Abstract) after → Follows after (leasts (piece.Class ∷ [])) mid → NamesThen mid w at (leasts []) behind → ClassBodyReads true (record { name = name; at = at }) behind c rest → ClassReads tokens c rest
abstract_class w name at c tokens after mid behind rest k f n b =
    let m : mid ≡ drop 2 tokens = drops 1 1 tokens after mid k.after_is f.rest_is in
    let e : behind ≡ drop 3 tokens = drops 2 1 tokens mid behind m n.rest_is in
    record {
      stands = b.stands tokens (first_behind at 2 tokens mid m n.at_is) e;
      rest_is = b.rest_is tokens e;
    }

-- items

pub item_enum : (e : EnumDecl) (tokens rest : List Placed) → EnumReads tokens e rest → TopLevelReads tokens (item.Enum e) rest
item_enum e tokens rest r = record { stands = r.stands; rest_is = r.rest_is }

pub item_class : (c : ClassDecl) (tokens rest : List Placed) → ClassReads tokens c rest → TopLevelReads tokens (item.Class c) rest
item_class c tokens rest r = record { stands = r.stands; rest_is = r.rest_is }

pub item_var : (v : VarDecl) (tokens rest : List Placed) → VarReads tokens v rest → TopLevelReads tokens (item.Var v) rest
item_var v tokens rest r = record { stands = r.stands; rest_is = r.rest_is }

pub item_where : (w : WhereDecl) (tokens rest : List Placed) → WhereReads tokens w rest → TopLevelReads tokens (item.Where w) rest
item_where w tokens rest r = record { stands = r.stands; rest_is = r.rest_is }

pub item_goal : (g : GoalDecl) (tokens rest : List Placed) → GoalReads tokens g rest → TopLevelReads tokens (item.Goal g) rest
item_goal g tokens rest r = record { stands = r.stands; rest_is = r.rest_is }
