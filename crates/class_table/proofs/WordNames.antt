-- Where the words of a model are words and no name is declared twice, its names are such that paths
-- can be read back from them.
use Rattle.std.proofs.Common.{◌≡◌, ℕ, zero, suc, ◌+◌, nat_eq, Bool, true, false, ◌&&◌, cond, List, [], ◌∷◌, ◌++◌, Option, None, Some, length, map, refl, ap, sym, ◌∙◌, subst, arith}
use Rattle.std.specs.Prelude.{All, slice_get}
use Rattle.std.specs.Cmp.Lexicographic.{bytes_decides}
use Rattle.std.specs.List.{AllByRecursion, flat_map, list_all, list_any}
use Rattle.std.specs.Option.{option_map_or}
use Rattle.std.proofs.lemmas.Bool.{ne_eqb, and_parts, or_parts, false≢true}
use Rattle.std.proofs.lemmas.List.Elements.{All-from_recursion}
use Rattle.std.proofs.lemmas.List.Folds.{list_all-append}
use Rattle.conf_syntax.specs.declared.token.Key.TheVariants as key
use Rattle.conf_syntax.specs.declared.token.Mark.TheVariants as mark
use Rattle.conf_syntax.specs.declared.token.Token.{Token}
use Rattle.conf_syntax.specs.declared.token.Token.TheVariants as token
use Rattle.conf_syntax.specs.declared.tree.ClassDecl.{ClassDecl}
use Rattle.conf_syntax.specs.declared.tree.Item.{Item}
use Rattle.conf_syntax.specs.declared.tree.Item.TheVariants as item
use Rattle.conf_syntax.specs.declared.tree.Member.{Member}
use Rattle.conf_syntax.specs.declared.tree.Member.TheVariants as member
use Rattle.conf_syntax.specs.declared.tree.VarDecl.{VarDecl}
use Rattle.conf_syntax.specs.Spelling.{is_letter, is_word, goes_on}
use Rattle.conf_syntax.specs.Trees.{item_tokens, member_tokens, var_tokens, shape_tokens, parent_tokens}
use Rattle.conf_syntax.specs.Words.{is_worded, AreWords}
use Rattle.conf_syntax.specs.OnlyIf.{only_if}
use Rattle.class_table.specs.declared.names.NameMeaning.TheVariants as meaning
use Rattle.class_table.specs.declared.table.Class.{Class}
use Rattle.class_table.specs.declared.table.Enumeration.{Enumeration}
use Rattle.class_table.specs.declared.table.Variable.{Variable}
use Rattle.class_table.specs.Ancestry.{attributes_within, derives_from_itself}
use Rattle.class_table.specs.Faults.{repeated}
use Rattle.class_table.specs.Named.{IsNamed, IsPlain, lacks, dot, bracket}
use Rattle.class_table.specs.Names.{Space, space, space_from, means, classes, roots, own, declared, item_class, item_root, member_variable}
use Rattle.class_table.specs.Outline.{variable_of, class_of, own_in, attributes, parent_in}
use Rattle.class_table.specs.Same.{same_name}

-- Words have no dot and no bracket

plain_byte : (b stop : ℕ) → goes_on stop ≡ false → goes_on b ≡ true → nat_eq b stop ≡ false
plain_byte b stop h e = ne_eqb b stop (λ same. absurd (false≢true (sym h ∙ ap goes_on (sym same) ∙ e)))

plain_bytes : (stop : ℕ) (bs : List ℕ) → goes_on stop ≡ false → list_all goes_on bs ≡ true → lacks stop bs ≡ true
plain_bytes stop [] h e = refl
plain_bytes stop (b ∷ bs) h e =
    let p = and_parts (goes_on b) (list_all goes_on bs) e in
    rw (plain_byte b stop h p.0) (plain_bytes stop bs h p.1)

letter_goes : (b : ℕ) → is_letter b ≡ true → goes_on b ≡ true
letter_goes b e = rw e refl

plain_word : (stop : ℕ) (w : List ℕ) → goes_on stop ≡ false → is_word w ≡ true → lacks stop w ≡ true
plain_word stop [] h e = refl
plain_word stop (b ∷ bs) h e =
    let p = and_parts (is_letter b) (list_all goes_on bs) e in
    rw (plain_byte b stop h (letter_goes b p.0)) (plain_bytes stop bs h p.1)

both_plain : (w : List ℕ) → is_word w ≡ true → (lacks dot w && lacks bracket w) ≡ true
both_plain w e = rw (plain_word dot w refl e, plain_word bracket w refl e) refl

-- The words of parts of a model

pub left : (xs ys : List Token) → AreWords (xs ++ ys) → AreWords xs
left xs ys a = (and_parts (list_all is_worded xs) (list_all is_worded ys) (sym (list_all-append is_worded xs ys) ∙ a)).0

pub right : (xs ys : List Token) → AreWords (xs ++ ys) → AreWords ys
right xs ys a = (and_parts (list_all is_worded xs) (list_all is_worded ys) (sym (list_all-append is_worded xs ys) ∙ a)).1

-- The names of variables and attributes

abbrev pub IsWordNamed : VarDecl → Type 0
IsWordNamed v = is_word v.name.name ≡ true

variable_named : (v : VarDecl) (more : List Token) → AreWords (var_tokens v ++ more) → IsWordNamed v
variable_named v more a = (and_parts (is_word v.name.name) (list_all is_worded (token.Key key.As ∷ (shape_tokens v.shape ++ token.Mark mark.Semicolon ∷ []))) (left (var_tokens v) more a)).0

members_named : (ms : List Member) → AreWords (flat_map member_tokens ms) → AllByRecursion IsWordNamed (flat_map member_variable ms)
members_named [] a = tt
members_named (member.Var v ∷ ms) a = (variable_named v (flat_map member_tokens ms) a, members_named ms (right (var_tokens v) (flat_map member_tokens ms) a))
members_named (member.Where w ∷ ms) a = members_named ms (right (member_tokens (member.Where w)) (flat_map member_tokens ms) a)

abbrev pub AreOwnNamed : ClassDecl → Type 0
AreOwnNamed d = AllByRecursion IsWordNamed (own d)

class_named : (d : ClassDecl) → AreWords (item_tokens (item.Class d)) → AreOwnNamed d
class_named d a =
    let body = flat_map member_tokens d.members in
    let opened : List Token = token.Mark mark.OpenBrace ∷ (body ++ token.Mark mark.CloseBrace ∷ []) in
    let named : List Token = token.Key key.Class ∷ token.Word d.name.name ∷ (parent_tokens d.parent ++ opened) in
    let words = and_parts (is_word d.name.name) (list_all is_worded (parent_tokens d.parent ++ opened)) (right (only_if d.is_abstract (token.Key key.Abstract)) named a) in
    let inner = right (parent_tokens d.parent) opened words.1 in
    members_named d.members (left body (token.Mark mark.CloseBrace ∷ []) inner)

pub roots_named : (is : List Item) → AreWords (flat_map item_tokens is) → AllByRecursion IsWordNamed (flat_map item_root is)
roots_named [] a = tt
roots_named (item.Var v ∷ is) a = (variable_named v (flat_map item_tokens is) a, roots_named is (right (var_tokens v) (flat_map item_tokens is) a))
roots_named (item.Class d ∷ is) a = roots_named is (right (item_tokens (item.Class d)) (flat_map item_tokens is) a)
roots_named (item.Enum d ∷ is) a = roots_named is (right (item_tokens (item.Enum d)) (flat_map item_tokens is) a)
roots_named (item.Where w ∷ is) a = roots_named is (right (item_tokens (item.Where w)) (flat_map item_tokens is) a)
roots_named (item.Goal g ∷ is) a = roots_named is (right (item_tokens (item.Goal g)) (flat_map item_tokens is) a)

pub classes_named : (is : List Item) → AreWords (flat_map item_tokens is) → AllByRecursion AreOwnNamed (flat_map item_class is)
classes_named [] a = tt
classes_named (item.Class d ∷ is) a = (class_named d (left (item_tokens (item.Class d)) (flat_map item_tokens is) a), classes_named is (right (item_tokens (item.Class d)) (flat_map item_tokens is) a))
classes_named (item.Var v ∷ is) a = classes_named is (right (item_tokens (item.Var v)) (flat_map item_tokens is) a)
classes_named (item.Enum d ∷ is) a = classes_named is (right (item_tokens (item.Enum d)) (flat_map item_tokens is) a)
classes_named (item.Where w ∷ is) a = classes_named is (right (item_tokens (item.Where w)) (flat_map item_tokens is) a)
classes_named (item.Goal g ∷ is) a = classes_named is (right (item_tokens (item.Goal g)) (flat_map item_tokens is) a)

variables_plain : (names : Space) (vs : List VarDecl) → AllByRecursion IsWordNamed vs → AllByRecursion IsPlain (map (variable_of names) vs)
variables_plain names [] a = tt
variables_plain names (v ∷ vs) (h, a) = (both_plain v.name.name h, variables_plain names vs a)

own_plain : (names : Space) (ds : List ClassDecl) (c : ℕ) → AllByRecursion AreOwnNamed ds → AllByRecursion IsPlain (own_in (map (class_of names) ds) c)
own_plain names [] c a = tt
own_plain names (d ∷ ds) zero (h, a) = variables_plain names (own d) h
own_plain names (d ∷ ds) (suc c) (h, a) = own_plain names ds c a

plain_both : (xs ys : List Variable) → AllByRecursion IsPlain xs → AllByRecursion IsPlain ys → AllByRecursion IsPlain (xs ++ ys)
plain_both [] ys a b = b
plain_both (x ∷ xs) ys (h, a) b = (h, plain_both xs ys a b)

-- inherited attributes too
within_plain : (up : ℕ → Option ℕ) (of : ℕ → List Variable) (n : ℕ) → ((c : ℕ) → AllByRecursion IsPlain (of c)) → (k c : ℕ) → AllByRecursion IsPlain (attributes_within up of n k c)
within_plain up of n each zero c = each c
within_plain up of n each (suc k) c = plain_both (cond (derives_from_itself up n c) [] (option_map_or (attributes_within up of n k) (up c) [])) (of c) (by (derives_from_itself up n c) (up c) (within_plain up of n each k)) (each c)
  where
    by : (b : Bool) (p : Option ℕ) → ((d : ℕ) → AllByRecursion IsPlain (attributes_within up of n k d)) → AllByRecursion IsPlain (cond b [] (option_map_or (attributes_within up of n k) p []))
    by true p more = tt
    by false None more = tt
    by false (Some d) more = more d

-- A name that is declared once

no_again : (b : Bool) (at : ℕ) (rest : List ℕ) → only_if b at ++ rest ≡ [] → (b ≡ false) × (rest ≡ [])
no_again true at rest e = cc
no_again false at rest e = (refl, e)

any_front : (p : List ℕ → Bool) (xs : List (List ℕ)) (y : List ℕ) → list_any p (xs ++ y ∷ []) ≡ false → list_any p xs ≡ false
any_front p [] y h = refl
any_front p (x ∷ xs) y h = let r = or_parts (p x) (list_any p (xs ++ y ∷ [])) h in rw (r.0) (any_front p xs y r.1)

any_last : (p : List ℕ → Bool) (xs : List (List ℕ)) (y : List ℕ) → list_any p (xs ++ y ∷ []) ≡ false → p y ≡ false
any_last p [] y h = (or_parts (p y) false h).0
any_last p (x ∷ xs) y h = any_last p xs y (or_parts (p x) (list_any p (xs ++ y ∷ [])) h).1

some_var : {a b : VarDecl} → Some a ≡ Some b → a ≡ b
some_var e = cc

-- a variable's name is none of those before it
not_before : (is : List Item) (seen : List (List ℕ)) (k : ℕ) (u : VarDecl) → repeated (declared is) seen ≡ [] → slice_get (roots is) k ≡ Some u → list_any (same_name u.name.name) seen ≡ false
not_before [] seen k u e g = cc
not_before (item.Var d ∷ is) seen zero u e g = ap (λ (v : VarDecl). list_any (same_name v.name.name) seen) (sym (some_var g)) ∙ (no_again (list_any (same_name d.name.name) seen) d.name.at (repeated (declared is) (seen ++ d.name.name ∷ [])) e).0
not_before (item.Var d ∷ is) seen (suc k) u e g = any_front (same_name u.name.name) seen d.name.name (not_before is (seen ++ d.name.name ∷ []) k u (no_again (list_any (same_name d.name.name) seen) d.name.at (repeated (declared is) (seen ++ d.name.name ∷ [])) e).1 g)
not_before (item.Class d ∷ is) seen k u e g = any_front (same_name u.name.name) seen d.name.name (not_before is (seen ++ d.name.name ∷ []) k u (no_again (list_any (same_name d.name.name) seen) d.name.at (repeated (declared is) (seen ++ d.name.name ∷ [])) e).1 g)
not_before (item.Enum d ∷ is) seen k u e g = any_front (same_name u.name.name) seen d.name.name (not_before is (seen ++ d.name.name ∷ []) k u (no_again (list_any (same_name d.name.name) seen) d.name.at (repeated (declared is) (seen ++ d.name.name ∷ [])) e).1 g)
not_before (item.Where w ∷ is) seen k u e g = not_before is seen k u e g
not_before (item.Goal t ∷ is) seen k u e g = not_before is seen k u e g

-- what a top-level variable's name means
root_means : (is : List Item) (seen : List (List ℕ)) (c e v k : ℕ) (u : VarDecl) → repeated (declared is) seen ≡ [] → slice_get (roots is) k ≡ Some u → means (space_from is c e v) u.name.name ≡ Some (meaning.Variable (v + k))
root_means [] seen c e v k u h g = cc
root_means (item.Var d ∷ is) seen c e v zero u h g =
    let same : same_name u.name.name d.name.name ≡ true = (bytes_decides u.name.name d.name.name).1 (ap (λ (x : VarDecl). x.name.name) (sym (some_var g))) in
    let at : v ≡ v + 0 = omega arith in
    rw same (ap (λ n. Some (meaning.Variable n)) at)
root_means (item.Var d ∷ is) seen c e v (suc k) u h g =
    let rest = (no_again (list_any (same_name d.name.name) seen) d.name.at (repeated (declared is) (seen ++ d.name.name ∷ [])) h).1 in
    let other = any_last (same_name u.name.name) seen d.name.name (not_before is (seen ++ d.name.name ∷ []) k u rest g) in
    let at : (v + 1) + k ≡ v + suc k = omega arith in
    rw other (root_means is (seen ++ d.name.name ∷ []) c e (v + 1) k u rest g ∙ ap (λ n. Some (meaning.Variable n)) at)
root_means (item.Class d ∷ is) seen c e v k u h g =
    let rest = (no_again (list_any (same_name d.name.name) seen) d.name.at (repeated (declared is) (seen ++ d.name.name ∷ [])) h).1 in
    let other = any_last (same_name u.name.name) seen d.name.name (not_before is (seen ++ d.name.name ∷ []) k u rest g) in
    rw other (root_means is (seen ++ d.name.name ∷ []) (c + 1) e v k u rest g)
root_means (item.Enum d ∷ is) seen c e v k u h g =
    let rest = (no_again (list_any (same_name d.name.name) seen) d.name.at (repeated (declared is) (seen ++ d.name.name ∷ [])) h).1 in
    let other = any_last (same_name u.name.name) seen d.name.name (not_before is (seen ++ d.name.name ∷ []) k u rest g) in
    rw other (root_means is (seen ++ d.name.name ∷ []) c (e + 1) v k u rest g)
root_means (item.Where w ∷ is) seen c e v k u h g = root_means is seen c e v k u h g
root_means (item.Goal t ∷ is) seen c e v k u h g = root_means is seen c e v k u h g

-- the declaration of a top-level variable
pub record IsDeclared (names : Space) (vs : List VarDecl) (k : ℕ) (v : Variable) : Type 0 where
  pub decl : VarDecl
  pub has : slice_get vs k ≡ Some decl
  pub name_is : decl.name.name ≡ v.name

declared_at : (names : Space) (vs : List VarDecl) (k : ℕ) (v : Variable) → slice_get (map (variable_of names) vs) k ≡ Some v → IsDeclared names vs k v
declared_at names [] k v g = cc
declared_at names (d ∷ ds) zero v g = record { decl = d; has = refl; name_is = ap (λ (x : Option Variable). option_map_or (λ (y : Variable). y.name) x []) g }
declared_at names (d ∷ ds) (suc k) v g = let r = declared_at names ds k v g in record { decl = r.decl; has = r.has; name_is = r.name_is }

-- the names of a table whose items have words for words, none of which is declared twice
pub table_named : (items : List Item) (names : Space) (cs : List Class) (es : List Enumeration) (vs : List Variable) → names ≡ space items → cs ≡ map (class_of (space items)) (classes items) → vs ≡ map (variable_of (space items)) (roots items) → AreWords (flat_map item_tokens items) → repeated (declared items) [] ≡ [] → IsNamed (record { names = names; classes = cs; enumerations = es; roots = vs })
table_named items names cs es vs names_are classes_are roots_are words once =
    let made = map (class_of (space items)) (classes items) in
    let of_roots = All-from_recursion IsPlain (map (variable_of (space items)) (roots items)) (variables_plain (space items) (roots items) (roots_named items words)) in
    let of_classes = λ (c : ℕ). All-from_recursion IsPlain (attributes made c) (within_plain (parent_in made) (own_in made) (length made) (λ d. own_plain (space items) (classes items) d (classes_named items words)) (length made) c) in
    record {
      roots = subst (All IsPlain) (sym roots_are) of_roots;
      attributes = λ c. subst (λ xs. All IsPlain (attributes xs c)) (sym classes_are) (of_classes c);
      meant = λ k v g.
          let d = declared_at (space items) (roots items) k v (ap (λ xs. slice_get xs k) (sym roots_are) ∙ g) in
          let at : 0 + k ≡ k = omega arith in
          ap (λ n. means n v.name) names_are ∙ ap (means (space items)) (sym d.name_is) ∙ root_means items [] 0 0 0 k d.decl once d.has ∙ ap (λ n. Some (meaning.Variable n)) at;
    }
