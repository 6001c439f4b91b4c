-- The names of a model whose words are words and in which no fault stands are words.
use Rattle.std.proofs.Common.{◌≡◌, ℕ, zero, suc, Bool, true, false, cond, List, [], ◌∷◌, ◌++◌, Option, None, Some, length, map, refl, arith}
use Rattle.std.specs.Prelude.{Contains}
use Rattle.std.specs.List.{AllByRecursion, flat_map, list_all}
use Rattle.std.specs.Option.{option_map_or}
use Rattle.std.proofs.lemmas.Bool.{and_parts}
use Rattle.std.proofs.lemmas.List.Elements.{All-from_recursion, Contains-append_right}
use Rattle.conf_syntax.specs.declared.token.Ident.{Ident}
use Rattle.conf_syntax.specs.declared.token.Mark.TheVariants as mark
use Rattle.conf_syntax.specs.declared.token.Token.{Token}
use Rattle.conf_syntax.specs.declared.token.Token.TheVariants as token
use Rattle.conf_syntax.specs.declared.tree.ClassDecl.{ClassDecl}
use Rattle.conf_syntax.specs.declared.tree.EnumDecl.{EnumDecl}
use Rattle.conf_syntax.specs.declared.tree.Item.{Item}
use Rattle.conf_syntax.specs.declared.tree.Item.TheVariants as item
use Rattle.conf_syntax.specs.declared.tree.Program.{Program}
use Rattle.conf_syntax.specs.declared.tree.VarDecl.{VarDecl}
use Rattle.conf_syntax.specs.Spelling.{is_word}
use Rattle.conf_syntax.specs.Trees.{further_tokens, item_tokens, program_tokens, values_tokens}
use Rattle.conf_syntax.specs.Words.{is_worded, AreWords}
use Rattle.class_table.specs.declared.fault.TableFault.{TableFault}
use Rattle.class_table.specs.declared.fault.TableFault.TheVariants.{Duplicate}
use Rattle.class_table.specs.declared.table.Variable.{Variable}
use Rattle.class_table.specs.Ancestry.{attributes_within, derives_from_itself}
use Rattle.class_table.specs.Faults.{Stands, item_faults, repeated, within_item}
use Rattle.class_table.specs.Names.{Space, classes, enumerations, item_enumeration, own, roots, space}
use Rattle.class_table.specs.Outline.{attributes, class_of, enumeration_of, outline, own_in, parent_in, value_name, variable_of}
use Rattle.class_table.specs.Worded.{HasWord, HasWordValues, HasWords, IsWord}
use Rattle.class_table.proofs.DifferLaws.{differ_from}
use Rattle.class_table.proofs.WordNames.{AreOwnNamed, IsWordNamed, classes_named, left, right, roots_named}

-- Variables and attributes

variables_worded : (names : Space) (vs : List VarDecl) → AllByRecursion IsWordNamed vs → AllByRecursion HasWord (map (variable_of names) vs)
variables_worded names [] a = tt
variables_worded names (v ∷ vs) (h, a) = (h, variables_worded names vs a)

own_worded : (names : Space) (ds : List ClassDecl) (c : ℕ) → AllByRecursion AreOwnNamed ds → AllByRecursion HasWord (own_in (map (class_of names) ds) c)
own_worded names [] c a = tt
own_worded names (d ∷ ds) zero (h, a) = variables_worded names (own d) h
own_worded names (d ∷ ds) (suc c) (h, a) = own_worded names ds c a

both_worded : (xs ys : List Variable) → AllByRecursion HasWord xs → AllByRecursion HasWord ys → AllByRecursion HasWord (xs ++ ys)
both_worded [] ys a b = b
both_worded (x ∷ xs) ys (h, a) b = (h, both_worded xs ys a b)

within_worded : (up : ℕ → Option ℕ) (of : ℕ → List Variable) (n : ℕ) → ((c : ℕ) → AllByRecursion HasWord (of c)) → (k c : ℕ) → AllByRecursion HasWord (attributes_within up of n k c)
within_worded up of n each zero c = each c
within_worded up of n each (suc k) c = both_worded (cond (derives_from_itself up n c) [] (option_map_or (attributes_within up of n k) (up c) [])) (of c) (by (derives_from_itself up n c) (up c) (within_worded up of n each k)) (each c)
  where
    by : (b : Bool) (p : Option ℕ) → ((d : ℕ) → AllByRecursion HasWord (attributes_within up of n k d)) → AllByRecursion HasWord (cond b [] (option_map_or (attributes_within up of n k) p []))
    by true p more = tt
    by false None more = tt
    by false (Some d) more = more d

-- Values

further_worded : (is : List Ident) → AreWords (flat_map further_tokens is) → AllByRecursion IsWord (map value_name is)
further_worded [] a = tt
further_worded (i ∷ is) a = let p = and_parts (is_word i.name) (list_all is_worded (flat_map further_tokens is)) a in (p.0, further_worded is p.1)

values_worded : (is : List Ident) → AreWords (values_tokens is) → AllByRecursion IsWord (map value_name is)
values_worded [] a = tt
values_worded (i ∷ is) a = let p = and_parts (is_word i.name) (list_all is_worded (flat_map further_tokens is)) a in (p.0, further_worded is p.1)

enum_worded : (d : EnumDecl) → AreWords (item_tokens (item.Enum d)) → AllByRecursion IsWord (map value_name d.values)
enum_worded d a =
    let closed : List Token = token.Mark mark.CloseBrace ∷ [] in
    let inner = and_parts (is_word d.name.name) (list_all is_worded (values_tokens d.values ++ closed)) a in
    values_worded d.values (left (values_tokens d.values) closed inner.1)

-- no value stands twice where no duplicate is among these faults
none_repeated : (xs : List ℕ) (ys : List TableFault) → ((at : ℕ) → Contains (map Duplicate xs ++ ys) (Duplicate at) → ⊥) → xs ≡ []
none_repeated [] ys h = refl
none_repeated (x ∷ xs) ys h = absurd (h x (0, omega arith, refl))

-- enumerations of words, in which no value is declared twice
enums_worded : (names : Space) (ds : List ClassDecl) (is : List Item) → AreWords (flat_map item_tokens is) → ((at : ℕ) → Contains (flat_map (item_faults names ds) is) (Duplicate at) → ⊥) → AllByRecursion HasWordValues (map enumeration_of (flat_map item_enumeration is))
enums_worded names ds [] a h = tt
enums_worded names ds (item.Enum d ∷ is) a h =
    let rest = flat_map (item_faults names ds) is in (
      record {
        words = All-from_recursion IsWord (map value_name d.values) (enum_worded d (left (item_tokens (item.Enum d)) (flat_map item_tokens is) a));
        differ = differ_from d.values [] (none_repeated (repeated d.values []) rest h);
      },
      enums_worded names ds is (right (item_tokens (item.Enum d)) (flat_map item_tokens is) a) (λ at c. h at (Contains-append_right (map Duplicate (repeated d.values [])) rest (Duplicate at) c)),
    )
enums_worded names ds (item.Class d ∷ is) a h =
    enums_worded names ds is (right (item_tokens (item.Class d)) (flat_map item_tokens is) a) (λ at c. h at (Contains-append_right (item_faults names ds (item.Class d)) (flat_map (item_faults names ds) is) (Duplicate at) c))
enums_worded names ds (item.Var v ∷ is) a h =
    enums_worded names ds is (right (item_tokens (item.Var v)) (flat_map item_tokens is) a) (λ at c. h at (Contains-append_right (item_faults names ds (item.Var v)) (flat_map (item_faults names ds) is) (Duplicate at) c))
enums_worded names ds (item.Where w ∷ is) a h = enums_worded names ds is (right (item_tokens (item.Where w)) (flat_map item_tokens is) a) h
enums_worded names ds (item.Goal g ∷ is) a h = enums_worded names ds is (right (item_tokens (item.Goal g)) (flat_map item_tokens is) a) h

-- The outline

pub outline_worded : (p : Program) → AreWords (program_tokens p) → ((at : ℕ) → Stands p.items (Duplicate at) → ⊥) → HasWords (outline p.items)
outline_worded p words once =
    let items = p.items in
    let names = space items in
    let made = map (class_of names) (classes items) in
    record {
      roots = All-from_recursion HasWord (map (variable_of names) (roots items)) (variables_worded names (roots items) (roots_named items words));
      attributes = λ c. All-from_recursion HasWord (attributes made c) (within_worded (parent_in made) (own_in made) (length made) (λ d. own_worded names (classes items) d (classes_named items words)) (length made) c);
      values = All-from_recursion HasWordValues (map enumeration_of (enumerations items)) (enums_worded names (classes items) items words (λ at c. once at (within_item c)));
    }
