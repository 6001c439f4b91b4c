-- What a model declares doesn't depend on pointers: trees that say the same have the same outline.
use Rattle.std.proofs.Common.{◌≡◌, ℕ, ◌+◌, Bool, List, [], ◌∷◌, refl, sym, ◌∙◌, ap, Option, map}
use Rattle.std.specs.List.{flat_map}
use Rattle.conf_syntax.specs.declared.token.Ident.{Ident}
use Rattle.conf_syntax.specs.declared.tree.ClassDecl.{ClassDecl}
use Rattle.conf_syntax.specs.declared.tree.EnumDecl.{EnumDecl}
use Rattle.conf_syntax.specs.declared.tree.Item.{Item}
use Rattle.conf_syntax.specs.declared.tree.Item.TheVariants as item
use Rattle.conf_syntax.specs.declared.tree.Member.{Member}
use Rattle.conf_syntax.specs.declared.tree.Member.TheVariants as member
use Rattle.conf_syntax.specs.declared.tree.Node as node
use Rattle.conf_syntax.specs.declared.tree.VarDecl.{VarDecl}
use Rattle.conf_syntax.proofs.WholeItems.{WholeItem, WholeMember, AVar, AWhere, AnEnum, AClass, Alone, AGoal, whole_member, whole_items}
use Rattle.class_table.specs.declared.names.NameMeaning.TheVariants as meaning
use Rattle.class_table.specs.declared.table.Class.{Class}
use Rattle.class_table.specs.Names.{Space, space_from, space, classes, enumerations, roots, declared, own, member_variable}
use Rattle.class_table.specs.Outline.{Outline, outline, class_of, enumeration_of, variable_of, parent_named}

-- A tree of the program that says the same of declarations, and nothing of expressions

abbrev pub from_member : WholeMember → Member
from_member (AVar v) = member.Var v
from_member (AWhere w) = member.Where (record { at = w.at; braces = w.braces; list = [] })

abbrev pub from_item : WholeItem → Item
from_item (AnEnum e) = item.Enum e
from_item (AClass c) = item.Class (record { is_abstract = c.is_abstract; name = c.name; parent = c.parent; members = map from_member c.members })
from_item (Alone (AVar v)) = item.Var v
from_item (Alone (AWhere w)) = item.Where (record { at = w.at; braces = w.braces; list = [] })
from_item (AGoal g) = item.Goal (record { at = g.at; max = g.max; expr = record { at = g.at; node = node.This } })

abbrev pub bare_members : List Member → List Member
bare_members ms = map from_member (map whole_member ms)

abbrev pub bare : List Item → List Item
bare xs = map from_item (whole_items xs)

-- what looks at the bare tree alone is the same of trees that say the same
pub agree : {A : Type 0} (f : List Item → A) (law : (xs : List Item) → f (bare xs) ≡ f xs) (xs ys : List Item) → whole_items xs ≡ whole_items ys → f xs ≡ f ys
agree f law xs ys e = sym (law xs) ∙ ap (λ (ws : List WholeItem). f (map from_item ws)) e ∙ law ys

-- Names and lists of declarations

space_from_bare : (xs : List Item) (c e v : ℕ) → space_from (bare xs) c e v ≡ space_from xs c e v
space_from_bare [] c e v = refl
space_from_bare (item.Class d ∷ xs) c e v = ap (λ (s : Space). (d.name.name, meaning.Class c) ∷ s) (space_from_bare xs (c + 1) e v)
space_from_bare (item.Enum d ∷ xs) c e v = ap (λ (s : Space). (d.name.name, meaning.Enumeration e) ∷ s) (space_from_bare xs c (e + 1) v)
space_from_bare (item.Var d ∷ xs) c e v = ap (λ (s : Space). (d.name.name, meaning.Variable v) ∷ s) (space_from_bare xs c e (v + 1))
space_from_bare (item.Where w ∷ xs) c e v = space_from_bare xs c e v
space_from_bare (item.Goal g ∷ xs) c e v = space_from_bare xs c e v

pub space_bare : (xs : List Item) → space (bare xs) ≡ space xs
space_bare xs = space_from_bare xs 0 0 0

enumerations_bare : (xs : List Item) → enumerations (bare xs) ≡ enumerations xs
enumerations_bare [] = refl
enumerations_bare (item.Class d ∷ xs) = enumerations_bare xs
enumerations_bare (item.Enum d ∷ xs) = ap (λ (ds : List EnumDecl). d ∷ ds) (enumerations_bare xs)
enumerations_bare (item.Var d ∷ xs) = enumerations_bare xs
enumerations_bare (item.Where w ∷ xs) = enumerations_bare xs
enumerations_bare (item.Goal g ∷ xs) = enumerations_bare xs

roots_bare : (xs : List Item) → roots (bare xs) ≡ roots xs
roots_bare [] = refl
roots_bare (item.Class d ∷ xs) = roots_bare xs
roots_bare (item.Enum d ∷ xs) = roots_bare xs
roots_bare (item.Var d ∷ xs) = ap (λ (ds : List VarDecl). d ∷ ds) (roots_bare xs)
roots_bare (item.Where w ∷ xs) = roots_bare xs
roots_bare (item.Goal g ∷ xs) = roots_bare xs

pub declared_bare : (xs : List Item) → declared (bare xs) ≡ declared xs
declared_bare [] = refl
declared_bare (item.Class d ∷ xs) = ap (λ (is : List Ident). d.name ∷ is) (declared_bare xs)
declared_bare (item.Enum d ∷ xs) = ap (λ (is : List Ident). d.name ∷ is) (declared_bare xs)
declared_bare (item.Var d ∷ xs) = ap (λ (is : List Ident). d.name ∷ is) (declared_bare xs)
declared_bare (item.Where w ∷ xs) = declared_bare xs
declared_bare (item.Goal g ∷ xs) = declared_bare xs

own_bare : (ms : List Member) → flat_map member_variable (bare_members ms) ≡ flat_map member_variable ms
own_bare [] = refl
own_bare (member.Var v ∷ ms) = ap (λ (vs : List VarDecl). v ∷ vs) (own_bare ms)
own_bare (member.Where w ∷ ms) = own_bare ms

-- what looks at a class's own attributes, parent, name and word `abstract` alone
pub classes_bare : {A : Type 0} (f : ClassDecl → A) (law : (a : Bool) (n : Ident) (p : Option Ident) (ms : List Member) → f (record { is_abstract = a; name = n; parent = p; members = bare_members ms }) ≡ f (record { is_abstract = a; name = n; parent = p; members = ms })) (xs : List Item) → map f (classes (bare xs)) ≡ map f (classes xs)
classes_bare f law [] = refl
classes_bare f law (item.Class d ∷ xs) = λ i. law d.is_abstract d.name d.parent d.members i ∷ classes_bare f law xs i
classes_bare f law (item.Enum d ∷ xs) = classes_bare f law xs
classes_bare f law (item.Var d ∷ xs) = classes_bare f law xs
classes_bare f law (item.Where w ∷ xs) = classes_bare f law xs
classes_bare f law (item.Goal g ∷ xs) = classes_bare f law xs

classes_of_bare : (names : Space) (xs : List Item) → map (class_of names) (classes (bare xs)) ≡ map (class_of names) (classes xs)
classes_of_bare names xs =
    classes_bare (class_of names) (λ a n p ms. ap (λ (vs : List VarDecl). record { name = n.name; parent = parent_named names p; own = map (variable_of names) vs }) (own_bare ms)) xs

pub own_of_bare : (xs : List Item) → map own (classes (bare xs)) ≡ map own (classes xs)
own_of_bare xs = classes_bare own (λ a n p ms. own_bare ms) xs

-- The outline

abbrev parts_of : Space → List Class → List EnumDecl → List VarDecl → Outline
parts_of names cs es vs = record { names = names; classes = cs; enumerations = map enumeration_of es; roots = map (variable_of names) vs }

outline_bare : (xs : List Item) → outline (bare xs) ≡ outline xs
outline_bare xs =
    ap (λ (names : Space). parts_of names (map (class_of names) (classes (bare xs))) (enumerations (bare xs)) (roots (bare xs))) (space_bare xs)
    ∙ (λ i. parts_of (space xs) (classes_of_bare (space xs) xs i) (enumerations_bare xs i) (roots_bare xs i))

-- trees that say the same have the same outline
pub same_outline : (xs ys : List Item) → whole_items xs ≡ whole_items ys → outline xs ≡ outline ys
same_outline = agree outline outline_bare
