-- Which faults stand in a model's declarations doesn't depend on pointers.
use Rattle.std.proofs.Common.{◌≡◌, ◌↔◌, ℕ, zero, suc, ◌<◌, false, Bool, List, [], ◌∷◌, ◌++◌, refl, sym, ◌∙◌, ap, subst, Option, None, Some, map, length, Contains}
use Rattle.std.specs.List.{flat_map, slice_get}
use Rattle.std.specs.Option.{option_map_or, option_map}
use Rattle.std.proofs.Math.Path.{fun_ext}
use Rattle.std.proofs.lemmas.List.{length-map}
use Rattle.std.proofs.lemmas.Option.{slice_get-map}
use Rattle.conf_syntax.specs.declared.token.Ident.{Ident}
use Rattle.conf_syntax.specs.declared.tree.ClassDecl.{ClassDecl}
use Rattle.conf_syntax.specs.declared.tree.Item.{Item}
use Rattle.conf_syntax.specs.declared.tree.Item.TheVariants as item
use Rattle.conf_syntax.specs.declared.tree.Member.{Member}
use Rattle.conf_syntax.specs.declared.tree.Member.TheVariants as member
use Rattle.conf_syntax.specs.declared.tree.Shape.{Shape}
use Rattle.conf_syntax.specs.declared.tree.Shape.TheVariants as shape
use Rattle.conf_syntax.specs.declared.tree.VarDecl.{VarDecl}
use Rattle.conf_syntax.specs.declared.tree.Program.{Program}
use Rattle.conf_syntax.specs.OneModel.{AreOneModel}
use Rattle.conf_syntax.proofs.WholeItems.{whole_items, one_whole}
use Rattle.conf_syntax.specs.OnlyIf.{only_if}
use Rattle.class_table.specs.declared.fault.TableFault.{TableFault}
use Rattle.class_table.specs.declared.fault.TableFault.TheVariants.{Duplicate, InheritCycle, AbstractObject}
use Rattle.class_table.specs.declared.names.NameMeaning.{NameMeaning}
use Rattle.class_table.specs.declared.names.NameMeaning.TheVariants as meaning
use Rattle.class_table.specs.Ancestry.{attributes_within}
use Rattle.class_table.specs.Faults.{repeated, taken, is_abstract, named_faults, many_faults, shape_faults, parent_faults, member_faults, item_faults, parent_of, own_of, class_count, attributes_of, variable_ident, Holds, ContainsOne, IsParent, Stands, name_repeated, within_item, attribute_repeated, derives_itself, contains_itself}
use Rattle.class_table.specs.Names.{Space, space, means, classes, declared, own}
use Rattle.class_table.specs.Outline.{Outline, outline, parent_in, class_meant}
use Rattle.graph_walk.specs.Steps.{StepsBy}
use Rattle.class_table.proofs.BareItems.{bare, bare_members, agree, space_bare, declared_bare, classes_bare, own_of_bare, same_outline}

-- Lists by number

got_by : {A B : Type 0} (f : A → B) (d : B) (o : Option A) → option_map_or f o d ≡ option_map_or (λ (x : B). x) (option_map f o) d
got_by f d None = refl
got_by f d (Some x) = refl

listed_by : {A B : Type 0} (f : A → B) (d : B) (xs : List A) (k : ℕ) → option_map_or f (slice_get xs k) d ≡ option_map_or (λ (x : B). x) (slice_get (map f xs) k) d
listed_by {B = B} f d xs k = got_by f d (slice_get xs k) ∙ ap (λ (o : Option B). option_map_or (λ (x : B). x) o d) (sym (slice_get-map f xs k))

abbrev numbered : {A B : Type 0} → (A → B) → B → List A → ℕ → B
numbered f d xs k = option_map_or f (slice_get xs k) d

-- lists with the same values of a function give the same by number
listed_same : {A B : Type 0} (f : A → B) (d : B) (xs ys : List A) → map f xs ≡ map f ys → numbered f d xs ≡ numbered f d ys
listed_same {B = B} f d xs ys e = fun_ext (λ k. listed_by f d xs k ∙ ap (λ (bs : List B). option_map_or (λ (x : B). x) (slice_get bs k) d) e ∙ sym (listed_by f d ys k))

-- Faults within an item

abbrev AreAlike : List ClassDecl → List ClassDecl → Type 0
AreAlike ds es = is_abstract ds ≡ is_abstract es

named_alike : (ds es : List ClassDecl) (i : Ident) (m : Option NameMeaning) → AreAlike ds es → named_faults ds i m ≡ named_faults es i m
named_alike ds es i None h = refl
named_alike ds es i (Some (meaning.Variable v)) h = refl
named_alike ds es i (Some (meaning.Enumeration e)) h = refl
named_alike ds es i (Some (meaning.Class c)) h = ap (λ (f : ℕ → Bool). only_if (f c) (AbstractObject i.at)) h

many_alike : (ds es : List ClassDecl) (i : Ident) (m : Option NameMeaning) → AreAlike ds es → many_faults ds i m ≡ many_faults es i m
many_alike ds es i None h = refl
many_alike ds es i (Some (meaning.Variable v)) h = refl
many_alike ds es i (Some (meaning.Enumeration e)) h = refl
many_alike ds es i (Some (meaning.Class c)) h = ap (λ (f : ℕ → Bool). only_if (f c) (AbstractObject i.at)) h

shape_alike : (names : Space) (ds es : List ClassDecl) (s : Shape) → AreAlike ds es → shape_faults names ds s ≡ shape_faults names es s
shape_alike names ds es (shape.Range low high) h = refl
shape_alike names ds es shape.Int h = refl
shape_alike names ds es shape.Bool h = refl
shape_alike names ds es (shape.Named i) h = named_alike ds es i (means names i.name) h
shape_alike names ds es (shape.Many i n) h = many_alike ds es i (means names i.name) h
shape_alike names ds es (shape.Ref i) h = refl
shape_alike names ds es (shape.RefSet i n) h = refl

members_alike : (names : Space) (ds es : List ClassDecl) (ms : List Member) → AreAlike ds es → flat_map (member_faults names ds) (bare_members ms) ≡ flat_map (member_faults names es) ms
members_alike names ds es [] h = refl
members_alike names ds es (member.Var v ∷ ms) h = λ i. (taken v.name (means names v.name.name) ++ shape_alike names ds es v.shape h i) ++ members_alike names ds es ms h i
members_alike names ds es (member.Where w ∷ ms) h = members_alike names ds es ms h

items_alike : (names : Space) (ds es : List ClassDecl) (xs : List Item) → AreAlike ds es → flat_map (item_faults names ds) (bare xs) ≡ flat_map (item_faults names es) xs
items_alike names ds es [] h = refl
items_alike names ds es (item.Enum d ∷ xs) h = ap (λ (fs : List TableFault). map Duplicate (repeated d.values []) ++ fs) (items_alike names ds es xs h)
items_alike names ds es (item.Class d ∷ xs) h = λ i. (parent_faults names d.parent ++ members_alike names ds es d.members h i) ++ items_alike names ds es xs h i
items_alike names ds es (item.Var v ∷ xs) h = λ i. shape_alike names ds es v.shape h i ++ items_alike names ds es xs h i
items_alike names ds es (item.Where w ∷ xs) h = items_alike names ds es xs h
items_alike names ds es (item.Goal g ∷ xs) h = items_alike names ds es xs h

abbrev within : List Item → List TableFault
within xs = flat_map (item_faults (space xs) (classes xs)) xs

abstract_bare : (xs : List Item) → is_abstract (classes (bare xs)) ≡ is_abstract (classes xs)
abstract_bare xs = listed_same (λ (d : ClassDecl). d.is_abstract) false (classes (bare xs)) (classes xs) (classes_bare (λ (d : ClassDecl). d.is_abstract) (λ a n p ms. refl) xs)

within_bare : (xs : List Item) → within (bare xs) ≡ within xs
within_bare xs = ap (λ (names : Space). flat_map (item_faults names (classes (bare xs))) (bare xs)) (space_bare xs) ∙ items_alike (space xs) (classes (bare xs)) (classes xs) xs (abstract_bare xs)

-- Derivation and attributes

owns_bare : (xs : List Item) → own_of (bare xs) ≡ own_of xs
owns_bare xs = listed_same own [] (classes (bare xs)) (classes xs) (own_of_bare xs)

count_bare : (xs : List Item) → class_count (bare xs) ≡ class_count xs
count_bare xs = sym (length-map (classes (bare xs)) own) ∙ ap length (own_of_bare xs) ∙ length-map (classes xs) own

abbrev class_parent : ClassDecl → Option Ident
class_parent d = d.parent

parents_bare : (xs : List Item) → map class_parent (classes (bare xs)) ≡ map class_parent (classes xs)
parents_bare xs = classes_bare class_parent (λ a n p ms. refl) xs

-- what the faults look at, alike in two models
record IsLike (xs ys : List Item) : Type 0 where
  names : space xs ≡ space ys
  declared : declared xs ≡ declared ys
  within : within xs ≡ within ys
  parents : map class_parent (classes xs) ≡ map class_parent (classes ys)
  parent : parent_of xs ≡ parent_of ys
  attributes : attributes_of xs ≡ attributes_of ys
  count : class_count xs ≡ class_count ys

attributes_by : (xs ys : List Item) → parent_of xs ≡ parent_of ys → own_of xs ≡ own_of ys → class_count xs ≡ class_count ys → attributes_of xs ≡ attributes_of ys
attributes_by xs ys p o n = λ i c. attributes_within (p i) (o i) (n i) (n i) c

like : (xs ys : List Item) → whole_items xs ≡ whole_items ys → IsLike xs ys
like xs ys e =
    let parent : parent_of xs ≡ parent_of ys = ap (λ (o : Outline). parent_in o.classes) (same_outline xs ys e) in
    let count = agree class_count count_bare xs ys e in
    record {
      names = agree space space_bare xs ys e;
      declared = agree declared declared_bare xs ys e;
      within = agree within within_bare xs ys e;
      parents = agree (λ (zs : List Item). map class_parent (classes zs)) parents_bare xs ys e;
      parent = parent;
      attributes = attributes_by xs ys parent (agree own_of owns_bare xs ys e) count;
      count = count;
    }

-- The faults

holds_like : (xs ys : List Item) (v : VarDecl) (d at : ℕ) → IsLike xs ys → Holds xs v d at → Holds ys v d at
holds_like xs ys v d at l h = record { ident = h.ident; name = h.name; class = subst (λ (names : Space). class_meant (means names h.ident.name) ≡ Some d) l.names h.class; place = h.place }

step_like : (xs ys : List Item) (c d : ℕ) → IsLike xs ys → ContainsOne xs c d → ContainsOne ys c d
step_like xs ys c d l s =
    record { attribute = s.attribute; at = s.at; has = subst (λ (f : ℕ → List VarDecl). Contains (f c) s.attribute) l.attributes s.has; holds = holds_like xs ys s.attribute d s.at l s.holds }

steps_like : (R S : ℕ → ℕ → Type 0) → ((c d : ℕ) → R c d → S c d) → (n c d : ℕ) → StepsBy R n c d → StepsBy S n c d
steps_like R S f zero c d h = h
steps_like R S f (suc n) c d h = (h.0, f c h.0 h.1, steps_like R S f n h.0 d h.2)

parent_found : (o : Option ClassDecl) (i : Ident) → option_map class_parent o ≡ Some (Some i) → (d : ClassDecl) × (o ≡ Some d) × (d.parent ≡ Some i)
parent_found None i e = absurd cc
parent_found (Some d) i e = (d, refl, cc)

derives_like : (xs ys : List Item) (c k : ℕ) (d : ClassDecl) (i : Ident) → IsLike xs ys → slice_get (classes xs) c ≡ Some d → d.parent ≡ Some i → StepsBy (IsParent xs) (suc k) c c → Stands ys (InheritCycle i.at)
derives_like xs ys c k d i l s p h =
    let e : option_map class_parent (slice_get (classes ys) c) ≡ Some (Some i) =
    sym (slice_get-map class_parent (classes ys) c) ∙ ap (λ (ps : List (Option Ident)). slice_get ps c) (sym l.parents) ∙ slice_get-map class_parent (classes xs) c ∙ ap (option_map class_parent) s ∙ ap Some p in
    let f = parent_found (slice_get (classes ys) c) i e in
    derives_itself c k f.0 i f.1 f.2 (steps_like (IsParent xs) (IsParent ys) (λ a b r. subst (λ (g : ℕ → Option ℕ). g a ≡ Some b) l.parent r) (suc k) c c h)

stands_like : (xs ys : List Item) (f : TableFault) → IsLike xs ys → Stands xs f → Stands ys f
stands_like xs ys f l (name_repeated {at = at} h) = name_repeated (subst (λ (is : List Ident). Contains (repeated is []) at) l.declared h)
stands_like xs ys f l (within_item h) = within_item (subst (λ (fs : List TableFault). Contains fs f) l.within h)
stands_like xs ys f l (attribute_repeated {at = at} c n h) =
    attribute_repeated c (subst (λ (k : ℕ). c < k) l.count n) (subst (λ (g : ℕ → List VarDecl). Contains (repeated (map variable_ident (g c)) []) at) l.attributes h)
stands_like xs ys f l (derives_itself c k d i s p h) = derives_like xs ys c k d i l s p h
stands_like xs ys f l (contains_itself {at = at} c d n v a h s) =
    contains_itself c d n v (subst (λ (g : ℕ → List VarDecl). Contains (g c) v) l.attributes a) (holds_like xs ys v d at l h) (steps_like (ContainsOne xs) (ContainsOne ys) (λ a b r. step_like xs ys a b l r) n d c s)

-- in trees that say the same the same faults stand
pub same_faults : (xs ys : List Item) → whole_items xs ≡ whole_items ys → (f : TableFault) → Stands xs f → Stands ys f
same_faults xs ys e f h = stands_like xs ys f (like xs ys e) h

pub one_outline : (p q : Program) → AreOneModel p q → outline p.items ≡ outline q.items
one_outline p q h = same_outline p.items q.items (one_whole p q h)

pub one_faults : (p q : Program) → AreOneModel p q → (f : TableFault) → Stands p.items f ↔ Stands q.items f
one_faults p q h f = (same_faults p.items q.items (one_whole p q h) f, same_faults q.items p.items (sym (one_whole p q h)) f)
