-- Arrays, names and leaves of a configuration's JSON value.
use Rattle.std.proofs.Common.{◌≡◌, ℕ, zero, suc, ◌+◌, ◌<◌, ◌≤◌, List, [], ◌∷◌, ◌++◌, Some, length, drop, refl, sym, ap, ◌∙◌, arith}
use Rattle.std.specs.Prelude.{slice_get, slice_index_or}
use Rattle.std.specs.Option.{option_map, option_map_or}
use Rattle.std.proofs.lemmas.Option.{get_or_from_slice_get}
use Rattle.class_table.specs.declared.table.Enumeration.{Enumeration}
use Rattle.class_table.specs.declared.table.Class.{Class}
use Rattle.class_table.specs.Outline.{Outline}
use Rattle.object_alloc.specs.declared.object.Object.{Object}
use Rattle.object_alloc.specs.Walk.{objects}
use Rattle.serde_json.specs.Data.{Data, Items, no_items, item}
use Rattle.serde_json.specs.View.{view, items_view}
use Rattle.serde_json.specs.declared.value.Value.{Value}
use Rattle.config_json.specs.Growing.{items_append}
use Rattle.config_json.specs.Keys.{value_name, class_name, name_in}
use Rattle.config_json.specs.Tree.{all_data}
use Rattle.config_json.proofs.Known.{item_at, class_told}

pub items_pushed : (vs : List Value) (v : Value) (rest : Items) → items_append (items_view (vs ++ v ∷ [])) rest ≡ items_append (items_view vs) (item (view v) rest)
items_pushed [] v rest = refl
items_pushed (w ∷ vs) v rest = ap (item (view w)) (items_pushed vs v rest)

pub items_append_none : (ds : Items) → items_append ds no_items ≡ ds
items_append_none no_items = refl
items_append_none (item d ds) = ap (item d) (items_append_none ds)

past : {X : Type 0} (xs : List X) (k : ℕ) (d : X) → length xs ≤ k → slice_index_or xs k d ≡ d
past [] zero d h = refl
past [] (suc k) d h = refl
past (x ∷ xs) zero d h = absurd (omega (arith, h))
past (x ∷ xs) (suc k) d h = past xs k d (omega (arith, h))

-- the name of a value that is there
pub name_read : (o : Outline) (e k : ℕ) (name : List ℕ) → e < length o.enumerations → ((d : Enumeration) → slice_get (slice_index_or o.enumerations e d).values k ≡ Some name) → name ≡ value_name o e k
name_read o e k name h told =
    let x = item_at o.enumerations e h in
    let has : slice_get x.item.values k ≡ Some name = ap (λ (y : Enumeration). slice_get y.values k) (sym (x.is x.item)) ∙ told x.item in
    sym (ap (λ y. option_map_or (λ (z : Enumeration). slice_index_or z.values k []) y []) x.has ∙ get_or_from_slice_get x.item.values k name [] has)

-- no value has this number
pub name_none : (o : Outline) (e k count : ℕ) → e < length o.enumerations → ((d : Enumeration) → count ≡ length (slice_index_or o.enumerations e d).values) → count ≤ k → [] ≡ value_name o e k
name_none o e k count h told least =
    let x = item_at o.enumerations e h in
    let size : count ≡ length x.item.values = told x.item ∙ ap (λ (y : Enumeration). length y.values) (x.is x.item) in
    sym (ap (λ y. option_map_or (λ (z : Enumeration). slice_index_or z.values k []) y []) x.has ∙ past x.item.values k [] (omega (arith, size, least)))

module _ (of : ℕ → Data) where
  left : (ns : List ℕ) (k d : ℕ) → k < length ns → all_data of (drop k ns) ≡ item (of (slice_index_or ns k d)) (all_data of (drop (k + 1) ns))
  left [] k d h = absurd (omega (arith, h))
  left (n ∷ ns) zero d h = refl
  left (n ∷ ns) (suc k) d h = let next : suc (k + 1) ≡ suc k + 1 = omega arith in left ns k d (omega (arith, h)) ∙ ap (λ j. item (of (slice_index_or ns k d)) (all_data of (drop j (n ∷ ns)))) next

  none_left : (ns : List ℕ) (k : ℕ) → length ns ≤ k → all_data of (drop k ns) ≡ no_items
  none_left [] zero h = refl
  none_left [] (suc k) h = refl
  none_left (n ∷ ns) zero h = absurd (omega (arith, h))
  none_left (n ∷ ns) (suc k) h = none_left ns k (omega (arith, h))

  -- one value further
  pub data_next : (ns : List ℕ) (k d : ℕ) (now new : List Value) (v : Value) (all : Items) → k < length ns → view v ≡ of (slice_index_or ns k d) → new ≡ now ++ v ∷ [] → items_append (items_view now) (all_data of (drop k ns)) ≡ all → items_append (items_view new) (all_data of (drop (k + 1) ns)) ≡ all
  data_next ns k d now new v all h value e i =
      ap (λ vs. items_append (items_view vs) (all_data of (drop (k + 1) ns))) e
      ∙ items_pushed now v (all_data of (drop (k + 1) ns))
      ∙ ap (λ p. items_append (items_view now) (item p (all_data of (drop (k + 1) ns)))) value
      ∙ ap (items_append (items_view now)) (sym (left ns k d h)) ∙ i

  -- with all values
  pub data_done : (ns : List ℕ) (k : ℕ) (now : List Value) (all : Items) → length ns ≤ k → items_append (items_view now) (all_data of (drop k ns)) ≡ all → items_view now ≡ all
  data_done ns k now all h i = sym (items_append_none (items_view now)) ∙ ap (items_append (items_view now)) (sym (none_left ns k h)) ∙ i

-- the name of the class of an object
pub class_name_read :
    (o : Outline) (n k : ℕ) (name : List ℕ) → n < length (objects o) → k < length o.classes
    → ((d : Object) → k ≡ (slice_index_or (objects o) n d).class)
    → ((d : Class) → name ≡ (slice_index_or o.classes k d).name) → name ≡ class_name o n
class_name_read o n k name there known told named =
    let x = item_at (objects o) n there in
    let y = item_at o.classes k known in
    let class = class_told o n k x.item x.has told in
    named y.item ∙ ap (λ (q : Class). q.name) (y.is y.item)
    ∙ sym (ap (λ q. name_in o (option_map (λ (w : Object). w.class) q)) x.has ∙ ap (λ j. name_in o (Some j)) (sym class) ∙ ap (λ q. option_map_or (λ (w : Class). w.name) q []) y.has)
