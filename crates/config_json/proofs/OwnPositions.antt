-- Where objects and leaves stand in the JSON value of a configuration.
use Rattle.std.proofs.Common.{◌≡◌, ℕ, zero, suc, ◌+◌, ◌<◌, List, [], ◌∷◌, Option, None, Some, ℤ, length, refl, sym, ap, ◌∙◌, subst, arith}
use Rattle.std.specs.Prelude.{IfSome, slice_get, option_and_then}
use Rattle.class_table.specs.declared.table.Resolved.{Resolved}
use Rattle.class_table.specs.declared.table.Resolved.TheVariants.{Span, Truth, Choice, One, Many, Ref, RefSet}
use Rattle.class_table.specs.declared.table.Variable.{Variable}
use Rattle.class_table.specs.Outline.{Outline}
use Rattle.class_table.specs.Sound.{IsSound}
use Rattle.object_alloc.specs.declared.object.Leaf.{Leaf}
use Rattle.object_alloc.specs.declared.object.Object.{Object}
use Rattle.object_alloc.specs.Groups.{parts_of, own_cells}
use Rattle.object_alloc.specs.Variables.{variables_of}
use Rattle.object_alloc.specs.Leaves.{IsHeldLeaf}
use Rattle.object_alloc.specs.Held.{HoldsAt, IsBefore}
use Rattle.object_alloc.specs.Walk.{objects}
use Rattle.object_alloc.proofs.HeldLaws.{object_held}
use Rattle.object_alloc.proofs.OwnParts.{part_place}
use Rattle.serde_json.specs.Data.{Data, Members, no_members, object, put}
use Rattle.serde_json.specs.Find.{get, get_item, get_member}
use Rattle.serde_json.proofs.Views.{get_member-put, get_member-put_other}
use Rattle.config_json.specs.Former.{element_of, leaf_position, object_position, owner_position, position_within, step_to, under_name}
use Rattle.config_json.specs.Keys.{text_of}
use Rattle.config_json.proofs.Texts.{HasTexts}
use Rattle.config_json.specs.Tree.{all_data, attribute_data, class_member, config_data, first_data, leaf_data, object_data, with_variables}
use Rattle.config_json.proofs.Known.{item_at}
use Rattle.config_json.proofs.ObjectLaws.{leaf_is, object_made}

some_is : {X : Type 0} {a b : X} → Some a ≡ Some b → a ≡ b
some_is e = cc

-- Keys

module _ (of : ℕ → Data) (o : Outline) (t : List ℤ) (owner : Option ℕ) where
  -- a key that is none of these variables' keeps its value
  kept : (q : List ℕ) (vs : List Variable) (k : ℕ) (found : Members) → ((j : ℕ) (w : Variable) → slice_get vs j ≡ Some w → q ≡ text_of w.name → ⊥) → get_member q (with_variables of o t owner k vs found) ≡ get_member q found
  kept q [] k found other = refl
  kept q (v ∷ vs) k found other =
      kept q vs (suc k) (put (text_of v.name) (attribute_data of o t owner k v.shape) found) (λ j w g e. other (suc j) w g e)
      ∙ get_member-put_other q (text_of v.name) (attribute_data of o t owner k v.shape) found (other 0 v refl)

  -- the texts of these variables' names differ
  abbrev AreApart : List Variable → Type 0
  AreApart vs = (i j : ℕ) (v w : Variable) → slice_get vs i ≡ Some v → slice_get vs j ≡ Some w → text_of v.name ≡ text_of w.name → i ≡ j

  under_key : (vs : List Variable) (k j : ℕ) (v : Variable) (found : Members) → AreApart vs → slice_get vs j ≡ Some v → get_member (text_of v.name) (with_variables of o t owner k vs found) ≡ Some (attribute_data of o t owner (k + j) v.shape)
  under_key [] k j v found apart g = cc
  under_key (u ∷ us) k zero v found apart g =
      let same : u ≡ v = some_is g in
      let at : k ≡ k + 0 = omega arith in
      ap (λ (w : Variable). get_member (text_of v.name) (with_variables of o t owner (suc k) us (put (text_of w.name) (attribute_data of o t owner k w.shape) found))) same
      ∙ kept (text_of v.name) us (suc k) (put (text_of v.name) (attribute_data of o t owner k v.shape) found)
      (λ j w h e. let no = apart 0 (suc j) v w (ap Some same) h e in absurd (omega (arith, no)))
      ∙ get_member-put (text_of v.name) (attribute_data of o t owner k v.shape) found
      ∙ ap (λ n. Some (attribute_data of o t owner n v.shape)) at
  under_key (u ∷ us) k (suc j) v found apart g =
      let at : suc k + j ≡ k + suc j = omega arith in
      under_key us (suc k) j v (put (text_of u.name) (attribute_data of o t owner k u.shape) found)
      (λ a b x y g h e. let same = apart (suc a) (suc b) x y g h e in omega (arith, same)) g
      ∙ ap (λ n. Some (attribute_data of o t owner n v.shape)) at

item_got : (of : ℕ → Data) (ns : List ℕ) (i n : ℕ) → slice_get ns i ≡ Some n → get_item i (all_data of ns) ≡ Some (of n)
item_got of [] i n g = cc
item_got of (m ∷ ms) zero n g = ap (λ k. Some (of k)) (some_is g)
item_got of (m ∷ ms) (suc i) n g = item_got of ms i n g

first_got : (of : ℕ → Data) (ns : List ℕ) (n : ℕ) → slice_get ns 0 ≡ Some n → first_data of ns ≡ of n
first_got of [] n g = cc
first_got of (m ∷ ms) n g = ap of (some_is g)

-- Objects

module _ (o : Outline) (sound : IsSound o) (texts : HasTexts o) (t : List ℤ) where
  -- the keys of an object, or of the top level
  abbrev started : Option ℕ → Members
  started None = no_members
  started (Some n) = class_member o n

  abbrev pub members_of : Option ℕ → Members
  members_of owner = with_variables (object_data o t) o t owner 0 (variables_of o owner) (started owner)

  -- what stands under a variable's name
  pub named : (owner : Option ℕ) (k : ℕ) (v : Variable) → slice_get (variables_of o owner) k ≡ Some v → get (text_of v.name) (object (members_of owner)) ≡ Some (attribute_data (object_data o t) o t owner k v.shape)
  named owner k v g =
      let at : 0 + k ≡ k = omega arith in
      under_key (object_data o t) o t owner (variables_of o owner) 0 k v (started owner) (λ i j v w a b e. texts.differ owner i j v w a b e) g
      ∙ ap (λ n. Some (attribute_data (object_data o t) o t owner n v.shape)) at

  owner_is : (position : ℕ → Option Data) (owner : Option ℕ) (n : ℕ) → IsBefore owner n → ((p : ℕ) → p < n → (p < length (objects o)) × (position p ≡ Some (object_data o t p))) → owner_position position (config_data o t) owner ≡ Some (object (members_of owner))
  owner_is position None n before each = refl
  owner_is position (Some p) n before each = let r = each p before in r.1 ∙ ap Some (sym (object_made o t p r.0))

  element_is : (owner : Option ℕ) (k i n : ℕ) (s : Resolved) (c : ℕ) → slice_get (parts_of o owner k) i ≡ Some n → HoldsAt s c i → option_and_then (element_of s i) (Some (attribute_data (object_data o t) o t owner k s)) ≡ Some (object_data o t n)
  element_is owner k i n (One d) c g h = ap Some (first_got (object_data o t) (parts_of o owner k) n (subst (λ j. slice_get (parts_of o owner k) j ≡ Some n) h.1 g))
  element_is owner k i n (Many d m) c g h = item_got (object_data o t) (parts_of o owner k) i n g
  element_is owner k i n (Span low high) c g h = absurd h
  element_is owner k i n Truth c g h = absurd h
  element_is owner k i n (Choice e) c g h = absurd h
  element_is owner k i n (Ref d) c g h = absurd h
  element_is owner k i n (RefSet d m) c g h = absurd h

  -- an object that is held by the owner
  step_is : (n : ℕ) (x : Object) (e : slice_get (objects o) n ≡ Some x) → step_to (variables_of o x.owner) x (object (members_of x.owner)) ≡ Some (object_data o t n)
  step_is n x e =
      let held = object_held o n x e in
      ap (option_and_then (λ (v : Variable). option_and_then (element_of v.shape x.element) (get (text_of v.name) (object (members_of x.owner))))) held.has
      ∙ ap (option_and_then (element_of held.variable.shape x.element)) (named x.owner x.attribute held.variable held.has)
      ∙ element_is x.owner x.attribute x.element n held.variable.shape x.class (part_place o sound x.owner x.attribute x.element n x e (refl, refl, refl)) held.holds

  position_is : (steps n : ℕ) → n < steps → n < length (objects o) → position_within o (config_data o t) steps n ≡ Some (object_data o t n)
  position_is zero n h there = absurd (omega (arith, h))
  position_is (suc steps) n h there =
      let x = item_at (objects o) n there in
      let held = object_held o n x.item x.has in
      ap (option_and_then (λ (y : Object). option_and_then (step_to (variables_of o y.owner) y) (owner_position (position_within o (config_data o t) steps) (config_data o t) y.owner))) x.has
      ∙ ap (option_and_then (step_to (variables_of o x.item.owner) x.item))
      (owner_is (position_within o (config_data o t) steps) x.item.owner n held.owner (λ p less. let in_all : p < length (objects o) = omega (arith, less, there) in (in_all, position_is steps p (omega (arith, less, h)) in_all)))
      ∙ step_is n x.item x.has

  before_all : (w : Option ℕ) (m : ℕ) → IfSome w (λ n. n < m) → IsBefore w m
  before_all None m h = tt
  before_all (Some n) m h = h

  -- a leaf, from its variable
  pub leaf_stands : (l : Leaf) → IsHeldLeaf o l → ((c : ℕ) → l.shape ≡ One c → ⊥) → ((c n : ℕ) → l.shape ≡ Many c n → ⊥) → leaf_position o (config_data o t) l ≡ Some (leaf_data o t (own_cells o l.owner l.attribute) l.shape)
  leaf_stands l held one many =
      ap (option_and_then (under_name (variables_of o l.owner) l.attribute))
      (owner_is (object_position o (config_data o t)) l.owner (length (objects o)) (before_all l.owner (length (objects o)) held.owner) (λ p less. (less, position_is (suc p) p (omega arith) less)))
      ∙ ap (option_and_then (λ (v : Variable). get (text_of v.name) (object (members_of l.owner)))) held.has
      ∙ named l.owner l.attribute held.variable held.has
      ∙ ap (λ s. Some (attribute_data (object_data o t) o t l.owner l.attribute s)) held.shape
      ∙ ap Some (sym (leaf_is (object_data o t) o t l.owner l.attribute l.shape one many))
