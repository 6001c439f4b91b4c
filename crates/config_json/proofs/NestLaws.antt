-- How deep the JSON value of a configuration nests: an object whose path has d names at most 2 * (61 - d).
use Rattle.std.proofs.Common.{◌≡◌, ℕ, zero, suc, ◌+◌, ◌-◌, ◌*◌, ◌≤◌, if◌then◌else◌, List, [], ◌∷◌, Option, None, Some, Ordering, Less, Equal, Greater, ℤ, length, map, refl, sym, ap, ◌∙◌, subst, arith}
use Rattle.std.specs.Prelude.{filter_map, slice_get}
use Rattle.std.specs.Ordering.{match_ordering, nat_cmp}
use Rattle.std.specs.Option.{option_map_or}
use Rattle.std.specs.Str.{IsUtf8}
use Rattle.std.specs.Cmp.Lexicographic.{slice_cmp}
use Rattle.std.proofs.lemmas.Option.{get_or_from_slice_get, slice_get_within}
use Rattle.std.proofs.lemmas.Str.{is_utf8-from_IsUtf8}
use Rattle.class_table.specs.declared.table.Resolved.{Resolved}
use Rattle.class_table.specs.declared.table.Resolved.TheVariants.{Span, Truth, Choice, One, Many, Ref, RefSet}
use Rattle.class_table.specs.declared.table.Variable.{Variable}
use Rattle.class_table.specs.Outline.{Outline}
use Rattle.class_table.specs.Sound.{IsSound}
use Rattle.object_alloc.specs.declared.object.Object.{Object}
use Rattle.object_alloc.specs.Cells.{cells}
use Rattle.object_alloc.specs.Groups.{own_cells, parts_of}
use Rattle.object_alloc.specs.Variables.{variables_of}
use Rattle.object_alloc.specs.Limits.{IsShallow}
use Rattle.object_alloc.specs.Members.{member_at}
use Rattle.object_alloc.specs.Own.{IsOwner, depth_in, held, held_from, inside_of}
use Rattle.object_alloc.specs.Walk.{objects}
use Rattle.object_alloc.proofs.OwnLaws.{owned}
use Rattle.serde_json.specs.Data.{Data, Members, depth, items_depth, member, members_depth, no_members, put}
use Rattle.serde_json.specs.Read.{max_depth, read}
use Rattle.config_json.specs.Keys.{text_of}
use Rattle.config_json.specs.Reading.{value_read}
use Rattle.config_json.specs.Tree.{all_data, attribute_data, class_member, config_data, first_data, leaf_data, object_data, object_within, paths_data, with_variables}

by_order : (r : Ordering) (a b c : Members) (n : ℕ) → members_depth a ≤ n → members_depth b ≤ n → members_depth c ≤ n → members_depth (match_ordering r a b c) ≤ n
by_order Less a b c n p q r = p
by_order Equal a b c n p q r = q
by_order Greater a b c n p q r = r

put_depth : (k : List ℕ) (d : Data) (ms : Members) (n : ℕ) → depth d ≤ n → members_depth ms ≤ n → members_depth (put k d ms) ≤ n
put_depth k d no_members n p q = omega (arith, p)
put_depth k d (member l e ms) n p q =
    by_order (slice_cmp nat_cmp k l) (member k d (member l e ms)) (member l d ms) (member l e (put k d ms)) n (omega (arith, p, q)) (omega (arith, p, q))
    (let rest = put_depth k d ms n p (omega (arith, q)) in omega (arith, q, rest))

paths_flat : (o : Outline) (ns : List ℕ) → items_depth (paths_data o ns) ≡ 0
paths_flat o [] = refl
paths_flat o (n ∷ ns) = let rest = paths_flat o ns in omega (arith, rest)

leaf_flat : (o : Outline) (t : List ℤ) (own : List ℕ) (s : Resolved) → depth (leaf_data o t own s) ≤ 1
leaf_flat o t own (Span low high) = omega arith
leaf_flat o t own Truth = omega arith
leaf_flat o t own (Choice e) = omega arith
leaf_flat o t own (Ref c) = omega arith
leaf_flat o t own (RefSet c n) = let flat = paths_flat o (filter_map (member_at (cells o) t) own) in omega (arith, flat)
leaf_flat o t own (One c) = omega arith
leaf_flat o t own (Many c n) = omega arith

-- Objects that an owner holds stand one name deeper

abbrev AreAtDepth : ℕ → List Object → Type 0
AreAtDepth d [] = Unit {0}
AreAtDepth d (x ∷ xs) = (x.depth ≡ d) × AreAtDepth d xs

elements_depth : (o : Outline) (owner : Option ℕ) (k c m i : ℕ) → AreAtDepth (depth_in (objects o) owner + 1) (held_from (inside_of o owner) k c m i)
elements_depth o owner k c zero i = tt
elements_depth o owner k c (suc m) i = (refl, elements_depth o owner k c m (i + 1))

held_depth : (o : Outline) (owner : Option ℕ) (k : ℕ) (s : Resolved) → AreAtDepth (depth_in (objects o) owner + 1) (held (inside_of o owner) k s)
held_depth o owner k (One c) = (refl, tt)
held_depth o owner k (Many c m) = elements_depth o owner k c m 0
held_depth o owner k (Span low high) = tt
held_depth o owner k Truth = tt
held_depth o owner k (Choice e) = tt
held_depth o owner k (Ref c) = tt
held_depth o owner k (RefSet c m) = tt

module _ (o : Outline) where
  -- the object with this number has a path of d names
  pub record StandsAt (d n : ℕ) : Type 0 where
    pub object : Object
    pub has : slice_get (objects o) n ≡ Some object
    pub depth_is : object.depth ≡ d

  abbrev AllStand : ℕ → List ℕ → Type 0
  AllStand d [] = Unit {0}
  AllStand d (n ∷ ns) = StandsAt d n × AllStand d ns

  parts_stand : (d : ℕ) (ns : List ℕ) (xs : List Object) → map (λ n. slice_get (objects o) n) ns ≡ map Some xs → AreAtDepth d xs → AllStand d ns
  parts_stand d [] xs e h = tt
  parts_stand d (n ∷ ns) [] e h = cc
  parts_stand d (n ∷ ns) (x ∷ xs) e (h, hs) =
      let first : slice_get (objects o) n ≡ Some x = cc in
      let rest : map (λ n. slice_get (objects o) n) ns ≡ map Some xs = cc in
      (record { object = x; has = first; depth_is = h }, parts_stand d ns xs rest hs)

  module _ (of : ℕ → Data) (d m : ℕ) (each : (n : ℕ) → StandsAt d n → depth (of n) ≤ m) where
    all_depth : (ns : List ℕ) → AllStand d ns → items_depth (all_data of ns) ≤ m
    all_depth [] h = omega arith
    all_depth (n ∷ ns) (h, hs) = let here = each n h in let rest = all_depth ns hs in omega (arith, here, rest)

    first_depth : (ns : List ℕ) → AllStand d ns → depth (first_data of ns) ≤ suc m
    first_depth [] h = omega arith
    first_depth (n ∷ ns) (h, hs) = let here = each n h in omega (arith, here)

    attribute_depth : (t : List ℤ) (owner : Option ℕ) (k : ℕ) (s : Resolved) → AllStand d (parts_of o owner k) → depth (attribute_data of o t owner k s) ≤ suc m
    attribute_depth t owner k (One c) h = first_depth (parts_of o owner k) h
    attribute_depth t owner k (Many c n) h = let all = all_depth (parts_of o owner k) h in omega (arith, all)
    attribute_depth t owner k (Span low high) h = omega arith
    attribute_depth t owner k Truth h = omega arith
    attribute_depth t owner k (Choice e) h = omega arith
    attribute_depth t owner k (Ref c) h = omega arith
    attribute_depth t owner k (RefSet c n) h = let flat = leaf_flat o t (own_cells o owner k) (RefSet c n) in omega (arith, flat)

    variables_depth : (t : List ℤ) (owner : Option ℕ) (k : ℕ) (vs : List Variable) (found : Members) → ((j : ℕ) (v : Variable) → slice_get vs j ≡ Some v → AllStand d (parts_of o owner (k + j))) → members_depth found ≤ suc m → members_depth (with_variables of o t owner k vs found) ≤ suc m
    variables_depth t owner k [] found h small = small
    variables_depth t owner k (v ∷ vs) found h small =
        let at : k + 0 ≡ k = omega arith in
        let here = attribute_depth t owner k v.shape (subst (λ i. AllStand d (parts_of o owner i)) at (h 0 v refl)) in
        variables_depth t owner (suc k) vs (put (text_of v.name) (attribute_data of o t owner k v.shape) found)
        (λ j w g. let next : k + suc j ≡ suc k + j = omega arith in subst (λ i. AllStand d (parts_of o owner i)) next (h (suc j) w g))
        (put_depth (text_of v.name) (attribute_data of o t owner k v.shape) found (suc m) here small)

  module _ (sound : IsSound o) (shallow : IsShallow o) (t : List ℤ) where
    stands : (owner : Option ℕ) → IsOwner o owner → (j : ℕ) (v : Variable) → slice_get (variables_of o owner) j ≡ Some v → AllStand (depth_in (objects o) owner + 1) (parts_of o owner (0 + j))
    stands owner there j v g =
        let at : j ≡ 0 + j = omega arith in
        let own = owned o sound owner j v there g in
        subst (λ i. AllStand (depth_in (objects o) owner + 1) (parts_of o owner i)) at
        (parts_stand (depth_in (objects o) owner + 1) (parts_of o owner j) (held (inside_of o owner) j v.shape) own.parts (held_depth o owner j v.shape))

    few_names : (n : ℕ) (x : Object) → slice_get (objects o) n ≡ Some x → x.depth ≤ 60
    few_names n x e = subst (λ (y : Object). y.depth ≤ 60) (get_or_from_slice_get (objects o) n x x e) (shallow n x (slice_get_within (objects o) n x e))

    class_flat : (n : ℕ) (m : ℕ) → members_depth (class_member o n) ≤ m
    class_flat n m = omega arith

    object_depth : (levels d n : ℕ) → StandsAt d n → depth (object_within o t levels n) ≤ 2 * (61 - d)
    object_depth zero d n h = omega arith
    object_depth (suc levels) d n h =
        let few = few_names n h.object h.has in
        let is = h.depth_is in
        let owner_depth : depth_in (objects o) (Some n) ≡ d = ap (λ (x : Option Object). option_map_or (λ (y : Object). y.depth) x 0) h.has ∙ h.depth_is in
        let below = variables_depth (object_within o t levels) (d + 1) (2 * (61 - (d + 1))) (λ p s. object_depth levels (d + 1) p s) t (Some n) 0 (variables_of o (Some n)) (class_member o n)
        (λ j v g. subst (λ e. AllStand (e + 1) (parts_of o (Some n) (0 + j))) owner_depth (stands (Some n) (slice_get_within (objects o) n h.object h.has) j v g))
        (class_flat n (suc (2 * (61 - (d + 1))))) in
        omega (arith, below, few, is)

    pub config_depth : depth (config_data o t) ≤ 127
    config_depth =
        let below = variables_depth (object_data o t) 1 120 (λ p s. object_depth (length (objects o)) 1 p s) t None 0 (variables_of o None) no_members (λ j v g. stands None tt j v g) (omega arith) in
        omega (arith, below)

-- a text that is read back as a tree that nests no deeper
pub reads_as : (text : List ℕ) (d e : Data) → IsUtf8 text → (depth d ≤ max_depth → read text ≡ Some d) → d ≡ e → depth e ≤ 127 → value_read text ≡ Some e
reads_as text d e utf8 back same deep =
    ap (λ b. if b then read text else None) (is_utf8-from_IsUtf8 text utf8) ∙ back (subst (λ x. depth x ≤ 127) (sym same) deep) ∙ ap Some same
