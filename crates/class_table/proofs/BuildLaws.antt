-- What each check says of the whole model.
use Rattle.std.proofs.Common.{◌≡◌, ℕ, zero, suc, ◌+◌, ◌^◌, ◌<◌, ◌≤◌, Bool, true, false, cond, List, [], ◌∷◌, ◌++◌, Option, None, Some, length, map, refl, ap, sym, ◌∙◌, subst, arith, Bor}
use Rattle.std.specs.Prelude.{All, Contains, slice_get, slice_index}
use Rattle.std.specs.List.{flat_map}
use Rattle.std.specs.Option.{option_map_or}
use Rattle.conf_syntax.specs.declared.token.Ident.{Ident}
use Rattle.conf_syntax.specs.declared.tree.ClassDecl.{ClassDecl}
use Rattle.conf_syntax.specs.declared.tree.EnumDecl.{EnumDecl}
use Rattle.conf_syntax.specs.declared.tree.Item.{Item}
use Rattle.conf_syntax.specs.declared.tree.Item.TheVariants as item
use Rattle.conf_syntax.specs.declared.tree.VarDecl.{VarDecl}
use Rattle.class_table.specs.declared.fault.TableFault.{TableFault}
use Rattle.class_table.specs.declared.fault.TableFault.TheVariants.{Duplicate, InheritCycle, ContainCycle}
use Rattle.class_table.specs.declared.names.NameMeaning.{NameMeaning}
use Rattle.class_table.specs.declared.names.NameMeaning.TheVariants as meaning
use Rattle.class_table.specs.declared.table.Class.{Class}
use Rattle.class_table.specs.declared.table.Enumeration.{Enumeration}
use Rattle.class_table.specs.declared.table.Variable.{Variable}
use Rattle.graph_walk.specs.declared.walk.State.{State}
use Rattle.class_table.specs.Ancestry.{derives_from_itself, attributes_within}
use Rattle.graph_walk.specs.Cycles.{IsOnCycle, IsPlainCycle, IsOrdered, rank}
use Rattle.class_table.specs.Faults.{Stands, name_repeated, within_item, attribute_repeated, derives_itself, contains_itself, HaveNoFault, IsSmall, IsNumbered, OnFault, item_faults, pointed, repeated, variable_ident, parent_of, attributes_of, class_count}
use Rattle.class_table.specs.Graphs.{derivation, containment}
use Rattle.class_table.specs.Names.{Space, space, space_from, means, same_name, classes, enumerations, roots, declared, own}
use Rattle.class_table.specs.Outline.{class_of, parent_in, own_in, variable_of, attributes, parent_named, class_meant, enumeration_of, value_name, variable_name}
use Rattle.class_table.specs.Scopes.{Falls, HasParents, HasRanks, IsRepeated, Differ, attributes_at, own_at}
use Rattle.class_table.specs.Tables.{IsTable, IsFew, all_differ}
use Rattle.class_table.proofs.DifferLaws.{differ_from}
use Rattle.std.proofs.lemmas.List.Elements.{All-nil, All-cons}
use Rattle.class_table.proofs.ListLaws.{contains_none}
use Rattle.class_table.proofs.CycleFaults.{inherit_cycle, inherit_marked, inherit_falls, inherit_below, no_inherit, contain_cycle, contain_marked, no_contain}
use Rattle.class_table.proofs.FaultLaws.{on_fault}
use Rattle.class_table.proofs.GraphLaws.{parent_found}
use Rattle.class_table.proofs.RangeLaws.{length_pointed}
use Rattle.class_table.proofs.ScopeSteps.{map_append, length_map}

pub contains_map : {X Y : Type 0} (f : X → Y) (xs : List X) (y : Y) → Contains (map f xs) y → (x : X) × (y ≡ f x) × Contains xs x
contains_map f [] y c = absurd (omega (arith, c.1))
contains_map f (x ∷ xs) y (zero, lt, e) = (x, sym e, (0, omega arith, refl))
contains_map f (x ∷ xs) y (suc k, lt, e) =
    let rest = contains_map f xs y (k, omega (arith, lt), e) in
    (rest.0, rest.1, (suc rest.2.0, omega (arith, rest.2.1), rest.2.2))

-- Names

pub names_stand : (items : List Item) (f : TableFault) → OnFault f (λ g. Contains (map (λ at. Duplicate at) (repeated (declared items) [])) g) → OnFault f (Stands items)
names_stand items f h = on_fault f _ (Stands items) (λ g c. let m = contains_map (λ at. Duplicate at) (repeated (declared items) []) g c in subst (Stands items) (sym m.1) (name_repeated m.2)) h

pub numbered_from : (items : List Item) (c e v : ℕ) (w : List ℕ) (k : ℕ) → means (space_from items c e v) w ≡ Some (meaning.Class k) → k < c + length (classes items)
numbered_from [] c e v w k h = cc
numbered_from (item.Class d ∷ is) c e v w k h = by (same_name w d.name.name) (λ g. numbered_from is (c + 1) e v w k g) h
  where
    by : (b : Bool) → (means (space_from is (c + 1) e v) w ≡ Some (meaning.Class k) → k < (c + 1) + length (classes is)) → cond b (Some (meaning.Class c)) (means (space_from is (c + 1) e v) w) ≡ Some (meaning.Class k) → k < c + suc (length (classes is))
    by true more g = let same : c ≡ k = cc in omega arith
    by false more g = let m = more g in omega arith
numbered_from (item.Enum d ∷ is) c e v w k h = by (same_name w d.name.name) (λ g. numbered_from is c (e + 1) v w k g) h
  where
    by : (b : Bool) → (means (space_from is c (e + 1) v) w ≡ Some (meaning.Class k) → k < c + length (classes is)) → cond b (Some (meaning.Enumeration e)) (means (space_from is c (e + 1) v) w) ≡ Some (meaning.Class k) → k < c + length (classes is)
    by true more g = cc
    by false more g = more g
numbered_from (item.Var d ∷ is) c e v w k h = by (same_name w d.name.name) (λ g. numbered_from is c e (v + 1) w k g) h
  where
    by : (b : Bool) → (means (space_from is c e (v + 1)) w ≡ Some (meaning.Class k) → k < c + length (classes is)) → cond b (Some (meaning.Variable v)) (means (space_from is c e (v + 1)) w) ≡ Some (meaning.Class k) → k < c + length (classes is)
    by true more g = cc
    by false more g = more g
numbered_from (item.Where d ∷ is) c e v w k h = numbered_from is c e v w k h
numbered_from (item.Goal d ∷ is) c e v w k h = numbered_from is c e v w k h

pub attributes_map : {X Y : Type 0} (up : ℕ → Option ℕ) (own : ℕ → List X) (own' : ℕ → List Y) (h : X → Y) → ((c : ℕ) → own' c ≡ map h (own c)) → (n k c : ℕ) → attributes_within up own' n k c ≡ map h (attributes_within up own n k c)
attributes_map up own own' h each n zero c = each c
attributes_map up own own' h each n (suc k) c =
    ap (λ xs. xs ++ own' c) (front (derives_from_itself up n c) (up c) (λ q. attributes_map up own own' h each n k q))
    ∙ ap (λ ys. map h (cond (derives_from_itself up n c) [] (option_map_or (attributes_within up own n k) (up c) [])) ++ ys) (each c)
    ∙ sym (map_append h (cond (derives_from_itself up n c) [] (option_map_or (attributes_within up own n k) (up c) [])) (own c))
  where
    front : (b : Bool) (o : Option ℕ) → ((q : ℕ) → attributes_within up own' n k q ≡ map h (attributes_within up own n k q)) → cond b [] (option_map_or (attributes_within up own' n k) o []) ≡ map h (cond b [] (option_map_or (attributes_within up own n k) o []))
    front true o more = refl
    front false None more = refl
    front false (Some q) more = more q

pub own_row : (names : Space) (ds : List ClassDecl) (c : ℕ) → own_in (map (class_of names) ds) c ≡ map (variable_of names) (own_at ds c)
own_row names [] c = refl
own_row names (d ∷ ds) zero = refl
own_row names (d ∷ ds) (suc c) = own_row names ds c

pub length_rows : (names : Space) (ds : List ClassDecl) → length (map (class_of names) ds) ≡ length ds
length_rows names [] = refl
length_rows names (d ∷ ds) = ap suc (length_rows names ds)

module _ (items : List Item) where
  pub numbered : (names : Space) (ds : List (Bor ClassDecl)) → names ≡ space items → pointed ds ≡ classes items → IsNumbered names (length ds)
  numbered names ds e1 e2 w c h =
      let k = numbered_from items 0 0 0 w c (ap (λ n. means n w) (sym e1) ∙ h) in
      omega (arith, k, ap length e2, length_pointed ds)

  pub items_stand : (names : Space) (ds : List (Bor ClassDecl)) (f : TableFault) → names ≡ space items → pointed ds ≡ classes items → OnFault f (λ g. Contains (flat_map (item_faults names (pointed ds)) items) g) → OnFault f (Stands items)
  items_stand names ds f e1 e2 h =
      on_fault f (λ g. Contains (flat_map (item_faults names (pointed ds)) items) g) (Stands items)
      (λ g c. within_item (subst (λ n. Contains (flat_map (item_faults n (classes items)) items) g) e1 (subst (λ x. Contains (flat_map (item_faults names x) items) g) e2 c))) h

  made_derivation : (names : Space) (ds : List ClassDecl) → names ≡ space items → ds ≡ classes items → derivation names ds ≡ derivation (space items) (classes items)
  made_derivation names ds e1 e2 = ap (λ n. derivation n ds) e1 ∙ ap (λ x. derivation (space items) x) e2

  made_containment : (names : Space) (ds : List ClassDecl) → names ≡ space items → ds ≡ classes items → containment names ds ≡ containment (space items) (classes items)
  made_containment names ds e1 e2 = ap (λ n. containment n ds) e1 ∙ ap (λ x. containment (space items) x) e2

  pub derivation_marked : (names : Space) (ds : List ClassDecl) → names ≡ space items → ds ≡ classes items → IsPlainCycle (derivation names ds) → ⊥
  derivation_marked names ds e1 e2 h = inherit_marked items (subst IsPlainCycle (made_derivation names ds e1 e2) h)

  pub derivation_stand : (names : Space) (ds : List ClassDecl) (f : TableFault) → names ≡ space items → ds ≡ classes items → OnFault f (λ g. (at : ℕ) × (g ≡ InheritCycle at) × IsOnCycle (derivation names ds) at) → OnFault f (Stands items)
  derivation_stand names ds f e1 e2 h =
      on_fault f (λ g. (at : ℕ) × (g ≡ InheritCycle at) × IsOnCycle (derivation names ds) at) (Stands items)
      (λ g c. subst (Stands items) (sym c.1) (inherit_cycle items c.0 (subst (λ x. IsOnCycle x c.0) (made_derivation names ds e1 e2) c.2))) h

  -- what holds once derivation is ordered
  module _ (names : Space) (ds : List ClassDecl) (made : List Class) (order : List State) (e1 : names ≡ space items) (e2 : ds ≡ classes items) (e3 : made ≡ map (class_of (space items)) (classes items)) (o : IsOrdered (derivation names ds) order) where
    o' : IsOrdered (derivation (space items) (classes items)) order
    o' = subst (λ x. IsOrdered x order) (made_derivation names ds e1 e2) o

    falls : Falls (parent_of items) (rank order)
    falls = inherit_falls items order o'

    below : (c : ℕ) → c < class_count items → rank order c < class_count items
    below = inherit_below items order o'

    made_length : length made ≡ class_count items
    made_length = ap length e3 ∙ length_rows (space items) (classes items)

    pub made_size : length made ≡ length ds
    made_size = made_length ∙ ap length (sym e2)

    pub made_ranks : HasRanks made
    made_ranks = subst HasRanks (sym e3) (record { rank = rank order; falls = falls; below = λ c h. by c h })
      where
        by : (c : ℕ) → c < length (map (class_of (space items)) (classes items)) → rank order c < length (map (class_of (space items)) (classes items))
        by c h = let b = below c (omega (arith, h, length_rows (space items) (classes items))) in omega (arith, b, length_rows (space items) (classes items))

    pub made_parents : HasParents made
    made_parents = subst HasParents (sym e3) (λ c q h. by c q (parent_found items c q h))
      where
        by : (c q : ℕ) → (d : ClassDecl) × (slice_get (classes items) c ≡ Some d) × (parent_named (space items) d.parent ≡ Some q) → q < length (map (class_of (space items)) (classes items))
        by c q (d, is, up) = named d.parent up
          where
            meant : (m : Option NameMeaning) (w : List ℕ) → means (space items) w ≡ m → class_meant m ≡ Some q → q < length (map (class_of (space items)) (classes items))
            meant None w e g = cc
            meant (Some (meaning.Class k)) w e g =
                let same : k ≡ q = cc in
                let lt = numbered_from items 0 0 0 w k e in
                omega (arith, lt, length_rows (space items) (classes items))
            meant (Some (meaning.Enumeration k)) w e g = cc
            meant (Some (meaning.Variable k)) w e g = cc

            named : (x : Option Ident) → parent_named (space items) x ≡ Some q → q < length (map (class_of (space items)) (classes items))
            named None g = cc
            named (Some i) g = meant (means (space items) i.name) i.name refl g

    attributes_are : (c : ℕ) → attributes_at made ds c ≡ attributes_of items c
    attributes_are c = ap (λ x. attributes_at x ds c) e3 ∙ ap (λ x. attributes_at (map (class_of (space items)) (classes items)) x c) e2

    pub repeated_stand : (f : TableFault) → OnFault f (IsRepeated made ds) → OnFault f (Stands items)
    repeated_stand f h =
        on_fault f (IsRepeated made ds) (Stands items)
        (λ g r. subst (Stands items) (sym r.3) (attribute_repeated r.0 (omega (arith, r.2, ap length e2)) (subst (λ vs. Contains (repeated (map variable_ident vs) []) r.1) (attributes_are r.0) r.4))) h

    pub containment_marked : IsPlainCycle (containment names ds) → ⊥
    containment_marked h = contain_marked items (rank order) falls below (subst IsPlainCycle (made_containment names ds e1 e2) h)

    pub containment_stand : (f : TableFault) → OnFault f (λ g. (at : ℕ) × (g ≡ ContainCycle at) × IsOnCycle (containment names ds) at) → OnFault f (Stands items)
    containment_stand f h =
        on_fault f (λ g. (at : ℕ) × (g ≡ ContainCycle at) × IsOnCycle (containment names ds) at) (Stands items)
        (λ g c. subst (Stands items) (sym c.1) (contain_cycle items (rank order) falls below c.0 (subst (λ x. IsOnCycle x c.0) (made_containment names ds e1 e2) c.2))) h

    attribute_count : (c : ℕ) → length (attributes made c) ≡ length (attributes_at made ds c)
    attribute_count c =
        let each : (x : ℕ) → own_in made x ≡ map (variable_of (space items)) (own_at ds x) = λ x. ap (λ y. own_in y x) e3 ∙ own_row (space items) (classes items) x ∙ ap (λ y. map (variable_of (space items)) (own_at y x)) (sym e2) in
        ap (λ n. length (attributes_within (parent_in made) (own_in made) n n c)) made_size
        ∙ ap length (attributes_map (parent_in made) (own_at ds) (own_in made) (variable_of (space items)) each (length ds) (length ds) c)
        ∙ length_map (variable_of (space items)) (attributes_at made ds c)

    attribute_names : (c : ℕ) → map variable_name (attributes made c) ≡ map value_name (map variable_ident (attributes_at made ds c))
    attribute_names c =
        let each : (x : ℕ) → own_in made x ≡ map (variable_of (space items)) (own_at ds x) = λ x. ap (λ y. own_in y x) e3 ∙ own_row (space items) (classes items) x ∙ ap (λ y. map (variable_of (space items)) (own_at y x)) (sym e2) in
        ap (λ n. map variable_name (attributes_within (parent_in made) (own_in made) n n c)) made_size
        ∙ ap (map variable_name) (attributes_map (parent_in made) (own_at ds) (own_in made) (variable_of (space items)) each (length ds) (length ds) c)
        ∙ same_names (attributes_at made ds c)
      where
        same_names : (vs : List VarDecl) → map variable_name (map (variable_of (space items)) vs) ≡ map value_name (map variable_ident vs)
        same_names [] = refl
        same_names (v ∷ vs) = ap (λ ws. v.name.name ∷ ws) (same_names vs)

    pub is_table : (counts : List ℕ) → length counts ≡ length ds → ((c : ℕ) → c < length ds → slice_index counts c ≡ length (attributes_at made ds c)) → ((c : ℕ) → c < length ds → Differ made ds c) → IsTable made counts order
    is_table counts size count differ =
        record {
          parents = made_parents;
          falls = subst (λ x. Falls (parent_in x) (rank order)) (sym e3) falls;
          below = λ c h. let b = below c (omega (arith, h, made_length)) in omega (arith, b, made_length);
          size = size ∙ sym made_size;
          counted = λ c h. count c (omega (arith, h, made_size)) ∙ sym (attribute_count c);
          differ = λ c h. ap (λ ws. all_differ ws []) (attribute_names c) ∙ differ_from (map variable_ident (attributes_at made ds c)) [] (differ c (omega (arith, h, made_size)));
        }

    pub no_fault : ((c : ℕ) → c < length ds → Differ made ds c) → (states : List State) × IsOrdered (containment names ds) states → HaveNoFault items
    no_fault differ (states, contained) =
        record {
          derivation = no_inherit items (rank order) falls below;
          attributes = λ c h. subst (λ vs. repeated (map variable_ident vs) [] ≡ []) (attributes_are c) (differ c (omega (arith, h, ap length e2)));
          containment = no_contain items (rank order) falls below states (subst (λ x. IsOrdered x states) (made_containment names ds e1 e2) contained);
        }

-- Numbers that fit

classes_le : (items : List Item) → length (classes items) ≤ length items
classes_le [] = omega arith
classes_le (item.Class d ∷ is) = let r = classes_le is in omega arith
classes_le (item.Enum d ∷ is) = let r = classes_le is in omega arith
classes_le (item.Var d ∷ is) = let r = classes_le is in omega arith
classes_le (item.Where d ∷ is) = let r = classes_le is in omega arith
classes_le (item.Goal d ∷ is) = let r = classes_le is in omega arith

roots_le : (items : List Item) → length (roots items) ≤ length items
roots_le [] = omega arith
roots_le (item.Class d ∷ is) = let r = roots_le is in omega arith
roots_le (item.Enum d ∷ is) = let r = roots_le is in omega arith
roots_le (item.Var d ∷ is) = let r = roots_le is in omega arith
roots_le (item.Where d ∷ is) = let r = roots_le is in omega arith
roots_le (item.Goal d ∷ is) = let r = roots_le is in omega arith

pub classes_few : (items : List Item) (ds : List ClassDecl) → ds ≡ classes items → IsSmall items → length ds < 2 ^ 32
classes_few items ds e small = omega (arith, classes_le items, ap length e, small.items_few)

pub decls_few : (items : List Item) (ds : List (Bor ClassDecl)) → pointed ds ≡ classes items → IsSmall items → length ds < 2 ^ 32
decls_few items ds e small = omega (arith, classes_le items, ap length e, length_pointed ds, small.items_few)

pub made_few : (items : List Item) (made : List Class) → made ≡ map (class_of (space items)) (classes items) → IsSmall items → length made < 2 ^ 32
made_few items made e small = omega (arith, classes_le items, ap length e, length_rows (space items) (classes items), small.items_few)

pub roots_few : (items : List Item) (made : List Variable) → made ≡ map (variable_of (space items)) (roots items) → IsSmall items → length made < 2 ^ 32
roots_few items made e small = omega (arith, roots_le items, ap length e, length_map (variable_of (space items)) (roots items), small.items_few)

pub values_few : (items : List Item) (made : List Enumeration) → made ≡ map enumeration_of (enumerations items) → IsSmall items → All IsFew made
values_few items made e small = subst (All IsFew) (sym e) (all (enumerations items) small.values_few)
  where
    all : (ds : List EnumDecl) → ((d : EnumDecl) → Contains ds d → length d.values < 2 ^ 32) → All IsFew (map enumeration_of ds)
    all [] h = All-nil IsFew
    all (d ∷ ds) h =
        let few = h d (0, omega arith, refl) in
        All-cons IsFew (enumeration_of d) (map enumeration_of ds) (omega (arith, few, length_map value_name d.values)) (all ds (λ x c. h x (suc c.0, omega (arith, c.1), c.2)))

-- No fault stands

pub no_stand : (items : List Item) → repeated (declared items) [] ≡ [] → flat_map (item_faults (space items) (classes items)) items ≡ [] → HaveNoFault items → (f : TableFault) → Stands items f → ⊥
no_stand items names within h (Duplicate at) (name_repeated c) = contains_none at (subst (λ xs. Contains xs at) names c)
no_stand items names within h f (within_item c) = contains_none f (subst (λ xs. Contains xs f) within c)
no_stand items names within h (Duplicate at) (attribute_repeated k lt c) = contains_none at (subst (λ xs. Contains xs at) (h.attributes k lt) c)
no_stand items names within h f (derives_itself k n d i is p s) = h.derivation n k s
no_stand items names within h (ContainCycle at) (contains_itself c d n v has holds s) = h.containment c d n at v has holds s
