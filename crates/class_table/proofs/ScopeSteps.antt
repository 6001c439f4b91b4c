-- What a step of a walk down the classes keeps of the names in scope.
use Rattle.std.proofs.Common.{◌≡◌, ℕ, zero, suc, ◌+◌, ◌-◌, ◌<◌, ◌≤◌, ◌^◌, List, [], ◌∷◌, ◌++◌, Option, None, Some, length, map, take, refl, ap, sym, ◌∙◌, subst, arith, ◌⊎◌, inl, inr, length-append, append_assoc, append-nil}
use Rattle.std.proofs.Math.ListN.{set, length-set}
use Rattle.std.proofs.lemmas.Bool.{cases_eq}
use Rattle.std.proofs.lemmas.List.{get_or-set_same, get_or-set_other}
use Rattle.std.specs.Prelude.{slice_index, Contains}
use Rattle.std.specs.List.{flat_map, list_any}
use Rattle.conf_syntax.specs.declared.token.Ident.{Ident}
use Rattle.conf_syntax.specs.declared.tree.ClassDecl.{ClassDecl}
use Rattle.conf_syntax.specs.declared.tree.VarDecl.{VarDecl}
use Rattle.conf_syntax.specs.OnlyIf.{only_if}
use Rattle.class_table.specs.declared.fault.TableFault.{TableFault}
use Rattle.class_table.specs.declared.fault.TableFault.TheVariants.{Duplicate}
use Rattle.class_table.specs.declared.table.Class.{Class}
use Rattle.graph_walk.specs.declared.walk.State.{State}
use Rattle.graph_walk.specs.declared.walk.State.TheVariants.{New, Open, Done}
use Rattle.class_table.specs.Faults.{repeated, variable_ident}
use Rattle.class_table.specs.Names.{own, same_name}
use Rattle.class_table.specs.Outline.{parent_in, value_name}
use Rattle.class_table.specs.Scopes.{IsFamily, IsScope, IsRepeated, RootsReached, Differ, attributes_at, own_at, names_of, open_own, open_weight}
use Rattle.graph_walk.specs.Walk.{Graph, edges_at, edge_at, state_at, IsNew, IsOpen, IsDone, IsDoneBefore, IsWalk, IsRight, fresh, Enters, Passes, Leaves, StandsAt, Links, looked_at}
use Rattle.class_table.proofs.AncestryLaws.{attributes_next, at_top}
use Rattle.graph_walk.proofs.WalkLaws.{state_other, path_front, path_last, new_no_open, top_open, top_on, fresh_at}
use Rattle.graph_walk.proofs.CycleLaws.{looked}

-- Names that stand before

repeated_append : (xs ys : List Ident) (seen : List (List ℕ)) → repeated (xs ++ ys) seen ≡ repeated xs seen ++ repeated ys (seen ++ map value_name xs)
repeated_append [] ys seen = ap (λ s. repeated ys s) (sym (append-nil seen))
repeated_append (x ∷ xs) ys seen =
    let rest = repeated_append xs ys (seen ++ x.name ∷ []) in
    let same : (seen ++ x.name ∷ []) ++ map value_name xs ≡ seen ++ (x.name ∷ map value_name xs) = append_assoc seen (x.name ∷ []) (map value_name xs) in
    ap (λ t. only_if (list_any (same_name x.name) seen) x.at ++ t) (rest ∙ ap (λ s. repeated xs (seen ++ x.name ∷ []) ++ repeated ys s) same)
    ∙ sym (append_assoc (only_if (list_any (same_name x.name) seen) x.at) (repeated xs (seen ++ x.name ∷ [])) (repeated ys (seen ++ (x.name ∷ map value_name xs))))

pub map_append : {X Y : Type 0} (f : X → Y) (xs ys : List X) → map f (xs ++ ys) ≡ map f xs ++ map f ys
map_append f [] ys = refl
map_append f (x ∷ xs) ys = ap (λ t. f x ∷ t) (map_append f xs ys)

names_append : (xs ys : List VarDecl) → names_of (xs ++ ys) ≡ names_of xs ++ names_of ys
names_append xs ys = ap (λ t. map value_name t) (map_append variable_ident xs ys) ∙ map_append value_name (map variable_ident xs) (map variable_ident ys)

pub length_map : {X Y : Type 0} (f : X → Y) (xs : List X) → length (map f xs) ≡ length xs
length_map f [] = refl
length_map f (x ∷ xs) = ap suc (length_map f xs)

length_names : (vs : List VarDecl) → length (names_of vs) ≡ length vs
length_names vs = length_map value_name (map variable_ident vs) ∙ length_map variable_ident vs

take_front : {X : Type 0} (xs ys : List X) (n : ℕ) → n ≡ length xs → take n (xs ++ ys) ≡ xs
take_front [] ys n e = ap (λ k. take k ys) e
take_front (x ∷ xs) ys zero e = absurd (omega arith)
take_front (x ∷ xs) ys (suc n) e = ap (λ t. x ∷ t) (take_front xs ys n (omega arith))

-- How many names the open classes declare

open_set : (ss : List State) (ds : List ClassDecl) (i : ℕ) (v : State) → i < length ss → open_own (set ss i v) ds + open_weight (state_at ss i) (length (own_at ds i)) ≡ open_own ss ds + open_weight v (length (own_at ds i))
open_set [] ds i v h = absurd (omega (arith, h))
open_set (s ∷ ss) [] zero v h = zeros s v
  where
    none : (s : State) → open_weight s 0 ≡ 0
    none (New n) = refl
    none (Open n) = refl
    none (Done n) = refl

    zeros : (s v : State) → 0 + open_weight s 0 ≡ 0 + open_weight v 0
    zeros s v = let a = none s in let b = none v in omega arith
open_set (s ∷ ss) [] (suc i) v h = zeros (state_at ss i) v
  where
    none : (s : State) → open_weight s 0 ≡ 0
    none (New n) = refl
    none (Open n) = refl
    none (Done n) = refl

    zeros : (s v : State) → 0 + open_weight s 0 ≡ 0 + open_weight v 0
    zeros s v = let a = none s in let b = none v in omega arith
open_set (s ∷ ss) (d ∷ ds) zero v h = omega arith
open_set (s ∷ ss) (d ∷ ds) (suc i) v h = let rest = open_set ss ds i v (omega (arith, h)) in omega (arith, rest)

open_le : (ss : List State) (ds : List ClassDecl) → open_own ss ds ≤ length (flat_map own ds)
open_le [] ds = omega arith
open_le (s ∷ ss) [] = omega arith
open_le (s ∷ ss) (d ∷ ds) =
    let rest = open_le ss ds in
    let one = weight_le s (length (own d)) in
    let both = length-append (own d) (flat_map own ds) in
    omega arith
  where
    weight_le : (s : State) (n : ℕ) → open_weight s n ≤ n
    weight_le (New l) n = omega arith
    weight_le (Open l) n = omega arith
    weight_le (Done l) n = omega arith

-- Two paths with one more node each

snoc_length : (p q : List ℕ) (d c : ℕ) → p ++ d ∷ [] ≡ q ++ c ∷ [] → length p ≡ length q
snoc_length p q d c e = omega (arith, ap length e, length-append p (d ∷ []), length-append q (c ∷ []))

snoc_last : (p q : List ℕ) (d c : ℕ) → p ++ d ∷ [] ≡ q ++ c ∷ [] → d ≡ c
snoc_last p q d c e = sym (path_last p d) ∙ ap (λ xs. slice_index xs (length p)) e ∙ ap (λ n. slice_index (q ++ c ∷ []) n) (snoc_length p q d c e) ∙ path_last q c

module _ (cs : List Class) (ds : List ClassDecl) (g : Graph) (f : IsFamily cs ds g) where
  attributes_below : (c q : ℕ) → c < length ds → parent_in cs c ≡ Some q → attributes_at cs ds c ≡ attributes_at cs ds q ++ own_at ds c
  attributes_below c q on up = let b = f.below c on in attributes_next (parent_in cs) f.rank f.falls (own_at ds) (length ds) (length ds) c q (omega (arith, b)) up

  attributes_top : (c : ℕ) → parent_in cs c ≡ None → attributes_at cs ds c ≡ own_at ds c
  attributes_top c up = at_top (parent_in cs) f.rank f.falls (own_at ds) (length ds) (length ds) c up

  states_size : (ss : List State) (p : List ℕ) (time : ℕ) → IsWalk g ss p time → length ss ≡ length ds
  states_size ss p time w = w.size ∙ f.children.size ∙ f.size

  -- where the walk stands before it enters a class
  pub data Above (p : List ℕ) (d : ℕ) : Type 0 where
    alone : p ≡ [] → parent_in cs d ≡ None → Above p d
    under : (q : List ℕ) (c : ℕ) → p ≡ q ++ c ∷ [] → parent_in cs d ≡ Some c → Above p d

  pub stands_above : (ss : List State) (p : List ℕ) (time d : ℕ) → IsWalk g ss p time → StandsAt g ss p d → Above p d
  stands_above ss p time d w s =
      let on = top_on g ss p s.front time s.node w s.top in
      let l = looked g ss time s.node d (state_at ss s.node) (w.right s.node on) s.links in
      let sound = f.children.sound s.node (looked_at (state_at ss s.node)) l.within in
      under s.front s.node s.top (subst (λ x. parent_in cs x ≡ Some s.node) l.to sound.1)

  pub record Entered (names : List (List ℕ)) (d : ℕ) : Type 0 where
    pub is : names ++ names_of (own_at ds d) ≡ names_of (attributes_at cs ds d)
    pub parts : repeated (map variable_ident (attributes_at cs ds d)) [] ≡ repeated (map variable_ident (own_at ds d)) names
    pub length_is : length (attributes_at cs ds d) ≡ length names + length (own_at ds d)

  comes : (ss : List State) (p : List ℕ) (time d : ℕ) (names : List (List ℕ)) (counts : List ℕ) → IsWalk g ss p time → IsScope cs ds ss p names counts → d < length ds → Above p d → Entered names d
  comes ss p time d names counts w s on (alone none top) =
      let attrs = attributes_top d top in
      let empty = s.empty none in
      record {
        is = ap (λ n. n ++ names_of (own_at ds d)) empty ∙ ap names_of (sym attrs);
        parts = ap (λ xs. repeated (map variable_ident xs) []) attrs ∙ ap (λ n. repeated (map variable_ident (own_at ds d)) n) (sym empty);
        length_is = omega (arith, ap length attrs, ap length empty);
      }
  comes ss p time d names counts w s on (under q c top up) =
      let attrs = attributes_below d c on up in
      let here = s.top q c top in
      let opened = top_open g ss p q time c w top in
      let c_on : c < length ds = omega (arith, f.children.size, f.size, on_path) in
      let checked = s.checked c c_on (λ new. new_no_open (state_at ss c) new opened) in
      record {
        is = ap (λ n. n ++ names_of (own_at ds d)) here ∙ sym (names_append (attributes_at cs ds c) (own_at ds d)) ∙ ap names_of (sym attrs);
        parts =
            ap (λ xs. repeated (map variable_ident xs) []) attrs
            ∙ ap (λ xs. repeated xs []) (map_append variable_ident (attributes_at cs ds c) (own_at ds d))
            ∙ repeated_append (map variable_ident (attributes_at cs ds c)) (map variable_ident (own_at ds d)) []
            ∙ ap (λ xs. xs ++ repeated (map variable_ident (own_at ds d)) (names_of (attributes_at cs ds c))) checked.0
            ∙ ap (λ n. repeated (map variable_ident (own_at ds d)) n) (sym here);
        length_is = omega (arith, ap length attrs, length-append (attributes_at cs ds c) (own_at ds d), ap length here, length_names (attributes_at cs ds c));
      }
    where
      on_path : c < length g
      on_path = top_on g ss p q time c w top

  -- a class is entered
  pub scope_enter : (ss : List State) (p : List ℕ) (time d : ℕ) (names : List (List ℕ)) (counts : List ℕ) (ss' : List State) (p' : List ℕ) (names' : List (List ℕ)) (counts' : List ℕ) → IsWalk g ss p time → IsScope cs ds ss p names counts → Enters g ss p d ss' p' → Above p d → names' ≡ names ++ names_of (own_at ds d) → repeated (map variable_ident (own_at ds d)) names ≡ [] → counts' ≡ set counts d (length names') → IsScope cs ds ss' p' names' counts'
  scope_enter ss p time d names counts ss' p' names' counts' w s e above more differ count =
      let on : d < length ds = omega (arith, e.on_graph, f.children.size, f.size) in
      let c = comes ss p time d names counts w s on above in
      let within : d < length ss = omega (arith, on, states_size ss p time w) in
      let all : names' ≡ names_of (attributes_at cs ds d) = more ∙ c.is in
      let sums = open_set ss ds d (Open e.edges) within in
      let was : open_weight (state_at ss d) (length (own_at ds d)) ≡ 0 = ap (λ x. open_weight x (length (own_at ds d))) e.was in
      let now : open_own ss' ds ≡ open_own (set ss d (Open e.edges)) ds = ap (λ x. open_own x ds) e.states in
      let longer = length-append names (names_of (own_at ds d)) in
      record {
        top = λ q x top. all ∙ ap (λ y. names_of (attributes_at cs ds y)) (snoc_last p q d x (sym e.path_is ∙ top));
        empty = λ none. absurd (omega (arith, ap length (sym e.path_is ∙ none), length-append p (d ∷ [])));
        root = λ h. root above (cases_eq (length p) 0);
        checked = λ x a b. checked c.parts c.length_is x a b (cases_eq x d);
        size = ap length count ∙ length-set counts d (length names') ∙ s.size;
        open_names = omega (arith, ap length more, longer, length_names (own_at ds d), s.open_names);
      }
    where
      on' : d < length ds
      on' = omega (arith, e.on_graph, f.children.size, f.size)

      root : Above p d → (length p ≡ 0) ⊎ (length p ≡ 0 → ⊥) → parent_in cs (slice_index p' 0) ≡ None
      root (alone none top) t = ap (λ x. parent_in cs x) (ap (λ xs. slice_index xs 0) (e.path_is ∙ ap (λ xs. xs ++ d ∷ []) none)) ∙ top
      root (under q x top up) (inl z) = absurd (omega (arith, ap length top, length-append q (x ∷ [])))
      root (under q x top up) (inr z) =
          let some : 0 < length p = omega arith in
          ap (λ x. parent_in cs x) (ap (λ xs. slice_index xs 0) e.path_is ∙ path_front p d 0 some) ∙ s.root some

      checked : repeated (map variable_ident (attributes_at cs ds d)) [] ≡ repeated (map variable_ident (own_at ds d)) names → length (attributes_at cs ds d) ≡ length names + length (own_at ds d) → (x : ℕ) → x < length ds → (IsNew (state_at ss' x) → ⊥) → (x ≡ d) ⊎ (x ≡ d → ⊥) → Differ cs ds x × (slice_index counts' x ≡ length (attributes_at cs ds x))
      checked parts len x a b (inl i) =
          let at_d : slice_index counts' d ≡ length names' = ap (λ xs. slice_index xs d) count ∙ get_or-set_same counts d (length names') 0 (omega (arith, on', s.size)) in
          let same : length names' ≡ length (attributes_at cs ds d) = omega (arith, ap length more, length-append names (names_of (own_at ds d)), length_names (own_at ds d)) in
          subst (λ y. Differ cs ds y × (slice_index counts' y ≡ length (attributes_at cs ds y))) (sym i) (parts ∙ differ, at_d ∙ same)
      checked parts len x a b (inr ne) =
          let state_is : state_at ss' x ≡ state_at ss x = ap (λ y. state_at y x) e.states ∙ state_other ss d x (Open e.edges) ne in
          let old = s.checked x a (λ new. b (subst IsNew (sym state_is) new)) in
          (old.0, ap (λ xs. slice_index xs x) count ∙ get_or-set_other counts d x (length names') 0 ne ∙ old.1)

  -- there is room for the number of its names
  pub scope_room : (ss : List State) (p : List ℕ) (time d : ℕ) (names : List (List ℕ)) (counts : List ℕ) → IsWalk g ss p time → IsScope cs ds ss p names counts → d < length ds → IsNew (state_at ss d) → length names + length (own_at ds d) < 2 ^ 32
  scope_room ss p time d names counts w s on new =
      let within : d < length ss = omega (arith, on, states_size ss p time w) in
      let sums = open_set ss ds d (Open 0) within in
      let was = zero_weight (state_at ss d) new in
      let most = open_le (set ss d (Open 0)) ds in
      omega (arith, f.few, s.open_names)
    where
      zero_weight : (x : State) → IsNew x → open_weight x (length (own_at ds d)) ≡ 0
      zero_weight (New n) h = refl
      zero_weight (Open n) h = absurd h
      zero_weight (Done n) h = absurd h

  -- a name that stands before refutes the class
  pub scope_repeated : (ss : List State) (p : List ℕ) (time d at : ℕ) (names : List (List ℕ)) (counts : List ℕ) (fault : TableFault) → IsWalk g ss p time → IsScope cs ds ss p names counts → d < length ds → Above p d → fault ≡ Duplicate at → Contains (repeated (map variable_ident (own_at ds d)) names) at → IsRepeated cs ds fault
  scope_repeated ss p time d at names counts fault w s on above is has =
      let c = comes ss p time d names counts w s on above in
      (d, at, on, is, subst (λ xs. Contains xs at) (sym c.parts) has)

  -- an edge is passed
  pub scope_pass : (ss : List State) (p : List ℕ) (time : ℕ) (names : List (List ℕ)) (counts : List ℕ) (ss' : List State) (p' : List ℕ) → IsWalk g ss p time → IsScope cs ds ss p names counts → Passes g ss p ss' p' → IsScope cs ds ss' p' names counts
  scope_pass ss p time names counts ss' p' w s e =
      let on = top_on g ss p e.front time e.node w e.top in
      let within : e.node < length ss = omega (arith, on, w.size) in
      let sums = open_set ss ds e.node (Open e.edges) within in
      let was : open_weight (state_at ss e.node) (length (own_at ds e.node)) ≡ length (own_at ds e.node) = ap (λ x. open_weight x (length (own_at ds e.node))) e.was in
      let now : open_own ss' ds ≡ open_own (set ss e.node (Open e.edges)) ds = ap (λ x. open_own x ds) e.states in
      record {
        top = λ q x top. s.top q x (sym e.path_is ∙ top);
        empty = λ none. s.empty (sym e.path_is ∙ none);
        root = λ h. subst (λ xs. parent_in cs (slice_index xs 0) ≡ None) (sym e.path_is) (s.root (subst (λ xs. 0 < length xs) e.path_is h));
        checked = λ x a b. s.checked x a (λ new. b (still x new (cases_eq x e.node)));
        size = s.size;
        open_names = omega (arith, s.open_names);
      }
    where
      still : (x : ℕ) → IsNew (state_at ss x) → (x ≡ e.node) ⊎ (x ≡ e.node → ⊥) → IsNew (state_at ss' x)
      still x new (inl i) = absurd (subst IsNew (ap (λ y. state_at ss y) i ∙ e.was) new)
      still x new (inr ne) = subst IsNew (sym (ap (λ y. state_at y x) e.states ∙ state_other ss e.node x (Open e.edges) ne)) new

  -- a class is left
  pub scope_leave : (ss : List State) (p : List ℕ) (time c kept : ℕ) (names : List (List ℕ)) (counts : List ℕ) (ss' : List State) (p' : List ℕ) (names' : List (List ℕ)) → IsWalk g ss p time → IsScope cs ds ss p names counts → Leaves g ss p time c ss' p' → (p' ≡ [] → kept ≡ 0) → ((q : List ℕ) (b : ℕ) → p' ≡ q ++ b ∷ [] → kept ≡ slice_index counts b) → names' ≡ take kept names → IsScope cs ds ss' p' names' counts
  scope_leave ss p time c kept names counts ss' p' names' w s e none some cut =
      record {
        top = λ q b top. front q b top;
        empty = λ gone. cut ∙ ap (λ n. take n names) (none gone) ∙ take_none names;
        root = λ h. subst (λ x. parent_in cs x ≡ None) (ap (λ xs. slice_index xs 0) e.top ∙ path_front p' c 0 h) (s.root (omega (arith, h, ap length e.top, length-append p' (c ∷ []))));
        checked = λ x a b. s.checked x a (λ new. b (still x new (cases_eq x c)));
        size = s.size;
        open_names = fewer (split p');
      }
    where
      take_none : {X : Type 0} (xs : List X) → take 0 xs ≡ []
      take_none [] = refl
      take_none (x ∷ xs) = refl

      on : c < length g
      on = top_on g ss p p' time c w e.top

      still : (x : ℕ) → IsNew (state_at ss x) → (x ≡ c) ⊎ (x ≡ c → ⊥) → IsNew (state_at ss' x)
      still x new (inl i) = absurd (subst IsNew (ap (λ y. state_at ss y) i ∙ e.was) new)
      still x new (inr ne) = subst IsNew (sym (ap (λ y. state_at y x) e.states ∙ state_other ss c x (Done time) ne)) new

      -- the class below the one that is left
      below : (q : List ℕ) (b : ℕ) → p' ≡ q ++ b ∷ [] → parent_in cs c ≡ Some b
      below q b top =
          let whole : p ≡ (q ++ b ∷ []) ++ c ∷ [] = e.top ∙ ap (λ xs. xs ++ c ∷ []) top in
          let v = subst (λ x. IsWalk g ss x time) whole w in
          let n = length-append q (b ∷ []) in
          let m = length-append (q ++ b ∷ []) (c ∷ []) in
          let next : suc (length q) < length ((q ++ b ∷ []) ++ c ∷ []) = omega arith in
          let here : slice_index ((q ++ b ∷ []) ++ c ∷ []) (length q) ≡ b = path_front (q ++ b ∷ []) c (length q) (omega arith) ∙ path_last q b in
          let len : suc (length q) ≡ length (q ++ b ∷ []) = omega arith in
          let after : slice_index ((q ++ b ∷ []) ++ c ∷ []) (suc (length q)) ≡ c = ap (λ k. slice_index ((q ++ b ∷ []) ++ c ∷ []) k) len ∙ path_last (q ++ b ∷ []) c in
          let links = subst (λ y. Links g b (state_at ss b) y) after (subst (λ x. Links g x (state_at ss x) (slice_index ((q ++ b ∷ []) ++ c ∷ []) (suc (length q)))) here (v.linked (length q) next)) in
          let b_on = subst (λ x. x < length g) here (v.on_graph (length q) (omega arith)) in
          let l = looked g ss time b c (state_at ss b) (v.right b b_on) links in
          let sound = f.children.sound b (looked_at (state_at ss b)) l.within in
          subst (λ x. parent_in cs x ≡ Some b) l.to sound.1

      b_checked : (q : List ℕ) (b : ℕ) → p' ≡ q ++ b ∷ [] → slice_index counts b ≡ length (attributes_at cs ds b)
      b_checked q b top =
          let i : length q < length p' = omega (arith, ap length top, length-append q (b ∷ [])) in
          let here : slice_index p (length q) ≡ b = ap (λ xs. slice_index xs (length q)) e.top ∙ path_front p' c (length q) i ∙ ap (λ xs. slice_index xs (length q)) top ∙ path_last q b in
          let j : length q < length p = omega (arith, i, ap length e.top, length-append p' (c ∷ [])) in
          let opened = subst (λ x. IsOpen (state_at ss x)) here (w.opened (length q) j) in
          let b_on = subst (λ x. x < length g) here (w.on_graph (length q) j) in
          (s.checked b (omega (arith, b_on, f.children.size, f.size)) (λ new. new_no_open (state_at ss b) new opened)).1

      c_on : c < length ds
      c_on = omega (arith, on, f.children.size, f.size)

      here : names ≡ names_of (attributes_at cs ds c)
      here = s.top p' c e.top

      front : (q : List ℕ) (b : ℕ) → p' ≡ q ++ b ∷ [] → names' ≡ names_of (attributes_at cs ds b)
      front q b top =
          let attrs = attributes_below c b c_on (below q b top) in
          let whole : names ≡ names_of (attributes_at cs ds b) ++ names_of (own_at ds c) = here ∙ ap names_of attrs ∙ names_append (attributes_at cs ds b) (own_at ds c) in
          let many : kept ≡ length (names_of (attributes_at cs ds b)) = some q b top ∙ b_checked q b top ∙ sym (length_names (attributes_at cs ds b)) in
          cut ∙ ap (λ xs. take kept xs) whole ∙ take_front (names_of (attributes_at cs ds b)) (names_of (own_at ds c)) kept many

      sums : open_own ss' ds + length (own_at ds c) ≡ open_own ss ds
      sums =
          let within : c < length ss = omega (arith, on, w.size) in
          let set_is = open_set ss ds c (Done time) within in
          let was : open_weight (state_at ss c) (length (own_at ds c)) ≡ length (own_at ds c) = ap (λ x. open_weight x (length (own_at ds c))) e.was in
          let now : open_own ss' ds ≡ open_own (set ss c (Done time)) ds = ap (λ x. open_own x ds) e.states in
          omega arith

      split : (xs : List ℕ) → (xs ≡ []) ⊎ ((q : List ℕ) × (b : ℕ) × (xs ≡ q ++ b ∷ []))
      split [] = inl refl
      split (x ∷ xs) = by (split xs)
        where
          by : (xs ≡ []) ⊎ ((q : List ℕ) × (b : ℕ) × (xs ≡ q ++ b ∷ [])) → (x ∷ xs ≡ []) ⊎ ((q : List ℕ) × (b : ℕ) × (x ∷ xs ≡ q ++ b ∷ []))
          by (inl none) = inr ([], x, ap (λ t. x ∷ t) none)
          by (inr (q, b, is)) = inr (x ∷ q, b, ap (λ t. x ∷ t) is)

      fewer : (p' ≡ []) ⊎ ((q : List ℕ) × (b : ℕ) × (p' ≡ q ++ b ∷ [])) → length names' ≡ open_own ss' ds
      fewer (inl gone) =
          let first : slice_index p 0 ≡ c = ap (λ xs. slice_index xs 0) (e.top ∙ ap (λ xs. xs ++ c ∷ []) gone) in
          let up : parent_in cs c ≡ None = subst (λ x. parent_in cs x ≡ None) first (s.root (omega (arith, ap length e.top, length-append p' (c ∷ [])))) in
          let attrs = attributes_top c up in
          let len : length names ≡ length (own_at ds c) = ap length (here ∙ ap names_of attrs) ∙ length_names (own_at ds c) in
          let cut_is : length names' ≡ 0 = ap length (cut ∙ ap (λ n. take n names) (none gone) ∙ take_none names) in
          omega (arith, sums, s.open_names)
      fewer (inr (q, b, top)) =
          let attrs = attributes_below c b c_on (below q b top) in
          let len : length names ≡ length (attributes_at cs ds c) = ap length here ∙ length_names (attributes_at cs ds c) in
          let len' : length names' ≡ length (attributes_at cs ds b) = ap length (front q b top) ∙ length_names (attributes_at cs ds b) in
          omega (arith, sums, s.open_names, ap length attrs, length-append (attributes_at cs ds b) (own_at ds c))

  -- no edge leads back to an open class
  pub never_closed : (ss : List State) (p : List ℕ) (time d : ℕ) → IsWalk g ss p time → StandsAt g ss p d → IsOpen (state_at ss d) → d < length g → ⊥
  never_closed ss p time d w s open_d on =
      let top = top_on g ss p s.front time s.node w s.top in
      let l = looked g ss time s.node d (state_at ss s.node) (w.right s.node top) s.links in
      let sound = f.children.sound s.node (looked_at (state_at ss s.node)) l.within in
      let up : parent_in cs d ≡ Some s.node = subst (λ x. parent_in cs x ≡ Some s.node) l.to sound.1 in
      let less = f.falls d s.node up in
      let i = w.on_path d on open_d in
      let len : length p ≡ length s.front + 1 = ap length s.top ∙ length-append s.front (s.node ∷ []) in
      let last : slice_index p (length s.front) ≡ s.node = ap (λ xs. slice_index xs (length s.front)) s.top ∙ path_last s.front s.node in
      let within : i.0 ≤ length s.front = omega (arith, i.1) in
      let mono = rises (length s.front - i.0) i.0 (omega (arith, within)) in
      let end : i.0 + (length s.front - i.0) ≡ length s.front = omega arith in
      let at_end : f.rank (slice_index p i.0) ≤ f.rank s.node = subst (λ x. f.rank (slice_index p i.0) ≤ f.rank x) (ap (λ k. slice_index p k) end ∙ last) mono in
      let same = ap f.rank i.2 in
      omega arith
    where
      one : (k : ℕ) → suc k < length p → f.rank (slice_index p k) < f.rank (slice_index p (suc k))
      one k h =
          let k_on = w.on_graph k (omega arith) in
          let l = looked g ss time (slice_index p k) (slice_index p (suc k)) (state_at ss (slice_index p k)) (w.right (slice_index p k) k_on) (w.linked k h) in
          let sound = f.children.sound (slice_index p k) (looked_at (state_at ss (slice_index p k))) l.within in
          f.falls (slice_index p (suc k)) (slice_index p k) (subst (λ x. parent_in cs x ≡ Some (slice_index p k)) l.to sound.1)

      rises : (n i : ℕ) → i + n < length p → f.rank (slice_index p i) ≤ f.rank (slice_index p (i + n))
      rises zero i h = let same : i ≡ i + zero = omega arith in let e = ap (λ k. f.rank (slice_index p k)) same in omega arith
      rises (suc n) i h =
          let a = one i (omega arith) in
          let b = rises n (suc i) (omega arith) in
          let same : suc i + n ≡ i + suc n = omega arith in
          let e = ap (λ k. f.rank (slice_index p k)) same in
          omega arith

  -- before the first step
  pub scope_begins : (ss : List State) (p : List ℕ) (names : List (List ℕ)) (counts : List ℕ) → ss ≡ map fresh g → p ≡ [] → names ≡ [] → length counts ≡ length ds → IsScope cs ds ss p names counts
  scope_begins ss p names counts states none no_names size =
      record {
        top = λ q x top. absurd (omega (arith, ap length (sym none ∙ top), length-append q (x ∷ [])));
        empty = λ e. no_names;
        root = λ h. absurd (omega (arith, ap length none));
        checked = λ x a b. absurd (b (subst IsNew (sym (ap (λ y. state_at y x) states ∙ fresh_at g x (omega (arith, a, f.children.size, f.size)))) tt));
        size = size;
        open_names = ap length no_names ∙ sym (ap (λ y. open_own y ds) states ∙ none_open g ds);
      }
    where
      none_open : (es : Graph) (xs : List ClassDecl) → open_own (map fresh es) xs ≡ 0
      none_open [] xs = refl
      none_open (e ∷ es) [] = refl
      none_open (e ∷ es) (x ∷ xs) = let rest = none_open es xs in omega arith

  -- all classes are reached from those without a parent
  pub covered : (ss : List State) (p : List ℕ) (time : ℕ) → IsWalk g ss p time → p ≡ [] → RootsReached cs (length cs) ss → (c : ℕ) → c < length ds → IsNew (state_at ss c) → ⊥
  covered ss p time w none roots c on = below (suc (f.rank c)) c on (omega arith)
    where
      done : (c : ℕ) → c < length g → (IsNew (state_at ss c) → ⊥) → (s : State) → state_at ss c ≡ s → IsDone s
      done c a old (New n) e = absurd (old (subst IsNew (sym e) tt))
      done c a old (Open n) e = let i = w.on_path c a (subst IsOpen (sym e) tt) in absurd (omega (arith, i.1, ap length none))
      done c a old (Done n) e = tt

      child_done : (q k : ℕ) → (s : State) → IsDone s → IsRight g ss time q s → k < length (edges_at g q) → IsNew (state_at ss (edge_at g q k).to) → ⊥
      child_done q k (New n) d r h new = d
      child_done q k (Open n) d r h new = d
      child_done q k (Done t) d r h new = no_new (state_at ss (edge_at g q k).to) (r.1 k (omega arith) h) new
        where
          no_new : (s : State) → IsDoneBefore t s → IsNew s → ⊥
          no_new (New n) a b = a
          no_new (Open n) a b = a
          no_new (Done n) a b = b

      next : (c : ℕ) → c < length ds → ((q : ℕ) → f.rank q < f.rank c → q < length ds → IsNew (state_at ss q) → ⊥) → (o : Option ℕ) → parent_in cs c ≡ o → IsNew (state_at ss c) → ⊥
      next c on more None e new = roots c (omega (arith, on, f.size)) e new
      next c on more (Some q) e new =
          let l = f.children.complete c q (omega (arith, on, f.size)) e in
          let q_on : q < length g = edges_within g q l.0 l.1 in
          let old = more q (f.falls c q e) (omega (arith, q_on, f.children.size, f.size)) in
          child_done q l.0 (state_at ss q) (done q q_on old (state_at ss q) refl) (w.right q q_on) l.1 (subst (λ x. IsNew (state_at ss x)) (sym l.2) new)
        where
          edges_within : (g : Graph) (q k : ℕ) → k < length (edges_at g q) → q < length g
          edges_within [] q k h = absurd (omega (arith, h))
          edges_within (e ∷ es) zero k h = omega arith
          edges_within (e ∷ es) (suc q) k h = let r = edges_within es q k h in omega arith

      below : (n c : ℕ) → c < length ds → f.rank c < n → IsNew (state_at ss c) → ⊥
      below zero c on h = absurd (omega arith)
      below (suc n) c on h = next c on (λ q less q_on. below n q q_on (omega arith)) (parent_in cs c) refl
