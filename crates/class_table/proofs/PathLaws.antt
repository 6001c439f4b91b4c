-- Attributes along paths.
use Rattle.std.proofs.Common.{◌≡◌, ℕ, zero, suc, ◌+◌, ◌-◌, ◌<◌, ◌≤◌, Bool, true, false, cond, map, List, [], ◌∷◌, ◌++◌, Option, None, Some, length, get_or, refl, ap, sym, ◌∙◌, subst, arith, length-append, append_assoc, append-nil, drop, set, length-set, get_or-set_same, get_or-set_other, ◌⊎◌, inl, inr}
use Rattle.std.specs.Prelude.{slice_get, slice_index_or, position}
use Rattle.std.specs.List.{position_from}
use Rattle.std.proofs.lemmas.List.{get_or-append_right, get_or_append_left}
use Rattle.class_table.specs.declared.paths.Path.{Path}
use Rattle.class_table.specs.declared.paths.Spot.{Spot}
use Rattle.class_table.specs.declared.table.Class.{Class}
use Rattle.class_table.specs.declared.table.Resolved.TheVariants.{Truth}
use Rattle.class_table.specs.declared.table.Variable.{Variable}
use Rattle.graph_walk.specs.declared.walk.State.{State}
use Rattle.class_table.specs.Outline.{parent_in, own_in, attributes, variable_name}
use Rattle.class_table.specs.Paths.{IsPath, IsOn, IsEnd, ArePaths, inherited, names_in, path_of, variable_at}
use Rattle.class_table.specs.Same.{same_name}
use Rattle.class_table.specs.Tables.{IsTable, all_differ}
use Rattle.std.proofs.lemmas.Bool.{cases_eq}
use Rattle.class_table.proofs.DifferLaws.{as_from, behind, fewer, front_differs, found_within, own_found, not_own}
use Rattle.class_table.proofs.ScopeSteps.{map_append, length_map}
use Rattle.class_table.proofs.TableLaws.{top, next}

-- Names in a front of a list

module _ (w : List ℕ) where
  abbrev p : List ℕ → Bool
  p = same_name w

  low : (zs : List (List ℕ)) (m n : ℕ) → position_from p m zs ≡ Some n → m ≤ n
  low [] m n h = cc
  low (z ∷ zs) m n h = at (p z) (λ g. low zs (m + 1) n g) h
    where
      at : (b : Bool) → (position_from p (m + 1) zs ≡ Some n → m + 1 ≤ n) → cond b (Some m) (position_from p (m + 1) zs) ≡ Some n → m ≤ n
      at true more g = let e : m ≡ n = cc in omega arith
      at false more g = let l = more g in omega arith

  front_from : (xs ys : List (List ℕ)) (i k : ℕ) → position_from p i (xs ++ ys) ≡ Some k → k < i + length xs → position_from p i xs ≡ Some k
  front_from [] ys i k h l = let m = low ys i k h in absurd (omega (arith, l))
  front_from (x ∷ xs) ys i k h l = by (p x) (λ g. front_from xs ys (i + 1) k g (omega (arith, l))) h
    where
      by : (b : Bool) → (position_from p (i + 1) (xs ++ ys) ≡ Some k → position_from p (i + 1) xs ≡ Some k) → cond b (Some i) (position_from p (i + 1) (xs ++ ys)) ≡ Some k → cond b (Some i) (position_from p (i + 1) xs) ≡ Some k
      by true more g = g
      by false more g = more g

  beyond_from : (xs ys : List (List ℕ)) (i k : ℕ) → position_from p i (xs ++ ys) ≡ Some k → i + length xs ≤ k → position_from p i xs ≡ None
  beyond_from [] ys i k h l = refl
  beyond_from (x ∷ xs) ys i k h l = by (p x) (λ g. beyond_from xs ys (i + 1) k g (omega (arith, l))) h
    where
      by : (b : Bool) → (position_from p (i + 1) (xs ++ ys) ≡ Some k → position_from p (i + 1) xs ≡ None) → cond b (Some i) (position_from p (i + 1) (xs ++ ys)) ≡ Some k → cond b (Some i) (position_from p (i + 1) xs) ≡ None
      by true more g = let e : i ≡ k = cc in absurd (omega (arith, l))
      by false more g = more g

  none_from : (xs ys : List (List ℕ)) (i : ℕ) → position_from p i (xs ++ ys) ≡ None → position_from p i xs ≡ None
  none_from [] ys i h = refl
  none_from (x ∷ xs) ys i h = by (p x) (λ g. none_from xs ys (i + 1) g) h
    where
      by : (b : Bool) → (position_from p (i + 1) (xs ++ ys) ≡ None → position_from p (i + 1) xs ≡ None) → cond b (Some i) (position_from p (i + 1) (xs ++ ys)) ≡ None → cond b (Some i) (position_from p (i + 1) xs) ≡ None
      by true more g = cc
      by false more g = more g

  in_front : (xs ys : List (List ℕ)) (k : ℕ) → position p (xs ++ ys) ≡ Some k → k < length xs → position p xs ≡ Some k
  in_front xs ys k h l = as_from w xs ∙ front_from xs ys 0 k (sym (as_from w (xs ++ ys)) ∙ h) (omega (arith, l))

  beyond : (xs ys : List (List ℕ)) (k : ℕ) → position p (xs ++ ys) ≡ Some k → length xs ≤ k → position p xs ≡ None
  beyond xs ys k h l = as_from w xs ∙ beyond_from xs ys 0 k (sym (as_from w (xs ++ ys)) ∙ h) (omega (arith, l))

  nowhere : (xs ys : List (List ℕ)) → position p (xs ++ ys) ≡ None → position p xs ≡ None
  nowhere xs ys h = as_from w xs ∙ none_from xs ys 0 (sym (as_from w (xs ++ ys)) ∙ h)

-- Paths by number

pub path_read : (on : List (Option ℕ)) (c : ℕ) (x : Option ℕ) → c < length on → x ≡ get_or on c x → x ≡ path_of on c
path_read [] c x h e = absurd (omega (arith, h))
path_read (o ∷ os) zero x h e = e
path_read (o ∷ os) (suc c) x h e = path_read os c x (omega (arith, h)) e

-- what is read doesn't depend on the default
pub read_any : {X : Type 0} (xs : List X) (i : ℕ) (x d : X) → i < length xs → x ≡ get_or xs i x → x ≡ get_or xs i d
read_any [] i x d h e = absurd (omega (arith, h))
read_any (y ∷ ys) zero x d h e = e
read_any (y ∷ ys) (suc i) x d h e = read_any ys i x d (omega (arith, h)) e

-- Attributes read by number

some_length : (vs : List Variable) → length (map (λ (v : Variable). Some v) vs) ≡ length vs
some_length [] = refl
some_length (v ∷ vs) = ap (λ n. suc n) (some_length vs)

somes_append : (vs us : List Variable) → map (λ (v : Variable). Some v) (vs ++ us) ≡ map Some vs ++ map Some us
somes_append [] us = refl
somes_append (v ∷ vs) us = ap (λ xs. Some v ∷ xs) (somes_append vs us)

some_read : (vs : List Variable) (k : ℕ) (d : Variable) → k < length vs → get_or (map Some vs) k None ≡ Some (get_or vs k d)
some_read [] k d h = absurd (omega (arith, h))
some_read (v ∷ vs) zero d h = refl
some_read (v ∷ vs) (suc k) d h = some_read vs k d (omega (arith, h))

pub spot_read : (cs : List Class) (ss : List Spot) (i : ℕ) (v : Variable) → get_or (map (variable_at cs) ss) i None ≡ Some v → (i < length ss) × ((s : Spot) → variable_at cs (get_or ss i s) ≡ Some v)
spot_read cs [] i v h = cc
spot_read cs (s ∷ ss) zero v h = (omega arith, λ t. h)
spot_read cs (s ∷ ss) (suc i) v h = let r = spot_read cs ss i v h in let l = r.0 in (omega arith, r.1)

split_read : (vs us : List Variable) (behind ss : List (Option Variable)) (k : ℕ) (d : Variable) → map Some vs ++ behind ≡ map Some us ++ ss → length us ≤ k → k < length vs → get_or ss (k - length us) None ≡ Some (get_or vs k d)
split_read vs us behind ss k d e h l =
    let lv = some_length vs in
    sym (get_or-append_right (map Some us) ss (length us) k None (some_length us) h)
    ∙ sym (ap (λ xs. get_or xs k None) e)
    ∙ get_or_append_left (map Some vs) behind None k (omega (arith, lv, l))
    ∙ some_read vs k d l

some_same : (x y : Variable) → Some x ≡ Some y → x ≡ y
some_same x y e = cc

front_read : (vs us : List Variable) (behind ss : List (Option Variable)) (k : ℕ) (d : Variable) → map Some vs ++ behind ≡ map Some us ++ ss → k < length us → k < length vs → get_or us k d ≡ get_or vs k d
front_read vs us behind ss k d e h l =
    let lv = some_length vs in
    let lu = some_length us in
    some_same (get_or us k d) (get_or vs k d)
    (sym (get_or_append_left (map Some us) ss None k (omega (arith, lu, h)) ∙ some_read us k d h)
    ∙ sym (ap (λ xs. get_or xs k None) e)
    ∙ get_or_append_left (map Some vs) behind None k (omega (arith, lv, l))
    ∙ some_read vs k d l)

-- A class on a path

module _ (cs : List Class) (order : List State) (path : Path) (c : ℕ) (on : IsOn cs order path c) where
  abbrev before : List (List ℕ)
  before = names_in (inherited cs path.above)

  abbrev names : List (List ℕ)
  names = names_in (attributes cs c)

  pub from_low : path.from ≤ length (attributes cs c)
  from_low = let a = on.path_is.from in let b = on.long in omega (arith, a, b)

  pub name_found : (w : List ℕ) (i : ℕ) → position (same_name w) path.names ≡ Some i → path.from + i < length (attributes cs c) → position (same_name w) (map variable_name (attributes cs c)) ≡ Some (path.from + i)
  name_found w i h l =
      let size : length before ≡ path.from = length_map variable_name (inherited cs path.above) ∙ sym on.path_is.from in
      let all : position (same_name w) (names ++ on.names_behind) ≡ Some (path.from + i) = ap (position (same_name w)) on.names ∙ own_found w before path.names i on.path_is.differ h ∙ ap (λ n. Some (n + i)) size in
      let short = length_map variable_name (attributes cs c) in
      in_front w names on.names_behind (path.from + i) all (omega (arith, l, short))

  pub name_above : (w : List ℕ) → ((i : ℕ) → position (same_name w) path.names ≡ Some i → length (attributes cs c) ≤ path.from + i) → position (same_name w) (map variable_name (attributes cs c)) ≡ position (same_name w) before
  name_above w far = by (position (same_name w) path.names) refl
    where
      inside : position (same_name w) path.names ≡ None → (o : Option ℕ) → position (same_name w) before ≡ o → position (same_name w) names ≡ o
      inside e None h = nowhere w names on.names_behind (ap (position (same_name w)) on.names ∙ not_own w before path.names e ∙ h)
      inside e (Some k) h =
          let all : position (same_name w) (names ++ on.names_behind) ≡ Some k = ap (position (same_name w)) on.names ∙ not_own w before path.names e ∙ h in
          let within = found_within w before k h in
          let short = length_map variable_name (attributes cs c) in
          let size = length_map variable_name (inherited cs path.above) in
          let long = on.long in
          in_front w names on.names_behind k all (omega (arith, within, short, size, long))

      by : (o : Option ℕ) → position (same_name w) path.names ≡ o → position (same_name w) names ≡ position (same_name w) before
      by None e = inside e (position (same_name w) before) refl
      by (Some i) e =
          let size : length before ≡ path.from = length_map variable_name (inherited cs path.above) ∙ sym on.path_is.from in
          let whole : position (same_name w) (before ++ path.names) ≡ Some (path.from + i) = own_found w before path.names i on.path_is.differ e ∙ ap (λ n. Some (n + i)) size in
          let short = length_map variable_name (attributes cs c) in
          let l = far i e in
          beyond w names on.names_behind (path.from + i) (ap (position (same_name w)) on.names ∙ whole) (omega (arith, l, short))
          ∙ sym (beyond w before path.names (path.from + i) whole (omega (arith, size)))

  pub spot_at : (k : ℕ) (d : Variable) → path.from ≤ k → k < length (attributes cs c) → get_or (map (variable_at cs) path.spots.items) (k - path.from) None ≡ Some (get_or (attributes cs c) k d)
  spot_at k d h l =
      let size = on.path_is.from in
      ap (λ n. get_or (map (variable_at cs) path.spots.items) (k - n) None) size
      ∙ split_read (attributes cs c) (inherited cs path.above) on.spots_behind (map (variable_at cs) path.spots.items) k d on.spots (omega (arith, size, h)) l

  pub read_above : (k : ℕ) (d : Variable) → k < path.from → k < length (attributes cs c) → get_or (inherited cs path.above) k d ≡ get_or (attributes cs c) k d
  read_above k d h l = let size = on.path_is.from in front_read (attributes cs c) (inherited cs path.above) on.spots_behind (map (variable_at cs) path.spots.items) k d on.spots (omega (arith, size, h)) l

  pub spot_low : (k : ℕ) → path.from ≤ k → k < length (attributes cs c) → k - path.from < length path.spots.items
  spot_low k h l = let d : Variable = record { name = []; shape = Truth } in (spot_read cs path.spots.items (k - path.from) (get_or (attributes cs c) k d) (spot_at k d h l)).0

  pub spot_is : (k : ℕ) (s : Spot) (d : Variable) → path.from ≤ k → k < length (attributes cs c) → s ≡ get_or path.spots.items (k - path.from) s → variable_at cs s ≡ Some (get_or (attributes cs c) k d)
  spot_is k s d h l e = ap (variable_at cs) e ∙ (spot_read cs path.spots.items (k - path.from) (get_or (attributes cs c) k d) (spot_at k d h l)).1 s

  pub spot_there : (k : ℕ) (s : Spot) → path.from ≤ k → k < length (attributes cs c) → s ≡ get_or path.spots.items (k - path.from) s → variable_at cs s ≡ None → ⊥
  spot_there k s h l e none = let d : Variable = record { name = []; shape = Truth } in let found = spot_is k s d h l e in cc

  pub spot_same : (k : ℕ) (s : Spot) (v d : Variable) → path.from ≤ k → k < length (attributes cs c) → s ≡ get_or path.spots.items (k - path.from) s → variable_at cs s ≡ Some v → v ≡ get_or (attributes cs c) k d
  spot_same k s v d h l e read = some_same v (get_or (attributes cs c) k d) (sym read ∙ spot_is k s d h l e)

-- How paths are made

pub none_more : (on : List (Option ℕ)) → ((c : ℕ) → path_of on c ≡ None) → (c : ℕ) → path_of (on ++ None ∷ []) c ≡ None
none_more [] h zero = refl
none_more [] h (suc c) = refl
none_more (o ∷ os) h zero = h zero
none_more (o ∷ os) h (suc c) = none_more os (λ k. h (suc k)) c

pub own_next : (cs : List Class) (class i : ℕ) → i < length (own_in cs class) → map (λ (v : Variable). Some v) (drop i (own_in cs class)) ≡ variable_at cs (record { class = class; own = i }) ∷ map Some (drop (i + 1) (own_in cs class))
own_next cs class i h = by (own_in cs class) i h
  where
    by : (vs : List Variable) (i : ℕ) → i < length vs → map (λ (v : Variable). Some v) (drop i vs) ≡ slice_get vs i ∷ map Some (drop (i + 1) vs)
    by [] i h = absurd (omega (arith, h))
    by (v ∷ vs) zero h = refl
    by (v ∷ vs) (suc i) h =
        let same : suc (i + 1) ≡ suc i + 1 = omega arith in
        subst (λ k. map (λ (v : Variable). Some v) (drop i vs) ≡ slice_get vs i ∷ map Some (drop k (v ∷ vs))) same (by vs i (omega (arith, h)))

no_length : {X : Type 0} (xs : List X) → length xs ≡ 0 → xs ≡ []
no_length [] h = refl
no_length (x ∷ xs) h = absurd (omega (arith, h))

-- a list of so many items that lists in two ways leaves nothing
nothing_behind : {X : Type 0} (vs behind us xs : List X) → vs ++ behind ≡ us ++ xs → length xs ≡ length vs - length us → length us ≤ length vs → vs ≡ us ++ xs
nothing_behind vs behind us xs e h l =
    let none = no_length behind (omega (arith, ap length e, length-append vs behind, length-append us xs, h, l)) in
    sym (append-nil vs) ∙ ap (λ ys. vs ++ ys) (sym none) ∙ e

module _ (cs : List Class) (counts : List ℕ) (order : List State) (t : IsTable cs counts order) where
  -- a class's attributes are those that it inherits, and its own
  pub whole : (c : ℕ) → c < length cs → attributes cs c ≡ inherited cs (parent_in cs c) ++ own_in cs c
  whole c on = by (parent_in cs c) refl
    where
      by : (o : Option ℕ) → parent_in cs c ≡ o → attributes cs c ≡ inherited cs o ++ own_in cs c
      by None e = top cs counts order t c e
      by (Some q) e = next cs counts order t c q on e

  pub parent_end : (path : Path) (c p : ℕ) → parent_in cs c ≡ Some p → IsOn cs order path p → length path.names ≡ length (attributes cs p) - path.from → length path.spots.items ≡ length (attributes cs p) - path.from → IsEnd cs order path c
  parent_end path c p up on names spots =
      let size = on.path_is.from in
      let long = on.long in
      let ln = length_map variable_name (attributes cs p) in
      let lx = length_map variable_name (inherited cs path.above) in
      let sn = some_length (attributes cs p) in
      let sx = some_length (inherited cs path.above) in
      let ss = length_map (variable_at cs) path.spots.items in
      let down = t.falls c p up in
      record {
        path_is = on.path_is;
        above = λ q e. (let a = on.above q e in (a.0, (let r = a.1 in omega (arith, r, down))));
        names = ap (λ o. names_in (inherited cs o)) up ∙ nothing_behind (names_in (attributes cs p)) on.names_behind (names_in (inherited cs path.above)) path.names on.names (omega (arith, names, ln, lx, size)) (omega (arith, ln, lx, long));
        spots = ap (λ o. map Some (inherited cs o)) up ∙ nothing_behind (map Some (attributes cs p)) on.spots_behind (map Some (inherited cs path.above)) (map (variable_at cs) path.spots.items) on.spots (omega (arith, spots, sn, sx, ss, size)) (omega (arith, sn, sx, long));
      }

  names_whole : (c : ℕ) → c < length cs → names_in (attributes cs c) ≡ names_in (inherited cs (parent_in cs c)) ++ names_in (own_in cs c)
  names_whole c on = ap names_in (whole c on) ∙ map_append variable_name (inherited cs (parent_in cs c)) (own_in cs c)

  own_differs : (c : ℕ) → c < length cs → all_differ (names_in (inherited cs (parent_in cs c)) ++ names_in (own_in cs c)) [] ≡ true
  own_differs c on = sym (ap (λ ws. all_differ ws []) (names_whole c on)) ∙ t.differ c on

  pub begun : (path : Path) (c : ℕ) → c < length cs → path.above ≡ parent_in cs c → path.from ≡ slice_index_or counts c 0 - length (own_in cs c) → path.names ≡ [] → path.spots.items ≡ [] → IsEnd cs order path c
  begun path c on above from names spots =
      let count = t.counted c on in
      let size = ap length (whole c on) in
      let parts = length-append (inherited cs (parent_in cs c)) (own_in cs c) in
      let same = ap (λ o. length (inherited cs o)) above in
      let before = ap (λ o. names_in (inherited cs o)) above in
      record {
        path_is = record {
          from = omega (arith, from, count, size, parts, same);
          differ = ap (λ ws. all_differ ws []) (ap (λ ws. names_in (inherited cs path.above) ++ ws) names ∙ append-nil (names_in (inherited cs path.above)) ∙ before) ∙ front_differs (names_in (inherited cs (parent_in cs c))) (names_in (own_in cs c)) [] (own_differs c on);
        };
        above = λ p e. (let up = sym above ∙ e in (t.parents c p up, t.falls c p up));
        names = sym before ∙ sym (append-nil (names_in (inherited cs path.above))) ∙ ap (λ ws. names_in (inherited cs path.above) ++ ws) (sym names);
        spots = sym (ap (λ o. map Some (inherited cs o)) above) ∙ sym (append-nil (map Some (inherited cs path.above))) ∙ ap (λ ss. map Some (inherited cs path.above) ++ map (variable_at cs) ss) (sym spots);
      }

  pub own_differ_here : (path : Path) (c : ℕ) → c < length cs → IsEnd cs order path c → all_differ (names_in (own_in cs c)) path.names ≡ true
  own_differ_here path c on end =
      fewer (names_in (own_in cs c)) (names_in (inherited cs path.above)) path.names
      (ap (all_differ (names_in (own_in cs c))) (sym end.names) ∙ behind (names_in (inherited cs (parent_in cs c))) (names_in (own_in cs c)) [] (own_differs c on))

  pub paths_more : (paths : List Path) (on : List (Option ℕ)) (new : Path) → ArePaths cs order paths on → ArePaths cs order (paths ++ new ∷ []) on
  paths_more paths on new are =
      record {
        size = are.size;
        each = λ c q h e. (let old = are.each c q h e in (omega (arith, old.0, length-append paths (new ∷ [])), λ d. subst (λ x. IsOn cs order x c) (sym (get_or_append_left paths (new ∷ []) d q old.0)) (old.1 d)));
      }

  pub end_more : (paths : List Path) (new : Path) (c : ℕ) → IsEnd cs order new c → (d : Path) → IsEnd cs order (get_or (paths ++ new ∷ []) (length paths) d) c
  end_more paths new c end d =
      let none : length paths - length paths ≡ 0 = omega arith in
      let read : get_or (paths ++ new ∷ []) (length paths) d ≡ new = get_or-append_right paths (new ∷ []) (length paths) (length paths) d refl (omega arith) ∙ ap (λ i. get_or (new ∷ []) i d) none in
      subst (λ x. IsEnd cs order x c) (sym read) end

  -- A class is added to a path

  module _ (old new : Path) (c : ℕ) (here : c < length cs) (above : new.above ≡ old.above) (from : new.from ≡ old.from) (names : new.names ≡ old.names ++ names_in (own_in cs c)) (spots : map (variable_at cs) new.spots.items ≡ map (variable_at cs) old.spots.items ++ map Some (own_in cs c)) (end : IsEnd cs order old c) where
    names_more : names_in (inherited cs new.above) ++ new.names ≡ (names_in (inherited cs old.above) ++ old.names) ++ names_in (own_in cs c)
    names_more = ap (λ o. names_in (inherited cs o) ++ new.names) above ∙ ap (λ ws. names_in (inherited cs old.above) ++ ws) names ∙ sym (append_assoc (names_in (inherited cs old.above)) old.names (names_in (own_in cs c)))

    spots_more : map Some (inherited cs new.above) ++ map (variable_at cs) new.spots.items ≡ (map Some (inherited cs old.above) ++ map (variable_at cs) old.spots.items) ++ map Some (own_in cs c)
    spots_more = ap (λ o. map Some (inherited cs o) ++ map (variable_at cs) new.spots.items) above ∙ ap (λ ss. map Some (inherited cs old.above) ++ ss) spots ∙ sym (append_assoc (map Some (inherited cs old.above)) (map (variable_at cs) old.spots.items) (map Some (own_in cs c)))

    names_all : names_in (attributes cs c) ≡ names_in (inherited cs new.above) ++ new.names
    names_all = names_whole c here ∙ ap (λ ws. ws ++ names_in (own_in cs c)) end.names ∙ sym names_more

    new_path : IsPath cs new
    new_path = record {
      from = from ∙ end.path_is.from ∙ ap (λ o. length (inherited cs o)) (sym above);
      differ = sym (ap (λ ws. all_differ ws []) names_all) ∙ t.differ c here;
    }

    added : IsOn cs order new c
    added =
        let size = ap length end.spots in
        let parts = length-append (map Some (inherited cs old.above)) (map (variable_at cs) old.spots.items) in
        let all = ap length (whole c here) in
        let all_parts = length-append (inherited cs (parent_in cs c)) (own_in cs c) in
        let si = some_length (inherited cs (parent_in cs c)) in
        let so = some_length (inherited cs old.above) in
        let up = ap (λ o. length (inherited cs o)) above in
        record {
          path_is = new_path;
          above = λ p e. end.above p (sym above ∙ e);
          long = omega (arith, size, parts, all, all_parts, si, so, up);
          names_behind = [];
          names = append-nil (names_in (attributes cs c)) ∙ names_all;
          spots_behind = [];
          spots = append-nil (map Some (attributes cs c)) ∙ ap (λ vs. map Some vs) (whole c here) ∙ somes_append (inherited cs (parent_in cs c)) (own_in cs c) ∙ ap (λ ss. ss ++ map Some (own_in cs c)) end.spots ∙ sym spots_more;
        }

    grown : (k : ℕ) → IsOn cs order old k → IsOn cs order new k
    grown k on =
        let up = ap (λ o. length (inherited cs o)) above in
        let long = on.long in
        record {
          path_is = new_path;
          above = λ p e. on.above p (sym above ∙ e);
          long = omega (arith, long, up);
          names_behind = on.names_behind ++ names_in (own_in cs c);
          names = sym (append_assoc (names_in (attributes cs k)) on.names_behind (names_in (own_in cs c))) ∙ ap (λ ws. ws ++ names_in (own_in cs c)) on.names ∙ sym names_more;
          spots_behind = on.spots_behind ++ map Some (own_in cs c);
          spots = sym (append_assoc (map Some (attributes cs k)) on.spots_behind (map Some (own_in cs c))) ∙ ap (λ ss. ss ++ map Some (own_in cs c)) on.spots ∙ sym spots_more;
        }

    pub settled : (paths : List Path) (on : List (Option ℕ)) (q : ℕ) → ArePaths cs order paths on → q < length paths → old ≡ get_or paths q old → ArePaths cs order (set paths q new) (set on c (Some q))
    settled paths on q are low read =
        record {
          size = length-set on c (Some q) ∙ are.size;
          each = λ k r h e. each k r h e (cases_eq k c);
        }
      where
        on_new : (k r : ℕ) (d : Path) → r ≡ q → IsOn cs order new k → IsOn cs order (get_or (set paths q new) r d) k
        on_new k r d e is = subst (λ x. IsOn cs order x k) (sym (ap (λ i. get_or (set paths q new) i d) e ∙ get_or-set_same paths q new d low)) is

        kept : (k r : ℕ) → r < length paths → ((d : Path) → IsOn cs order (get_or paths r d) k) → (d : Path) → (r ≡ q) ⊎ (r ≡ q → ⊥) → IsOn cs order (get_or (set paths q new) r d) k
        kept k r h is d (inl e) = on_new k r d e (grown k (subst (λ x. IsOn cs order x k) (ap (λ i. get_or paths i old) e ∙ sym read) (is old)))
        kept k r h is d (inr ne) = subst (λ x. IsOn cs order x k) (sym (get_or-set_other paths q r new d ne)) (is d)

        same_number : (k r : ℕ) → k ≡ c → path_of (set on c (Some q)) k ≡ Some r → r ≡ q
        same_number k r e f =
            let read : path_of (set on c (Some q)) k ≡ Some q = ap (λ i. get_or (set on c (Some q)) i None) e ∙ get_or-set_same on c (Some q) None (omega (arith, here, are.size)) in
            let both : Some r ≡ Some q = sym f ∙ read in cc

        each : (k r : ℕ) → k < length cs → path_of (set on c (Some q)) k ≡ Some r → (k ≡ c) ⊎ (k ≡ c → ⊥) → (r < length (set paths q new)) × ((d : Path) → IsOn cs order (get_or (set paths q new) r d) k)
        each k r h f (inl e) =
            let same = same_number k r e f in
            (omega (arith, low, same, length-set paths q new), λ d. on_new k r d same (subst (λ i. IsOn cs order new i) (sym e) added))
        each k r h f (inr ne) =
            let was = are.each k r h (sym (get_or-set_other on c k (Some q) None ne) ∙ f) in
            (omega (arith, was.0, length-set paths q new), λ d. kept k r was.0 was.1 d (cases_eq r q))
