-- What a configuration says at the cells of one leaf: the values of its stretch, and the members among them.
use Rattle.std.proofs.Common.{◌≡◌, ◌++◌, ◌∙◌, ℕ, zero, suc, ◌+◌, Bool, true, false, cond, List, [], ◌∷◌, Option, Some, length, map, refl, ap, sym, subst, arith, length-append, append_assoc, append-nil}
use Rattle.std.specs.Prelude.{ℤ, pos, filter_map, slice_get}
use Rattle.std.specs.List.{filter, flat_map}
use Rattle.std.proofs.lemmas.Grind.{flat_map-append}
use Rattle.std.proofs.lemmas.List.Elements.{filter-append}
use Rattle.std.proofs.lemmas.Option.{get_or_from_slice_get}
use Rattle.class_table.specs.declared.table.Resolved.{Resolved}
use Rattle.class_table.specs.declared.table.Resolved.TheVariants.{Span, Truth, Choice, One, Many, Ref, RefSet}
use Rattle.class_table.specs.Outline.{Outline}
use Rattle.class_table.specs.Sound.{IsSound}
use Rattle.object_alloc.specs.declared.object.Cell.{Cell}
use Rattle.object_alloc.specs.declared.object.Leaf.{Leaf}
use Rattle.object_alloc.specs.Cells.{cells, leaf_cells}
use Rattle.object_alloc.specs.Configurations.{AreValues, IsConfiguration}
use Rattle.object_alloc.specs.Groups.{is_cell_of, numbers_from, own_cells}
use Rattle.object_alloc.specs.Members.{member_at, value_at}
use Rattle.object_alloc.specs.Own.{inside_of}
use Rattle.object_alloc.specs.Walk.{Inside, leaf, leaves_in, walk}
use Rattle.object_alloc.proofs.HeldLeaves.{leaf_held}
use Rattle.object_alloc.proofs.HintLaws.{parted, only_one, picks_none, itself}
use Rattle.object_alloc.proofs.OwnLaws.{met_is}
use Rattle.object_alloc.proofs.OwnWalk.{is_leaf_of, first_met, first_elements}
use Rattle.object_alloc.proofs.PickedMembers.{Each, any_cell, item_behind, kept_leaves, picked_all, picks, picks_append, picks_same, shape_each}

-- the values of the cells that pass the test
abbrev kept_values : (Cell → Bool) → List Cell → List ℤ → List ℤ
kept_values test [] vs = []
kept_values test (c ∷ cs) [] = []
kept_values test (c ∷ cs) (v ∷ vs) = cond (test c) (v ∷ kept_values test cs vs) (kept_values test cs vs)

module _ (o : Outline) (test : Cell → Bool) where
  values_from : (cs : List Cell) (before vs : List ℤ) (n : ℕ) → n ≡ length before → AreValues o cs vs → map (value_at (before ++ vs)) (numbers_from test n cs) ≡ kept_values test cs vs
  values_from [] before vs n b h = refl
  values_from (c ∷ cs) before [] n b h = absurd h
  values_from (c ∷ cs) before (v ∷ vs) n b (h, hs) =
      let more = values_from cs (before ++ v ∷ []) vs (suc n) (omega (arith, b, length-append before (v ∷ []))) hs in
      let whole : (before ++ v ∷ []) ++ vs ≡ before ++ v ∷ vs = append_assoc before (v ∷ []) vs in
      let rest = subst (λ ws. map (value_at ws) (numbers_from test (suc n) cs) ≡ kept_values test cs vs) whole more in
      let value : value_at (before ++ v ∷ vs) n ≡ v = get_or_from_slice_get (before ++ v ∷ vs) n v (pos 0) (item_behind before vs v n b) in
      by (test c) value rest
    where
      by : (t : Bool) → value_at (before ++ v ∷ vs) n ≡ v → map (value_at (before ++ v ∷ vs)) (numbers_from test (suc n) cs) ≡ kept_values test cs vs → map (value_at (before ++ v ∷ vs)) (cond t (n ∷ numbers_from test (suc n) cs) (numbers_from test (suc n) cs)) ≡ cond t (v ∷ kept_values test cs vs) (kept_values test cs vs)
      by true value rest = ap (λ (w : ℤ). w ∷ map (value_at (before ++ v ∷ vs)) (numbers_from test (suc n) cs)) value ∙ ap (λ ws. v ∷ ws) rest
      by false value rest = rest

  kept_append : (cs ds : List Cell) (vs ws : List ℤ) → AreValues o cs vs → kept_values test (cs ++ ds) (vs ++ ws) ≡ kept_values test cs vs ++ kept_values test ds ws
  kept_append [] ds [] ws h = refl
  kept_append [] ds (v ∷ vs) ws h = absurd h
  kept_append (c ∷ cs) ds [] ws h = absurd h
  kept_append (c ∷ cs) ds (v ∷ vs) ws (h, hs) = by (test c) (kept_append cs ds vs ws hs)
    where
      by : (t : Bool) → kept_values test (cs ++ ds) (vs ++ ws) ≡ kept_values test cs vs ++ kept_values test ds ws → cond t (v ∷ kept_values test (cs ++ ds) (vs ++ ws)) (kept_values test (cs ++ ds) (vs ++ ws)) ≡ cond t (v ∷ kept_values test cs vs) (kept_values test cs vs) ++ kept_values test ds ws
      by true e = ap (λ xs. v ∷ xs) e
      by false e = e

  kept_same : (b : Bool) (cs : List Cell) (vs : List ℤ) → AreValues o cs vs → Each o test b cs → kept_values test cs vs ≡ cond b vs []
  kept_same true [] [] a h = refl
  kept_same false [] [] a h = refl
  kept_same b [] (v ∷ vs) a h = absurd a
  kept_same b (c ∷ cs) [] a h = absurd a
  kept_same true (c ∷ cs) (v ∷ vs) (a, as') (e, h) = ap (λ t. cond t (v ∷ kept_values test cs vs) (kept_values test cs vs)) e ∙ ap (λ xs. v ∷ xs) (kept_same true cs vs as' h)
  kept_same false (c ∷ cs) (v ∷ vs) (a, as') (e, h) = ap (λ t. cond t (v ∷ kept_values test cs vs) (kept_values test cs vs)) e ∙ kept_same false cs vs as' h

kept_none : (o : Outline) (owner : Option ℕ) (k : ℕ) (ls : List Leaf) (vs : List ℤ) → AreValues o (flat_map (leaf_cells o) ls) vs → filter (is_leaf_of owner k) ls ≡ [] → kept_values (is_cell_of owner k) (flat_map (leaf_cells o) ls) vs ≡ []
kept_none o owner k [] vs h e = refl
kept_none o owner k (l ∷ ls) vs h e =
    let r = parted o (leaf_cells o l) (flat_map (leaf_cells o) ls) vs h in
    ap (kept_values (is_cell_of owner k) (leaf_cells o l ++ flat_map (leaf_cells o) ls)) r.are
    ∙ kept_append o (is_cell_of owner k) (leaf_cells o l) (flat_map (leaf_cells o) ls) r.front r.back r.of_front
    ∙ by (is_leaf_of owner k l) r.front (kept_same o (is_cell_of owner k) (is_leaf_of owner k l) (leaf_cells o l) r.front r.of_front (shape_each o owner k l l.shape)) e (λ g. kept_none o owner k ls r.back r.of_back g)
  where
    by : (b : Bool) (front : List ℤ) {rest : List ℤ} → kept_values (is_cell_of owner k) (leaf_cells o l) front ≡ cond b front [] → cond b (l ∷ filter (is_leaf_of owner k) ls) (filter (is_leaf_of owner k) ls) ≡ [] → (filter (is_leaf_of owner k) ls ≡ [] → rest ≡ []) → kept_values (is_cell_of owner k) (leaf_cells o l) front ++ rest ≡ []
    by true front here e rest = cc
    by false front {rest} here e more = ap (λ xs. xs ++ rest) here ∙ more e

-- A leaf is the only one of its attribute

no_elements : (w : Inside) (k c m i : ℕ) → leaves_in (first_elements w k c m i) ≡ []
no_elements w k c zero i = refl
no_elements w k c (suc m) i = no_elements w k c m (i + 1)

-- what is met of an attribute: a leaf alone, or objects
met_leaves : (w : Inside) (k : ℕ) (s : Resolved) (l : Leaf) (ls : List Leaf) → leaves_in (first_met w k s) ≡ ls → ((ls ≡ []) → ⊥) → leaf w k s ≡ l → ls ≡ l ∷ []
met_leaves w k (One c) l ls e some is = absurd (some (sym e))
met_leaves w k (Many c m) l ls e some is = absurd (some (sym e ∙ no_elements w k c m 0))
met_leaves w k (Span low high) l ls e some is = sym e ∙ ap (λ x. x ∷ []) is
met_leaves w k Truth l ls e some is = sym e ∙ ap (λ x. x ∷ []) is
met_leaves w k (Choice x) l ls e some is = sym e ∙ ap (λ y. y ∷ []) is
met_leaves w k (Ref c) l ls e some is = sym e ∙ ap (λ x. x ∷ []) is
met_leaves w k (RefSet c m) l ls e some is = sym e ∙ ap (λ x. x ∷ []) is

filter_some : (before behind : List Leaf) (l : Leaf) → filter (is_leaf_of l.owner l.attribute) (before ++ l ∷ behind) ≡ [] → ⊥
filter_some before behind l e =
    let test = is_leaf_of l.owner l.attribute in
    let split : filter test before ++ cond (test l) (l ∷ filter test behind) (filter test behind) ≡ [] = sym (filter-append test before (l ∷ behind)) ∙ e in
    let there : filter test before ++ l ∷ filter test behind ≡ [] = subst (λ b. filter test before ++ cond b (l ∷ filter test behind) (filter test behind) ≡ []) (itself l) split in
    let size = length-append (filter test before) (l ∷ filter test behind) in
    absurd (omega (arith, size, ap length there))

module _ (o : Outline) (sound : IsSound o) where
  only_any : (before behind : List Leaf) (l : Leaf) → leaves_in (walk o) ≡ before ++ l ∷ behind → filter (is_leaf_of l.owner l.attribute) (leaves_in (walk o)) ≡ l ∷ []
  only_any before behind l whole =
      let at : slice_get (leaves_in (walk o)) (length before) ≡ Some l = ap (λ ls. slice_get ls (length before)) whole ∙ item_behind before behind l (length before) refl in
      let held = leaf_held o (length before) l at in
      let met = sym (ap leaves_in (met_is o sound l.owner l.attribute held.variable held.owner held.has)) ∙ kept_leaves l.owner l.attribute (walk o) in
      met_leaves (inside_of o l.owner) l.attribute held.variable.shape l (filter (is_leaf_of l.owner l.attribute) (leaves_in (walk o))) met
      (λ none. filter_some before behind l (ap (filter (is_leaf_of l.owner l.attribute)) (sym whole) ∙ none))
      (ap (leaf (inside_of o l.owner) l.attribute) held.shape)

  -- a leaf is met, so its shape holds no objects
  pub holds_leaf : (before behind : List Leaf) (l : Leaf) → leaves_in (walk o) ≡ before ++ l ∷ behind → leaves_in (first_met (inside_of o l.owner) l.attribute l.shape) ≡ [] → ⊥
  holds_leaf before behind l whole none =
      let at : slice_get (leaves_in (walk o)) (length before) ≡ Some l = ap (λ ls. slice_get ls (length before)) whole ∙ item_behind before behind l (length before) refl in
      let held = leaf_held o (length before) l at in
      let met = sym (ap leaves_in (met_is o sound l.owner l.attribute held.variable held.owner held.has)) ∙ kept_leaves l.owner l.attribute (walk o) in
      filter_some before behind l
      (ap (filter (is_leaf_of l.owner l.attribute)) (sym whole) ∙ sym met ∙ ap (λ s. leaves_in (first_met (inside_of o l.owner) l.attribute s)) held.shape ∙ none)

  pub no_one : (before behind : List Leaf) (l : Leaf) → leaves_in (walk o) ≡ before ++ l ∷ behind → (c : ℕ) → l.shape ≡ One c → ⊥
  no_one before behind l whole c is = holds_leaf before behind l whole (ap (λ s. leaves_in (first_met (inside_of o l.owner) l.attribute s)) is)

  pub no_many : (before behind : List Leaf) (l : Leaf) → leaves_in (walk o) ≡ before ++ l ∷ behind → (c n : ℕ) → l.shape ≡ Many c n → ⊥
  no_many before behind l whole c n is = holds_leaf before behind l whole (ap (λ s. leaves_in (first_met (inside_of o l.owner) l.attribute s)) is ∙ no_elements (inside_of o l.owner) l.attribute c n 0)

  -- what a configuration says at the cells of a leaf
  pub record SaysAt (t : List ℤ) (l : Leaf) (front : List ℤ) : Type 0 where
    pub values : map (value_at t) (own_cells o l.owner l.attribute) ≡ front
    pub members : filter_map (member_at (cells o) t) (own_cells o l.owner l.attribute) ≡ picks any_cell (leaf_cells o l) front

  pub says_at : (t : List ℤ) → IsConfiguration o t → (before behind : List Leaf) (l : Leaf) (a front back : List ℤ) → leaves_in (walk o) ≡ before ++ l ∷ behind → t ≡ a ++ (front ++ back) → AreValues o (flat_map (leaf_cells o) before) a → AreValues o (leaf_cells o l) front → AreValues o (flat_map (leaf_cells o) behind) back → SaysAt t l front
  says_at t conf before behind l a front back whole are of_a of_front of_back =
      let test = is_cell_of l.owner l.attribute in
      let only = only_one l before behind (ap (filter (is_leaf_of l.owner l.attribute)) (sym whole) ∙ only_any before behind l whole) (itself l) in
      let cells_before = flat_map (leaf_cells o) before in
      let cells_behind = flat_map (leaf_cells o) behind in
      let cells_are : cells o ≡ cells_before ++ (leaf_cells o l ++ cells_behind) = ap (flat_map (leaf_cells o)) whole ∙ flat_map-append (leaf_cells o) before (l ∷ behind) in
      record {
        values =
            values_from o test (cells o) [] t 0 refl conf
            ∙ (λ i. kept_values test (cells_are i) (are i))
            ∙ kept_append o test cells_before (leaf_cells o l ++ cells_behind) a (front ++ back) of_a
            ∙ ap (λ xs. xs ++ kept_values test (leaf_cells o l ++ cells_behind) (front ++ back)) (kept_none o l.owner l.attribute before a of_a only.none_before)
            ∙ kept_append o test (leaf_cells o l) cells_behind front back of_front
            ∙ ap (λ xs. kept_values test (leaf_cells o l) front ++ xs) (kept_none o l.owner l.attribute behind back of_back only.none_behind)
            ∙ append-nil (kept_values test (leaf_cells o l) front)
            ∙ kept_same o test (is_leaf_of l.owner l.attribute l) (leaf_cells o l) front of_front (shape_each o l.owner l.attribute l l.shape)
            ∙ ap (λ b. cond b front []) only.itself;
        members =
            picked_all o test (cells o) t conf
            ∙ (λ i. picks test (cells_are i) (are i))
            ∙ picks_append o test cells_before (leaf_cells o l ++ cells_behind) a (front ++ back) of_a
            ∙ ap (λ xs. xs ++ picks test (leaf_cells o l ++ cells_behind) (front ++ back)) (picks_none o l.owner l.attribute before a of_a only.none_before)
            ∙ picks_append o test (leaf_cells o l) cells_behind front back of_front
            ∙ ap (λ xs. picks test (leaf_cells o l) front ++ xs) (picks_none o l.owner l.attribute behind back of_back only.none_behind)
            ∙ append-nil (picks test (leaf_cells o l) front)
            ∙ picks_same o test (is_leaf_of l.owner l.attribute l) (leaf_cells o l) front (shape_each o l.owner l.attribute l l.shape)
            ∙ ap (λ b. cond b (picks any_cell (leaf_cells o l) front) []) only.itself;
      }
