-- A configuration in which each reference set has its size, taken as hints; and what hints are cell by cell.
use Rattle.std.proofs.Common.{◌≡◌, ◌++◌, ◌∙◌, ℕ, suc, ◌+◌, Bool, true, false, cond, List, [], ◌∷◌, Option, None, Some, length, map, inl, inr, refl, ap, sym, subst, arith, length-append, append_assoc, append-nil, eq-eqb}
use Rattle.std.specs.Prelude.{ℤ, All, filter_map, replicate, slice_get}
use Rattle.std.specs.List.{filter, flat_map}
use Rattle.std.proofs.lemmas.Grind.{flat_map-append}
use Rattle.std.proofs.lemmas.List.{map-append}
use Rattle.std.proofs.lemmas.Option.{get_or_from_slice_get, slice_get_within}
use Rattle.std.proofs.lemmas.List.Elements.{filter-append}
use Rattle.class_table.specs.declared.table.Resolved.{Resolved}
use Rattle.class_table.specs.declared.table.Resolved.TheVariants.{Span, Truth, Choice, One, Many, Ref, RefSet}
use Rattle.class_table.specs.Outline.{Outline}
use Rattle.class_table.specs.Sound.{IsSound}
use Rattle.object_alloc.specs.declared.object.Cell.{Cell}
use Rattle.object_alloc.specs.declared.object.Leaf.{Leaf}
use Rattle.object_alloc.specs.Cells.{cells, extent, leaf_cells, member_cells, shape_cells}
use Rattle.object_alloc.specs.Configurations.{AreValues, IsConfiguration}
use Rattle.object_alloc.specs.Groups.{is_cell_of, own_cells}
use Rattle.object_alloc.specs.Hints.{AreCellHints, AreHints, AreLeavesHinted, IsLeafGiven, IsLeafHinted, IsSized, ones}
use Rattle.object_alloc.specs.Members.{HasItsSize, member_at}
use Rattle.object_alloc.specs.Walk.{walk, leaves_in}
use Rattle.object_alloc.proofs.OwnWalk.{is_leaf_of, same_itself}
use Rattle.object_alloc.proofs.PickedMembers.{any_cell, item_behind, only_leaf, picked_all, picks, picks_append, picks_ones, picks_same, shape_each}

-- values of two rows of cells, taken apart
pub record AreParted (o : Outline) (cs ds : List Cell) (vs : List ℤ) : Type 0 where
  pub front : List ℤ
  pub back : List ℤ
  pub are : vs ≡ front ++ back
  pub of_front : AreValues o cs front
  pub of_back : AreValues o ds back

pub parted : (o : Outline) (cs ds : List Cell) (vs : List ℤ) → AreValues o (cs ++ ds) vs → AreParted o cs ds vs
parted o [] ds vs h = record { front = []; back = vs; are = refl; of_front = tt; of_back = h }
parted o (c ∷ cs) ds [] h = absurd h
parted o (c ∷ cs) ds (v ∷ vs) (h, hs) =
    let r = parted o cs ds vs hs in
    record { front = v ∷ r.front; back = r.back; are = ap (λ ws. v ∷ ws) r.are; of_front = (h, r.of_front); of_back = r.of_back }

pub values_append : (o : Outline) (cs ds : List Cell) (vs ws : List ℤ) → AreValues o cs vs → AreValues o ds ws → AreValues o (cs ++ ds) (vs ++ ws)
values_append o [] ds [] ws a b = b
values_append o [] ds (v ∷ vs) ws a b = absurd a
values_append o (c ∷ cs) ds [] ws a b = absurd a
values_append o (c ∷ cs) ds (v ∷ vs) ws (h, a) b = (h, values_append o cs ds vs ws a b)

-- the only leaf of its attribute among these
pub record IsOnly (l : Leaf) (before behind : List Leaf) : Type 0 where
  pub none_before : filter (is_leaf_of l.owner l.attribute) before ≡ []
  pub itself : is_leaf_of l.owner l.attribute l ≡ true
  pub none_behind : filter (is_leaf_of l.owner l.attribute) behind ≡ []

nil_of : {X : Type 0} (xs : List X) → length xs ≡ 0 → xs ≡ []
nil_of [] e = refl
nil_of (x ∷ xs) e = absurd (omega (arith, e))

pub only_one : (l : Leaf) (before behind : List Leaf) → filter (is_leaf_of l.owner l.attribute) (before ++ l ∷ behind) ≡ l ∷ [] → is_leaf_of l.owner l.attribute l ≡ true → IsOnly l before behind
only_one l before behind e itself =
    let test = is_leaf_of l.owner l.attribute in
    let split : filter test before ++ cond (test l) (l ∷ filter test behind) (filter test behind) ≡ l ∷ [] = sym (filter-append test before (l ∷ behind)) ∙ e in
    let there : filter test before ++ l ∷ filter test behind ≡ l ∷ [] = subst (λ b. filter test before ++ cond b (l ∷ filter test behind) (filter test behind) ≡ l ∷ []) itself split in
    let size : length (filter test before) + suc (length (filter test behind)) ≡ 1 = sym (length-append (filter test before) (l ∷ filter test behind)) ∙ ap length there in
    record { none_before = nil_of (filter test before) (omega (arith, size)); itself = itself; none_behind = nil_of (filter test behind) (omega (arith, size)) }

-- nothing is picked for an attribute from cells of other leaves
pub picks_none : (o : Outline) (owner : Option ℕ) (k : ℕ) (ls : List Leaf) (vs : List ℤ) → AreValues o (flat_map (leaf_cells o) ls) vs → filter (is_leaf_of owner k) ls ≡ [] → picks (is_cell_of owner k) (flat_map (leaf_cells o) ls) vs ≡ []
picks_none o owner k [] vs h e = refl
picks_none o owner k (l ∷ ls) vs h e =
    let r = parted o (leaf_cells o l) (flat_map (leaf_cells o) ls) vs h in
    ap (picks (is_cell_of owner k) (leaf_cells o l ++ flat_map (leaf_cells o) ls)) r.are
    ∙ picks_append o (is_cell_of owner k) (leaf_cells o l) (flat_map (leaf_cells o) ls) r.front r.back r.of_front
    ∙ by (is_leaf_of owner k l) r.front (picks_same o (is_cell_of owner k) (is_leaf_of owner k l) (leaf_cells o l) r.front (shape_each o owner k l l.shape)) e (λ g. picks_none o owner k ls r.back r.of_back g)
  where
    by : (b : Bool) (front : List ℤ) {rest : List ℕ} → picks (is_cell_of owner k) (leaf_cells o l) front ≡ cond b (picks any_cell (leaf_cells o l) front) [] → cond b (l ∷ filter (is_leaf_of owner k) ls) (filter (is_leaf_of owner k) ls) ≡ [] → (filter (is_leaf_of owner k) ls ≡ [] → rest ≡ []) → picks (is_cell_of owner k) (leaf_cells o l) front ++ rest ≡ []
    by true front here e rest = cc
    by false front {rest} here e more = ap (λ xs. xs ++ rest) here ∙ more e

leaf_at : (P : Leaf → Type 0) (ls : List Leaf) (k : ℕ) (l : Leaf) → All P ls → slice_get ls k ≡ Some l → P l
leaf_at P ls k l all g = subst P (get_or_from_slice_get ls k l l g) (all k l (slice_get_within ls k l g))

pub itself : (l : Leaf) → is_leaf_of l.owner l.attribute l ≡ true
itself l = rw (same_itself l.owner, eq-eqb l.attribute l.attribute refl) refl

pub sized_by : (s : Resolved) (vs : List ℤ) → ((c n : ℕ) → s ≡ RefSet c n → ones vs ≡ n) → IsSized s vs
sized_by (RefSet c n) vs h = h c n refl
sized_by (Span low high) vs h = tt
sized_by Truth vs h = tt
sized_by (Choice e) vs h = tt
sized_by (Ref c) vs h = tt
sized_by (One c) vs h = tt
sized_by (Many c n) vs h = tt

module _ (o : Outline) (sound : IsSound o) (t : List ℤ) (conf : IsConfiguration o t) (sizes : All (HasItsSize o t) (leaves_in (walk o))) where
  -- a reference set, with the leaves before it and behind it
  set_size : (before behind : List Leaf) (l : Leaf) (a front back : List ℤ) → leaves_in (walk o) ≡ before ++ l ∷ behind → t ≡ a ++ (front ++ back) → AreValues o (flat_map (leaf_cells o) before) a → AreValues o (leaf_cells o l) front → AreValues o (flat_map (leaf_cells o) behind) back → (c n : ℕ) → l.shape ≡ RefSet c n → ones front ≡ n
  set_size before behind l a front back whole are of_a of_front of_back c n is =
      let test = is_cell_of l.owner l.attribute in
      let i = length before in
      let at : slice_get (leaves_in (walk o)) i ≡ Some l = ap (λ ls. slice_get ls i) whole ∙ item_behind before behind l i refl in
      let only = only_one l before behind (ap (filter (is_leaf_of l.owner l.attribute)) (sym whole) ∙ only_leaf o sound i l c n at is) (itself l) in
      let cells_before = flat_map (leaf_cells o) before in
      let cells_behind = flat_map (leaf_cells o) behind in
      let cells_are : cells o ≡ cells_before ++ (leaf_cells o l ++ cells_behind) = ap (flat_map (leaf_cells o)) whole ∙ flat_map-append (leaf_cells o) before (l ∷ behind) in
      let picked : filter_map (member_at (cells o) t) (own_cells o l.owner l.attribute) ≡ picks any_cell (leaf_cells o l) front =
      picked_all o test (cells o) t conf
      ∙ ap (λ cs. picks test cs t) cells_are
      ∙ ap (picks test (cells_before ++ (leaf_cells o l ++ cells_behind))) are
      ∙ picks_append o test cells_before (leaf_cells o l ++ cells_behind) a (front ++ back) of_a
      ∙ ap (λ xs. xs ++ picks test (leaf_cells o l ++ cells_behind) (front ++ back)) (picks_none o l.owner l.attribute before a of_a only.none_before)
      ∙ picks_append o test (leaf_cells o l) cells_behind front back of_front
      ∙ ap (λ xs. picks test (leaf_cells o l) front ++ xs) (picks_none o l.owner l.attribute behind back of_back only.none_behind)
      ∙ append-nil (picks test (leaf_cells o l) front)
      ∙ picks_same o test (is_leaf_of l.owner l.attribute l) (leaf_cells o l) front (shape_each o l.owner l.attribute l l.shape)
      ∙ ap (λ b. cond b (picks any_cell (leaf_cells o l) front) []) only.itself in
      let members : leaf_cells o l ≡ member_cells l (extent o c) = ap (shape_cells o l) is in
      sym (picks_ones o l (extent o c) front (subst (λ cs. AreValues o cs front) members of_front))
      ∙ ap (λ cs. length (picks any_cell cs front)) (sym members)
      ∙ sym (ap length picked)
      ∙ leaf_at (HasItsSize o t) (leaves_in (walk o)) i l sizes at c n is

  hinted : (before ls : List Leaf) (a b : List ℤ) → leaves_in (walk o) ≡ before ++ ls → t ≡ a ++ b → AreValues o (flat_map (leaf_cells o) before) a → AreValues o (flat_map (leaf_cells o) ls) b → AreLeavesHinted o ls (map Some b)
  hinted before [] a [] whole are of_a of_b = refl
  hinted before [] a (v ∷ b) whole are of_a of_b = absurd of_b
  hinted before (l ∷ ls) a b whole are of_a of_b =
      let r = parted o (leaf_cells o l) (flat_map (leaf_cells o) ls) b of_b in
      let all : t ≡ a ++ (r.front ++ r.back) = are ∙ ap (λ vs. a ++ vs) r.are in
      let cells_now : flat_map (leaf_cells o) (before ++ l ∷ []) ≡ flat_map (leaf_cells o) before ++ leaf_cells o l =
      flat_map-append (leaf_cells o) before (l ∷ []) ∙ ap (λ cs. flat_map (leaf_cells o) before ++ cs) (append-nil (leaf_cells o l)) in
      let given : IsLeafGiven o l (map Some r.front) =
      record {
        values = r.front;
        all = refl;
        within = r.of_front;
        size = sized_by l.shape r.front (set_size before ls l a r.front r.back whole all of_a r.of_front r.of_back);
      } in
      let of_now = subst (λ cs. AreValues o cs (a ++ r.front)) (sym cells_now) (values_append o (flat_map (leaf_cells o) before) (leaf_cells o l) a r.front of_a r.of_front) in
      let rest = hinted (before ++ l ∷ []) ls (a ++ r.front) r.back (whole ∙ sym (append_assoc before (l ∷ []) ls)) (all ∙ sym (append_assoc a r.front r.back)) of_now r.of_back in
      (map Some r.front, map Some r.back, ap (map Some) r.are ∙ map-append Some r.front r.back, inr given, rest)

  -- the values of a configuration are hints
  pub configuration_hints : AreHints o (map Some t)
  configuration_hints = hinted [] (leaves_in (walk o)) [] t refl refl tt conf

-- Hints, cell by cell

module _ (o : Outline) where
  hints_append : (cs ds : List Cell) (hs ks : List (Option ℤ)) → AreCellHints o cs hs → AreCellHints o ds ks → AreCellHints o (cs ++ ds) (hs ++ ks)
  hints_append [] ds [] ks a b = b
  hints_append [] ds (h ∷ hs) ks a b = absurd a
  hints_append (c ∷ cs) ds [] ks a b = absurd a
  hints_append (c ∷ cs) ds (h ∷ hs) ks (i, a) b = (i, hints_append cs ds hs ks a b)

  no_hints : (cs : List Cell) → AreCellHints o cs (replicate (length cs) None)
  no_hints [] = tt
  no_hints (c ∷ cs) = (tt, no_hints cs)

  value_hints : (cs : List Cell) (vs : List ℤ) → AreValues o cs vs → AreCellHints o cs (map Some vs)
  value_hints [] [] h = tt
  value_hints [] (v ∷ vs) h = absurd h
  value_hints (c ∷ cs) [] h = absurd h
  value_hints (c ∷ cs) (v ∷ vs) (h, hs) = (h, value_hints cs vs hs)

  leaf_hints_lie : (l : Leaf) (hs : List (Option ℤ)) → IsLeafHinted o l hs → AreCellHints o (leaf_cells o l) hs
  leaf_hints_lie l hs (inl e) = subst (AreCellHints o (leaf_cells o l)) (sym e) (no_hints (leaf_cells o l))
  leaf_hints_lie l hs (inr g) = subst (AreCellHints o (leaf_cells o l)) (sym g.all) (value_hints (leaf_cells o l) g.values g.within)

  leaves_hints_lie : (ls : List Leaf) (hs : List (Option ℤ)) → AreLeavesHinted o ls hs → AreCellHints o (flat_map (leaf_cells o) ls) hs
  leaves_hints_lie [] hs e = subst (AreCellHints o []) (sym e) tt
  leaves_hints_lie (l ∷ ls) hs (here, behind, e, h, rest) =
      subst (AreCellHints o (leaf_cells o l ++ flat_map (leaf_cells o) ls)) (sym e)
      (hints_append (leaf_cells o l) (flat_map (leaf_cells o) ls) here behind (leaf_hints_lie l here h) (leaves_hints_lie ls behind rest))

  pub hints_lie : (hs : List (Option ℤ)) → AreHints o hs → AreCellHints o (cells o) hs
  hints_lie hs h = leaves_hints_lie (leaves_in (walk o)) hs h
