-- The members of a reference set, picked from all cells and their values.
use Rattle.std.proofs.Common.{◌≡◌, ℕ, zero, suc, List, [], ◌∷◌, ◌++◌, Option, None, Some, Bool, true, false, cond, length, refl, sym, ap, ◌∙◌, subst, arith, length-append, append_assoc}
use Rattle.std.specs.Prelude.{ℤ, pos, option_and_then, slice_get, filter_map}
use Rattle.std.specs.List.{cons_option, filter}
use Rattle.std.proofs.lemmas.Option.{get_or_from_slice_get}
use Rattle.class_table.specs.declared.table.Resolved.{Resolved}
use Rattle.class_table.specs.declared.table.Resolved.TheVariants.{Span, Truth, Choice, One, Many, Ref, RefSet}
use Rattle.class_table.specs.Outline.{Outline}
use Rattle.class_table.specs.Sound.{IsSound}
use Rattle.object_alloc.specs.declared.object.Cell.{Cell}
use Rattle.object_alloc.specs.declared.object.Leaf.{Leaf}
use Rattle.object_alloc.specs.Cells.{extent, member_cells, shape_cells}
use Rattle.object_alloc.specs.Configurations.{AreValues}
use Rattle.object_alloc.specs.Groups.{numbers_from, is_cell_of, is_part_of}
use Rattle.object_alloc.specs.Hints.{ones}
use Rattle.object_alloc.specs.Members.{is_one, value_at, member_at}
use Rattle.object_alloc.specs.Own.{inside_of}
use Rattle.object_alloc.specs.Walk.{Met, Made, Passed, leaf, leaves_in, walk}
use Rattle.object_alloc.proofs.HeldLeaves.{leaf_held}
use Rattle.object_alloc.proofs.OwnLaws.{met_is}
use Rattle.object_alloc.proofs.OwnWalk.{is_leaf_of, kept, first_met}

-- the object that a cell stands for, where its value says that it is in
abbrev pub picked : Cell → ℤ → Option ℕ
picked c v = cond (is_one v) c.element None

-- those of the cells that pass the test
abbrev pub picks : (Cell → Bool) → List Cell → List ℤ → List ℕ
picks test [] vs = []
picks test (c ∷ cs) [] = []
picks test (c ∷ cs) (v ∷ vs) = cond (test c) (cons_option (picked c v) (picks test cs vs)) (picks test cs vs)

abbrev pub any_cell : Cell → Bool
any_cell c = true

pub item_behind : {X : Type 0} (pre xs : List X) (x : X) (n : ℕ) → n ≡ length pre → slice_get (pre ++ x ∷ xs) n ≡ Some x
item_behind [] xs x n e = ap (slice_get (x ∷ xs)) e
item_behind (p ∷ ps) xs x zero e = absurd (omega (arith, e))
item_behind (p ∷ ps) xs x (suc n) e = item_behind ps xs x n (omega (arith, e))

module _ (o : Outline) (test : Cell → Bool) where
  -- by the numbers of the cells
  picked_from : (pre cs : List Cell) (before vs : List ℤ) (n : ℕ) → n ≡ length pre → n ≡ length before → AreValues o cs vs → filter_map (member_at (pre ++ cs) (before ++ vs)) (numbers_from test n cs) ≡ picks test cs vs
  picked_from pre [] before vs n p b h = refl
  picked_from pre (c ∷ cs) before [] n p b h = absurd h
  picked_from pre (c ∷ cs) before (v ∷ vs) n p b (h, hs) =
      let rest = picked_from (pre ++ c ∷ []) cs (before ++ v ∷ []) vs (suc n) (omega (arith, p, length-append pre (c ∷ []))) (omega (arith, b, length-append before (v ∷ []))) hs in
      let cells_whole : (pre ++ c ∷ []) ++ cs ≡ pre ++ c ∷ cs = append_assoc pre (c ∷ []) cs in
      let values_whole : (before ++ v ∷ []) ++ vs ≡ before ++ v ∷ vs = append_assoc before (v ∷ []) vs in
      let more = subst (λ ys. filter_map (member_at ys (before ++ v ∷ vs)) (numbers_from test (suc n) cs) ≡ picks test cs vs) cells_whole (subst (λ ws. filter_map (member_at ((pre ++ c ∷ []) ++ cs) ws) (numbers_from test (suc n) cs) ≡ picks test cs vs) values_whole rest) in
      let value : value_at (before ++ v ∷ vs) n ≡ v = get_or_from_slice_get (before ++ v ∷ vs) n v (pos 0) (item_behind before vs v n b) in
      let here : member_at (pre ++ c ∷ cs) (before ++ v ∷ vs) n ≡ picked c v =
      ap (λ w. cond (is_one w) (option_and_then (λ (x : Cell). x.element) (slice_get (pre ++ c ∷ cs) n)) None) value
      ∙ ap (λ x. cond (is_one v) (option_and_then (λ (x : Cell). x.element) x) None) (item_behind pre cs c n p) in
      by (test c) here more
    where
      by : (t : Bool) → member_at (pre ++ c ∷ cs) (before ++ v ∷ vs) n ≡ picked c v → filter_map (member_at (pre ++ c ∷ cs) (before ++ v ∷ vs)) (numbers_from test (suc n) cs) ≡ picks test cs vs → filter_map (member_at (pre ++ c ∷ cs) (before ++ v ∷ vs)) (cond t (n ∷ numbers_from test (suc n) cs) (numbers_from test (suc n) cs)) ≡ cond t (cons_option (picked c v) (picks test cs vs)) (picks test cs vs)
      by true here more = ap (λ x. cons_option x (filter_map (member_at (pre ++ c ∷ cs) (before ++ v ∷ vs)) (numbers_from test (suc n) cs))) here ∙ ap (cons_option (picked c v)) more
      by false here more = more

  pub picked_all : (cs : List Cell) (vs : List ℤ) → AreValues o cs vs → filter_map (member_at cs vs) (numbers_from test 0 cs) ≡ picks test cs vs
  picked_all cs vs h = picked_from [] cs [] vs 0 refl refl h

  pub picks_append : (cs ds : List Cell) (vs ws : List ℤ) → AreValues o cs vs → picks test (cs ++ ds) (vs ++ ws) ≡ picks test cs vs ++ picks test ds ws
  picks_append [] ds [] ws h = refl
  picks_append [] ds (v ∷ vs) ws h = absurd h
  picks_append (c ∷ cs) ds [] ws h = absurd h
  picks_append (c ∷ cs) ds (v ∷ vs) ws (h, hs) = by (test c) (picked c v) (picks test (cs ++ ds) (vs ++ ws)) (picks test cs vs) (picks test ds ws) (picks_append cs ds vs ws hs)
    where
      by : (t : Bool) (m : Option ℕ) (xs ys zs : List ℕ) → xs ≡ ys ++ zs → cond t (cons_option m xs) xs ≡ cond t (cons_option m ys) ys ++ zs
      by true None xs ys zs e = e
      by true (Some n) xs ys zs e = ap (λ r. n ∷ r) e
      by false m xs ys zs e = e

  -- the test is the same at each of the cells
  abbrev pub Each : Bool → List Cell → Type 0
  Each b [] = Unit {0}
  Each b (c ∷ cs) = (test c ≡ b) × Each b cs

  pub picks_same : (b : Bool) (cs : List Cell) (vs : List ℤ) → Each b cs → picks test cs vs ≡ cond b (picks any_cell cs vs) []
  picks_same true [] vs h = refl
  picks_same false [] vs h = refl
  picks_same true (c ∷ cs) [] h = refl
  picks_same false (c ∷ cs) [] h = refl
  picks_same true (c ∷ cs) (v ∷ vs) (e, h) = ap (λ t. cond t (cons_option (picked c v) (picks test cs vs)) (picks test cs vs)) e ∙ ap (cons_option (picked c v)) (picks_same true cs vs h)
  picks_same false (c ∷ cs) (v ∷ vs) (e, h) = ap (λ t. cond t (cons_option (picked c v) (picks test cs vs)) (picks test cs vs)) e ∙ picks_same false cs vs h

-- the cells of a leaf are all of its attribute
module _ (o : Outline) (owner : Option ℕ) (k : ℕ) (l : Leaf) where
  members_each : (ns : List ℕ) → Each o (is_cell_of owner k) (is_leaf_of owner k l) (member_cells l ns)
  members_each [] = tt
  members_each (n ∷ ns) = (refl, members_each ns)

  pub shape_each : (s : Resolved) → Each o (is_cell_of owner k) (is_leaf_of owner k l) (shape_cells o l s)
  shape_each (Span low high) = (refl, tt)
  shape_each Truth = (refl, tt)
  shape_each (Choice e) = (refl, tt)
  shape_each (Ref c) = (refl, tt)
  shape_each (RefSet c m) = members_each (extent o c)
  shape_each (One c) = tt
  shape_each (Many c m) = tt

-- as many are picked as there are values that are 1
pub picks_ones : (o : Outline) (l : Leaf) (ns : List ℕ) (vs : List ℤ) → AreValues o (member_cells l ns) vs → length (picks any_cell (member_cells l ns) vs) ≡ ones vs
picks_ones o l [] [] h = refl
picks_ones o l [] (v ∷ vs) h = absurd h
picks_ones o l (n ∷ ns) [] h = absurd h
picks_ones o l (n ∷ ns) (v ∷ vs) (h, hs) = by (is_one v) (picks_ones o l ns vs hs)
  where
    by : (b : Bool) → length (picks any_cell (member_cells l ns) vs) ≡ ones vs → length (cons_option (cond b (Some n) None) (picks any_cell (member_cells l ns) vs)) ≡ cond b (suc (ones vs)) (ones vs)
    by true e = ap suc e
    by false e = e

-- the leaves that are met as an attribute
pub kept_leaves : (owner : Option ℕ) (k : ℕ) (ms : List Met) → leaves_in (kept owner k ms) ≡ filter (is_leaf_of owner k) (leaves_in ms)
kept_leaves owner k [] = refl
kept_leaves owner k (Made x ∷ ms) = by (is_part_of owner k x) (kept_leaves owner k ms)
  where
    by : (b : Bool) → leaves_in (kept owner k ms) ≡ filter (is_leaf_of owner k) (leaves_in ms) → leaves_in (cond b (Made x ∷ kept owner k ms) (kept owner k ms)) ≡ filter (is_leaf_of owner k) (leaves_in ms)
    by true rest = rest
    by false rest = rest
kept_leaves owner k (Passed l ∷ ms) = by (is_leaf_of owner k l) (kept_leaves owner k ms)
  where
    by : (b : Bool) → leaves_in (kept owner k ms) ≡ filter (is_leaf_of owner k) (leaves_in ms) → leaves_in (cond b (Passed l ∷ kept owner k ms) (kept owner k ms)) ≡ cond b (l ∷ filter (is_leaf_of owner k) (leaves_in ms)) (filter (is_leaf_of owner k) (leaves_in ms))
    by true rest = ap (λ ls. l ∷ ls) rest
    by false rest = rest

-- a reference set is the only leaf of its attribute
pub only_leaf : (o : Outline) → IsSound o → (i : ℕ) (l : Leaf) (c n : ℕ) → slice_get (leaves_in (walk o)) i ≡ Some l → l.shape ≡ RefSet c n → filter (is_leaf_of l.owner l.attribute) (leaves_in (walk o)) ≡ l ∷ []
only_leaf o sound i l c n at is =
    let held = leaf_held o i l at in
    let shape : held.variable.shape ≡ RefSet c n = held.shape ∙ is in
    sym (kept_leaves l.owner l.attribute (walk o))
    ∙ ap leaves_in (met_is o sound l.owner l.attribute held.variable held.owner held.has ∙ ap (first_met (inside_of o l.owner) l.attribute) shape)
    ∙ ap (λ s. leaf (inside_of o l.owner) l.attribute s ∷ []) (sym is)
