-- A JSON value gives hints in their form; one that gives every leaf a value is a configuration whose reference sets have their sizes.
use Rattle.std.proofs.Common.{◌≡◌, ℕ, zero, suc, List, [], ◌∷◌, ◌++◌, Option, None, Some, Bool, true, false, cond, length, map, refl, sym, ap, ◌∙◌, subst, append-nil, inl, inr}
use Rattle.std.specs.Prelude.{ℤ, option_and_then, slice_get, slice_index_or, is_some, replicate}
use Rattle.std.specs.List.{filter, flat_map}
use Rattle.std.specs.Option.{option_map_or}
use Rattle.std.proofs.lemmas.List.{map-append}
use Rattle.std.proofs.lemmas.Option.{slice_get-get_or}
use Rattle.class_table.specs.declared.table.Resolved.TheVariants.{RefSet}
use Rattle.class_table.specs.Outline.{Outline}
use Rattle.class_table.specs.Sound.{IsSound}
use Rattle.object_alloc.specs.declared.object.Leaf.{Leaf}
use Rattle.object_alloc.specs.Cells.{cells, extent, leaf_cells, member_cells, shape_cells}
use Rattle.object_alloc.specs.Configurations.{AreValues}
use Rattle.object_alloc.specs.Groups.{is_cell_of}
use Rattle.object_alloc.specs.Hints.{AreHints, AreLeavesHinted, IsLeafHinted, ones}
use Rattle.object_alloc.specs.Members.{HasItsSize}
use Rattle.object_alloc.specs.Walk.{leaves_in, walk}
use Rattle.object_alloc.proofs.HintLaws.{sized_by, values_append}
use Rattle.object_alloc.proofs.OwnWalk.{is_leaf_of}
use Rattle.object_alloc.proofs.PickedMembers.{any_cell, only_leaf, picked_all, picks, picks_append, picks_ones, picks_same, shape_each}
use Rattle.serde_json.specs.Data.{Data}
use Rattle.config_json.specs.Former.{value_in, leaf_position, former, leaf_hints, hints, leaf_path, first_missing, missing}
use Rattle.config_json.specs.Whole.{IsWhole}
use Rattle.config_json.proofs.DomainLaws.{values_within}
use Rattle.config_json.proofs.PickLaws.{set_size}

module _ (o : Outline) (d : Data) where
  -- the values that the cells of a leaf are given
  abbrev pub given : Leaf → List ℤ
  given l = option_map_or (λ vs. vs) (former o d l) []

  -- the leaf has a value
  pub record IsGiven (l : Leaf) : Type 0 where
    pub position : Data
    pub is : value_in o l.shape position ≡ Some (given l)
    pub hints_are : leaf_hints o d l ≡ map Some (given l)

  abbrev pub AreGiven : List Leaf → Type 0
  AreGiven [] = Unit {0}
  AreGiven (l ∷ ls) = IsGiven l × AreGiven ls

  is_given : (l : Leaf) (r : Option (List ℤ)) → former o d l ≡ r → is_some r ≡ true → IsGiven l
  is_given l None is e = cc
  is_given l (Some vs) is e = by (leaf_position o d l) is
    where
      same : given l ≡ vs
      same = ap (λ r. option_map_or (λ vs. vs) r []) is

      by : (p : Option Data) → option_and_then (value_in o l.shape) p ≡ Some vs → IsGiven l
      by None g = cc
      by (Some x) g = record { position = x; is = g ∙ ap Some (sym same); hints_are = ap (λ r. option_map_or (map Some) r (replicate (length (leaf_cells o l)) None)) is ∙ ap (map Some) (sym same) }

  all_given : (ls : List Leaf) → first_missing o d ls ≡ None → AreGiven ls
  all_given [] e = tt
  all_given (l ∷ ls) e = by (is_some (former o d l)) refl e (λ r. all_given ls r)
    where
      by : (b : Bool) → is_some (former o d l) ≡ b → cond b (first_missing o d ls) (Some (leaf_path o l)) ≡ None → (first_missing o d ls ≡ None → AreGiven ls) → IsGiven l × AreGiven ls
      by true is e rest = (is_given l (former o d l) refl is, rest e)
      by false is e rest = cc

  hints_given : (ls : List Leaf) → AreGiven ls → flat_map (leaf_hints o d) ls ≡ map Some (flat_map given ls)
  hints_given [] h = refl
  hints_given (l ∷ ls) (h, hs) =
      ap (λ xs. xs ++ flat_map (leaf_hints o d) ls) h.hints_are ∙ ap (λ xs. map Some (given l) ++ xs) (hints_given ls hs)
      ∙ sym (map-append Some (given l) (flat_map given ls))

  values_given : (ls : List Leaf) → AreGiven ls → AreValues o (flat_map (leaf_cells o) ls) (flat_map given ls)
  values_given [] h = tt
  values_given (l ∷ ls) (h, hs) = values_append o (leaf_cells o l) (flat_map (leaf_cells o) ls) (given l) (flat_map given ls) (values_within o l l.shape h.position (given l) h.is) (values_given ls hs)

  given_at : (ls : List Leaf) (i : ℕ) (l : Leaf) → AreGiven ls → slice_get ls i ≡ Some l → IsGiven l
  given_at [] i l h e = cc
  given_at (m ∷ ms) zero l (h, hs) e = subst IsGiven (some_is e) h
    where
      some_is : {a b : Leaf} → Some a ≡ Some b → a ≡ b
      some_is e = cc
  given_at (m ∷ ms) (suc i) l (h, hs) e = given_at ms i l hs e

  -- what is picked for an attribute is what is picked for its leaves
  picks_leaves : (owner : Option ℕ) (k : ℕ) (ls : List Leaf) → AreGiven ls → picks (is_cell_of owner k) (flat_map (leaf_cells o) ls) (flat_map given ls) ≡ flat_map (λ l. picks any_cell (leaf_cells o l) (given l)) (filter (is_leaf_of owner k) ls)
  picks_leaves owner k [] h = refl
  picks_leaves owner k (l ∷ ls) (h, hs) =
      picks_append o (is_cell_of owner k) (leaf_cells o l) (flat_map (leaf_cells o) ls) (given l) (flat_map given ls) (values_within o l l.shape h.position (given l) h.is)
      ∙ by (is_leaf_of owner k l) (picks_same o (is_cell_of owner k) (is_leaf_of owner k l) (leaf_cells o l) (given l) (shape_each o owner k l l.shape)) (picks_leaves owner k ls hs)
    where
      by : (b : Bool) → picks (is_cell_of owner k) (leaf_cells o l) (given l) ≡ cond b (picks any_cell (leaf_cells o l) (given l)) [] → picks (is_cell_of owner k) (flat_map (leaf_cells o) ls) (flat_map given ls) ≡ flat_map (λ l. picks any_cell (leaf_cells o l) (given l)) (filter (is_leaf_of owner k) ls) → picks (is_cell_of owner k) (leaf_cells o l) (given l) ++ picks (is_cell_of owner k) (flat_map (leaf_cells o) ls) (flat_map given ls) ≡ flat_map (λ l. picks any_cell (leaf_cells o l) (given l)) (cond b (l ∷ filter (is_leaf_of owner k) ls) (filter (is_leaf_of owner k) ls))
      by true here rest = ap (λ xs. xs ++ picks (is_cell_of owner k) (flat_map (leaf_cells o) ls) (flat_map given ls)) here ∙ ap (λ xs. picks any_cell (leaf_cells o l) (given l) ++ xs) rest
      by false here rest = ap (λ xs. xs ++ picks (is_cell_of owner k) (flat_map (leaf_cells o) ls) (flat_map given ls)) here ∙ rest

  -- the hints have their form, leaf by leaf
  set_ones : (l : Leaf) → IsGiven l → (c n : ℕ) → l.shape ≡ RefSet c n → ones (given l) ≡ n
  set_ones l g c n is =
      let members : leaf_cells o l ≡ member_cells l (extent o c) = ap (shape_cells o l) is in
      let within = subst (λ cs. AreValues o cs (given l)) members (values_within o l l.shape g.position (given l) g.is) in
      sym (picks_ones o l (extent o c) (given l) within) ∙ ap (λ cs. length (picks any_cell cs (given l))) (sym members) ∙ set_size o l l.shape c n g.position (given l) is g.is

  leaf_form : (l : Leaf) (r : Option (List ℤ)) → former o d l ≡ r → IsLeafHinted o l (leaf_hints o d l)
  leaf_form l None is = inl (ap (λ r. option_map_or (map Some) r (replicate (length (leaf_cells o l)) None)) is)
  leaf_form l (Some vs) is =
      let g = is_given l (Some vs) is refl in
      inr (record { values = given l; all = g.hints_are; within = values_within o l l.shape g.position (given l) g.is; size = sized_by l.shape (given l) (set_ones l g) })

  leaves_form : (ls : List Leaf) → AreLeavesHinted o ls (flat_map (leaf_hints o d) ls)
  leaves_form [] = refl
  leaves_form (l ∷ ls) = (leaf_hints o d l, flat_map (leaf_hints o d) ls, refl, leaf_form l (former o d l) refl, leaves_form ls)

  pub hints_form : (hs : List (Option ℤ)) → hs ≡ hints o d → AreHints o hs
  hints_form hs is = subst (AreHints o) (sym is) (leaves_form (leaves_in (walk o)))

  abbrev values : List ℤ
  values = flat_map given (leaves_in (walk o))

  size_is : IsSound o → AreGiven (leaves_in (walk o)) → (i : ℕ) (l : Leaf) → slice_get (leaves_in (walk o)) i ≡ Some l → HasItsSize o values l
  size_is sound h i l at c n is =
      let given_l = given_at (leaves_in (walk o)) i l h at in
      ap length (picked_all o (is_cell_of l.owner l.attribute) (cells o) values (values_given (leaves_in (walk o)) h)
      ∙ picks_leaves l.owner l.attribute (leaves_in (walk o)) h
      ∙ ap (flat_map (λ l. picks any_cell (leaf_cells o l) (given l))) (only_leaf o sound i l c n at is)
      ∙ append-nil (picks any_cell (leaf_cells o l) (given l)))
      ∙ set_size o l l.shape c n given_l.position (given l) is given_l.is

  pub whole : IsSound o → missing o d ≡ None → IsWhole o (hints o d)
  whole sound e =
      let h = all_given (leaves_in (walk o)) e in
      record {
        values = values;
        all = hints_given (leaves_in (walk o)) h;
        configuration = values_given (leaves_in (walk o)) h;
        sets = λ i l lt. size_is sound h i (slice_index_or (leaves_in (walk o)) i l) (slice_get-get_or (leaves_in (walk o)) i l lt);
      }

  -- hints that are found where none is missing
  pub whole_found : (hs : List (Option ℤ)) → IsSound o → hs ≡ hints o d → missing o d ≡ None → IsWhole o hs
  whole_found hs sound is e = subst (IsWhole o) (sym is) (whole sound e)
