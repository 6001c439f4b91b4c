-- The values of a configuration are read back from its JSON value.
use Rattle.std.proofs.Common.{◌≡◌, ℕ, ◌<◌, ◌^◌, ◌++◌, List, [], ◌∷◌, None, Some, cond, length, map, refl, sym, ap, ◌∙◌, subst, append_assoc, append-nil}
use Rattle.std.specs.Prelude.{ℤ, pos, All, filter_map, is_some, nat_abs, option_and_then, option_map, replicate, slice_get}
use Rattle.std.specs.List.{flat_map}
use Rattle.std.specs.Option.{option_map_or}
use Rattle.std.proofs.lemmas.Grind.{flat_map-append}
use Rattle.std.proofs.lemmas.List.{map-append}
use Rattle.std.proofs.lemmas.Option.{get_or_from_slice_get, slice_get_within}
use Rattle.class_table.specs.declared.table.Resolved.{Resolved}
use Rattle.class_table.specs.declared.table.Resolved.TheVariants.{Span, Truth, Choice, One, Many, Ref, RefSet}
use Rattle.class_table.specs.Outline.{Outline}
use Rattle.class_table.specs.Sound.{IsSound}
use Rattle.object_alloc.specs.declared.object.Leaf.{Leaf}
use Rattle.object_alloc.specs.Cells.{cells, extent, leaf_cells, shape_cells}
use Rattle.object_alloc.specs.Configurations.{AreValues, IsConfiguration}
use Rattle.object_alloc.specs.Groups.{own_cells}
use Rattle.object_alloc.specs.Members.{HasItsSize, is_one, member_at, value_at}
use Rattle.object_alloc.specs.Walk.{leaves_in, objects, walk}
use Rattle.object_alloc.proofs.HeldLeaves.{leaf_held}
use Rattle.object_alloc.proofs.HintLaws.{parted, values_append}
use Rattle.object_alloc.proofs.OwnValues.{no_many, no_one, says_at}
use Rattle.object_alloc.proofs.PickedMembers.{any_cell, item_behind, picks}
use Rattle.serde_json.specs.Data.{number}
use Rattle.serde_json.specs.Find.{of_integer}
use Rattle.config_json.specs.Former.{first_missing, former, hints, leaf_hints, leaf_path, missing, object_in, one, set_in, truth_number, value_in, value_number, whole_in}
use Rattle.config_json.specs.Keys.{text_of, value_name}
use Rattle.config_json.proofs.Texts.{HasTexts}
use Rattle.config_json.specs.Tree.{config_data, leaf_data, path_data, paths_data}
use Rattle.config_json.proofs.OwnLeafValues.{choice_back, only_is, truth_is, whole_back}
use Rattle.config_json.proofs.OwnMembers.{any_of, object_back, set_back}
use Rattle.config_json.proofs.OwnPositions.{leaf_stands}

module _ (o : Outline) (sound : IsSound o) (few : length (objects o) < 2 ^ 32) (texts : HasTexts o) (t : List ℤ) where
  shape_back : (l : Leaf) (s : Resolved) (own : List ℕ) (front : List ℤ) → AreValues o (shape_cells o l s) front → map (value_at t) own ≡ front → filter_map (member_at (cells o) t) own ≡ picks any_cell (shape_cells o l s) front → ((c n : ℕ) → s ≡ RefSet c n → length (filter_map (member_at (cells o) t) own) ≡ n) → ((c : ℕ) → s ≡ One c → ⊥) → ((c n : ℕ) → s ≡ Many c n → ⊥) → value_in o s (leaf_data o t own s) ≡ Some front
  shape_back l (Span low high) own [] h values members size not_one not_many = absurd h
  shape_back l (Span low high) own (v ∷ []) h values members size not_one not_many =
      ap (λ w. option_map one (whole_in low high (number (of_integer w)))) (only_is t own v values) ∙ ap (option_map one) (whole_back low high v h.0.0 h.0.1)
  shape_back l (Span low high) own (v ∷ w ∷ vs) h values members size not_one not_many = absurd h.1
  shape_back l Truth own [] h values members size not_one not_many = absurd h
  shape_back l Truth own (v ∷ []) h values members size not_one not_many =
      ap (λ w. Some (truth_number (is_one w) ∷ [])) (only_is t own v values) ∙ ap (λ w. Some (w ∷ [])) (truth_is v h.0.0 h.0.1)
  shape_back l Truth own (v ∷ w ∷ vs) h values members size not_one not_many = absurd h.1
  shape_back l (Choice e) own [] h values members size not_one not_many = absurd h
  shape_back l (Choice e) own (v ∷ []) h values members size not_one not_many =
      ap (λ w. option_map one (value_number o e (text_of (value_name o e (nat_abs w))))) (only_is t own v values) ∙ ap (option_map one) (choice_back o texts e v h.0.0 h.0.1)
  shape_back l (Choice e) own (v ∷ w ∷ vs) h values members size not_one not_many = absurd h.1
  shape_back l (Ref c) own [] h values members size not_one not_many = absurd h
  shape_back l (Ref c) own (v ∷ []) h values members size not_one not_many =
      let r = h.0 in
      ap (λ w. option_map one (option_map pos (object_in o c (path_data o (nat_abs w))))) (only_is t own v values ∙ r.is)
      ∙ ap (λ found. option_map one (option_map pos found)) (object_back o sound few texts c r.object (any_of (extent o c) r.object r.has))
      ∙ ap (λ w. Some (w ∷ [])) (sym r.is)
  shape_back l (Ref c) own (v ∷ w ∷ vs) h values members size not_one not_many = absurd h.1
  shape_back l (RefSet c n) own front h values members size not_one not_many =
      ap (λ ns. set_in o c n (paths_data o ns)) members ∙ set_back o sound few texts c n l front h (sym (ap length members) ∙ size c n refl)
  shape_back l (One c) own front h values members size not_one not_many = absurd (not_one c refl)
  shape_back l (Many c n) own front h values members size not_one not_many = absurd (not_many c n refl)

  leaf_at : (P : Leaf → Type 0) (ls : List Leaf) (k : ℕ) (l : Leaf) → All P ls → slice_get ls k ≡ Some l → P l
  leaf_at P ls k l all g = subst P (get_or_from_slice_get ls k l l g) (all k l (slice_get_within ls k l g))

  module _ (conf : IsConfiguration o t) (sizes : All (HasItsSize o t) (leaves_in (walk o))) where
    -- a leaf is read back
    former_back : (before behind : List Leaf) (l : Leaf) (a front back : List ℤ) → leaves_in (walk o) ≡ before ++ l ∷ behind → t ≡ a ++ (front ++ back) → AreValues o (flat_map (leaf_cells o) before) a → AreValues o (leaf_cells o l) front → AreValues o (flat_map (leaf_cells o) behind) back → former o (config_data o t) l ≡ Some front
    former_back before behind l a front back whole are of_a of_front of_back =
        let at : slice_get (leaves_in (walk o)) (length before) ≡ Some l = ap (λ ls. slice_get ls (length before)) whole ∙ item_behind before behind l (length before) refl in
        let says = says_at o sound t conf before behind l a front back whole are of_a of_front of_back in
        let not_one = no_one o sound before behind l whole in
        let not_many = no_many o sound before behind l whole in
        ap (option_and_then (value_in o l.shape)) (leaf_stands o sound texts t l (leaf_held o (length before) l at) not_one not_many)
        ∙ shape_back l l.shape (own_cells o l.owner l.attribute) front of_front says.values says.members (leaf_at (HasItsSize o t) (leaves_in (walk o)) (length before) l sizes at) not_one not_many

    -- these leaves are read back
    record AreBack (ls : List Leaf) (b : List ℤ) : Type 0 where
      pub hints_are : flat_map (leaf_hints o (config_data o t)) ls ≡ map Some b
      pub none_missing : first_missing o (config_data o t) ls ≡ None

    all_back : (before ls : List Leaf) (a b : List ℤ) → leaves_in (walk o) ≡ before ++ ls → t ≡ a ++ b → AreValues o (flat_map (leaf_cells o) before) a → AreValues o (flat_map (leaf_cells o) ls) b → AreBack ls b
    all_back before [] a [] whole are of_a of_b = record { hints_are = refl; none_missing = refl }
    all_back before [] a (v ∷ b) whole are of_a of_b = absurd of_b
    all_back before (l ∷ ls) a b whole are of_a of_b =
        let d = config_data o t in
        let r = parted o (leaf_cells o l) (flat_map (leaf_cells o) ls) b of_b in
        let all : t ≡ a ++ (r.front ++ r.back) = are ∙ ap (λ vs. a ++ vs) r.are in
        let cells_now : flat_map (leaf_cells o) (before ++ l ∷ []) ≡ flat_map (leaf_cells o) before ++ leaf_cells o l =
        flat_map-append (leaf_cells o) before (l ∷ []) ∙ ap (λ cs. flat_map (leaf_cells o) before ++ cs) (append-nil (leaf_cells o l)) in
        let here : former o d l ≡ Some r.front = former_back before ls l a r.front r.back whole all of_a r.of_front r.of_back in
        let of_now = subst (λ cs. AreValues o cs (a ++ r.front)) (sym cells_now) (values_append o (flat_map (leaf_cells o) before) (leaf_cells o l) a r.front of_a r.of_front) in
        let rest = all_back (before ++ l ∷ []) ls (a ++ r.front) r.back (whole ∙ sym (append_assoc before (l ∷ []) ls)) (all ∙ sym (append_assoc a r.front r.back)) of_now r.of_back in
        record {
          hints_are =
              ap (λ found. option_map_or (map Some) found (replicate (length (leaf_cells o l)) None) ++ flat_map (leaf_hints o d) ls) here
              ∙ ap (λ hs. map Some r.front ++ hs) rest.hints_are
              ∙ sym (map-append Some r.front r.back)
              ∙ ap (map Some) (sym r.are);
          none_missing = ap (λ found. cond (is_some found) (first_missing o d ls) (Some (leaf_path o l))) here ∙ rest.none_missing;
        }

    pub values_back : hints o (config_data o t) ≡ map Some t
    values_back = (all_back [] (leaves_in (walk o)) [] t refl refl tt conf).hints_are

    pub none_missing : missing o (config_data o t) ≡ None
    none_missing = (all_back [] (leaves_in (walk o)) [] t refl refl tt conf).none_missing
