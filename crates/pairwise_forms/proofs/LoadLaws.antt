-- `pack` by the places that are overfull.
use Rattle.std.proofs.Common.{◌≡◌, Bool, true, false, not, ◌&&◌, ◌||◌, cond, List, [], ◌∷◌, map, ℤ, pos, ◌+ℤ◌, int_le, refl, sym, ap, ◌∙◌, arith}
use Rattle.std.specs.List.{All, list_any}
use Rattle.std.specs.Ordering.{int_eq}
use Rattle.std.proofs.lemmas.Int.{ints}
use Rattle.std.proofs.lemmas.List.Elements.{All-head, All-tail}
use Rattle.conf_syntax.specs.declared.tree.QuantKind.TheVariants as kind
use Rattle.conf_types.specs.declared.types.ExprType.{ExprType}
use Rattle.conf_types.specs.Types.{is_list}
use Rattle.conf_eval.specs.declared.value.Value.{Value}
use Rattle.conf_eval.specs.declared.value.Value.TheVariants.{Truth}
use Rattle.conf_eval.specs.Meaning.{Item, same_value, first_of, item_of, total, load, fits_all, truth_of}
use Rattle.signed_clause.specs.Clauses.{Boxes}
use Rattle.ground_form.specs.Meaning.{value_of}
use Rattle.form_build.specs.Forms.{linear_at, truth_at}
use Rattle.quantifier_forms.specs.declared.part.Part.{Part}
use Rattle.quantifier_forms.specs.PartValues.{body_values, kept_values, over_values}
use Rattle.pairwise_forms.specs.declared.members.Packed.{Packed}
use Rattle.pairwise_forms.specs.AlikeParts.{AreAlike}
use Rattle.pairwise_forms.specs.KeyValues.{key}
use Rattle.pairwise_forms.specs.Packing.{size_there, load_there, is_overfull, some_overfull, Seen, seen_item, seen_part}
use Rattle.pairwise_forms.proofs.KeyLaws.{IsOfType, same_by_key}
use Rattle.pairwise_forms.proofs.ClashLaws.{first_typed}

-- ---- items by what is seen of them

-- what is seen at a place
abbrev size_in : ℤ → Seen → ℤ
size_in place t = cond (t.kept && int_eq place t.place) t.size (pos 0)

abbrev load_in : ℤ → List Seen → ℤ
load_in place ts = total (map (λ (t : Seen). size_in place t) ts)

abbrev over_in : List Seen → Seen → Bool
over_in all s = s.kept && not (int_le (load_in s.place all) s.room)

load_seen : (e : Packed) (es : List Packed) (a : List ℤ) → load_in (value_of a e.place) (map (λ (f : Packed). seen_item f a) es) ≡ load_there e es a
load_seen e [] a = refl
load_seen e (f ∷ es) a = ap (λ (v : ℤ). size_there e f a +ℤ v) (load_seen e es a)

over_seen : (all es : List Packed) (a : List ℤ) → list_any (λ s. over_in (map (λ (f : Packed). seen_item f a) all) s) (map (λ (f : Packed). seen_item f a) es) ≡ list_any (λ e. is_overfull all e a) es
over_seen all [] a = refl
over_seen all (e ∷ es) a =
    ap (λ (v : ℤ). (truth_at e.kept a && not (int_le v (linear_at e.room a))) || list_any (λ s. over_in (map (λ (f : Packed). seen_item f a) all) s) (map (λ (f : Packed). seen_item f a) es)) (load_seen e all a)
    ∙ ap (λ (b : Bool). is_overfull all e a || b) (over_seen all es a)

-- ---- the items that are kept

module _ (t : ExprType) (comparable : is_list t ≡ false) (a : List ℤ) where
  -- the part's place is of the type
  abbrev IsPlaced : Part → Type 0
  IsPlaced p = IsOfType t (first_of (body_values p a))

  abbrev all_seen : List Part → List Seen
  all_seen ps = map (λ (p : Part). seen_part p a) ps

  abbrev kept_items : List Part → List Item
  kept_items ps = map item_of (kept_values ps a)

  load_step : (v : Value) (k b : Bool) (vs : List Value) (vss : List (List Value)) (n r : ℤ) → same_value v (first_of vs) ≡ b → (item_of vs).size ≡ n → load v (map item_of vss) ≡ r → load v (map item_of (cond k (vs ∷ vss) vss)) ≡ (cond (k && b) n (pos 0) +ℤ r)
  load_step v true b vs vss n r e f g =
      ap (λ (c : Bool). cond c (item_of vs).size (pos 0) +ℤ load v (map item_of vss)) e
      ∙ ap (λ (m : ℤ). cond b m (pos 0) +ℤ load v (map item_of vss)) f
      ∙ ap (λ (m : ℤ). cond b n (pos 0) +ℤ m) g
  load_step v false b vs vss n r e f g = omega (arith, ints, g)

  load_kept : (v : Value) (ps : List Part) → IsOfType t v → All IsPlaced ps → load v (kept_items ps) ≡ load_in (key v) (all_seen ps)
  load_kept v [] h all = refl
  load_kept v (p ∷ ps) h all =
      load_step v (truth_at p.kept a) (int_eq (key v) (key (first_of (body_values p a)))) (body_values p a) (kept_values ps a) (item_of (body_values p a)).size (load_in (key v) (all_seen ps))
      (same_by_key t v (first_of (body_values p a)) comparable h (All-head IsPlaced p ps all))
      refl
      (load_kept v ps h (All-tail IsPlaced p ps all))

  none_over : (b c : Bool) → (b && not c) ≡ not (not b || c)
  none_over true c = refl
  none_over false c = refl

  fits_step : (items : List Item) (all : List Seen) (k : Bool) (vs : List Value) (vss : List (List Value)) (c : Bool) → load (first_of vs) items ≡ load_in (key (first_of vs)) all → fits_all items (map item_of vss) ≡ not c → fits_all items (map item_of (cond k (vs ∷ vss) vss)) ≡ not ((k && not (int_le (load_in (key (first_of vs)) all) (item_of vs).room)) || c)
  fits_step items all true vs vss c e f =
      ap (λ (v : ℤ). int_le v (item_of vs).room && fits_all items (map item_of vss)) e
      ∙ ap (λ (b : Bool). int_le (load_in (key (first_of vs)) all) (item_of vs).room && b) f
      ∙ none_over (int_le (load_in (key (first_of vs)) all) (item_of vs).room) c
  fits_step items all false vs vss c e f = f

  fits_kept : (qs ps : List Part) → All IsPlaced qs → All IsPlaced ps → fits_all (kept_items qs) (kept_items ps) ≡ not (list_any (λ s. over_in (all_seen qs) s) (all_seen ps))
  fits_kept qs [] h all = refl
  fits_kept qs (p ∷ ps) h all =
      fits_step (kept_items qs) (all_seen qs) (truth_at p.kept a) (body_values p a) (kept_values ps a) (list_any (λ s. over_in (all_seen qs) s) (all_seen ps))
      (load_kept (first_of (body_values p a)) qs (All-head IsPlaced p ps all) h)
      (fits_kept qs ps h (All-tail IsPlaced p ps all))

-- no place is overfull exactly where all items that are kept fit
pub packed_is : (boxes : Boxes) (ps : List Part) (es : List Packed) (a : List ℤ) (t : Bool) → AreAlike boxes ps → map (λ (e : Packed). seen_item e a) es ≡ map (λ (p : Part). seen_part p a) ps → t ≡ not (some_overfull es a) → Truth t ≡ over_values kind.Pack (kept_values ps a)
packed_is boxes ps es a t h seen e =
    let placed = first_typed boxes ps a h in
    ap (λ (b : Bool). Truth b)
    (e
    ∙ ap not (sym (over_seen es es a) ∙ ap (λ (ss : List Seen). list_any (λ s. over_in ss s) ss) seen)
    ∙ sym (fits_kept h.type h.comparable a ps ps placed placed))

pub packed_said : (boxes : Boxes) (ps : List Part) (es : List Packed) (a : List ℤ) → AreAlike boxes ps → map (λ (e : Packed). seen_item e a) es ≡ map (λ (p : Part). seen_part p a) ps → not (some_overfull es a) ≡ truth_of (over_values kind.Pack (kept_values ps a))
packed_said boxes ps es a h seen = ap truth_of (packed_is boxes ps es a (not (some_overfull es a)) h seen refl)
