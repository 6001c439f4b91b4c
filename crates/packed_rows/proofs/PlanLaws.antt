-- Walks over rows and items.
use Rattle.std.proofs.Common.{◌≡◌, ℕ, ◌+◌, ◌-◌, ◌<◌, ◌≤◌, Bool, true, false, ◌||◌, cond, List, ◌∷◌, ℤ, ◌+ℤ◌, ◌<ℤ◌, length, take, drop, get_or, refl, sym, ap, ◌∙◌, subst, arith, length-drop}
use Rattle.std.specs.Ordering.{int_eq}
use Rattle.std.proofs.lemmas.Int.{ints}
use Rattle.std.proofs.lemmas.List.{take_all, take-append-drop, drop_more}
use Rattle.std.proofs.lemmas.List.Folds.{list_any-append}
use Rattle.signed_clause.specs.Ranges.{Ranges, has}
use Rattle.signed_clause.specs.Clauses.{Boxes, box_of}
use Rattle.ground_form.specs.Meaning.{value_of}
use Rattle.form_build.specs.Worlds.{IsInBoxes}
use Rattle.packed_rows.specs.declared.row.Row.{Row}
use Rattle.packed_rows.specs.Loads.{load_of}
use Rattle.packed_rows.specs.Plans.{is_bin, AscendAbove}

-- ---- bins

-- of two sets that have the bins of two parts, their join has those of the whole
pub halves : (h : ℕ) (rows : List Row) (v : ℤ) (front back all : Bool) → h ≤ length rows → front ≡ is_bin (take h rows) v → back ≡ is_bin (take (length rows - h) (drop h rows)) v → all ≡ (front || back) → all ≡ is_bin rows v
halves h rows v front back all le f b a =
    a ∙ ap (λ (c : Bool). c || back) f ∙ ap (λ (c : Bool). is_bin (take h rows) v || c) b
    ∙ ap (λ (z : List Row). is_bin (take h rows) v || is_bin z v) (take_all (length rows - h) (drop h rows) (omega (arith, length-drop h rows)))
    ∙ sym (list_any-append (λ r. int_eq r.bin v) (take h rows) (drop h rows))
    ∙ ap (λ (z : List Row). is_bin z v) (take-append-drop h rows)

-- what is left ascends, so what was left before the row does
pub ascend_step : (rows : List Row) (i : ℕ) (r : Row) (last v : ℤ) → i < length rows → r ≡ get_or rows i r → last <ℤ r.bin → AscendAbove r.bin (drop (i + 1) rows) → AscendAbove last (drop i rows)
ascend_step rows i r last v lt is above h =
    subst (AscendAbove last) (sym (drop_more rows i r lt ∙ ap (λ (q : Row). q ∷ drop (i + 1) rows) (sym is))) (above, h)

-- ---- loads

-- in the boxes the items count in the bin as the loads do
abbrev pub CountSame : Boxes → ℤ → List (ℕ × ℤ) → List (ℕ × ℤ) → Type 0
CountSame boxes bin items loads =
    (a : List ℤ) → IsInBoxes boxes a → load_of bin items a ≡ load_of bin loads a

-- one more of both
pub same_both : (boxes : Boxes) (bin : ℤ) (items loads more : List (ℕ × ℤ)) (i : ℕ × ℤ) → loads ≡ i ∷ more → CountSame boxes bin items more → CountSame boxes bin (i ∷ items) loads
same_both boxes bin items loads more i e h a w =
    ap (λ (n : ℤ). cond (int_eq (value_of a i.0) bin) (i.1 +ℤ n) n) (h a w)
    ∙ sym (ap (λ (z : List (ℕ × ℤ)). load_of bin z a) e)

away : (s : Ranges) (v bin : ℤ) → has s v ≡ true → has s bin ≡ false → int_eq v bin ≡ false
away s v bin there lacks = other (int_eq v bin) refl
  where
    other : (b : Bool) → int_eq v bin ≡ b → b ≡ false
    other false e = refl
    other true e = absurd (apart (sym there ∙ ap (has s) (equal v bin e) ∙ lacks))
      where
        equal : (v w : ℤ) → int_eq v w ≡ true → v ≡ w
        equal v w e = grind (arith, ints)

        apart : true ≡ false → ⊥
        apart e = grind arith

left_out : (b : Bool) (n m : ℤ) → b ≡ false → cond b n m ≡ m
left_out b n m e = ap (λ (c : Bool). cond c n m) e

-- one more item that can't be there
pub same_without : (boxes : Boxes) (bin : ℤ) (items loads : List (ℕ × ℤ)) (i : ℕ × ℤ) → i.0 < length boxes → has (box_of boxes i.0) bin ≡ false → CountSame boxes bin items loads → CountSame boxes bin (i ∷ items) loads
same_without boxes bin items loads i lt lacks h a w =
    left_out (int_eq (value_of a i.0) bin) (i.1 +ℤ load_of bin items a) (load_of bin items a) (away (box_of boxes i.0) (value_of a i.0) bin (w i.0 lt) lacks)
    ∙ h a w

-- what counts the same with what is left counts the same with all
pub record IsCounting (boxes : Boxes) (bin : ℤ) (items loads left rest : List (ℕ × ℤ)) : Type 0 where
  pub whole : CountSame boxes bin left rest → CountSame boxes bin items loads
