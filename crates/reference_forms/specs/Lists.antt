-- Lists of a chosen object. What a reader believes after this file: which objects may be in the
-- list, and which variable says for each whether it is.
use Rattle.std.specs.Prelude.{ℕ, suc, List, [], ◌∷◌, ◌++◌, ℤ, Some, map, slice_index_or}
use Rattle.class_table.specs.Outline.{Outline}
use Rattle.object_alloc.specs.Groups.{parts_of, own_cells}
use Rattle.form_build.specs.declared.form.Truth.TheVariants as truth
use Rattle.expr_forms.specs.declared.form.Member.{Member}
use Rattle.expr_forms.specs.declared.form.Slot.{Slot}

-- these objects, members where the variable has the value
abbrev pub those_parts : ℕ → ℤ → List ℕ → List Member
those_parts x v ns = map (λ (n : ℕ). record { object = n; is = truth.In x ((v, v) ∷ []) }) ns

-- what attribute k of the objects holds, each a member where its owner's value is that of x
abbrev pub chosen_parts : Outline → ℕ → ℕ → List (ℤ × ℕ) → List Member
chosen_parts o x k [] = []
chosen_parts o x k (p ∷ ps) = those_parts x p.0 (parts_of o (Some p.1) k) ++ chosen_parts o x k ps

-- each object with the cell that says whether member number i is in its set
abbrev pub slot_cells : Outline → ℕ → ℕ → List (ℤ × ℕ) → List (ℕ × ℕ)
slot_cells o k i pairs =
    map (λ (p : ℤ × ℕ). (p.1, slice_index_or (own_cells o (Some p.1) k) i 0)) pairs

-- the objects that may be members, from number i on, each with the objects' cells for it
abbrev pub slots_from : Outline → ℕ → List (ℤ × ℕ) → ℕ → List ℕ → List (ℕ × List (ℕ × ℕ))
slots_from o k pairs i [] = []
slots_from o k pairs i (n ∷ ns) = (n, slot_cells o k i pairs) ∷ slots_from o k pairs (suc i) ns

-- what a slot says
abbrev pub slot_view : Slot → ℕ × List (ℕ × ℕ)
slot_view s = (s.object, s.cells.items)
