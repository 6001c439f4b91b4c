-- Constraints as rows. What a reader believes after this file: when a row holds exactly where a sum
-- over what parts give is at most a number, and where a constraint holds.
use Rattle.std.specs.Prelude.{◌≡◌, ℕ, true, cond, List, Option, ℤ, pos, ◌+ℤ◌, int_le, map}
use Rattle.class_table.specs.Outline.{Outline}
use Rattle.conf_syntax.specs.declared.tree.QuantKind.{QuantKind}
use Rattle.conf_types.specs.Trees.{Tree}
use Rattle.conf_eval.specs.Meaning.{value, int_of, total}
use Rattle.ground_form.specs.declared.ground.Ground.{Ground}
use Rattle.form_build.specs.declared.form.Truth.{Truth}
use Rattle.form_build.specs.Forms.{truth_at}
use Rattle.form_build.specs.Worlds.{IsWorld, AreKnown}
use Rattle.expr_forms.specs.Standing.{world_setting, is_wanted}
use Rattle.packed_rows.specs.declared.row.Row.{Row}
use Rattle.packed_rows.specs.Loads.{load_of, row_holds}
use Rattle.quantifier_forms.specs.declared.part.Part.{Part}
use Rattle.quantifier_forms.specs.PartValues.{share}

-- what the parts add up to
abbrev pub shares_of : QuantKind → List Part → List ℤ → ℤ
shares_of kind ps a = total (map (λ (p : Part). share kind p a) ps)

-- so much where the truth holds
abbrev pub counted_where : Truth → ℤ → List ℤ → ℤ
counted_where t size a = cond (truth_at t a) size (pos 0)

-- of this sum with so much room, the row has in its bin what it hasn't taken from its room
abbrev pub counts : Row → ℤ → ℤ → List ℤ → Type 0
counts r room sum a = (load_of r.bin r.loads.items a +ℤ room) ≡ (sum +ℤ r.room)

-- in every world the parts add up to the expression's number
abbrev pub AddsUp : Outline → Ground → List (ℕ × ℤ) → Tree → Option ℕ → List ℕ → QuantKind
    → List Part → Type 0
AddsUp o g known t this vars kind ps =
    (a : List ℤ) → IsWorld g a → AreKnown known a
    → int_of (value t (world_setting o g a this vars)) ≡ shares_of kind ps a

-- in every world the row holds exactly where the one number is at most the other
abbrev pub IsRowOf : Outline → Ground → List (ℕ × ℤ) → Tree → Tree → Option ℕ → List ℕ → Row
    → Type 0
IsRowOf o g known sum most this vars r =
    (a : List ℤ) → IsWorld g a → AreKnown known a
    → int_le (int_of (value sum (world_setting o g a this vars)))
    (int_of (value most (world_setting o g a this vars))) ≡ row_holds a r

-- in every world the row holds exactly where the constraint is true
abbrev pub IsRowFor : Outline → Ground → List (ℕ × ℤ) → Tree → Option ℕ → List ℕ → Row → Type 0
IsRowFor o g known t this vars r =
    (a : List ℤ) → IsWorld g a → AreKnown known a
    → is_wanted o g t this vars true a ≡ row_holds a r
