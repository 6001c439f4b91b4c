-- The values of leaves with one cell, read back from the JSON value of a configuration.
use Rattle.std.proofs.Common.{◌≡◌, ℕ, zero, suc, ◌<◌, List, [], ◌∷◌, Option, None, Some, true, ◌&&◌, cond, length, map, refl, ap, ◌∙◌, arith}
use Rattle.std.specs.Prelude.{ℤ, pos, negsuc, nat_abs, ◌-ℤ◌, ◌≤ℤ◌, int_le, option_and_then, option_map, position, slice_get, slice_index_or}
use Rattle.std.specs.Option.{option_map_or}
use Rattle.std.proofs.lemmas.Bool.{and_from}
use Rattle.std.proofs.lemmas.Int.{ints}
use Rattle.class_table.specs.declared.table.Enumeration.{Enumeration}
use Rattle.class_table.specs.Outline.{Outline}
use Rattle.class_table.specs.Same.{same_name}
use Rattle.object_alloc.specs.Cells.{value_count}
use Rattle.object_alloc.specs.Members.{is_one, value_at, first_value}
use Rattle.serde_json.specs.Data.{number}
use Rattle.serde_json.specs.Find.{as_integer, of_integer}
use Rattle.config_json.specs.Former.{truth_number, value_number, whole_in}
use Rattle.config_json.specs.Keys.{text_of, value_name}
use Rattle.config_json.proofs.Texts.{HasTexts}

pub only_is : (t : List ℤ) (is : List ℕ) (v : ℤ) → map (value_at t) is ≡ v ∷ [] → first_value t is ≡ v
only_is t [] v e = cc
only_is t (i ∷ is) v e = cc

at_most : (a b : ℤ) → a ≤ℤ b → int_le a b ≡ true
at_most a b h = grind (arith, ints, h)

integer_is : (v : ℤ) → as_integer (of_integer v) ≡ Some v
integer_is (pos n) = refl
integer_is (negsuc n) = refl

pub whole_back : (low high v : ℤ) → low ≤ℤ v → v ≤ℤ high → whole_in low high (number (of_integer v)) ≡ Some v
whole_back low high v a b =
    ap (option_and_then (λ w. cond (int_le low w && int_le w high) (Some w) None)) (integer_is v)
    ∙ ap (λ c. cond c (Some v) None) (and_from (int_le low v) (int_le v high) (at_most low v a) (at_most v high b))

pub truth_is : (v : ℤ) → pos 0 ≤ℤ v → v ≤ℤ pos 1 → truth_number (is_one v) ≡ v
truth_is (pos zero) a b = refl
truth_is (pos (suc zero)) a b = refl
truth_is (pos (suc (suc n))) a b = absurd (omega (arith, ints, b))
truth_is (negsuc n) a b = absurd (omega (arith, ints, a))

module _ (o : Outline) (texts : HasTexts o) where
  named_back : (e k : ℕ) (x : Option Enumeration) → slice_get o.enumerations e ≡ x → k < option_map_or (λ (y : Enumeration). length y.values) x 0 → option_and_then (λ (y : Enumeration). option_map pos (position (same_name (text_of (option_map_or (λ (z : Enumeration). slice_index_or z.values k []) x []))) y.values)) x ≡ Some (pos k)
  named_back e k None is h = absurd (omega (arith, h))
  named_back e k (Some x) is h = ap (option_map pos) (texts.values e k x is h)

  pub choice_back : (e : ℕ) (v : ℤ) → pos 0 ≤ℤ v → v ≤ℤ (pos (value_count o e) -ℤ pos 1) → value_number o e (text_of (value_name o e (nat_abs v))) ≡ Some v
  choice_back e (pos k) a b = named_back e k (slice_get o.enumerations e) refl (omega (arith, ints, b))
  choice_back e (negsuc k) a b = absurd (omega (arith, ints, a))
