-- Quantifiers that one constraint states. What a reader believes after this file: which constraint
-- of a problem says that values differ, or that items fit, and what its variables are.
use Rattle.std.specs.Prelude.{◌≡◌, ℕ, true, List, ℤ, pos, length, map, slice_index_or, Contains}
use Rattle.std.specs.List.{All}
use Rattle.ground_form.specs.declared.con.Con.TheVariants.{AllDiff, Pack}
use Rattle.ground_form.specs.declared.ground.Ground.{Ground}
use Rattle.ground_form.specs.Meaning.{value_of}
use Rattle.ground_form.specs.Bounds.{IsPackBounded}
use Rattle.ground_build.specs.Growing.{AreItemVariables}
use Rattle.form_build.specs.declared.form.Truth.TheVariants as truth
use Rattle.form_build.specs.Worlds.{IsWorld}
use Rattle.conf_eval.specs.declared.value.Value.{Value}
use Rattle.conf_eval.specs.declared.value.Value.TheVariants.{Int}
use Rattle.conf_eval.specs.Meaning.{int_of, first_of}
use Rattle.quantifier_forms.specs.declared.part.Part.{Part}
use Rattle.pairwise_forms.specs.declared.members.Packed.{Packed}
use Rattle.pairwise_forms.specs.KeyValues.{key}
use Rattle.pairwise_forms.specs.Rows.{row_values, AreRows}

-- each part is kept in any case
abbrev pub AreKept : List Part → Type 0
AreKept ps = All (λ (p : Part). p.kept ≡ truth.Fixed true) ps

-- the number of a member's value; of an item that of its place, its size and its room
abbrev pub first_key : List Value → ℤ
first_key vs = key (first_of vs)

abbrev pub item_numbers : List Value → ℤ × ℤ × ℤ
item_numbers vs = (
  key (first_of vs),
  int_of (slice_index_or vs 1 (Int (pos 0))),
  int_of (slice_index_or vs 2 (Int (pos 0))),
)

-- one constraint says that the values of n variables differ; in each world of which the premise
-- holds they have the numbers of these members' values, in order
pub record HasDifferent (g : Ground) (n : ℕ) (premise : List ℤ → Type 0) (members : List ℤ → List (List Value)) : Type 0 where
  pub vars : List ℕ
  pub stands : Contains g.cons (AllDiff vars)
  pub count : length vars ≡ n
  pub values : (a : List ℤ) → IsWorld g a → premise a → map (λ x. value_of a x) vars
      ≡ map first_key (members a)

-- one packing is of n items; in each world of which the premise holds they have the numbers of
-- these members, in order. It stands where its numbers are bounded
pub record HasPacking (g : Ground) (n : ℕ) (premise : List ℤ → Type 0) (members : List ℤ → List (List Value)) : Type 0 where
  pub items : List (ℕ × ℕ × ℕ)
  pub exist : All (AreItemVariables g) items
  pub stands : IsPackBounded items g.domains → Contains g.cons (Pack items)
  pub count : length items ≡ n
  pub values : (a : List ℤ) → IsWorld g a → premise a → map (λ r. row_values r a) items
      ≡ map item_numbers (members a)

-- one packing is of these items, where its numbers are bounded
pub record HasItems (g : Ground) (es : List Packed) : Type 0 where
  pub rows : List (ℕ × ℕ × ℕ)
  pub are : AreRows g es rows
  pub stands : IsPackBounded rows g.domains → Contains g.cons (Pack rows)
