-- Values of one type, told apart by numbers. What a reader believes after this file: which number
-- stands for a value, and what a variable is that stands for a form.
use Rattle.std.specs.Prelude.{◌≡◌, ℕ, ◌<◌, ◌^◌, List, ℤ, pos, length, map}
use Rattle.std.specs.List.{All}
use Rattle.signed_clause.specs.Clauses.{Boxes}
use Rattle.ground_form.specs.declared.ground.Ground.{Ground}
use Rattle.ground_form.specs.Meaning.{value_of, bit}
use Rattle.form_build.specs.Forms.{HasVariable}
use Rattle.form_build.specs.Sums.{IsLinear}
use Rattle.form_build.specs.Worlds.{IsWorld}
use Rattle.conf_eval.specs.declared.value.Value.{Value}
use Rattle.conf_eval.specs.declared.value.Value.TheVariants.{Int, Truth, Choice, Object, Objects}
use Rattle.expr_forms.specs.declared.form.Choice.{Choice as AChoice}
use Rattle.expr_forms.specs.declared.form.Form.{Form}
use Rattle.expr_forms.specs.declared.form.Form.TheVariants as form
use Rattle.expr_forms.specs.FormBounds.{IsChoiceOf}
use Rattle.expr_forms.specs.FormValues.{form_value}

-- the number that tells a value from others of its type: lists have none of their own
abbrev pub key : Value → ℤ
key (Int v) = v
key (Truth b) = bit b
key (Choice e k) = pos k
key (Object x) = pos x
key (Objects xs) = pos 0

-- the variable exists, and each of its values gives an object
abbrev pub IsChoice : Boxes → AChoice → Type 0
IsChoice boxes c = IsChoiceOf boxes (λ n. Unit {0}) c

-- the form's variables exist, and its sum is in good order
abbrev pub HasKey : Boxes → Form → Type 0
HasKey boxes (form.Number f) = IsLinear (2 ^ 58) boxes f
HasKey boxes (form.Truth t) = HasVariable (length boxes) t
HasKey boxes (form.Choice e c) = IsChoice boxes c
HasKey boxes (form.Object d c) = IsChoice boxes c
HasKey boxes (form.List l) = Unit {0}

-- in every world the variable is the number that stands for the form's value
pub record IsKeyOf (g : Ground) (f : Form) (x : ℕ) : Type 0 where
  pub exists : x < length g.domains
  pub value : (a : List ℤ) → IsWorld g a → value_of a x ≡ key (form_value f a)

-- each item has a value of the map, and a variable that is the number that the map gives for it
pub record AreConstants (g : Ground) (pairs items : List (ℤ × ℕ)) : Type 0 where
  pub exist : All (λ t. t.1 < length g.domains) items
  pub values : map (λ (t : ℤ × ℕ). t.0) items ≡ map (λ (p : ℤ × ℕ). p.0) pairs
  pub numbers : (a : List ℤ) → IsWorld g a → map (λ (t : ℤ × ℕ). value_of a t.1) items
      ≡ map (λ (p : ℤ × ℕ). pos p.1) pairs
