-- What the forms of expressions mean. What a reader believes after this file: which number a sum
-- is at values of the variables, and when a truth holds at them.
use Rattle.std.specs.Prelude.{ℕ, ◌<◌, Bool, List, ℤ, ◌+ℤ◌}
use Rattle.signed_clause.specs.Ranges.{has}
use Rattle.ground_form.specs.Meaning.{value_of, sum_at}
use Rattle.form_build.specs.declared.form.Linear.{Linear}
use Rattle.form_build.specs.declared.form.Truth.{Truth}
use Rattle.form_build.specs.declared.form.Truth.TheVariants.{Fixed, In}

-- the number that a sum is
abbrev pub linear_at : Linear → List ℤ → ℤ
linear_at f a = sum_at f.terms a +ℤ f.offset

-- whether a truth holds
abbrev pub truth_at : Truth → List ℤ → Bool
truth_at (Fixed b) a = b
truth_at (In x set) a = has set (value_of a x)

-- the variable of a truth is one of the first n
abbrev pub HasVariable : ℕ → Truth → Type 0
HasVariable n (Fixed b) = Unit {0}
HasVariable n (In x set) = x < n
