-- From the form of an expression to what is required of it, and to the variable that it is.
use Rattle.std.proofs.Common.{◌≡◌, ℕ, ◌^◌, true, List, [], ℤ, Option, None, take, sym, ap, ◌∙◌, subst, arith}
use Rattle.class_table.specs.Outline.{Outline}
use Rattle.conf_types.specs.Trees.{Tree}
use Rattle.conf_eval.specs.Meaning.{value, truth_of, int_of}
use Rattle.conf_eval.specs.Satisfying.{setting}
use Rattle.ground_form.specs.declared.ground.Ground.{Ground}
use Rattle.ground_form.specs.Meaning.{value_of}
use Rattle.form_build.specs.declared.form.Linear.{Linear}
use Rattle.form_build.specs.Forms.{linear_at}
use Rattle.form_build.specs.Sums.{IsLinear}
use Rattle.form_build.specs.Worlds.{IsWorld, AllHold, AreKnown, Defines}
use Rattle.form_build.proofs.Growth.{world_before, all_before, adds_same}
use Rattle.form_build.proofs.Linears.{linear_more}
use Rattle.expr_forms.specs.declared.form.Form.{Form}
use Rattle.expr_forms.specs.FormBounds.{IsGroundForm}
use Rattle.expr_forms.specs.FormValues.{number_part}
use Rattle.ground_expr.proofs.Nodes.{number_stands}
use Rattle.expr_forms.specs.Standing.{is_wanted}
use Rattle.ground_expr.specs.Stated.{Says}
use Rattle.ground_model.specs.Known.{AreFixed}
use Rattle.ground_model.specs.Requiring.{Requires}

no_known : (a : List ℤ) → AreKnown [] a
no_known a k d lt = absurd (omega (arith, lt))

-- an expression whose truth is stated is required
pub tree_required : (o : Outline) (known : List (ℕ × ℤ)) (t : Tree) (this : Option ℕ) (old new : Ground) → Says o known old new t this [] true → Requires known old new (λ values. truth_of (value t (setting o values this)))
tree_required o known t this old new s =
    adds_same known old new (λ a. is_wanted o new t this [] true a) (λ a. truth_of (value t (setting o (take old.search a) this)))
    (λ a w kn. ap (λ (k : ℕ). truth_of (value t (setting o (take k a) this))) s.grows.search) s

module _ (o : Outline) (known : List (ℕ × ℤ)) (t : Tree) (this : Option ℕ) (f : Form) (old mid new : Ground) (made : IsGroundForm o mid known t this [] f) where
  pub number_linear : (n : Linear) → n ≡ number_part f → IsLinear (2 ^ 60) mid.domains n
  number_linear n e = linear_more (2 ^ 58) (2 ^ 60) mid.domains n (omega arith) (subst (λ (z : Linear). IsLinear (2 ^ 58) mid.domains z) (sym e) made.form.number.linear)

-- a variable that is an expression's number has its value
pub tree_number : (o : Outline) (t : Tree) (this : Option ℕ) (f : Form) (mid new : Ground) (n : Linear) (x : ℕ) → IsGroundForm o mid [] t this [] f → n ≡ number_part f → Defines mid new → ((a : List ℤ) → IsWorld new a → value_of a x ≡ linear_at n a) →
    (a : List ℤ) → IsWorld new a → value_of a x ≡ int_of (value t (setting o (take new.search a) this))
tree_number o t this f mid new n x made e d value_is a w =
    value_is a w ∙ ap (λ (z : Linear). linear_at z a) e ∙ sym (number_stands o mid [] this [] t f a made (world_before mid new a d.grows w) (no_known a))
    ∙ ap (λ (k : ℕ). int_of (value t (setting o (take k a) this))) (sym d.grows.search)

-- the same where cells are known, wherever all constraints hold
pub known_number : (o : Outline) (known : List (ℕ × ℤ)) (t : Tree) (f : Form) (old mid : Ground) (n : Linear) (x : ℕ) → IsGroundForm o mid known t None [] f → n ≡ number_part f → Defines old mid → AreFixed known old →
    ((a : List ℤ) → IsWorld old a → value_of a x ≡ int_of (value t (setting o (take old.search a) None))) → (a : List ℤ) → IsWorld mid a → AllHold mid a → value_of a x ≡ linear_at n a
known_number o known t f old mid n x made e d fixed value_is a w all =
    let before = world_before old mid a d.grows w in
    value_is a before ∙ ap (λ (k : ℕ). int_of (value t (setting o (take k a) None))) (sym d.grows.search)
    ∙ number_stands o mid known None [] t f a made w (fixed a before (all_before old mid a d.grows all)) ∙ ap (λ (z : Linear). linear_at z a) (sym e)
