-- Values by the numbers that stand for them, and forms by their variables.
use Rattle.std.proofs.Common.{◌≡◌, ℕ, ◌<◌, ◌^◌, Bool, true, false, ◌&&◌, List, [], ◌∷◌, ℤ, pos, length, refl, sym, ap, ◌∙◌, arith}
use Rattle.std.specs.Prelude.{nat_eq, Contains}
use Rattle.std.specs.List.{All}
use Rattle.std.specs.Ordering.{int_eq}
use Rattle.std.proofs.lemmas.Int.{ints}
use Rattle.std.proofs.lemmas.Bool.{eq-eqb}
use Rattle.std.proofs.lemmas.List.Elements.{All-head, All-weaker}
use Rattle.class_table.specs.Outline.{Outline}
use Rattle.conf_types.specs.declared.types.ExprType.{ExprType}
use Rattle.conf_types.specs.declared.types.ExprType.TheVariants as type
use Rattle.conf_types.specs.Types.{is_list}
use Rattle.object_alloc.specs.Cells.{extent, value_count}
use Rattle.conf_eval.specs.declared.value.Value.{Value}
use Rattle.conf_eval.specs.declared.value.Value.TheVariants.{Int, Truth, Choice, Object, Objects}
use Rattle.conf_eval.specs.Meaning.{int_same, truth_same, same_value, first_of}
use Rattle.signed_clause.specs.Clauses.{Boxes}
use Rattle.ground_form.specs.Meaning.{bit}
use Rattle.form_build.specs.Forms.{HasVariable}
use Rattle.form_build.specs.Sums.{IsLinear}
use Rattle.expr_forms.specs.declared.form.Choice.{Choice as AChoice}
use Rattle.expr_forms.specs.declared.form.Choice.TheVariants as choice
use Rattle.expr_forms.specs.declared.form.Form.{Form}
use Rattle.expr_forms.specs.declared.form.Form.TheVariants as form
use Rattle.expr_forms.specs.FormBounds.{IsChoiceOf, IsFormOf}
use Rattle.expr_forms.specs.FormValues.{form_value, number_part, truth_part}
use Rattle.quantifier_forms.specs.PartValues.{form_values}
use Rattle.pairwise_forms.specs.AlikeParts.{first_form}
use Rattle.pairwise_forms.specs.KeyValues.{key, IsChoice, HasKey}

-- ---- values of one type

-- the value is one of the type, whatever the outline
abbrev pub IsOfType : ExprType → Value → Type 0
IsOfType type.Int (Int v) = Unit {0}
IsOfType type.Truth (Truth b) = Unit {0}
IsOfType (type.Choice e) (Choice d k) = d ≡ e
IsOfType (type.Object c) (Object x) = Unit {0}
IsOfType (type.Objects c) (Objects xs) = Unit {0}
IsOfType (type.Class c) (Objects xs) = Unit {0}
IsOfType t v = ⊥

same_numbers : (v w : ℤ) → int_same v w ≡ int_eq v w
same_numbers v w = grind (arith, ints)

same_truths : (a b : Bool) → truth_same a b ≡ int_eq (bit a) (bit b)
same_truths true true = refl
same_truths true false = refl
same_truths false true = refl
same_truths false false = refl

same_objects : (x y : ℕ) → nat_eq x y ≡ int_eq (pos x) (pos y)
same_objects x y = grind (arith, ints)

same_choices : (d e j k : ℕ) → d ≡ e → (nat_eq d e && nat_eq j k) ≡ int_eq (pos j) (pos k)
same_choices d e j k h = ap (λ (b : Bool). b && nat_eq j k) (eq-eqb d e h) ∙ same_objects j k

int_alike : (v : ℤ) (w : Value) → IsOfType type.Int w → same_value (Int v) w ≡ int_eq v (key w)
int_alike v (Int w) h = same_numbers v w
int_alike v w h = absurd h

truth_alike : (b : Bool) (w : Value) → IsOfType type.Truth w → same_value (Truth b) w ≡ int_eq (bit b) (key w)
truth_alike b (Truth c) h = same_truths b c
truth_alike b w h = absurd h

choice_alike : (e d k : ℕ) (w : Value) → d ≡ e → IsOfType (type.Choice e) w → same_value (Choice d k) w ≡ int_eq (pos k) (key w)
choice_alike e d k (Choice f j) s h = same_choices d f k j (s ∙ sym h)
choice_alike e d k w s h = absurd h

object_alike : (c x : ℕ) (w : Value) → IsOfType (type.Object c) w → same_value (Object x) w ≡ int_eq (pos x) (key w)
object_alike c x (Object y) h = same_objects x y
object_alike c x w h = absurd h

-- values of one type are the same exactly where their numbers are
pub same_by_key : (t : ExprType) (v w : Value) → is_list t ≡ false → IsOfType t v → IsOfType t w → same_value v w ≡ int_eq (key v) (key w)
same_by_key type.Int (Int v) w c h k = int_alike v w k
same_by_key type.Truth (Truth b) w c h k = truth_alike b w k
same_by_key (type.Choice e) (Choice d j) w c h k = choice_alike e d j w h k
same_by_key (type.Object d) (Object x) w c h k = object_alike d x w k
same_by_key (type.Objects d) v w c h k = absurd cc
same_by_key (type.Class d) v w c h k = absurd cc
same_by_key t v w c h k = absurd h

pub form_of_type : (o : Outline) (boxes : Boxes) (t : ExprType) (f : Form) (a : List ℤ) → IsFormOf o boxes t f → IsOfType t (form_value f a)
form_of_type o boxes type.Int (form.Number f) a h = tt
form_of_type o boxes type.Truth (form.Truth f) a h = tt
form_of_type o boxes (type.Choice e) (form.Choice d c) a h = h.0
form_of_type o boxes (type.Object c) (form.Object d x) a h = tt
form_of_type o boxes (type.Objects c) (form.List l) a h = tt
form_of_type o boxes (type.Class c) (form.List l) a h = tt
form_of_type o boxes t f a h = absurd h

-- the first body's value
pub first_value : (fs : List Form) (a : List ℤ) → form_value (first_form fs) a ≡ first_of (form_values fs a)
first_value [] a = refl
first_value (f ∷ fs) a = refl

-- ---- forms that a variable can stand for

any_choice : (boxes : Boxes) (P : ℕ → Type 0) (c : AChoice) → IsChoiceOf boxes P c → IsChoice boxes c
any_choice boxes P (choice.Fixed n) h = tt
any_choice boxes P (choice.Cell x) h = (h.0, λ v e. let m = h.1 v e in record { number = m.number; is = m.is; may = tt })
any_choice boxes P (choice.Mapped x map) h = (h.0, record { distinct = h.1.distinct; held = h.1.held; may = All-weaker (λ (p : ℤ × ℕ). P p.1) (λ (p : ℤ × ℕ). Unit {0}) (λ p m. tt) map.items h.1.may })

form_key : (o : Outline) (boxes : Boxes) (t : ExprType) (f : Form) → IsFormOf o boxes t f → HasVariable (length boxes) (truth_part f) → IsLinear (2 ^ 58) boxes (number_part f) → HasKey boxes f
form_key o boxes type.Int (form.Number f) h v l = l
form_key o boxes type.Truth (form.Truth t) h v l = v
form_key o boxes (type.Choice e) (form.Choice d c) h v l = any_choice boxes (λ n. n < value_count o e) c h.1
form_key o boxes (type.Object c) (form.Object d x) h v l = any_choice boxes (Contains (extent o c)) x h.0
form_key o boxes (type.Objects c) (form.List xs) h v l = tt
form_key o boxes (type.Class c) (form.List xs) h v l = tt
form_key o boxes t f h v l = absurd h

-- the first of the bodies, whose variables exist, and whose sums are in good order
pub first_has_key : (o : Outline) (boxes : Boxes) (t : ExprType) (fs : List Form) → IsFormOf o boxes t (first_form fs) → All (λ f. HasVariable (length boxes) (truth_part f)) fs → All (λ f. IsLinear (2 ^ 58) boxes (number_part f)) fs → HasKey boxes (first_form fs)
first_has_key o boxes t [] h v l = tt
first_has_key o boxes t (f ∷ fs) h v l =
    form_key o boxes t f h (All-head (λ g. HasVariable (length boxes) (truth_part g)) f fs v) (All-head (λ g. IsLinear (2 ^ 58) boxes (number_part g)) f fs l)

-- ---- the variable of each kind of form
