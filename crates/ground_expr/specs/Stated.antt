-- What is stated of an expression. What a reader believes after this file: what was added says of
-- every world that the expression has the wanted truth there; and a disjunction that it was pushed
-- into holds where it has that truth, or where the disjunction held before.
use Rattle.std.specs.Prelude.{◌≡◌, ℕ, Bool, false, not, ◌||◌, ◌&&◌, List, ℤ, Option, length}
use Rattle.std.specs.List.{list_all, list_any}
use Rattle.class_table.specs.Outline.{Outline}
use Rattle.conf_syntax.specs.declared.tree.Op.{Op}
use Rattle.conf_syntax.specs.declared.tree.QuantKind.{QuantKind}
use Rattle.conf_syntax.specs.declared.tree.QuantKind.TheVariants as kind
use Rattle.conf_types.specs.declared.tree.RExpr.{RExpr}
use Rattle.conf_types.specs.Trees.{Tree, Filter, Bodies}
use Rattle.conf_types.specs.TreeOf.{tree_of}
use Rattle.conf_eval.specs.declared.value.Value.{Value}
use Rattle.conf_eval.specs.Meaning.{Setting, bind, operate, value, truth_of, objects_of, keeps, values_of, all_true}
use Rattle.signed_clause.specs.Clauses.{Literals}
use Rattle.ground_form.specs.declared.ground.Ground.{Ground}
use Rattle.form_build.specs.declared.form.Truth.{Truth}
use Rattle.form_build.specs.Forms.{truth_at}
use Rattle.form_build.specs.Worlds.{IsWorld, AreKnown, Adds, Defines}
use Rattle.form_truths.specs.Disjunctions.{disjunction_at, IsWithin}
use Rattle.form_truths.specs.Tests.{wanted}
use Rattle.expr_forms.specs.Standing.{is_wanted}

-- what was added says that the expression's truth is the wanted one
abbrev pub Says : Outline → List (ℕ × ℤ) → Ground → Ground → Tree → Option ℕ → List ℕ → Bool
    → Type 0
Says o known old new t this vars want = Adds known old new (λ a. is_wanted o new t this vars want a)

-- the disjunction has one part more, which holds where the expression's truth is the wanted one
pub record Pushes (o : Outline) (known : List (ℕ × ℤ)) (old new : Ground) (t : Tree) (this : Option ℕ) (vars : List ℕ) (want : Bool) (before after : Bool × Literals) : Type 0 where
  pub value : (a : List ℤ) → IsWorld new a → AreKnown known a → disjunction_at after a
      ≡ (is_wanted o new t this vars want a || disjunction_at before a)
  pub exist : IsWithin (length new.domains) after.1
  pub adds : Defines old new

-- whatever the two sides are, the second comparison holds exactly where the first one doesn't
abbrev pub AreOpposite : Op → Op → Type 0
AreOpposite p q = (v w : Value) → truth_of (operate q v w) ≡ not (truth_of (operate p v w))

-- the quantifier has this truth where each of its members gives it
abbrev pub asks_each : QuantKind → Bool → Bool
asks_each kind.Forall want = want
asks_each kind.Exists want = not want
asks_each kind.Sum want = false
asks_each kind.Count want = false
asks_each kind.AllDifferent want = false
asks_each kind.Pack want = false

-- at each member that the filter keeps all bodies are true, or at each not all
abbrev pub each_wanted : Tree → Filter → Bodies → Bool → Setting → Bool
each_wanted over f bs want s =
    list_all (λ x. not (keeps f (bind s x)) || wanted want (all_true (values_of bs (bind s x))))
    (objects_of (value over s))

-- where the innermost variable's object is a member which the filter keeps, the body has the wanted
-- truth
abbrev pub body_wanted : Truth → Filter → Tree → Bool → Setting → List ℤ → Bool
body_wanted is f t want s a = not (truth_at is a && keeps f s) || wanted want (truth_of (value t s))

-- where it is one, all bodies are true, or not all are
abbrev pub member_wanted : Truth → Filter → Bodies → Bool → Setting → List ℤ → Bool
member_wanted is f bs want s a =
    not (truth_at is a && keeps f s) || wanted want (all_true (values_of bs s))

-- the disjunction has parts more, of which one holds where some body is false
pub record PushesSome (o : Outline) (known : List (ℕ × ℤ)) (old new : Ground) (es : List RExpr) (this : Option ℕ) (vars : List ℕ) (before after : Bool × Literals) : Type 0 where
  pub value : (a : List ℤ) → IsWorld new a → AreKnown known a → disjunction_at after a
      ≡ (list_any (λ e. is_wanted o new (tree_of e) this vars false a) es
      || disjunction_at before a)
  pub exist : IsWithin (length new.domains) after.1
  pub adds : Defines old new
