-- What was stated of a quantifier, of what its members give.
use Rattle.std.proofs.Common.{ℕ, true, ◌&&◌, List, [], ℤ, Option, take, sym, ap, ◌∙◌}
use Rattle.class_table.specs.Outline.{Outline}
use Rattle.conf_syntax.specs.declared.tree.QuantKind.{QuantKind}
use Rattle.conf_types.specs.Trees.{Tree, Filter, Bodies}
use Rattle.conf_types.specs.Trees as tree
use Rattle.conf_eval.specs.Meaning.{value, truth_of, objects_of}
use Rattle.ground_form.specs.declared.ground.Ground.{Ground}
use Rattle.form_build.specs.Worlds.{Adds, Defines}
use Rattle.form_build.proofs.Growth.{world_before, adds_same, adds_more}
use Rattle.expr_forms.specs.declared.form.Form.{Form}
use Rattle.expr_forms.specs.FormValues.{form_value}
use Rattle.expr_forms.specs.Standing.{world_setting}
use Rattle.quantifier_forms.specs.declared.part.Part.{Part}
use Rattle.quantifier_forms.specs.PartValues.{kept_values, over_values}
use Rattle.quantifier_forms.specs.Quantified.{IsQuantified}
use Rattle.ground_expr.specs.Bodies.{own_filter, values_over, ArePartsOf}
use Rattle.ground_expr.specs.Stated.{Says}
use Rattle.ground_expr.proofs.Nodes.{own_quantified}
use Rattle.ground_expr.proofs.Stating.{says_value}

-- by the form of the quantifier
pub says_quantified : (old mid new : Ground) (q : QuantKind) (ps : List Part) (f : Form) → Defines old mid → IsQuantified old mid q ps f → Adds [] mid new (λ a. truth_of (form_value f a)) → Adds [] old new (λ a. truth_of (over_values q (kept_values ps a)))
says_quantified old mid new q ps f made is says =
    adds_same [] old new (λ a. true && truth_of (form_value f a)) (λ a. truth_of (over_values q (kept_values ps a)))
    (λ a w kn. ap truth_of (is.value a (world_before mid new a says.grows w)))
    (adds_more [] old mid new (λ a. true) (λ a. truth_of (form_value f a)) made says)

-- by what its members give
pub says_parts : (o : Outline) (known : List (ℕ × ℤ)) (this : Option ℕ) (vars : List ℕ) (old mid new : Ground) (i : ℕ) (q : QuantKind) (over : Tree) (f : Filter) (bs : Bodies) (ps : List Part) → ArePartsOf o mid known over (own_filter q f) bs this vars ps → Defines old mid →
    Adds [] mid new (λ a. truth_of (over_values q (kept_values ps a))) → Says o known old new (tree.Quant i q over f bs) this vars true
says_parts o known this vars old mid new i q over f bs ps are made says =
    says_value o known this vars old mid new (tree.Quant i q over f bs) (λ a. over_values q (kept_values ps a)) true made
    (λ a w kn.
    let s = world_setting o new a this vars in
    own_quantified q f bs s (objects_of (value over s))
    ∙ ap (over_values q)
    (ap (λ (n : ℕ). values_over over (own_filter q f) bs (record { outline = o; values = take n a; this = this; vars = vars })) says.grows.search
    ∙ sym (are.value a (world_before mid new a says.grows w) kn)))
    says
