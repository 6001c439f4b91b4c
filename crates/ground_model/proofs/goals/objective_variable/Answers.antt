use Rattle.std.proofs.Common.{[], None, ◌∙◌, ap, take}
use Rattle.std.proofs.lemmas.List.Elements.{All-nil}
use Rattle.conf_types.specs.Resolved.{ResolvedGoal}
use Rattle.conf_types.specs.TreeOf.{tree_of}
use Rattle.conf_eval.specs.Satisfying.{objective}
use Rattle.form_build.proofs.Growth.{defines_more}
use Rattle.ground_model.specs.Known.{IsKnownCell}
use Rattle.ground_model.proofs.FormSteps.{tree_number, number_linear}
use Rattle.ground_model.proofs.goals.objective_variable.Goals as goal

pub form_of-requires-clause-known : goal.form_of-requires-clause-known
form_of-requires-clause-known c = record { cells = c.requires.cells; are_known = All-nil (IsKnownCell c.args.maker.now) }

pub settled_in_blocks-requires : goal.settled_in_blocks-requires
settled_in_blocks-requires c = record {
  linear = number_linear c.args.objects.now [] (tree_of c.goal.inside.expr) None c.in_ok-f.f c.args.maker.now c.form_of.new.maker c.form_of.new.maker c.in_ok-f.ensures.form c.number_of-number.result c.number_of-number.ensures.number;
}

pub returns-clause-value : goal.returns-clause-value
returns-clause-value c a w =
    tree_number c.args.objects.now (tree_of c.goal.inside.expr) None c.in_ok-f.f c.form_of.new.maker c.settled_in_blocks.new.b c.number_of-number.result c.in_ok-x.x c.in_ok-f.ensures.form c.number_of-number.ensures.number
    c.in_ok-x.ensures.adds c.in_ok-x.ensures.value a w
    ∙ ap (λ (g : ResolvedGoal). objective c.args.objects.now (take c.settled_in_blocks.new.b.search a) g) c.goal.view_is

pub returns-clause-adds : goal.returns-clause-adds
returns-clause-adds c = defines_more c.args.maker.now c.form_of.new.maker c.settled_in_blocks.new.b c.in_ok-f.ensures.adds c.in_ok-x.ensures.adds
