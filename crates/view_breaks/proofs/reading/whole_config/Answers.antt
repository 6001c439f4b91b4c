use Rattle.std.proofs.Common.{◌∙◌, ap, sym, subst, is_some}
use Rattle.std.specs.List.{list_all}
use Rattle.object_alloc.specs.Configurations.{IsConfiguration}
use Rattle.view_breaks.specs.Answer.{HasFullSets}
use Rattle.view_breaks.proofs.AnswerLaws.{all_given, is_configuration, sets_full}
use Rattle.view_breaks.proofs.reading.whole_config.Goals as goal

pub given_values-requires : goal.given_values-requires
given_values-requires c =
    record { all = ap (list_all is_some) c.items.ensures.values ∙ all_given c.args.table.now c.in_ok-hints.hints (c.in_ok-hints.ensures.whole c.requires.whole) }

pub returns-clause-config : goal.returns-clause-config
returns-clause-config c =
    subst (IsConfiguration c.args.table.now) (sym c.of.ensures.values)
    (is_configuration c.args.table.now c.in_ok-hints.hints (c.in_ok-hints.ensures.whole c.requires.whole) c.in_ok-given_values.field-0.items (sym c.items.ensures.values ∙ c.in_ok-given_values.ensures.values))

pub returns-clause-sets : goal.returns-clause-sets
returns-clause-sets c =
    subst (HasFullSets c.args.table.now) (sym c.of.ensures.values)
    (sets_full c.args.table.now c.in_ok-hints.hints (c.in_ok-hints.ensures.whole c.requires.whole) c.in_ok-given_values.field-0.items (sym c.items.ensures.values ∙ c.in_ok-given_values.ensures.values))
