use Rattle.std.proofs.Common.{rules, sym, subst}
use Rattle.class_table.specs.Outline.{Outline}
use Rattle.object_alloc.specs.Configurations.{IsConfiguration}
use Rattle.view_breaks.proofs.AnswerLaws.{is_told}
use Rattle.view_breaks.proofs.answer.told_of.Goals as goal

pub breaks_of-requires-clause-config : goal.breaks_of-requires-clause-config
breaks_of-requires-clause-config c =
    subst (λ (o : Outline). IsConfiguration o c.in_ok-config.config) (sym c.requires.ready.one) c.in_ok-config.ensures.config.configuration

pub returns-clause-told : goal.returns-clause-told
returns-clause-told c =
    is_told c.args.built.objects.now c.args.built.table.now c.args.built.model.now.constraints c.args.source.now c.args.bytes.now _ _ c.in_ok-config.config c.in_ok-found.found.items
    c.requires.ready.one c.in_ok-config.ensures.config c.in_ok-config.ensures.sets (search rules) (search rules) (search rules)
