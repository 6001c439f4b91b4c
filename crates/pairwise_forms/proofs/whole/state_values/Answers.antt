use Rattle.ground_form.specs.Meaning.{all_differ}
use Rattle.pairwise_forms.proofs.BlockLaws.{variables_kept}
use Rattle.pairwise_forms.proofs.CountLaws.{said_already}
use Rattle.pairwise_forms.proofs.whole.state_values.Goals as goal

pub state_counted-requires : goal.state_counted-requires
state_counted-requires c = record {
  variables =
      variables_kept c.args.maker.now c.state_blocks.new.maker c.args.vars.now
      c.in_ok-state_blocks.ensures.says.grows c.requires.variables;
}

pub returns-in_ok-state_counted-clause-says : goal.returns-in_ok-state_counted-clause-says
returns-in_ok-state_counted-clause-says c =
    said_already c.args.maker.now c.state_blocks.new.maker c.state_counted.new.maker
    (λ a. all_differ c.args.vars.now a) c.in_ok-state_blocks.ensures.says
    c.in_ok-state_counted.ensures.follows
