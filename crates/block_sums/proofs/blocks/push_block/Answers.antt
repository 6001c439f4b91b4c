use Rattle.std.proofs.Common.{arith}
use Rattle.ground_form.specs.Meaning.{sum_at}
use Rattle.ground_form.specs.Bounds.{weight_of}
use Rattle.block_sums.proofs.BlockSteps.{push_there, push_weight, push_value}
use Rattle.block_sums.proofs.blocks.push_block.Goals as goal

pub returns-clause-exist : goal.returns-clause-exist
returns-clause-exist c all =
    push_there c.args.b.now c.block_variable.new.b c.in_ok-x.x c.args.blocks.now.items c.push.new.self.items c.in_ok-x.ensures.adds.grows c.in_ok-push.ensures.items c.in_ok-x.ensures.exists all

pub returns-clause-bounded : goal.returns-clause-bounded
returns-clause-bounded c all =
    let reach = c.in_ok-x.ensures.reach in
    push_weight c.args.b.now c.block_variable.new.b c.in_ok-x.x (weight_of c.args.terms.now c.args.b.now.domains) c.args.blocks.now.items c.push.new.self.items c.in_ok-x.ensures.adds.grows c.in_ok-push.ensures.items (omega (arith, reach)) all

pub returns-clause-value : goal.returns-clause-value
returns-clause-value c a w =
    push_value c.in_ok-x.x (sum_at c.args.terms.now a) c.args.blocks.now.items c.push.new.self.items a c.in_ok-push.ensures.items (c.in_ok-x.ensures.value a w)
