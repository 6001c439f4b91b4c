use Rattle.std.proofs.Common.{[]}
use Rattle.form_build.proofs.Growth.{adds_nothing}
use Rattle.packing_sums.proofs.rows.state_if_small.Goals as goal

pub returns-then-not-is_small : goal.returns-then-not-is_small
returns-then-not-is_small c = adds_nothing [] c.args.maker.now
