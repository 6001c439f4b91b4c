use Rattle.std.proofs.Common.{[]}
use Rattle.form_build.proofs.Growth.{adds_nothing}
use Rattle.goal_rows.proofs.adding.add_with_packings.Goals as goal

pub returns-then-not-has_packing : goal.returns-then-not-has_packing
returns-then-not-has_packing c = adds_nothing [] c.args.maker.now
