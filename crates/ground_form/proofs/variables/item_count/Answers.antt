use Rattle.std.proofs.Common.{arith}
use Rattle.ground_form.proofs.VarsAt.{count_items}
use Rattle.ground_form.proofs.variables.item_count.Goals as goal

pub returns : goal.returns
returns c = let bytes = c.size_of_val.ensures in let count = count_items c.args.items.now in omega (arith, bytes, count)
