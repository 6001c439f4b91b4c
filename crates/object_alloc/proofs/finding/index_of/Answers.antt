use Rattle.std.proofs.Common.{arith, sym, ◌∙◌, decimal}
use Rattle.std.proofs.lemmas.Fmt.{decimal_injective}
use Rattle.object_alloc.proofs.PlaceLaws.{between}
use Rattle.object_alloc.proofs.finding.index_of.Goals as goal

pub returns-then-number-clause-none : goal.returns-then-number-clause-none
returns-then-number-clause-none c i h e =
    let same = decimal_injective c.in_ok-number.number i (omega arith) (omega arith) (sym c.in_ok-number.ensures.some ∙ between (decimal i) c.args.index.now e) in
    omega (arith, same)
