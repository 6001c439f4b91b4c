use Rattle.std.proofs.Common.{All}
use Rattle.ground_form.specs.declared.ground.Ground.{Ground}
use Rattle.stated_cases.specs.Tables.{IsEntry}
use Rattle.stated_cases.proofs.chains.chain_of.Given as goal

abbrev pub invariant-loop-place : goal.invariant-loop-place
invariant-loop-place l = (g : Ground) → All (IsEntry g) l.entries → All (IsEntry g) l.chain.items
