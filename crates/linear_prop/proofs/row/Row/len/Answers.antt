use Rattle.std.proofs.Common.{arith}
use Rattle.linear_prop.proofs.RowTerms.{none_length, some_length}
use Rattle.linear_prop.proofs.row.Row.len.Goals as goal

pub returns-in-Some : goal.returns-in-Some
returns-in-Some c = let e = some_length c.args.self.now _ c.in-Some.is in omega arith

pub returns-in-None : goal.returns-in-None
returns-in-None c = let e = none_length c.args.self.now c.in-None.is in omega arith
