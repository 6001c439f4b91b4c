use Rattle.std.proofs.Common.{drop, All}
use Rattle.ground_form.specs.WellMade.{IsWellMadeCon}
use Rattle.test_well_made.proofs.problem.are_constraints_well_made.Given as goal

abbrev pub invariant-loop-con : goal.invariant-loop-con
invariant-loop-con l = All (λ con. IsWellMadeCon l.domains con) (drop l.con-index l.cons) → All (λ con. IsWellMadeCon l.domains con) l.cons
