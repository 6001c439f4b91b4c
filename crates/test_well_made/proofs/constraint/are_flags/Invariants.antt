use Rattle.std.proofs.Common.{pos, drop, All}
use Rattle.signed_clause.specs.Clauses.{box_of}
use Rattle.ground_form.specs.Bounds.{LiesWithin}
use Rattle.ground_form.specs.Meaning.{part_vars}
use Rattle.test_well_made.proofs.constraint.are_flags.Given as goal

abbrev pub invariant-loop-p : goal.invariant-loop-p
invariant-loop-p l = All (λ x. LiesWithin (pos 0) (pos 1) (box_of l.domains x)) (part_vars (drop l.p-index l.parts)) → All (λ x. LiesWithin (pos 0) (pos 1) (box_of l.domains x)) (part_vars l.parts)
