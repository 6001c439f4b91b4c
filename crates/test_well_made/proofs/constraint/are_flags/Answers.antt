use Rattle.std.proofs.Common.{false, pos, refl}
use Rattle.signed_clause.specs.Clauses.{box_of}
use Rattle.ground_form.specs.Bounds.{LiesWithin}
use Rattle.test_well_made.proofs.Making.{flags_step}
use Rattle.test_well_made.proofs.constraint.are_flags.Goals as goal

pub loop-p-preserved : goal.loop-p-preserved
loop-p-preserved c = λ more. c.loop-p.invariant (flags_step (λ x. LiesWithin (pos 0) (pos 1) (box_of c.args.domains.now x)) c.args.parts.now c.loop-p.p-index _ (0, false) c.loop-p-test.true refl (c.if-not-is_upto.ensures.within refl) more)
