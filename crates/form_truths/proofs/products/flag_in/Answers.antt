use Rattle.std.proofs.Common.{[], true, subst}
use Rattle.signed_clause.specs.Clauses.{Boxes, box_of}
use Rattle.form_build.proofs.Growth.{adds_nothing}
use Rattle.form_truths.specs.Parts.{IsOwnPart}
use Rattle.form_truths.proofs.PartLaws.{own_flag}
use Rattle.form_truths.proofs.products.flag_in.Goals as goal

pub returns-then-is_own_flag-clause-flag : goal.returns-then-is_own_flag-clause-flag
returns-then-is_own_flag-clause-flag c =
    own_flag c.args.m.now c.args.x c.args.set.now c.domains.ensures.well_made.domains c.requires.exists
    (subst (λ (z : Boxes). IsOwnPart (box_of z c.args.x) c.args.set.now true) c.domains.ensures.items (c.is_own_flag.ensures c.if-is_own_flag.true))

pub returns-then-is_own_flag-clause-adds : goal.returns-then-is_own_flag-clause-adds
returns-then-is_own_flag-clause-adds c = adds_nothing [] c.args.m.now
