use Rattle.std.proofs.Common.{ap, sym}
use Rattle.signed_clause.specs.Ranges.{Ranges}
use Rattle.ground_form.specs.Bounds.{low_of}
use Rattle.box_view.proofs.CutLaws.{rest_low, rest_none}
use Rattle.box_view.proofs.cut.rest_least.Goals as goal

pub returns-in-Some : goal.returns-in-Some
returns-in-Some c = sym (rest_low c.args.domain.now c.args.out.now c.in-Some.n.value c.ranges-2.ensures.valid c.ranges-3.ensures.valid c.in-Some.ensures.some)

pub returns-in-None : goal.returns-in-None
returns-in-None c = ap (λ (s : Ranges). low_of s) (sym (rest_none c.args.domain.now c.args.out.now c.ranges-2.ensures.valid c.ranges-3.ensures.valid c.in-None.ensures.none))
