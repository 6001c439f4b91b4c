use Rattle.std.proofs.Common.{ap, sym}
use Rattle.signed_clause.specs.Ranges.{Ranges}
use Rattle.ground_form.specs.Bounds.{high_of}
use Rattle.box_view.proofs.CutLaws.{rest_high, rest_none_back}
use Rattle.box_view.proofs.cut.rest_greatest.Goals as goal

pub returns-in-Some : goal.returns-in-Some
returns-in-Some c = sym (rest_high c.args.domain.now c.args.out.now c.in-Some.n.value c.ranges-2.ensures.valid c.ranges-3.ensures.valid c.in-Some.ensures.some)

pub returns-in-None : goal.returns-in-None
returns-in-None c = ap (λ (s : Ranges). high_of s) (sym (rest_none_back c.args.domain.now c.args.out.now c.ranges-2.ensures.valid c.ranges-3.ensures.valid c.in-None.ensures.none))
