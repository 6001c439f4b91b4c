use Rattle.std.proofs.Common.{Some, sym, ap, ◌∙◌, subst}
use Rattle.std.specs.Prelude.{All}
use Rattle.object_alloc.specs.Cells.{extent}
use Rattle.object_alloc.specs.Walk.{objects}
use Rattle.conf_eval.specs.Finding.{first_failing, holds_for}
use Rattle.conf_eval.specs.Fitting.{IsEvaluable}
use Rattle.conf_eval.specs.Listing.{extent_slots}
use Rattle.conf_eval.specs.Satisfying.{setting}
use Rattle.conf_eval.proofs.FindingLaws.{slot_has, all_mapped}
use Rattle.conf_eval.proofs.ListingLaws.{extent_held}
use Rattle.conf_eval.proofs.broken.wrong_member.Goals as goal

pub loop-i-init : goal.loop-i-init
loop-i-init c =
    let o = c.args.scene.now.objects.now in
    ap (first_failing (λ n. holds_for o c.args.scene.now.values.now c.args.constraint.now (Some n))) (extent_held o.classes c.args.class 0 (objects o))

pub holds_for-requires-clause-expr : goal.holds_for-requires-clause-expr
holds_for-requires-clause-expr c =
    let o = c.args.scene.now.objects.now in
    let vs = c.args.scene.now.values.now in
    let e = c.args.constraint.now.tree in
    let all : All (λ n. IsEvaluable o vs e (setting o vs (Some n))) (extent o c.args.class) = all_mapped (λ this. IsEvaluable o vs e (setting o vs this)) Some (extent o c.args.class) c.requires.stated in
    slot_has (λ n. IsEvaluable o vs e (setting o vs (Some n))) (extent_slots o.classes c.args.class 0 (objects o)) c.loop-i.i c.in-Some.x (sym c.slot.ensures.slot ∙ c.in-Some.is)
    (subst (All (λ n. IsEvaluable o vs e (setting o vs (Some n)))) (sym (extent_held o.classes c.args.class 0 (objects o))) all)
