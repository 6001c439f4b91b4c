use Rattle.std.proofs.Common.{length, arith}
use Rattle.box_view.proofs.EndLaws.{are_sets}
use Rattle.ground_form.specs.Bounds.{low_of}
use Rattle.signed_clause.specs.Clauses.{box_of}
use Rattle.std.proofs.lemmas.Int.{ints}
use Rattle.pack_fit.proofs.SurveyCounts.{none_before}
use Rattle.pack_fit.proofs.SurveyWalk.{width_end, seconds_enough}
use Rattle.pack_fit.proofs.PackWalks.{fit_everywhere}
use Rattle.pack_fit.proofs.room.look_between.Goals as goal

pub look_over-requires-clause-start : goal.look_over-requires-clause-start
look_over-requires-clause-start c =
    none_before _ (low_of (box_of c.args.boxes.now c.args.head.0)) c.args.items.now c.args.boxes.now (are_sets c.args.boxes.now c.requires.sets) (omega (arith, ints, c.bins_of.ensures.first))

pub returns-then-is_enough : goal.returns-then-is_enough
returns-then-is_enough c = (
  fit_everywhere c.args.head c.args.items.now c.args.boxes.now c.bins_of.result.0.value c.bins_of.result.1.value c.requires.sets c.requires.some c.bins_of.ensures.first c.bins_of.ensures.last
      (λ v l m. c.in-Room.ensures.fit v l (width_end _ _ v _ c.in_ok-fill.ensures.size c.bins_of.ensures.order m)),
  (
    length c.fill.new.self.bins.items,
    c.bins_of.result.0.value,
    seconds_enough _ c.bins_of.result.0.value c.args.items.now c.args.boxes.now _ c.in-Room.sum.value (c.is_enough.ensures c.if-is_enough.true) c.in-Room.ensures.room,
  ),
)

pub returns-else-is_enough : goal.returns-else-is_enough
returns-else-is_enough c =
    fit_everywhere c.args.head c.args.items.now c.args.boxes.now c.bins_of.result.0.value c.bins_of.result.1.value c.requires.sets c.requires.some c.bins_of.ensures.first c.bins_of.ensures.last
    (λ v l m. c.in-Room.ensures.fit v l (width_end _ _ v _ c.in_ok-fill.ensures.size c.bins_of.ensures.order m))
