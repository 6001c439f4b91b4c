use Rattle.pack_fit.proofs.BinsCounted.{bins_are}
use Rattle.std.proofs.Common.{[]}
use Rattle.pack_fit.proofs.survey.Survey.fill.Goals as goal

pub add_items-requires-clause-none : goal.add_items-requires-clause-none
add_items-requires-clause-none c = bins_are _ _ c.args.first.value [] c.args.boxes.now c.as_mut_slice.ensures.value (c.in_ok-reset_bins.ensures.none c.args.first.value c.args.boxes.now)
