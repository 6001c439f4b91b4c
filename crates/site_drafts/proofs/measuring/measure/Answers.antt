use Rattle.site_drafts.proofs.MeasureLaws.{model_refused, is_within}
use Rattle.site_drafts.proofs.measuring.measure.Goals as goal

pub returns-in-Ok-measure_program-clause-within : goal.returns-in-Ok-measure_program-clause-within
returns-in-Ok-measure_program-clause-within c =
    is_within c.args.text.now c.in-Ok.program c.in-Ok.ensures.model
    c.in-Ok-measure_program.ensures.within

pub returns-clause-refused : goal.returns-clause-refused
returns-clause-refused c =
    model_refused c.args.text.now c.in-Ok.program c.in-Err-measure_program.status
    c.in-Ok.ensures.model c.in-Err-measure_program.ensures.refused
