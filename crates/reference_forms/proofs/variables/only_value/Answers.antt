use Rattle.std.proofs.Common.{◌∙◌, sym}
use Rattle.reference_forms.proofs.BoxFacts.{only_value}
use Rattle.reference_forms.proofs.variables.only_value.Goals as goal

pub returns : goal.returns
returns c = only_value c.domains.result.now c.args.maker.now.domains c.args.x c.ends_at-ends.result c.domains.ensures.items c.ends_at-ends.ensures (sym c.are_apart.ensures ∙ c.if-are_apart.false) c.domains.ensures.well_made.domains c.domains.ensures.some c.requires
