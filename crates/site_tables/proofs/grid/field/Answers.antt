use Rattle.std.proofs.Common.{sym}
use Rattle.csv.proofs.RecordFacts.{field-there}
use Rattle.site_tables.proofs.grid.field.Goals as goal

pub returns-in-None : goal.returns-in-None
returns-in-None c = absurd (field-there _ _ c.requires (sym c.in-None.ensures.value))
