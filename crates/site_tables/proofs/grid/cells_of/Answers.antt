use Rattle.std.proofs.Common.{map}
use Rattle.std.proofs.lemmas.List.{map-append}
use Rattle.csv.specs.Records.{fields_of}
use Rattle.site_tables.specs.Views.{cell_seen}
use Rattle.site_tables.proofs.Fields.{field_made}
use Rattle.site_tables.proofs.grid.cells_of.Goals as goal

pub loop-column-preserved : goal.loop-column-preserved
loop-column-preserved c =
    rw (c.in_ok-push.ensures.items, map-append)
    (field_made (fields_of c.args.fields.now) c.loop-column.column c.field-text.result.now
    (map cell_seen c.loop-column.cells.items) _ c.field-text.ensures c.loop-column.invariant)
