use Rattle.std.proofs.Common.{◌≡◌, drop, map}
use Rattle.serde_json.specs.View.{view}
use Rattle.site_tables.specs.Views.{row_seen}
use Rattle.site_answer.specs.Names.{names_in}
use Rattle.site_answer.specs.Rows.{unplaced}
use Rattle.site_answer.proofs.answers.unplaced.Given as goal

-- what is left decides
abbrev pub invariant-loop-row : goal.invariant-loop-row
invariant-loop-row l =
    unplaced (names_in l.names) (view l.answer) (map row_seen (drop l.row-index l.services))
    ≡ unplaced (names_in l.names) (view l.answer) (map row_seen l.services)
