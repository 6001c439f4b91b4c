use Rattle.std.proofs.Common.{◌∙◌, map, option_map}
use Rattle.serde_json.specs.View.{view}
use Rattle.site_tables.specs.Views.{row_seen}
use Rattle.site_answer.proofs.AnswerLaws.{text_is, unplaced_is}
use Rattle.site_answer.proofs.table.table_text.Goals as goal

pub returns-clause-text : goal.returns-clause-text
returns-clause-text c =
    text_is c.in_ok-names.names (map row_seen c.args.hosts.now) (map row_seen c.args.services.now)
    (map row_seen c.behind.result.now) (map row_seen c.behind-3.result.now) (view c.args.answer.now)
    (option_map (λ f. view f.now) c.args.former) c.in_ok-text.text.items c.behind.ensures
    c.in_ok-names.ensures c.behind-3.ensures c.in_ok-text.ensures

pub returns-clause-placed : goal.returns-clause-placed
returns-clause-placed c =
    unplaced_is c.in_ok-names.names (map row_seen c.args.hosts.now)
    (map row_seen c.args.services.now) (map row_seen c.behind.result.now)
    (map row_seen c.behind-2.result.now) (view c.args.answer.now) c.in_ok-place.field-0
    c.behind.ensures c.in_ok-names.ensures c.behind-2.ensures c.in_ok-place.ensures ∙ c.in_default.is
