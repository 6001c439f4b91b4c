use Rattle.std.proofs.Common.{None, map, refl}
use Rattle.serde_json.specs.Data.{no_members}
use Rattle.serde_json.specs.View.{view}
use Rattle.site_tables.specs.Views.{row_seen}
use Rattle.site_today.specs.Standing.{standings}
use Rattle.site_former.proofs.FormerLaws.{line_is, line_read, under_key}
use Rattle.site_former.proofs.former.former_text.Goals as goal

pub returns-clause-text : goal.returns-clause-text
returns-clause-text c =
    line_is c.in_ok-line.line.items c.push.new.self.items (view c.in_ok-value.value)
    (map row_seen c.args.today.now) c.in_ok-value.ensures c.in_ok-line.ensures.text
    c.in_ok-push.ensures.items

pub returns-clause-read : goal.returns-clause-read
returns-clause-read c =
    line_read c.in_ok-line.line.items (view c.in_ok-value.value) (map row_seen c.args.today.now)
    c.in_ok-value.ensures c.in_ok-line.ensures.text c.in_ok-line.ensures.reads_back

pub returns-clause-each : goal.returns-clause-each
returns-clause-each c = λ key.
    under_key key (standings (map row_seen c.args.today.now)) no_members None refl
