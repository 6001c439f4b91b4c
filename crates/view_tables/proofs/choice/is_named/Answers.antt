use Rattle.std.proofs.Common.{◌∙◌, map}
use Rattle.view_leaves.specs.Views.{step_seen}
use Rattle.view_tables.proofs.LineLaws.{some_named}
use Rattle.view_tables.proofs.choice.is_named.Goals as goal

pub returns : goal.returns
returns c =
    c.is_some.ensures ∙ some_named _ c.args.name.now (map step_seen c.args.path.now) c.guest_by.ensures
