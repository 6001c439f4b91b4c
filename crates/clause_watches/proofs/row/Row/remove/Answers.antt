use Rattle.clause_watches.proofs.RowLaws.{removed_others}
use Rattle.clause_watches.proofs.row.Row.remove.Goals as goal

pub returns-clause-others : goal.returns-clause-others
returns-clause-others c =
    removed_others _ _ _ c.args.k c.swap_remove.result c.self.view_is c.requires
    c.swap_remove.ensures.value c.swap_remove.ensures.items
