use Rattle.std.proofs.Common.{◌≡◌, ◌∙◌, ap, length}
use Rattle.std.proofs.lemmas.Result.{on_ok_weaker}
use Rattle.running_clause.specs.Running.{IsTable, loaded}
use Rattle.running_clause.proofs.RunningLaws.{listed_loaded, empty_table, within_same}
use Rattle.running_clause.proofs.running.RunningClause.load.Goals as goal

pub returns-clause-list : goal.returns-clause-list
returns-clause-list c =
    on_ok_weaker c.load_literals.result (λ e.
    let empty = c.empty_out.new.sets.items in let after = c.load_literals.new.sets.items in let a = c.args.a.now in
    let made : after ≡ loaded empty a = let l = c.literals.ensures.items in cc in
    let start : IsTable empty c.clear.new.self.items = rw c.clear.ensures.items (empty_table empty c.empty_out.ensures.empty) in
    let table = c.load_literals.ensures.table start in
    let within = within_same a c.args.self.now empty (c.empty_out.ensures.len ∙ ap length c.self.view_is) c.requires in
    listed_loaded empty after a c.empty_out.ensures.empty table.valid c.literals.ensures.form within made
    ) c.load_literals.ensures.list
