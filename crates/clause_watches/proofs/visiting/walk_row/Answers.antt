use Rattle.std.proofs.Common.{List, length, subst, sym}
use Rattle.clause_watches.specs.declared.watch.Watch.{Watch}
use Rattle.clause_watches.specs.Rows.{IsWalked}
use Rattle.clause_watches.proofs.RowLaws.{row_set_same, row_read}
use Rattle.clause_watches.proofs.visiting.walk_row.Goals as goal

pub returns-clause-walked : goal.returns-clause-walked
returns-clause-walked c = λ sets before mask at valid walked.
    let s = c.args.site in
    let rows = c.args.rows.now.items in
    let was = row_read rows s.variable c.index_mut.result.now _ c.requires.there
    c.index_mut.ensures.value in
    let is = row_set_same rows s.variable c.walk.new.row c.requires.there in
    let start = subst
    (λ (l : List Watch). IsWalked sets c.args.at.now s before c.args.rests.now l 0) was walked
    in
    subst (λ (l : List Watch). IsWalked sets c.args.at.now s before c.walk.new.rests l (length l))
    (sym is)
    (c.walk.ensures.walked sets before mask at valid start)
