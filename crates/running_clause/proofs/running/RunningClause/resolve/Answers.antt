use Rattle.std.proofs.Common.{◌≡◌, subst}
use Rattle.std.proofs.lemmas.Result.{on_ok_weaker}
use Rattle.running_clause.specs.Running.{taken_in}
use Rattle.running_clause.proofs.RunningLaws.{listed_resolvent, resolvent_law_of}
use Rattle.running_clause.proofs.running.RunningClause.resolve.Goals as goal
use Rattle.signed_clause.specs.Clauses.{AreValid}

pub returns-clause-list : goal.returns-clause-list
returns-clause-list c =
    on_ok_weaker c.take_literals.result (λ e.
    let before = c.args.self.now in let after = c.take_literals.new.sets.items in let b = c.args.b.now in
    let taken : after ≡ taken_in c.args.x before b = let v = c.self.view_is in let l = c.literals.ensures.items in cc in
    let table = c.take_literals.ensures.table c.self.invariant in
    listed_resolvent c.args.x before after b (subst AreValid c.self.view_is c.self.invariant.valid) table.valid c.literals.ensures.form c.requires.vars c.requires.first c.requires.second taken
    ) c.take_literals.ensures.list

pub returns-clause-law : goal.returns-clause-law
returns-clause-law c =
    on_ok_weaker c.take_literals.result (λ e.
    let before = c.args.self.now in let after = c.take_literals.new.sets.items in let b = c.args.b.now in
    let taken : after ≡ taken_in c.args.x before b = let v = c.self.view_is in let l = c.literals.ensures.items in cc in
    let table = c.take_literals.ensures.table c.self.invariant in
    resolvent_law_of c.args.x before after b (subst AreValid c.self.view_is c.self.invariant.valid) table.valid c.literals.ensures.form c.requires.vars c.requires.first c.requires.second taken
    ) c.take_literals.ensures.list
