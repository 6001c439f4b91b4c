use Rattle.std.proofs.Common.{◌≡◌}
use Rattle.signed_clause.specs.Clauses.{resolvent}
use Rattle.signed_clause.proofs.ResolventLaws.{resolvent_form, resolvent_law}
use Rattle.signed_clause.proofs.resolution.resolve.Goals as goal

pub made_of-requires : goal.made_of-requires
made_of-requires c =
    let a = c.literals.ensures.items in let b = c.literals-2.ensures.items in let made = c.in_ok-lits.ensures in
    let is : c.in_ok-lits.lits.items ≡ resolvent c.args.x c.args.a.now c.args.b.now = cc in
    resolvent_form c.args.x c.args.a.now c.args.b.now c.in_ok-lits.lits.items c.literals.ensures.form c.literals-2.ensures.form is

pub returns-clause-law : goal.returns-clause-law
returns-clause-law c =
    let a = c.literals.ensures.items in let b = c.literals-2.ensures.items in let made = c.in_ok-lits.ensures in let same = c.made_of.ensures in
    let is : c.made_of.result ≡ resolvent c.args.x c.args.a.now c.args.b.now = cc in
    resolvent_law c.args.x c.args.a.now c.args.b.now c.made_of.result c.literals.ensures.form c.literals-2.ensures.form c.requires.first c.requires.second is

pub returns-clause-form : goal.returns-clause-form
returns-clause-form c =
    let a = c.literals.ensures.items in let b = c.literals-2.ensures.items in let made = c.in_ok-lits.ensures in let same = c.made_of.ensures in
    let is : c.made_of.result ≡ resolvent c.args.x c.args.a.now c.args.b.now = cc in
    resolvent_form c.args.x c.args.a.now c.args.b.now c.made_of.result c.literals.ensures.form c.literals-2.ensures.form is
