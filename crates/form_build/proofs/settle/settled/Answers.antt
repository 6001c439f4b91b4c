use Rattle.std.proofs.Common.{[], sym, arith}
use Rattle.std.proofs.lemmas.Int.{ints}
use Rattle.form_build.proofs.Growth.{adds_nothing}
use Rattle.form_build.proofs.Singles.{variable_at}
use Rattle.form_build.proofs.OwnVariables.{variable_there, variable_box}
use Rattle.form_build.proofs.settle.settled.Goals as goal

pub returns-in-Some-clause-exists : goal.returns-in-Some-clause-exists
returns-in-Some-clause-exists c = variable_there c.in-Some.x c.args.f.now c.args.b.now.domains c.in-Some.ensures c.requires.linear.terms

pub returns-in-Some-clause-value : goal.returns-in-Some-clause-value
returns-in-Some-clause-value c a w = sym (variable_at c.in-Some.x c.args.f.now a c.in-Some.ensures)

pub returns-in-Some-clause-lies : goal.returns-in-Some-clause-lies
returns-in-Some-clause-lies c = variable_box c.in-Some.x c.args.f.now c.args.b.now.domains c.in-Some.ensures c.requires.linear.terms

pub returns-in-Some-clause-adds : goal.returns-in-Some-clause-adds
returns-in-Some-clause-adds c = adds_nothing [] c.args.b.now

pub returns-clause-exists : goal.returns-clause-exists
returns-clause-exists c = c.in_ok-x.ensures.variable.exists

pub returns-clause-value : goal.returns-clause-value
returns-clause-value c = c.in_ok-x.ensures.variable.value

pub returns-clause-lies : goal.returns-clause-lies
returns-clause-lies c =
    let low = c.in_ok-x.ensures.variable.low in
    let high = c.in_ok-x.ensures.variable.high in
    (omega (arith, ints, low), omega (arith, ints, high))
