use Rattle.conf_syntax.specs.declared.tree.Op.TheVariants as op
use Rattle.operator_forms.proofs.Between.{numbers_of, between_of, plus_near, plus_between, minus_near, minus_between}
use Rattle.operator_forms.proofs.arithmetic.computed.Goals as goal

pub plus-requires-clause-low : goal.plus-requires-clause-low
plus-requires-clause-low c =
    let boxes = c.args.maker.now.domains in
    (plus_near boxes c.args.f.now c.args.g.now (numbers_of boxes c.args.op op.Add c.args.f.now c.args.g.now c.in-Add.is c.requires.numbers)).low_near

pub plus-requires-clause-high : goal.plus-requires-clause-high
plus-requires-clause-high c =
    let boxes = c.args.maker.now.domains in
    (plus_near boxes c.args.f.now c.args.g.now (numbers_of boxes c.args.op op.Add c.args.f.now c.args.g.now c.in-Add.is c.requires.numbers)).high_near

pub minus-requires-clause-low : goal.minus-requires-clause-low
minus-requires-clause-low c =
    let boxes = c.args.maker.now.domains in
    (minus_near boxes c.args.f.now c.args.g.now (numbers_of boxes c.args.op op.Sub c.args.f.now c.args.g.now c.in-Sub.is c.requires.numbers)).low_near

pub minus-requires-clause-high : goal.minus-requires-clause-high
minus-requires-clause-high c =
    let boxes = c.args.maker.now.domains in
    (minus_near boxes c.args.f.now c.args.g.now (numbers_of boxes c.args.op op.Sub c.args.f.now c.args.g.now c.in-Sub.is c.requires.numbers)).high_near

pub returns-in_ok-r-in-Add-clause-sum : goal.returns-in_ok-r-in-Add-clause-sum
returns-in_ok-r-in-Add-clause-sum c =
    between_of c.args.maker.now.domains c.plus.new.b.domains c.args.op op.Add c.args.f.now c.args.g.now c.in_ok-r-in-Add.r c.in-Add.is
    (plus_between c.args.maker.now.domains c.plus.new.b.domains c.args.f.now c.args.g.now c.in_ok-r-in-Add.r c.in_ok-r-in-Add.ensures.sum)

pub returns-in_ok-r-in-Sub-clause-sum : goal.returns-in_ok-r-in-Sub-clause-sum
returns-in_ok-r-in-Sub-clause-sum c =
    between_of c.args.maker.now.domains c.minus.new.b.domains c.args.op op.Sub c.args.f.now c.args.g.now c.in_ok-r-in-Sub.r c.in-Sub.is
    (minus_between c.args.maker.now.domains c.minus.new.b.domains c.args.f.now c.args.g.now c.in_ok-r-in-Sub.r c.in_ok-r-in-Sub.ensures.sum)
