use Rattle.std.proofs.Common.{◌∙◌, sym}
use Rattle.signed_clause.specs.Clauses.{box_of}
use Rattle.ground_form.specs.Meaning.{value_of}
use Rattle.form_truths.specs.Lines.{LiesIn}
use Rattle.form_truths.proofs.Singles.{span_ordered, value_in}
use Rattle.form_truths.proofs.compare.line_below.Goals as goal

pub at_most-requires-clause-span : goal.at_most-requires-clause-span
at_most-requires-clause-span c = span_ordered c.span_in-span.result (box_of c.args.m.now.domains c.args.o.variable) c.span_in-span.ensures.low c.span_in-span.ensures.high c.span_in-span.ensures.valid

pub at_most-requires-clause-line : goal.at_most-requires-clause-line
at_most-requires-clause-line c = c.requires.line c.span_in-span.result c.span_in-span.ensures.low c.span_in-span.ensures.high

pub returns-in-Some-clause-value : goal.returns-in-Some-clause-value
returns-in-Some-clause-value c a w =
    let inside : LiesIn c.span_in-span.result (value_of a c.args.o.variable) = value_in c.span_in-span.result (box_of c.args.m.now.domains c.args.o.variable) (value_of a c.args.o.variable) c.span_in-span.ensures.low c.span_in-span.ensures.high c.span_in-span.ensures.valid (w c.args.o.variable c.requires.exists) in
    c.within.ensures.value a w ∙ c.in-Some.ensures.1 (value_of a c.args.o.variable) inside

pub returns-in-None-clause-value : goal.returns-in-None-clause-value
returns-in-None-clause-value c a w =
    let inside : LiesIn c.span_in-span.result (value_of a c.args.o.variable) = value_in c.span_in-span.result (box_of c.args.m.now.domains c.args.o.variable) (value_of a c.args.o.variable) c.span_in-span.ensures.low c.span_in-span.ensures.high c.span_in-span.ensures.valid (w c.args.o.variable c.requires.exists) in
    sym (c.in-None.ensures (value_of a c.args.o.variable) inside)
