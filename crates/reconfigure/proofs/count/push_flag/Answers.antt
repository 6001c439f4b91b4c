use Rattle.std.proofs.Common.{Bool, ◌+ℤ◌, refl, sym, ap, ◌∙◌}
use Rattle.std.specs.Ordering.{int_eq}
use Rattle.ground_form.specs.Meaning.{value_of, bit}
use Rattle.reconfigure.specs.Counting.{count_at}
use Rattle.reconfigure.proofs.SumLaws.{one_more, less_more, one_few, less_few}
use Rattle.reconfigure.proofs.count.push_flag.Goals as goal

pub returns-then-want-clause-value : goal.returns-then-want-clause-value
returns-then-want-clause-value c a low high =
    let old = c.args.count.now in
    let f = c.args.flag in
    one_more old (record { terms = c.push.new.self; offset = old.offset }) f a c.in_ok-push.ensures.items refl low high
    ∙ ap (λ (b : Bool). count_at old a +ℤ bit (int_eq (value_of a f) (bit b))) (sym c.if-want.true)

pub returns-then-want-clause-few : goal.returns-then-want-clause-few
returns-then-want-clause-few c boxes n lt valid lies h =
    let old = c.args.count.now in
    one_few boxes n c.args.flag old (record { terms = c.push.new.self; offset = old.offset }) lt valid lies c.in_ok-push.ensures.items refl h

pub returns-clause-value : goal.returns-clause-value
returns-clause-value c a low high =
    let old = c.args.count.now in
    let f = c.args.flag in
    less_more old c.add_fixed.new.count f a (c.add_fixed.ensures.terms ∙ c.in_ok-push-2.ensures.items) c.add_fixed.ensures.offset low high
    ∙ ap (λ (b : Bool). count_at old a +ℤ bit (int_eq (value_of a f) (bit b))) (sym c.if-want.false)

pub returns-clause-few : goal.returns-clause-few
returns-clause-few c boxes n lt valid lies h =
    less_few boxes n c.args.flag c.args.count.now c.add_fixed.new.count lt valid lies (c.add_fixed.ensures.terms ∙ c.in_ok-push-2.ensures.items) c.add_fixed.ensures.offset h
