use Rattle.std.proofs.Common.{refl}
use Rattle.stated_cases.proofs.TableLaws.{resolved}
use Rattle.stated_cases.proofs.entries.both.Goals as goal

pub returns : goal.returns
returns c g one two =
    let d = c.args.d.now in
    let e = c.args.e.now in
    resolved g d e (record { index = e.index; others = c.in_ok-others.others; number = e.number; values = c.in_ok-values.values })
    (c.if-not-are_of_one_table.ensures.index refl) (c.if-not-are_of_one_table.ensures.number refl) refl refl c.in_ok-others.ensures.values c.in_ok-values.ensures.values one two
