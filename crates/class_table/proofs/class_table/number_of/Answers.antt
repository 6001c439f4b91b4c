use Rattle.std.proofs.Common.{Some, sym, ap, ◌∙◌, arith}
use Rattle.std.specs.Prelude.{position}
use Rattle.class_table.specs.Paths.{inherited, names_in}
use Rattle.class_table.specs.Same.{same_name}
use Rattle.class_table.proofs.PathLaws.{from_low, name_found, name_above}
use Rattle.class_table.proofs.TableLaws.{number_low}
use Rattle.class_table.proofs.class_table.number_of.Goals as goal

pub number_on-requires : goal.number_on-requires
number_on-requires c =
    let low = from_low c.args.classes.now c.args.order.now c.path_at-path.result.now c.up.at c.path_at-path.ensures.on in
    let count = c.requires.table.counted c.up.at c.up.invariant.class in
    record { count = omega (arith, low, count) }

pub returns-in-Some-clause-number : goal.returns-in-Some-clause-number
returns-in-Some-clause-number c =
    let count = c.requires.table.counted c.up.at c.up.invariant.class in
    let found = c.in-Some.ensures.found in
    let low = found.2 in
    let number = found.1 in
    sym (name_found c.args.classes.now c.args.order.now c.path_at-path.result.now c.up.at c.path_at-path.ensures.on c.args.name.now found.0 found.3 (omega (arith, low, number, count)) ∙ ap (λ n. Some n) (sym number)) ∙ c.up.invariant.same

pub returns-in-Some-clause-exists : goal.returns-in-Some-clause-exists
returns-in-Some-clause-exists c =
    number_low c.args.classes.now c.args.counts.now c.args.order.now c.requires.table c.args.c _ c.args.name.now (sym (returns-in-Some-clause-number c))

pub up-preserved : goal.up-preserved
up-preserved c =
    let cs = c.args.classes.now in
    let count = c.requires.table.counted c.up.at c.up.invariant.class in
    let on = c.path_at-path.ensures.on in
    let w = c.args.name.now in
    let up = c.in-Some-above.is in
    let same = name_above cs c.args.order.now c.path_at-path.result.now c.up.at on w (λ i h. let l = c.in_default.ensures.none i h in omega (arith, l, count)) in
    record {
      class = (on.above c.in-Some-above.parent up).0;
      same = sym (ap (λ a. position (same_name w) (names_in (inherited cs a))) up) ∙ sym same ∙ c.up.invariant.same;
    }

pub returns-in-None-clause-number : goal.returns-in-None-clause-number
returns-in-None-clause-number c =
    let cs = c.args.classes.now in
    let count = c.requires.table.counted c.up.at c.up.invariant.class in
    let on = c.path_at-path.ensures.on in
    let w = c.args.name.now in
    let same = name_above cs c.args.order.now c.path_at-path.result.now c.up.at on w (λ i h. let l = c.in_default.ensures.none i h in omega (arith, l, count)) in
    sym (ap (λ a. position (same_name w) (names_in (inherited cs a))) c.in-None.is) ∙ sym same ∙ c.up.invariant.same
