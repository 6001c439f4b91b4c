use Rattle.std.proofs.Common.{length, get_or, arith, sym, ◌∙◌, ap}
use Rattle.class_table.specs.Paths.{inherited}
use Rattle.class_table.proofs.PathLaws.{spot_low, spot_there, spot_same, read_above}
use Rattle.class_table.proofs.class_table.attribute_at.Goals as goal

pub index-requires : goal.index-requires
index-requires c =
    let low = spot_low c.args.classes.now c.args.order.now c.path_at-path.result.now c.up.at c.path_at-path.ensures.on c.args.k c.if-k-path.true c.up.invariant.attribute in
    omega (arith, low)

pub variable_at-requires : goal.variable_at-requires
variable_at-requires c =
    record { there = spot_there c.args.classes.now c.args.order.now c.path_at-path.result.now c.up.at c.path_at-path.ensures.on c.args.k c.index.result.now c.if-k-path.true c.up.invariant.attribute c.index.ensures }

pub up-preserved : goal.up-preserved
up-preserved c =
    let cs = c.args.classes.now in
    let on = c.path_at-path.ensures.on in
    let up = c.in-Some.is in
    let low = c.if-k-path.false in
    let size = on.path_is.from in
    record {
      class = (on.above c.in-Some.parent up).0;
      attribute = omega (arith, low, size, ap (λ a. length (inherited cs a)) up);
      same = λ d. sym (ap (λ a. get_or (inherited cs a) c.args.k d) up) ∙ read_above cs c.args.order.now c.path_at-path.result.now c.up.at on c.args.k d low c.up.invariant.attribute ∙ c.up.invariant.same d;
    }

pub unreachable-requires : goal.unreachable-requires
unreachable-requires c =
    let on = c.path_at-path.ensures.on in
    let low = c.if-k-path.false in
    let size = on.path_is.from in
    omega (arith, low, size, ap (λ a. length (inherited c.args.classes.now a)) c.in-None.is)

pub returns-then-k-path : goal.returns-then-k-path
returns-then-k-path c =
    record {
      attribute = λ d.
          spot_same c.args.classes.now c.args.order.now c.path_at-path.result.now c.up.at c.path_at-path.ensures.on c.args.k c.index.result.now c.variable_at.result.now d c.if-k-path.true c.up.invariant.attribute c.index.ensures c.variable_at.ensures.variable
          ∙ c.up.invariant.same d;
    }
