use Rattle.std.proofs.Common.{arith}
use Rattle.std.proofs.lemmas.Int.{ints}
use Rattle.pack_prop.proofs.TotalWalk.{window_is}
use Rattle.pack_prop.proofs.total.window.Goals as goal

pub returns : goal.returns
returns c =
    let low = c.if-first-lt0.false in let order = c.if-last-first.false in let high = c.if-last-gt-LAST_BIN.false in
    window_is c.first_bin-first.result.value c.last_bin-last.result.value c.count_of.result c.args.items.now c.args.domains.now c.first_bin-first.ensures.value c.last_bin-last.ensures.value
    (omega (arith, ints)) (omega (arith, ints)) (omega (arith, ints)) c.count_of.ensures
