use Rattle.std.proofs.Common.{◌^◌, arith}
use Rattle.std.proofs.lemmas.Int.{ints}
use Rattle.form_build.specs.Forms.{linear_at}
use Rattle.form_build.proofs.Linears.{numbers_within, minus_one}
use Rattle.stated_costs.proofs.adding.is_above.Goals as goal

pub times-requires : goal.times-requires
times-requires c = record { numbers = numbers_within c.args.maker.now.domains (2 ^ 20) (2 ^ 62) c.args.f.now (omega arith) c.requires }

pub returns : goal.returns
returns c e a w all =
    let below = c.in_ok-b.ensures e a w all in
    let times = c.in_ok-turned.ensures.value a in
    let one = minus_one (linear_at c.args.f.now a) in
    omega (arith, ints, below, times, one)
