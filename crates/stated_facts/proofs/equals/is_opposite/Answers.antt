use Rattle.std.proofs.Common.{◌^◌, arith}
use Rattle.form_build.proofs.Linears.{numbers_within}
use Rattle.stated_facts.proofs.EqualLaws.{opposite_is, above_by}
use Rattle.stated_facts.proofs.equals.is_opposite.Goals as goal

pub times-requires : goal.times-requires
times-requires c = record { numbers = numbers_within c.args.maker.now.domains (2 ^ 20) (2 ^ 62) c.args.r.now (omega arith) c.requires.linear }

pub returns : goal.returns
returns c e =
    above_by c.args.maker.now c.args.r.now c.args.o.now c.requires.follows
    (λ a. opposite_is c.args.r.now c.in_ok-turned.turned c.args.o.now a (c.in_ok-turned.ensures.value a) (c.is_same-b.ensures.offset e) (c.is_same-b.ensures.terms e))
