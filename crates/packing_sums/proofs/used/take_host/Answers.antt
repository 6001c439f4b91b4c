use Rattle.std.proofs.Common.{◌^◌, ◌+◌, arith}
use Rattle.form_build.proofs.Linears.{numbers_within, linear_more}
use Rattle.packing_sums.proofs.HostLaws.{taken_more}
use Rattle.packing_sums.proofs.used.take_host.Goals as goal

pub plus-requires-clause-left : goal.plus-requires-clause-left
plus-requires-clause-left c = numbers_within c.args.maker.now.domains (2 ^ 39) (2 ^ 61) c.args.t.sum (omega arith) c.requires.taken.linear

pub plus-requires-clause-right : goal.plus-requires-clause-right
plus-requires-clause-right c = numbers_within c.args.maker.now.domains (2 ^ 40) (2 ^ 61) c.in_ok-share.share (omega arith) c.in_ok-share.ensures.linear

pub is_light-requires : goal.is_light-requires
is_light-requires c =
    linear_more (2 ^ 39 + 2 ^ 40) (2 ^ 60) c.args.maker.now.domains c.in_ok-sum.sum (omega arith)
    (c.in_ok-sum.ensures.linear c.args.maker.now.domains (2 ^ 39) (2 ^ 40) c.requires.taken.linear c.in_ok-share.ensures.linear)

pub returns-then-is_light : goal.returns-then-is_light
returns-then-is_light c = record {
  linear = c.is_light.ensures c.if-is_light.true;
  bound =
      taken_more c.args.maker.now c.args.p.now c.args.h.now c.args.t.sum c.in_ok-share.share c.in_ok-sum.sum c.args.t.rest c.in_ok-rest.rest
      c.requires.packing c.requires.host c.requires.taken.bound c.in_ok-share.ensures.value c.in_ok-sum.ensures.value c.in_ok-rest.ensures;
}
