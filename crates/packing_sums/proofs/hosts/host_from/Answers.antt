use Rattle.std.proofs.Common.{refl}
use Rattle.packing_sums.proofs.HostLaws.{host_fits}
use Rattle.packing_sums.proofs.hosts.host_from.Goals as goal

pub returns : goal.returns
returns c = record {
  exists = c.if-not-is_flag.ensures.exists refl;
  near = c.if-not-is_flag.ensures.near refl;
  bin = c.requires.away.small;
  stays = c.in_ok-more.ensures.stays;
  more = c.in_ok-more.ensures.small;
  fits =
      host_fits c.args.maker.now c.args.p.now c.args.flag c.args.w.now.bin c.in_ok-stays.stays c.in_ok-more.more c.args.turned c.args.w.now.vars.items
      c.requires.packing c.if-not-is_flag.ensures.valid (c.if-not-is_flag.ensures.exists refl) (c.if-not-is_flag.ensures.near refl) (c.if-not-is_flag.ensures.some refl) c.requires.away.none c.in_ok-stays.ensures c.in_ok-more.ensures.room;
}
