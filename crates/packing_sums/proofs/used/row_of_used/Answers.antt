use Rattle.packing_sums.proofs.HostLaws.{used_follows}
use Rattle.packing_sums.proofs.used.row_of_used.Goals as goal

pub returns-clause-follows : goal.returns-clause-follows
returns-clause-follows c =
    used_follows c.args.maker.now c.args.p.now c.args.t.now c.in_ok-outside.outside c.in_ok-row.row c.in-Some.most
    c.requires.packing c.requires.taken c.in-Some.ensures.room c.in_ok-outside.ensures.value c.in_ok-row.ensures.value
