use Rattle.std.proofs.Common.{List, All, sym, subst}
use Rattle.std.proofs.lemmas.List.Elements.{All-push}
use Rattle.packing_sums.specs.declared.hosts.Host.{Host}
use Rattle.packing_sums.specs.Hosts.{IsHost}
use Rattle.packing_sums.proofs.used.push_host.Goals as goal

pub returns-in_ok-push : goal.returns-in_ok-push
returns-in_ok-push c =
    let host = rw c.in-Some.is at c.in_ok-h.ensures in
    subst (λ (z : List Host). All (IsHost c.args.maker.now c.args.p.now) z) (sym c.in_ok-push.ensures.items)
    (All-push (IsHost c.args.maker.now c.args.p.now) c.args.hosts.now.items c.in-Some.h c.requires.hosts host)
