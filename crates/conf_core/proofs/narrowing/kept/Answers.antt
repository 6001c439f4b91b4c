use Rattle.std.proofs.Common.{◌≡◌, subst, take, arith}
use Rattle.conf_core.specs.Cores.{HasRound}
use Rattle.conf_core.specs.Searching.{end_without}
use Rattle.conf_core.specs.Suspects.{cleared, is_kept, marked}
use Rattle.conf_core.proofs.narrowing.kept.Goals as goal

pub returns-clause-narrowed : goal.returns-clause-narrowed
returns-clause-narrowed c =
    let ss = c.args.n.suspects.items in
    let rest = c.args.n.rest.items in
    let one : c.args.size ≡ 1 = grind arith in
    λ ks rounds h t. c.with_settled.ensures.narrowed ks rounds h
    (subst (λ n. HasRound rounds (λ part. part ≡ marked is_kept 0 (cleared ss (take n rest)))
    (end_without c.args.one)) one t)
