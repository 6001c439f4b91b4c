use Rattle.std.proofs.Common.{◌≡◌, sym, subst, take}
use Rattle.conf_core.proofs.Narrowings.{narrowed_cleared}
use Rattle.conf_core.specs.Cores.{HasRound}
use Rattle.conf_core.specs.Searching.{IsNarrowed}
use Rattle.conf_core.specs.Suspects.{cleared, is_kept, marked}
use Rattle.conf_core.proofs.narrowing.behind.Goals as goal

pub returns-in-NoSolution-clause-narrowed : goal.returns-in-NoSolution-clause-narrowed
returns-in-NoSolution-clause-narrowed c =
    let ss = c.args.n.suspects.items in
    let front = take c.args.size c.args.n.rest.items in
    λ ks rounds h t. subst (λ xs. IsNarrowed ks rounds xs) (sym c.requires.fewer)
    (narrowed_cleared ks rounds ss front h
    (subst (λ e. HasRound rounds (λ part. part ≡ marked is_kept 0 (cleared ss front)) e)
    c.in-NoSolution.is t))

pub returns-in-Best-clause-narrowed : goal.returns-in-Best-clause-narrowed
returns-in-Best-clause-narrowed c =
    let ss = c.args.n.suspects.items in
    let front = take c.args.size c.args.n.rest.items in
    λ ks rounds h t. c.kept.ensures.narrowed ks rounds h
    (subst (λ e. HasRound rounds (λ part. part ≡ marked is_kept 0 (cleared ss front)) e)
    c.in-Best.is t)

pub returns-in-Open-clause-narrowed : goal.returns-in-Open-clause-narrowed
returns-in-Open-clause-narrowed c =
    let ss = c.args.n.suspects.items in
    let front = take c.args.size c.args.n.rest.items in
    λ ks rounds h t. c.kept-in-Open.ensures.narrowed ks rounds h
    (subst (λ e. HasRound rounds (λ part. part ≡ marked is_kept 0 (cleared ss front)) e)
    c.in-Open.is t)
