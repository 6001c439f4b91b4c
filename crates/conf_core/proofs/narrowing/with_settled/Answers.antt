use Rattle.std.proofs.Common.{◌∙◌, sym, ap, subst, get_or}
use Rattle.conf_core.proofs.Narrowings.{narrowed_first}
use Rattle.conf_core.specs.Searching.{IsNarrowed}
use Rattle.conf_core.specs.Suspects.{settled}
use Rattle.conf_core.proofs.narrowing.with_settled.Goals as goal

pub returns-clause-narrowed : goal.returns-clause-narrowed
returns-clause-narrowed c =
    let ss = c.args.n.suspects.items in
    let one = c.args.one in
    let first = c.first_of-index.ensures ∙ ap (λ xs. get_or xs 0 0) c.deref.ensures.value in
    λ ks rounds h t.
    subst (λ xs. IsNarrowed ks rounds xs)
    (sym (c.settle.ensures ∙ ap (λ k. settled ss k one) first))
    (narrowed_first ks rounds ss c.args.n.rest.items one c.requires.some c.requires.settled h t)
