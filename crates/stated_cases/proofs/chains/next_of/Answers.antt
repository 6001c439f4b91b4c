use Rattle.std.proofs.lemmas.Option.{IfSome_then}
use Rattle.stated_cases.proofs.chains.next_of.Goals as goal

pub returns-in_ok-f-in-Some : goal.returns-in_ok-f-in-Some
returns-in_ok-f-in-Some c =
    IfSome_then c.in_ok-f-in-Some.f c.in_ok-f-in-Some.ensures (λ f h g e chain. h g (c.in-Some.ensures g chain) e)
