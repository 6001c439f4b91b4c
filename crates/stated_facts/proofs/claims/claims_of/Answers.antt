use Rattle.std.proofs.Common.{◌≡◌, ℕ, ℤ, rules}
use Rattle.std.proofs.lemmas.List.Elements.{All-contains}
use Rattle.ground_form.specs.Meaning.{value_of}
use Rattle.stated_facts.proofs.claims.claims_of.Goals as goal

pub loop-i-preserved : goal.loop-i-preserved
loop-i-preserved c a w all is =
    let held = c.loop-i.invariant a w all is in
    let known = All-contains (λ (k : ℕ × ℤ). value_of a k.0 ≡ k.1) c.loop-i.c.values.items c.in-Some.k held.values c.in-Some.ensures in
    c.in_ok-claim_more.ensures (search rules) a w all known held
