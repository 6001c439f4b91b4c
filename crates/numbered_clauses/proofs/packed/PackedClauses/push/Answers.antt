use Rattle.std.proofs.Common.{ℕ, List, subst}
use Rattle.numbered_clauses.specs.Packed.{StandsAt}
use Rattle.numbered_clauses.proofs.PackedLaws.{pushed}
use Rattle.numbered_clauses.proofs.packed.PackedClauses.push.Goals as goal

pub returns-clause-ok : goal.returns-clause-ok
returns-clause-ok c =
    let bytes = c.place_for.new.bytes.items in
    let place = c.in_ok-place.place in
    pushed c.self.inside.bytes.items bytes c.in_ok-text.text.items c.self.inside.places.items c.push.new.self.items c.args.self.now place c.args.c.now
    c.in_ok-place.ensures.grown c.self.invariant c.self.view_is
    (subst (λ (z : List ℕ). StandsAt bytes place z) c.as_slice-2.ensures.value c.in_ok-place.ensures.place)
    c.in_ok-text.ensures.bytes c.in_ok-text.ensures.fits c.in_ok-push.ensures.items
