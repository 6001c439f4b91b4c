use Rattle.std.proofs.Common.{◌≡◌, List, ℕ, ℤ, pos, subst}
use Rattle.std.specs.List.{All}
use Rattle.std.proofs.lemmas.List.{take_all}
use Rattle.std.proofs.lemmas.List.Elements.{All-more}
use Rattle.identity_forms.proofs.slots.are_all.Goals as goal

pub loop-t-preserved : goal.loop-t-preserved
loop-t-preserved c = All-more (λ (t : ℤ × ℕ). t.1 ≡ c.args.x) c.args.items.now c.loop-t.t-index (pos 0, 0) c.loop-t-test.true c.loop-t.invariant c.if-t-x.false

pub returns : goal.returns
returns c e = subst (λ (z : List (ℤ × ℕ)). All (λ (t : ℤ × ℕ). t.1 ≡ c.args.x) z) (take_all c.loop-t.t-index c.args.items.now c.loop-t-test.false) c.loop-t.invariant
