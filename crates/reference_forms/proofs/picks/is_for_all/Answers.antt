use Rattle.std.proofs.Common.{◌≡◌, ℕ, ℤ, pos}
use Rattle.std.proofs.lemmas.List.Elements.{All-more}
use Rattle.reference_forms.proofs.MapLaws.{all_taken}
use Rattle.reference_forms.proofs.picks.is_for_all.Goals as goal

pub loop-p-preserved : goal.loop-p-preserved
loop-p-preserved c =
    All-more (λ (p : ℤ × ℕ). p.1 ≡ c.args.n) c.args.pairs.now c.loop-p.p-index (pos 0, 0) c.loop-p-test.true c.loop-p.invariant c.if-p-n.false

pub returns : goal.returns
returns c _ = all_taken (λ (p : ℤ × ℕ). p.1 ≡ c.args.n) c.args.pairs.now c.loop-p.p-index c.loop-p-test.false c.loop-p.invariant
