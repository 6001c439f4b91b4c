use Rattle.std.proofs.Common.{◌≡◌, [], refl, arith, to_z, of_z, w64}
use Rattle.std.proofs.lemmas.Grind.{common_steps}
use Rattle.form_build.proofs.MergedSums.{same_there}
use Rattle.form_build.proofs.Growth.{adds_nothing}
use Rattle.form_build.proofs.Steps.{defined_adds}
use Rattle.form_build.proofs.ValuesMade.{sum_made, sum_some}
use Rattle.form_build.proofs.values.linear.Goals as goal

pub returns-then-has_ends-clause-adds : goal.returns-then-has_ends-clause-adds
returns-then-has_ends-clause-adds c = adds_nothing [] c.args.b.now

pub linear-requires-clause-variables : goal.linear-requires-clause-variables
linear-requires-clause-variables c = same_there c.args.b.now.domains c.args.f.now.terms c.items.result.now c.items.ensures c.requires.linear.terms

offset : (c : goal.In_ok-x) → to_z w64 (of_z w64 c.args.f.now.offset) ≡ c.args.f.now.offset
offset c = grind (arith, common_steps, c.requires.linear.bounded)

pub returns-clause-variable : goal.returns-clause-variable
returns-clause-variable c = sum_made c.args.f.now c.args.b.now c.linear.new.self c.in_ok-x.x c.items.result.now _ c.items.ensures (offset c) c.requires.linear.terms c.in_ok-x.ensures.ok c.in_ok-x.ensures.means

pub returns-clause-adds : goal.returns-clause-adds
returns-clause-adds c = defined_adds c.args.b.now c.linear.new.self c.in_ok-x.x _ _ refl c.in_ok-x.ensures.ok

pub returns-clause-some : goal.returns-clause-some
returns-clause-some c h = sum_some c.args.f.now c.args.b.now c.linear.new.self c.in_ok-x.x c.items.result.now _ c.items.ensures (offset c) c.requires.linear.terms c.in_ok-x.ensures.ok h
