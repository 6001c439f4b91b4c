use Rattle.std.proofs.Common.{[]}
use Rattle.form_build.proofs.Growth.{adds_nothing}
use Rattle.form_truths.specs.Disjunctions.{disjunction_at}
use Rattle.stated_cases.proofs.TableLaws.{defines_following}
use Rattle.stated_cases.proofs.tables.state_entry.Goals as goal

pub returns-then-is_missing : goal.returns-then-is_missing
returns-then-is_missing c = adds_nothing [] c.args.maker.now

pub returns : goal.returns
returns c =
    defines_following c.args.maker.now c.require.new.m (λ a. disjunction_at c.in_ok-d.d a) (c.in_ok-d.ensures.holds c.requires) c.in_ok-require.ensures.says
