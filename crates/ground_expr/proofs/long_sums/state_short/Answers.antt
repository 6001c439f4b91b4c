use Rattle.std.proofs.Common.{◌≡◌, List, ℤ, [], Option, IfSome, IfNone, subst}
use Rattle.ground_form.specs.declared.ground.Ground.{Ground}
use Rattle.form_build.specs.Worlds.{IsWorld, Adds}
use Rattle.form_truths.specs.declared.tests.Test.{Test}
use Rattle.form_truths.specs.Tests.{test_at}
use Rattle.form_truths.proofs.Stating.{defined_says}
use Rattle.ground_expr.proofs.long_sums.state_short.Goals as goal

pub returns-in-Some : goal.returns-in-Some
returns-in-Some c =
    let m = c.short_test.new.m in
    let same = subst (λ (o : Option Test). IfSome o (λ t. (a : List ℤ) → IsWorld m a → test_at t a ≡ test_at c.args.test.now a)) c.in-Some.is c.in_ok-short.ensures.value in
    record {
      says = defined_says c.args.m.now m c.state.new.m (λ a. test_at c.in-Some.t a) (λ a. test_at c.args.test.now a) c.in_ok-short.ensures.adds c.in_ok-state-in-Some.ensures.says same;
    }

pub returns : goal.returns
returns c =
    let old = subst (λ (o : Option Test). IfNone o (c.short_test.new.m ≡ c.args.m.now)) c.in-None.is c.in_ok-short.ensures.none in
    record {
      says = subst (λ (g : Ground). Adds [] g c.state-in-None.new.m (λ a. test_at c.args.test.now a)) old c.in_ok-state-in-None.ensures.says;
    }
