use Rattle.std.proofs.Common.{sym, subst, IfSome}
use Rattle.class_table.specs.Outline.{Outline}
use Rattle.conf_eval.specs.Breaking.{IsFirstBroken}
use Rattle.object_alloc.specs.Configurations.{IsConfiguration}
use Rattle.run_promise.specs.Answer.{IsConfigOf}
use Rattle.confsolve_run.specs.Verifying.{HasFullSets}
use Rattle.confsolve_run.proofs.VerifyingLaws.{object_there, no_wrong_set, broken_denied}
use Rattle.confsolve_run.proofs.verifying.verify_bytes.Goals as goal

pub satisfied-requires-clause-config : goal.satisfied-requires-clause-config
satisfied-requires-clause-config c = subst (λ (o : Outline). IsConfiguration o c.in_ok-config.config) (sym c.requires.ready.one) c.in_ok-config.ensures.config.configuration

pub satisfied_text-requires-clause-config : goal.satisfied_text-requires-clause-config
satisfied_text-requires-clause-config c = subst (λ (o : Outline). IsConfiguration o c.in_ok-config.config) (sym c.requires.ready.one) c.in_ok-config.ensures.config.configuration

pub broken_status-requires-clause-object : goal.broken_status-requires-clause-object
broken_status-requires-clause-object c =
    let o = c.args.built.objects.now in
    let ks = c.args.built.model.now.constraints in
    let some = subst (λ f. IfSome f (IsFirstBroken o ks c.in_ok-config.config)) c.in-Some-Constraint.is c.in_ok-satisfied.ensures.broken in
    let wrong = subst (IsFirstBroken o ks c.in_ok-config.config) c.in-Some-Constraint.field-0-is some in
    object_there o ks c.in_ok-config.config c.in-Some-Constraint.index c.in-Some-Constraint.object wrong

pub returns-in-Some-Constraint-clause-refused : goal.returns-in-Some-Constraint-clause-refused
returns-in-Some-Constraint-clause-refused c =
    let o = c.args.built.objects.now in
    let ks = c.args.built.model.now.constraints in
    let some = subst (λ f. IfSome f (IsFirstBroken o ks c.in_ok-config.config)) c.in-Some-Constraint.is c.in_ok-satisfied.ensures.broken in
    let wrong = subst (IsFirstBroken o ks c.in_ok-config.config) c.in-Some-Constraint.field-0-is some in
    let is = subst (λ (x : Outline). IsConfigOf x c.args.bytes.now c.in_ok-config.config) (sym c.requires.ready.one) c.in_ok-config.ensures.config in
    let named = c.in_ok-broken_status-in-Some-Constraint.ensures.status in
    broken_denied o ks c.args.bytes.now c.in_ok-config.config c.in-Some-Constraint.index c.in-Some-Constraint.object c.in_ok-broken_status-in-Some-Constraint.field-0 c.requires.short is wrong named

pub unreachable-requires : goal.unreachable-requires
unreachable-requires c =
    let o = c.args.built.objects.now in
    let ks = c.args.built.model.now.constraints in
    let some = subst (λ f. IfSome f (IsFirstBroken o ks c.in_ok-config.config)) c.in-Some-SetSize.is c.in_ok-satisfied.ensures.broken in
    let wrong = subst (IsFirstBroken o ks c.in_ok-config.config) c.in-Some-SetSize.field-0-is some in
    let sets = subst (λ (x : Outline). HasFullSets x c.in_ok-config.config) (sym c.requires.ready.one) c.in_ok-config.ensures.sets in
    no_wrong_set o c.in_ok-config.config c.in-Some-SetSize.field-0-0 sets wrong
