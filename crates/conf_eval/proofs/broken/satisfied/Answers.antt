use Rattle.std.proofs.Common.{◌≡◌, None, sym, ap, ◌∙◌, subst}
use Rattle.std.specs.Prelude.{All}
use Rattle.object_alloc.specs.Walk.{walk, leaves_in}
use Rattle.conf_eval.specs.Finding.{wrong_set, wrong_constraint, IsStated}
use Rattle.conf_eval.proofs.FindingLaws.{set_is_wrong, none_found, first_found}
use Rattle.conf_eval.proofs.LawsStated.{model_evaluable}
use Rattle.conf_eval.proofs.broken.satisfied.Goals as goal

pub returns-in-Some-clause-broken : goal.returns-in-Some-clause-broken
returns-in-Some-clause-broken c =
    let o = c.args.objects.now in
    set_is_wrong o c.args.config.now c.in-Some.cell (ap (λ vs. wrong_set o vs 0 (leaves_in (walk o))) (sym c.items.ensures.values) ∙ sym c.wrong_set.ensures.set ∙ c.in-Some.is)

pub wrong_constraint-requires-clause-stated : goal.wrong_constraint-requires-clause-stated
wrong_constraint-requires-clause-stated c =
    let o = c.args.objects.now in
    let vs = c.items.result.now in
    let all = model_evaluable o vs c.args.m.now.constraints c.args.m.now.goals c.requires.typed c.requires.narrow in
    subst (All (IsStated o vs)) (sym c.constraints.ensures.constraints) all.constraints

pub returns-clause-none : goal.returns-clause-none
returns-clause-none c =
    let o = c.args.objects.now in
    let sets : wrong_set o c.args.config.now 0 (leaves_in (walk o)) ≡ None = ap (λ vs. wrong_set o vs 0 (leaves_in (walk o))) (sym c.items.ensures.values) ∙ sym c.wrong_set.ensures.set ∙ c.in_default.is in
    let same = c.in_ok-found.ensures.constraint ∙ ap (λ vs. wrong_constraint o vs 0 c.constraints.result.now) c.items.ensures.values ∙ ap (wrong_constraint o c.args.config.now 0) c.constraints.ensures.constraints in
    none_found o c.args.config.now c.args.m.now.constraints c.in_ok-found.found sets same

pub returns-clause-broken : goal.returns-clause-broken
returns-clause-broken c =
    let o = c.args.objects.now in
    let sets : wrong_set o c.args.config.now 0 (leaves_in (walk o)) ≡ None = ap (λ vs. wrong_set o vs 0 (leaves_in (walk o))) (sym c.items.ensures.values) ∙ sym c.wrong_set.ensures.set ∙ c.in_default.is in
    let same = c.in_ok-found.ensures.constraint ∙ ap (λ vs. wrong_constraint o vs 0 c.constraints.result.now) c.items.ensures.values ∙ ap (wrong_constraint o c.args.config.now 0) c.constraints.ensures.constraints in
    first_found o c.args.config.now c.args.m.now.constraints c.in_ok-found.found sets same
