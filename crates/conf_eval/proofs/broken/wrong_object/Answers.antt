use Rattle.std.proofs.Common.{ℕ, Bool, Option, Some, sym, ap, ◌∙◌}
use Rattle.std.specs.Option.{option_map}
use Rattle.conf_types.specs.Resolved.{ResolvedConstraint}
use Rattle.object_alloc.specs.Cells.{extent}
use Rattle.conf_eval.specs.Finding.{first_failing, holds_for}
use Rattle.conf_eval.specs.Satisfying.{stated_for}
use Rattle.conf_eval.proofs.FindingLaws.{first_mapped}
use Rattle.conf_eval.proofs.broken.wrong_object.Goals as goal

pub returns-in-Some-found : goal.returns-in-Some-found
returns-in-Some-found c =
    let o = c.args.scene.now.objects.now in
    let k = c.args.constraint.now in
    let holds : Option ℕ → Bool = holds_for o c.args.scene.now.values.now k in
    record {
      object = ap (option_map Some) (sym c.in-Some-found.is ∙ c.in_ok-found-in-Some.ensures.member) ∙ sym (first_mapped Some holds (extent o c.in-Some.class)) ∙ ap (λ x. first_failing holds (stated_for o x)) (sym c.in-Some.is) ∙ ap (λ (x : ResolvedConstraint). first_failing holds (stated_for o x.class)) c.constraint.view_is;
    }

pub returns-in-None-found : goal.returns-in-None-found
returns-in-None-found c =
    let o = c.args.scene.now.objects.now in
    let k = c.args.constraint.now in
    let holds : Option ℕ → Bool = holds_for o c.args.scene.now.values.now k in
    record {
      object = ap (option_map Some) (sym c.in-None-found.is ∙ c.in_ok-found-in-Some.ensures.member) ∙ sym (first_mapped Some holds (extent o c.in-Some.class)) ∙ ap (λ x. first_failing holds (stated_for o x)) (sym c.in-Some.is) ∙ ap (λ (x : ResolvedConstraint). first_failing holds (stated_for o x.class)) c.constraint.view_is;
    }
