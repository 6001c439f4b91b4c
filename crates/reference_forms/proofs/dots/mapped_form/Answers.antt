use Rattle.std.proofs.Common.{ℕ, ℤ}
use Rattle.reference_forms.specs.Candidates.{HaveShape}
use Rattle.reference_forms.proofs.MapLaws.{first_there}
use Rattle.reference_forms.proofs.DotLaws.{same_form, nothing_made}
use Rattle.reference_forms.proofs.dots.mapped_form.Goals as goal

pub attribute_form-requires-clause-shape : goal.attribute_form-requires-clause-shape
attribute_form-requires-clause-shape c =
    (first_there (λ (p : ℤ × ℕ). HaveShape c.args.objects.now c.args.k c.args.shape p.1) c.in-Some.owner c.args.pairs.now c.in-Some.ensures.first c.requires.map.may).1

pub returns-in-Some-clause-form : goal.returns-in-Some-clause-form
returns-in-Some-clause-form c =
    same_form c.args.objects.now c.args.maker.now c.args.x c.args.pairs.now c.args.k c.args.shape c.in-Some.owner c.in_ok-form.form c.requires.there c.requires.map c.in-Some.ensures.first c.in-Some.ensures.all c.in_ok-form.ensures.form

pub returns-in-Some-clause-adds : goal.returns-in-Some-clause-adds
returns-in-Some-clause-adds c = nothing_made c.args.maker.now
