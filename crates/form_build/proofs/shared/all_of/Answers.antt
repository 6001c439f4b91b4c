use Rattle.std.proofs.Common.{[], refl}
use Rattle.ground_form.specs.declared.con.Con.TheVariants.{AndDef}
use Rattle.ground_form.specs.Meaning.{parts_true}
use Rattle.form_build.proofs.Growth.{adds_nothing}
use Rattle.form_build.proofs.Steps.{defined_adds, defined_has}
use Rattle.form_build.proofs.Flags.{flag_there, defined_some}
use Rattle.form_build.proofs.shared.all_of.Goals as goal

pub returns-in-Some-clause-flag : goal.returns-in-Some-clause-flag
returns-in-Some-clause-flag c = flag_there c.args.b.now c.in-Some.f (AndDef c.in-Some.f c.args.parts.now) _ (λ a. parts_true c.args.parts.now a) refl (λ a. refl) c.domains-domains.ensures.well_made c.in-Some.ensures

pub returns-in-Some-clause-adds : goal.returns-in-Some-clause-adds
returns-in-Some-clause-adds c = adds_nothing [] c.args.b.now

pub returns-clause-flag : goal.returns-clause-flag
returns-clause-flag c = flag_there _ c.in_ok-f.f (AndDef c.in_ok-f.f c.args.parts.now) _ (λ a. parts_true c.args.parts.now a) refl (λ a. refl) c.in_ok-f.ensures.ok.well_made (defined_has _ _ c.in_ok-f.f _ _ refl c.in_ok-f.ensures.ok)

pub returns-clause-adds : goal.returns-clause-adds
returns-clause-adds c = defined_adds _ _ c.in_ok-f.f _ _ refl c.in_ok-f.ensures.ok

pub returns-clause-some : goal.returns-clause-some
returns-clause-some c h = defined_some _ _ c.in_ok-f.f _ _ refl c.in_ok-f.ensures.ok h
