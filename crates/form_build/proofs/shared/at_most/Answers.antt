use Rattle.std.proofs.Common.{[], refl, SFits, w64}
use Rattle.std.proofs.lemmas.Int.{to_z-of_z}
use Rattle.std.specs.Prelude.{int_le}
use Rattle.ground_form.specs.declared.con.Con.TheVariants.{ReifLe}
use Rattle.ground_form.specs.Meaning.{sum_at}
use Rattle.form_build.proofs.Growth.{adds_nothing}
use Rattle.form_build.proofs.Steps.{defined_adds, defined_has}
use Rattle.form_build.proofs.Flags.{flag_there, defined_some}
use Rattle.form_build.proofs.shared.at_most.Goals as goal

pub returns-in-Some-clause-flag : goal.returns-in-Some-clause-flag
returns-in-Some-clause-flag c =
    let fits : SFits w64 c.args.bound = c.ranges.bound in
    let there = simp to_z-of_z at c.in-Some.ensures in
    flag_there c.args.b.now c.in-Some.f (ReifLe c.in-Some.f c.args.terms.now c.args.bound) _ (λ a. int_le (sum_at c.args.terms.now a) c.args.bound) refl (λ a. refl) c.domains-domains.ensures.well_made there

pub returns-in-Some-clause-adds : goal.returns-in-Some-clause-adds
returns-in-Some-clause-adds c = adds_nothing [] c.args.b.now

pub returns-clause-flag : goal.returns-clause-flag
returns-clause-flag c =
    let fits : SFits w64 c.args.bound = c.ranges.bound in
    let made = simp to_z-of_z at c.in_ok-f.ensures.ok in
    flag_there _ c.in_ok-f.f (ReifLe c.in_ok-f.f c.args.terms.now c.args.bound) _ (λ a. int_le (sum_at c.args.terms.now a) c.args.bound) refl (λ a. refl) made.well_made (defined_has _ _ c.in_ok-f.f _ _ refl made)

pub returns-clause-adds : goal.returns-clause-adds
returns-clause-adds c = defined_adds _ _ c.in_ok-f.f _ _ refl c.in_ok-f.ensures.ok

pub returns-clause-some : goal.returns-clause-some
returns-clause-some c h = defined_some _ _ c.in_ok-f.f _ _ refl c.in_ok-f.ensures.ok h
