use Rattle.std.proofs.Common.{refl, SFits, w64}
use Rattle.std.proofs.lemmas.Int.{to_z-of_z}
use Rattle.std.specs.Prelude.{int_le}
use Rattle.ground_form.specs.Meaning.{sum_at}
use Rattle.ground_form.specs.declared.con.Con.TheVariants.{LinLe}
use Rattle.form_build.proofs.Statements.{stated_adds, stated_some}
use Rattle.form_build.proofs.stated.require_at_most.Goals as goal

pub returns-clause-says : goal.returns-clause-says
returns-clause-says c =
    let fits : SFits w64 c.args.bound = c.ranges.bound in
    let made = simp to_z-of_z at c.in_ok-require_at_most.ensures.ok in
    stated_adds _ _ (LinLe c.args.terms.now c.args.bound) (λ a. int_le (sum_at c.args.terms.now a) c.args.bound) (λ a. refl) made

pub returns-clause-some : goal.returns-clause-some
returns-clause-some c h = stated_some _ _ _ c.in_ok-require_at_most.ensures.ok h
