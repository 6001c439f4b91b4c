use Rattle.std.proofs.Common.{refl}
use Rattle.ground_form.specs.Meaning.{all_differ}
use Rattle.ground_form.specs.declared.con.Con.TheVariants.{AllDiff}
use Rattle.form_build.proofs.Statements.{stated_adds, stated_some, stated_stands}
use Rattle.form_build.proofs.stated.require_different.Goals as goal

pub returns-clause-says : goal.returns-clause-says
returns-clause-says c =
    stated_adds _ _ (AllDiff c.args.vars.now) (λ a. all_differ c.args.vars.now a) (λ a. refl) c.in_ok-require_different.ensures.ok

pub returns-clause-some : goal.returns-clause-some
returns-clause-some c h = stated_some _ _ _ c.in_ok-require_different.ensures.ok h

pub returns-clause-stands : goal.returns-clause-stands
returns-clause-stands c = stated_stands _ _ (AllDiff c.args.vars.now) c.in_ok-require_different.ensures.ok
