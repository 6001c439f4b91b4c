use Rattle.std.proofs.Common.{refl}
use Rattle.ground_form.specs.Meaning.{rooms_hold}
use Rattle.ground_form.specs.declared.con.Con.TheVariants.{Pack}
use Rattle.form_build.proofs.Statements.{stated_adds, stated_some, stated_stands}
use Rattle.form_build.proofs.stated.require_pack.Goals as goal

pub returns-clause-says : goal.returns-clause-says
returns-clause-says c =
    stated_adds _ _ (Pack c.args.items.now) (λ a. rooms_hold c.args.items.now c.args.items.now a) (λ a. refl) c.in_ok-require_pack.ensures.ok

pub returns-clause-some : goal.returns-clause-some
returns-clause-some c h = stated_some _ _ _ c.in_ok-require_pack.ensures.ok h

pub returns-clause-stands : goal.returns-clause-stands
returns-clause-stands c = stated_stands _ _ (Pack c.args.items.now) c.in_ok-require_pack.ensures.ok
