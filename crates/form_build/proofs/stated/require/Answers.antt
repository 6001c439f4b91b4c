use Rattle.std.proofs.Common.{refl}
use Rattle.signed_clause.specs.Clauses.{clause_true}
use Rattle.ground_form.specs.declared.con.Con.TheVariants.{ClauseCon}
use Rattle.form_build.proofs.Statements.{stated_adds, stated_some}
use Rattle.form_build.proofs.stated.require.Goals as goal

pub returns-clause-says : goal.returns-clause-says
returns-clause-says c =
    stated_adds _ _ (ClauseCon c.args.c) (λ a. clause_true c.args.c a) (λ a. refl) c.in_ok-require.ensures.ok

pub returns-clause-some : goal.returns-clause-some
returns-clause-some c h = stated_some _ _ _ c.in_ok-require.ensures.ok h
