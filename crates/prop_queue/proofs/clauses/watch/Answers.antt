use Rattle.std.proofs.Common.{◌<◌, All, subst, sym}
use Rattle.ground_form.specs.declared.con.Con.{Con}
use Rattle.ground_form.specs.Meaning.{vars_of}
use Rattle.signed_clause.specs.Clauses.{Literals}
use Rattle.ground_form.proofs.VarLists.{all_literals}
use Rattle.prop_queue.proofs.clauses.watch.Goals as goal

pub add-requires : goal.add-requires
add-requires c =
    let count = c.args.clauses.now.variables in
    let clause = c.in-ClauseCon.clause in
    let named = subst (λ (z : Con). All (λ x. x < count) (vars_of z)) c.in-ClauseCon.is c.requires in
    subst (λ (z : Literals). All (λ l. l.0 < count) z) (sym c.in_ok-copy-in-ClauseCon.ensures)
    (all_literals clause count named)
