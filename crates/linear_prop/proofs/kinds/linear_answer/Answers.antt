use Rattle.std.proofs.Common.{◌≡◌, rules, to_z, of_z, w64, subst}
use Rattle.ground_form.specs.declared.con.Con.{Con}
use Rattle.ground_form.specs.declared.con.Con.TheVariants.{LinDef, ReifLe}
use Rattle.ground_form.specs.WellMade.{IsWellMadeCon}
use Rattle.linear_prop.proofs.kinds.linear_answer.Goals as goal

pub definition_answer-requires-clause-well_made : goal.definition_answer-requires-clause-well_made
definition_answer-requires-clause-well_made c =
    let e : c.args.subject.con.now ≡ LinDef c.in-LinDef.out c.items-in-LinDef.result.now (to_z w64 (of_z w64 c.in-LinDef.offset)) = search rules in
    subst (λ (k : Con). IsWellMadeCon c.args.subject.domains.now k) e c.requires.well_made

pub reified_answer-requires-clause-well_made : goal.reified_answer-requires-clause-well_made
reified_answer-requires-clause-well_made c =
    let e : c.args.subject.con.now ≡ ReifLe c.in-ReifLe.flag c.items-in-ReifLe.result.now (to_z w64 (of_z w64 c.in-ReifLe.bound)) = search rules in
    subst (λ (k : Con). IsWellMadeCon c.args.subject.domains.now k) e c.requires.well_made
