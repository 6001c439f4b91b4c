use Rattle.std.proofs.Common.{ap, sym, ◌∙◌}
use Rattle.ground_form.specs.declared.con.Con.{Con}
use Rattle.ground_form.specs.Meaning.{vars_of}
use Rattle.rule_law.specs.Reasons.{no_repeat}
use Rattle.bool_prop.proofs.Asked.{asked, whole_asked}
use Rattle.bool_prop.proofs.conjunction.prune_whole.Goals as goal

pub explain_whole-requires-clause-reason : goal.explain_whole-requires-clause-reason
explain_whole-requires-clause-reason c =
    let con = c.args.subject.con.now in let domains = c.args.subject.domains.now in let boxes = c.args.subject.boxes.now in
    let different = c.if-not-differ.false in
    whole_asked con domains boxes c.args.flag c.args.parts.now (asked con domains boxes c.args.flag c.args.parts.now c.requires.is c.requires.well_made c.requires.boxes c.requires.sets)
    (sym (ap (λ (k : Con). no_repeat (vars_of k)) c.requires.is) ∙ sym c.in_ok-differ.ensures ∙ different) c.requires.open
