use Rattle.std.proofs.Common.{rules, ◌≡◌, ◌≤◌, arith, subst, sym}
use Rattle.std.proofs.lemmas.Grind.{common_steps}
use Rattle.signed_clause.specs.Ranges.{Ranges, count_of}
use Rattle.signed_clause.specs.Clauses.{box_of}
use Rattle.rule_law.specs.Reasons.{IsReason}
use Rattle.rule_law.specs.Plans.{literals_of}
use Rattle.element_prop.specs.Elements.{count_possible, pick_plan, AreHeadsDifferent}
use Rattle.element_prop.proofs.ElementLaws.{element}
use Rattle.element_prop.proofs.ElementQuiet.{idle_quiet, some_open}
use Rattle.element_prop.proofs.OutsideLaws.{outside_reason}
use Rattle.element_prop.proofs.element.prune_open.Goals as goal

pub find_further-requires-clause-open : goal.find_further-requires-clause-open
find_further-requires-clause-open c =
    let con = c.args.subject.con.now in let domains = c.args.subject.domains.now in let boxes = c.args.subject.boxes.now in let vars = c.args.vars in let items = c.args.items.now in
    let full : count_of (box_of boxes vars.1) ≤ count_possible items (box_of boxes vars.1) = grind (arith, common_steps) in
    some_open con domains boxes vars.0 vars.1 items (element con domains boxes vars.0 vars.1 items c.requires.is c.requires.well_made c.requires.boxes c.requires.sets) c.requires.met full

pub explain_pick-requires-clause-reason : goal.explain_pick-requires-clause-reason
explain_pick-requires-clause-reason c =
    let con = c.args.subject.con.now in let domains = c.args.subject.domains.now in let boxes = c.args.subject.boxes.now in let vars = c.args.vars in let items = c.args.items.now in
    let index : c.index-boxes-vars.result ≡ box_of boxes vars.1 = grind (arith, common_steps) in
    let different : AreHeadsDifferent vars.0 vars.1 items (box_of boxes vars.1) = subst (λ (s : Ranges). AreHeadsDifferent vars.0 vars.1 items s) index (search rules) in
    subst (λ (s : Ranges). IsReason con domains boxes (literals_of domains (pick_plan domains boxes vars.1 s c.in-OutOfSet.x vars.0))) (sym index)
    (outside_reason con domains boxes vars.0 vars.1 items c.in-OutOfSet.x (element con domains boxes vars.0 vars.1 items c.requires.is c.requires.well_made c.requires.boxes c.requires.sets) different c.requires.items c.requires.met c.in-OutOfSet.ensures)

pub returns-in-Idle : goal.returns-in-Idle
returns-in-Idle c =
    let con = c.args.subject.con.now in let domains = c.args.subject.domains.now in let boxes = c.args.subject.boxes.now in let vars = c.args.vars in let items = c.args.items.now in
    record {
      answer = idle_quiet con domains boxes vars.0 vars.1 items (element con domains boxes vars.0 vars.1 items c.requires.is c.requires.well_made c.requires.boxes c.requires.sets) c.requires.well_made c.in-Idle.ensures;
    }
