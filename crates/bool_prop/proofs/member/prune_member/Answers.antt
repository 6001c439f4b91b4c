use Rattle.std.proofs.Common.{◌≡◌, true, false, Some, None, arith}
use Rattle.std.proofs.lemmas.Grind.{common_steps}
use Rattle.signed_clause.specs.Clauses.{box_of}
use Rattle.bool_prop.specs.Findings.{member_finding}
use Rattle.bool_prop.proofs.MemberLaws.{member_pair, member_said, member_unsaid, member_nothing}
use Rattle.bool_prop.proofs.member.prune_member.Goals as goal

pub affirm-requires-clause-reason : goal.affirm-requires-clause-reason
affirm-requires-clause-reason c =
    let domains = c.args.subject.domains.now in let boxes = c.args.subject.boxes.now in
    let found : member_finding (box_of boxes c.args.flag) (box_of boxes c.args.var) c.args.set.now ≡ Some true = grind (arith, common_steps) in
    member_said c.args.subject.con.now domains boxes c.args.flag c.args.var c.args.set.now c.requires.is c.requires.well_made
    (member_pair c.args.subject.con.now domains boxes c.args.flag c.args.var c.args.set.now c.requires.is c.requires.well_made c.requires.boxes c.requires.sets c.requires.flag c.requires.var c.if-var-flag.false) found

pub deny-requires-clause-reason : goal.deny-requires-clause-reason
deny-requires-clause-reason c =
    let domains = c.args.subject.domains.now in let boxes = c.args.subject.boxes.now in
    let found : member_finding (box_of boxes c.args.flag) (box_of boxes c.args.var) c.args.set.now ≡ Some false = grind (arith, common_steps) in
    member_unsaid c.args.subject.con.now domains boxes c.args.flag c.args.var c.args.set.now c.requires.is c.requires.well_made
    (member_pair c.args.subject.con.now domains boxes c.args.flag c.args.var c.args.set.now c.requires.is c.requires.well_made c.requires.boxes c.requires.sets c.requires.flag c.requires.var c.if-var-flag.false) found

pub returns-in-None : goal.returns-in-None
returns-in-None c =
    let domains = c.args.subject.domains.now in let boxes = c.args.subject.boxes.now in
    let found : member_finding (box_of boxes c.args.flag) (box_of boxes c.args.var) c.args.set.now ≡ None = grind (arith, common_steps) in
    record {
      answer = member_nothing c.args.subject.con.now domains boxes c.args.flag c.args.var c.args.set.now c.requires.is c.requires.well_made
          (member_pair c.args.subject.con.now domains boxes c.args.flag c.args.var c.args.set.now c.requires.is c.requires.well_made c.requires.boxes c.requires.sets c.requires.flag c.requires.var c.if-var-flag.false) found;
    }
