use Rattle.std.proofs.Common.{◌≡◌, arith, subst, sym}
use Rattle.std.proofs.lemmas.Grind.{common_steps}
use Rattle.signed_clause.specs.Ranges.{Ranges}
use Rattle.signed_clause.specs.Clauses.{box_of}
use Rattle.rule_law.specs.Plans.{IsFlag}
use Rattle.element_prop.proofs.Asked.{AreThose, equality, equality_nothing, equality_left, equality_right, equality_same}
use Rattle.element_prop.proofs.equality.prune_equality.Goals as goal

pub find-finding-requires-clause-flag : goal.find-finding-requires-clause-flag
find-finding-requires-clause-flag c =
    let con = c.args.subject.con.now in let domains = c.args.subject.domains.now in let boxes = c.args.subject.boxes.now in let vars = c.args.vars in
    let flag : c.index-boxes-flag.result ≡ box_of boxes vars.0 = grind (arith, common_steps) in
    subst (λ (s : Ranges). IsFlag s) (sym flag) (equality con domains boxes vars.0 vars.1 vars.2 c.requires.is c.requires.well_made c.requires.boxes c.requires.sets c.if-left-flag.false c.if-right-flag.false c.if-right-left.false).triple.bits

pub explain_within-requires-clause-reason : goal.explain_within-requires-clause-reason
explain_within-requires-clause-reason c =
    let con = c.args.subject.con.now in let domains = c.args.subject.domains.now in let boxes = c.args.subject.boxes.now in let vars = c.args.vars in
    let flag : c.index-boxes-flag.result ≡ box_of boxes vars.0 = grind (arith, common_steps) in
    let left : c.index-boxes-left.result ≡ box_of boxes vars.1 = grind (arith, common_steps) in
    let right : c.index-boxes-right.result ≡ box_of boxes vars.2 = grind (arith, common_steps) in
    let those : AreThose boxes vars.0 vars.1 vars.2 c.index-boxes-flag.result c.index-boxes-left.result c.index-boxes-right.result = record { flag = flag; first = left; second = right } in
    equality_left con domains boxes vars.0 vars.1 vars.2 c.index-boxes-flag.result c.index-boxes-left.result c.index-boxes-right.result
    (equality con domains boxes vars.0 vars.1 vars.2 c.requires.is c.requires.well_made c.requires.boxes c.requires.sets c.if-left-flag.false c.if-right-flag.false c.if-right-left.false) those c.in-LeftWithin.ensures

pub explain_within-requires-in-RightWithin-clause-reason : goal.explain_within-requires-in-RightWithin-clause-reason
explain_within-requires-in-RightWithin-clause-reason c =
    let con = c.args.subject.con.now in let domains = c.args.subject.domains.now in let boxes = c.args.subject.boxes.now in let vars = c.args.vars in
    let flag : c.index-boxes-flag.result ≡ box_of boxes vars.0 = grind (arith, common_steps) in
    let left : c.index-boxes-left.result ≡ box_of boxes vars.1 = grind (arith, common_steps) in
    let right : c.index-boxes-right.result ≡ box_of boxes vars.2 = grind (arith, common_steps) in
    let those : AreThose boxes vars.0 vars.1 vars.2 c.index-boxes-flag.result c.index-boxes-left.result c.index-boxes-right.result = record { flag = flag; first = left; second = right } in
    equality_right con domains boxes vars.0 vars.1 vars.2 c.index-boxes-flag.result c.index-boxes-left.result c.index-boxes-right.result
    (equality con domains boxes vars.0 vars.1 vars.2 c.requires.is c.requires.well_made c.requires.boxes c.requires.sets c.if-left-flag.false c.if-right-flag.false c.if-right-left.false) those c.in-RightWithin.ensures

pub explain_same-requires-clause-reason : goal.explain_same-requires-clause-reason
explain_same-requires-clause-reason c =
    let con = c.args.subject.con.now in let domains = c.args.subject.domains.now in let boxes = c.args.subject.boxes.now in let vars = c.args.vars in
    let flag : c.index-boxes-flag.result ≡ box_of boxes vars.0 = grind (arith, common_steps) in
    let left : c.index-boxes-left.result ≡ box_of boxes vars.1 = grind (arith, common_steps) in
    let right : c.index-boxes-right.result ≡ box_of boxes vars.2 = grind (arith, common_steps) in
    let those : AreThose boxes vars.0 vars.1 vars.2 c.index-boxes-flag.result c.index-boxes-left.result c.index-boxes-right.result = record { flag = flag; first = left; second = right } in
    equality_same con domains boxes vars.0 vars.1 vars.2 c.index-boxes-flag.result c.index-boxes-left.result c.index-boxes-right.result c.in-Same.at.value
    (equality con domains boxes vars.0 vars.1 vars.2 c.requires.is c.requires.well_made c.requires.boxes c.requires.sets c.if-left-flag.false c.if-right-flag.false c.if-right-left.false) those c.in-Same.ensures

pub returns-in-Quiet : goal.returns-in-Quiet
returns-in-Quiet c =
    let con = c.args.subject.con.now in let domains = c.args.subject.domains.now in let boxes = c.args.subject.boxes.now in let vars = c.args.vars in
    let flag : c.index-boxes-flag.result ≡ box_of boxes vars.0 = grind (arith, common_steps) in
    let left : c.index-boxes-left.result ≡ box_of boxes vars.1 = grind (arith, common_steps) in
    let right : c.index-boxes-right.result ≡ box_of boxes vars.2 = grind (arith, common_steps) in
    let those : AreThose boxes vars.0 vars.1 vars.2 c.index-boxes-flag.result c.index-boxes-left.result c.index-boxes-right.result = record { flag = flag; first = left; second = right } in
    record {
      answer = equality_nothing con domains boxes vars.0 vars.1 vars.2 c.index-boxes-flag.result c.index-boxes-left.result c.index-boxes-right.result
          (equality con domains boxes vars.0 vars.1 vars.2 c.requires.is c.requires.well_made c.requires.boxes c.requires.sets c.if-left-flag.false c.if-right-flag.false c.if-right-left.false) those c.in-Quiet.ensures;
    }
