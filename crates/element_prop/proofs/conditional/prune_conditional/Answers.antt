use Rattle.std.proofs.Common.{◌≡◌, arith, subst, sym}
use Rattle.std.proofs.lemmas.Grind.{common_steps}
use Rattle.signed_clause.specs.Ranges.{Ranges}
use Rattle.signed_clause.specs.Clauses.{box_of}
use Rattle.rule_law.specs.Plans.{IsFlag}
use Rattle.element_prop.proofs.Asked.{AreThose, conditional, conditional_nothing, conditional_out, conditional_item, conditional_zero, conditional_either}
use Rattle.element_prop.proofs.conditional.prune_conditional.Goals as goal

pub find-finding-requires-clause-flag : goal.find-finding-requires-clause-flag
find-finding-requires-clause-flag c =
    let con = c.args.subject.con.now in let domains = c.args.subject.domains.now in let boxes = c.args.subject.boxes.now in let vars = c.args.vars in
    let flag : c.index-boxes-flag.result ≡ box_of boxes vars.1 = grind (arith, common_steps) in
    subst (λ (s : Ranges). IsFlag s) (sym flag) (conditional con domains boxes vars.0 vars.1 vars.2 c.requires.is c.requires.well_made c.requires.boxes c.requires.sets c.if-out-flag.false c.if-item-flag.false c.if-item-out.false).triple.bits

pub explain_within-requires-clause-reason : goal.explain_within-requires-clause-reason
explain_within-requires-clause-reason c =
    let con = c.args.subject.con.now in let domains = c.args.subject.domains.now in let boxes = c.args.subject.boxes.now in let vars = c.args.vars in
    let flag : c.index-boxes-flag.result ≡ box_of boxes vars.1 = grind (arith, common_steps) in
    let out : c.index-boxes-out.result ≡ box_of boxes vars.0 = grind (arith, common_steps) in
    let item : c.index-boxes-item.result ≡ box_of boxes vars.2 = grind (arith, common_steps) in
    let those : AreThose boxes vars.1 vars.0 vars.2 c.index-boxes-flag.result c.index-boxes-out.result c.index-boxes-item.result = record { flag = flag; first = out; second = item } in
    conditional_out con domains boxes vars.0 vars.1 vars.2 c.index-boxes-flag.result c.index-boxes-out.result c.index-boxes-item.result
    (conditional con domains boxes vars.0 vars.1 vars.2 c.requires.is c.requires.well_made c.requires.boxes c.requires.sets c.if-out-flag.false c.if-item-flag.false c.if-item-out.false) those c.in-OutWithin.ensures

pub explain_within-requires-in-ItemWithin-clause-reason : goal.explain_within-requires-in-ItemWithin-clause-reason
explain_within-requires-in-ItemWithin-clause-reason c =
    let con = c.args.subject.con.now in let domains = c.args.subject.domains.now in let boxes = c.args.subject.boxes.now in let vars = c.args.vars in
    let flag : c.index-boxes-flag.result ≡ box_of boxes vars.1 = grind (arith, common_steps) in
    let out : c.index-boxes-out.result ≡ box_of boxes vars.0 = grind (arith, common_steps) in
    let item : c.index-boxes-item.result ≡ box_of boxes vars.2 = grind (arith, common_steps) in
    let those : AreThose boxes vars.1 vars.0 vars.2 c.index-boxes-flag.result c.index-boxes-out.result c.index-boxes-item.result = record { flag = flag; first = out; second = item } in
    conditional_item con domains boxes vars.0 vars.1 vars.2 c.index-boxes-flag.result c.index-boxes-out.result c.index-boxes-item.result
    (conditional con domains boxes vars.0 vars.1 vars.2 c.requires.is c.requires.well_made c.requires.boxes c.requires.sets c.if-out-flag.false c.if-item-flag.false c.if-item-out.false) those c.in-ItemWithin.ensures

pub explain_zero-requires-clause-reason : goal.explain_zero-requires-clause-reason
explain_zero-requires-clause-reason c =
    let con = c.args.subject.con.now in let domains = c.args.subject.domains.now in let boxes = c.args.subject.boxes.now in let vars = c.args.vars in
    let flag : c.index-boxes-flag.result ≡ box_of boxes vars.1 = grind (arith, common_steps) in
    let out : c.index-boxes-out.result ≡ box_of boxes vars.0 = grind (arith, common_steps) in
    let item : c.index-boxes-item.result ≡ box_of boxes vars.2 = grind (arith, common_steps) in
    let those : AreThose boxes vars.1 vars.0 vars.2 c.index-boxes-flag.result c.index-boxes-out.result c.index-boxes-item.result = record { flag = flag; first = out; second = item } in
    conditional_zero con domains boxes vars.0 vars.1 vars.2 c.index-boxes-flag.result c.index-boxes-out.result c.index-boxes-item.result
    (conditional con domains boxes vars.0 vars.1 vars.2 c.requires.is c.requires.well_made c.requires.boxes c.requires.sets c.if-out-flag.false c.if-item-flag.false c.if-item-out.false) those c.in-Zero.ensures

pub explain_either-requires-clause-reason : goal.explain_either-requires-clause-reason
explain_either-requires-clause-reason c =
    let con = c.args.subject.con.now in let domains = c.args.subject.domains.now in let boxes = c.args.subject.boxes.now in let vars = c.args.vars in
    let flag : c.index-boxes-flag.result ≡ box_of boxes vars.1 = grind (arith, common_steps) in
    let out : c.index-boxes-out.result ≡ box_of boxes vars.0 = grind (arith, common_steps) in
    let item : c.index-boxes-item.result ≡ box_of boxes vars.2 = grind (arith, common_steps) in
    let those : AreThose boxes vars.1 vars.0 vars.2 c.index-boxes-flag.result c.index-boxes-out.result c.index-boxes-item.result = record { flag = flag; first = out; second = item } in
    conditional_either con domains boxes vars.0 vars.1 vars.2 c.index-boxes-flag.result c.index-boxes-out.result c.index-boxes-item.result
    (conditional con domains boxes vars.0 vars.1 vars.2 c.requires.is c.requires.well_made c.requires.boxes c.requires.sets c.if-out-flag.false c.if-item-flag.false c.if-item-out.false) those c.in-Either.ensures

pub returns-in-Quiet : goal.returns-in-Quiet
returns-in-Quiet c =
    let con = c.args.subject.con.now in let domains = c.args.subject.domains.now in let boxes = c.args.subject.boxes.now in let vars = c.args.vars in
    let flag : c.index-boxes-flag.result ≡ box_of boxes vars.1 = grind (arith, common_steps) in
    let out : c.index-boxes-out.result ≡ box_of boxes vars.0 = grind (arith, common_steps) in
    let item : c.index-boxes-item.result ≡ box_of boxes vars.2 = grind (arith, common_steps) in
    let those : AreThose boxes vars.1 vars.0 vars.2 c.index-boxes-flag.result c.index-boxes-out.result c.index-boxes-item.result = record { flag = flag; first = out; second = item } in
    record {
      answer = conditional_nothing con domains boxes vars.0 vars.1 vars.2 c.index-boxes-flag.result c.index-boxes-out.result c.index-boxes-item.result
          (conditional con domains boxes vars.0 vars.1 vars.2 c.requires.is c.requires.well_made c.requires.boxes c.requires.sets c.if-out-flag.false c.if-item-flag.false c.if-item-out.false) those c.in-Quiet.ensures;
    }
