use Rattle.std.proofs.Common.{◌≡◌, true, pos, get_or, arith, refl, subst, sym}
use Rattle.std.proofs.lemmas.Grind.{common_steps}
use Rattle.signed_clause.specs.Ranges.{Ranges, IsValid}
use Rattle.signed_clause.specs.Clauses.{box_of}
use Rattle.rule_law.specs.Reasons.{IsReason}
use Rattle.rule_law.specs.Plans.{literals_of}
use Rattle.element_prop.specs.Elements.{HasToPick, pick_plan, all_meet}
use Rattle.element_prop.specs.Near.{IsNear}
use Rattle.element_prop.specs.Walks.{AreApart}
use Rattle.element_prop.proofs.ElementLaws.{element, item_reason, out_reason}
use Rattle.element_prop.proofs.element.prune_element.Goals as goal

pub find-requires-clause-distinct : goal.find-requires-clause-distinct
find-requires-clause-distinct c =
    let con = c.args.subject.con.now in let domains = c.args.subject.domains.now in let boxes = c.args.subject.boxes.now in let vars = c.args.vars in let items = c.args.items.now in
    (element con domains boxes vars.0 vars.1 items c.requires.is c.requires.well_made c.requires.boxes c.requires.sets).distinct

pub find-requires-clause-index : goal.find-requires-clause-index
find-requires-clause-index c =
    let con = c.args.subject.con.now in let domains = c.args.subject.domains.now in let boxes = c.args.subject.boxes.now in let vars = c.args.vars in let items = c.args.items.now in
    let index : c.index-boxes-index.result ≡ box_of boxes vars.1 = grind (arith, common_steps) in
    subst (λ (s : Ranges). IsValid s) (sym index) ((element con domains boxes vars.0 vars.1 items c.requires.is c.requires.well_made c.requires.boxes c.requires.sets).good.narrow vars.1)

pub prune_open-requires-clause-near : goal.prune_open-requires-clause-near
prune_open-requires-clause-near c =
    let boxes = c.args.subject.boxes.now in let vars = c.args.vars in
    let index : c.index-boxes-index.result ≡ box_of boxes vars.1 = grind (arith, common_steps) in
    subst (λ (s : Ranges). IsNear c.args.items.now s c.in-Open.near) index c.in-Open.ensures.places

pub prune_open-requires-clause-apart : goal.prune_open-requires-clause-apart
prune_open-requires-clause-apart c =
    let boxes = c.args.subject.boxes.now in let vars = c.args.vars in
    let index : c.index-boxes-index.result ≡ box_of boxes vars.1 = grind (arith, common_steps) in
    subst (λ (s : Ranges). AreApart c.args.items.now c.in-Open.near vars.0 vars.1 s) index c.in-Open.ensures.apart

pub prune_open-requires-clause-met : goal.prune_open-requires-clause-met
prune_open-requires-clause-met c =
    let boxes = c.args.subject.boxes.now in let vars = c.args.vars in
    let out : c.index-boxes-out.result ≡ box_of boxes vars.0 = grind (arith, common_steps) in
    let index : c.index-boxes-index.result ≡ box_of boxes vars.1 = grind (arith, common_steps) in
    subst (λ (s : Ranges). all_meet c.args.items.now s (box_of boxes vars.1) boxes ≡ true) out
    (subst (λ (s : Ranges). all_meet c.args.items.now c.index-boxes-out.result s boxes ≡ true) index c.in-Open.ensures.meet)

pub explain_pick-requires-clause-reason : goal.explain_pick-requires-clause-reason
explain_pick-requires-clause-reason c =
    let con = c.args.subject.con.now in let domains = c.args.subject.domains.now in let boxes = c.args.subject.boxes.now in let vars = c.args.vars in let items = c.args.items.now in
    let i = c.in-Item.i in
    let said = c.in-Item.ensures in
    let t = get_or items i (pos 0, 0) in
    let out : c.index-boxes-out.result ≡ box_of boxes vars.0 = grind (arith, common_steps) in
    let index : c.index-boxes-index.result ≡ box_of boxes vars.1 = grind (arith, common_steps) in
    let picks : HasToPick (box_of boxes vars.1) t.0 (box_of boxes t.1) (box_of boxes vars.0) =
    subst (λ (s : Ranges). HasToPick s t.0 (box_of boxes t.1) (box_of boxes vars.0)) index (subst (λ (s : Ranges). HasToPick c.index-boxes-index.result t.0 (box_of boxes t.1) s) out (said.1 (pos 0, 0))) in
    let differ = c.if-not-are_different.ensures in
    subst (λ (s : Ranges). IsReason con domains boxes (literals_of domains (pick_plan domains boxes vars.1 s t.1 vars.0))) (sym c.item_alone-at.ensures)
    (item_reason con domains boxes vars.0 vars.1 items i (pos 0, 0) (element con domains boxes vars.0 vars.1 items c.requires.is c.requires.well_made c.requires.boxes c.requires.sets) said.0 (c.requires.items i (pos 0, 0) said.0)
    (differ.first refl) (differ.second refl) (differ.third refl) picks)

pub explain_pick-requires-in-Out-clause-reason : goal.explain_pick-requires-in-Out-clause-reason
explain_pick-requires-in-Out-clause-reason c =
    let con = c.args.subject.con.now in let domains = c.args.subject.domains.now in let boxes = c.args.subject.boxes.now in let vars = c.args.vars in let items = c.args.items.now in
    let i = c.in-Out.i in
    let said = c.in-Out.ensures in
    let t = get_or items i (pos 0, 0) in
    let out : c.index-boxes-out.result ≡ box_of boxes vars.0 = grind (arith, common_steps) in
    let index : c.index-boxes-index.result ≡ box_of boxes vars.1 = grind (arith, common_steps) in
    let picks : HasToPick (box_of boxes vars.1) t.0 (box_of boxes vars.0) (box_of boxes t.1) =
    subst (λ (s : Ranges). HasToPick s t.0 (box_of boxes vars.0) (box_of boxes t.1)) index (subst (λ (s : Ranges). HasToPick c.index-boxes-index.result t.0 s (box_of boxes t.1)) out (said.1 (pos 0, 0))) in
    let differ = c.if-not-are_different-2.ensures in
    subst (λ (s : Ranges). IsReason con domains boxes (literals_of domains (pick_plan domains boxes vars.1 s vars.0 t.1))) (sym c.item_alone-value.ensures)
    (out_reason con domains boxes vars.0 vars.1 items i (pos 0, 0) (element con domains boxes vars.0 vars.1 items c.requires.is c.requires.well_made c.requires.boxes c.requires.sets) said.0 (c.requires.items i (pos 0, 0) said.0)
    (differ.first refl) (differ.second refl) (differ.third refl) picks)
