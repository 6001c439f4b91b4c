use Rattle.std.proofs.Common.{◌≡◌, pos, get_or, arith, inl, inr, sym, ap, ◌∙◌}
use Rattle.std.proofs.lemmas.Grind.{common_steps}
use Rattle.signed_clause.specs.Ranges.{Ranges}
use Rattle.signed_clause.specs.SetAlgebra.{is_within}
use Rattle.signed_clause.specs.Clauses.{box_of}
use Rattle.element_prop.proofs.ElementQuiet.{idle_at, outside_at}
use Rattle.element_prop.proofs.element.find_outside.Goals as goal

pub returns-then-has_another : goal.returns-then-has_another
returns-then-has_another c =
    let boxes = c.args.boxes.now in let vars = c.args.vars in let items = c.args.items.now in
    let out : c.index-boxes-vars.result ≡ box_of boxes vars.0 = grind (arith, common_steps) in
    let index : c.index-boxes-vars-2.result ≡ box_of boxes vars.1 = grind (arith, common_steps) in
    idle_at items vars.0 vars.1 c.in-Some.i (pos 0, 0) boxes c.index-boxes-vars.result c.index-boxes-vars-2.result out index c.requires.different c.requires.met c.requires.full c.requires.offered
    c.in-Some.ensures.within (c.in-Some.ensures.can (pos 0, 0)) (inl (sym c.has_another.ensures ∙ c.if-has_another.true))

pub returns-then-within : goal.returns-then-within
returns-then-within c =
    let boxes = c.args.boxes.now in let vars = c.args.vars in let items = c.args.items.now in
    let out : c.index-boxes-vars.result ≡ box_of boxes vars.0 = grind (arith, common_steps) in
    let index : c.index-boxes-vars-2.result ≡ box_of boxes vars.1 = grind (arith, common_steps) in
    let here : c.index-boxes-x.result ≡ box_of boxes (get_or items c.in-Some.i (pos 0, 0)).1 = grind (arith, common_steps) in
    idle_at items vars.0 vars.1 c.in-Some.i (pos 0, 0) boxes c.index-boxes-vars.result c.index-boxes-vars-2.result out index c.requires.different c.requires.met c.requires.full c.requires.offered
    c.in-Some.ensures.within (c.in-Some.ensures.can (pos 0, 0)) (inr (ap (λ (s : Ranges). is_within s c.index-boxes-vars.result) (sym here) ∙ sym c.within.ensures.list ∙ c.if-within.true))

pub returns-else-within : goal.returns-else-within
returns-else-within c =
    let boxes = c.args.boxes.now in let vars = c.args.vars in let items = c.args.items.now in
    let out : c.index-boxes-vars.result ≡ box_of boxes vars.0 = grind (arith, common_steps) in
    let index : c.index-boxes-vars-2.result ≡ box_of boxes vars.1 = grind (arith, common_steps) in
    let here : c.index-boxes-x.result ≡ box_of boxes (get_or items c.in-Some.i (pos 0, 0)).1 = grind (arith, common_steps) in
    outside_at items vars.0 vars.1 c.in-Some.i (pos 0, 0) boxes c.index-boxes-vars.result c.index-boxes-vars-2.result out index
    c.in-Some.ensures.within (c.in-Some.ensures.can (pos 0, 0)) (sym c.has_another.ensures ∙ c.if-has_another.false) (ap (λ (s : Ranges). is_within s c.index-boxes-vars.result) (sym here) ∙ sym c.within.ensures.list ∙ c.if-within.false)
