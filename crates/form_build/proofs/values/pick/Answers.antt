use Rattle.std.proofs.Common.{◌≡◌, [], List, ◌∙◌, ap, refl, subst}
use Rattle.signed_clause.specs.Clauses.{Boxes, box_of}
use Rattle.ground_build.specs.NewDomains.{picked_domain}
use Rattle.form_build.proofs.Growth.{adds_nothing}
use Rattle.form_build.proofs.Steps.{defined_adds}
use Rattle.form_build.proofs.Flags.{defined_some}
use Rattle.form_build.proofs.Joins.{picked_some}
use Rattle.form_build.proofs.ValuesMade.{pick_found}
use Rattle.form_build.proofs.values.pick.Goals as goal

pub returns-then-has_box-clause-variable : goal.returns-then-has_box-clause-variable
returns-then-has_box-clause-variable c =
    let values : box_of c.domains-domains.result.now c.in-Some.x ≡ picked_domain [] c.args.items.now c.domains-domains.result.now = c.if-has_box.ensures refl ∙ c.in_ok-set.ensures in
    pick_found c.args.b.now c.in-Some.x c.args.index _ c.args.items.now c.in-Some.ensures c.requires.distinct
    (subst (λ (z : Boxes). box_of z c.in-Some.x ≡ picked_domain [] c.args.items.now z) c.domains-domains.ensures.items values)

pub returns-then-has_box-clause-adds : goal.returns-then-has_box-clause-adds
returns-then-has_box-clause-adds c = adds_nothing [] c.args.b.now

pub returns-clause-adds : goal.returns-clause-adds
returns-clause-adds c = defined_adds c.args.b.now c.pick.new.self c.in_ok-x.x _ _ refl c.in_ok-x.ensures.ok

pub returns-clause-some : goal.returns-clause-some
returns-clause-some c h =
    defined_some c.args.b.now c.pick.new.self c.in_ok-x.x _ _
    (picked_some c.args.items.now c.args.b.now.domains c.args.index h c.domains-domains.ensures.well_made.domains c.requires.index c.requires.variables c.requires.held) c.in_ok-x.ensures.ok h
