use Rattle.std.proofs.Common.{[], arith, subst, sym, ap, ◌∙◌, List}
use Rattle.signed_clause.specs.Clauses.{Boxes}
use Rattle.ground_form.specs.declared.con.Con.{Con}
use Rattle.ground_form.specs.declared.ground.Ground.{Ground}
use Rattle.ground_form.specs.WellMade.{IsWellMade}
use Rattle.ground_build.specs.Growing.{problem}
use Rattle.ground_build.proofs.Kept.{well_made_goals}
use Rattle.ground_build.proofs.builder.Builder.over_owned.Goals as goal

pub invariant_of-result : goal.invariant_of-result
invariant_of-result c =
    let g = c.args.g in
    let whole = well_made_goals g [] c.requires (λ k d lt. absurd (omega arith)) in
    subst (λ (h : Ground). IsWellMade h) (sym (ap (λ (x : Boxes). problem x g.search c.into_items-cons.result.items) c.into_items-domains.ensures ∙ ap (λ (y : List Con). problem g.domains g.search y) c.into_items-cons.ensures)) whole
