use Rattle.std.proofs.Common.{◌≡◌, ◌++◌, ◌∷◌, [], subst, ap, ◌∙◌, List}
use Rattle.signed_clause.specs.Clauses.{Boxes}
use Rattle.ground_form.specs.declared.con.Con.{Con}
use Rattle.ground_form.specs.declared.ground.Ground.{Ground}
use Rattle.ground_form.specs.WellMade.{IsWellMade}
use Rattle.ground_build.specs.Growing.{problem, with_definition}
use Rattle.ground_build.proofs.Steps.{definition_view, definition_made, definition_done}
use Rattle.ground_build.proofs.builder.Builder.define.Goals as goal

-- what the fields are after both pushes
built : (c : goal.After-push_reserved-2) → problem c.push_reserved.new.self.items c.self.inside.search c.push_reserved-2.new.self.items ≡ with_definition c.args.self.now c.args.domain c.args.con
built c =
    let first = c.push_reserved.ensures.items in let second = c.push_reserved-2.ensures.items in
    let kept = c.in_ok-reserve.ensures.items in let kept_cons = c.in_ok-reserve-2.ensures.items in
    definition_view c.args.self.now c.self.inside.domains.items c.push_reserved.new.self.items c.self.inside.search c.self.inside.cons.items c.push_reserved-2.new.self.items c.args.domain c.args.con c.self.view_is
    (first ∙ ap (λ (z : Boxes). z ++ c.args.domain ∷ []) kept) (second ∙ ap (λ (z : List Con). z ++ c.args.con ∷ []) kept_cons)

pub invariant_of-self-2 : goal.invariant_of-self-2
invariant_of-self-2 c =
    definition_made c.args.self.now _ c.args.domain c.args.con (subst (λ (g : Ground). IsWellMade g) c.self.view_is c.self.invariant) c.requires.room c.requires.new (built c)

pub returns-clause-ok : goal.returns-clause-ok
returns-clause-ok c =
    definition_done c.args.self.now _ c.next-x.result c.args.domain c.args.con (subst (λ (g : Ground). IsWellMade g) c.self.view_is c.self.invariant) c.requires.room c.requires.new c.requires.determined
    c.next-x.ensures (built c)
