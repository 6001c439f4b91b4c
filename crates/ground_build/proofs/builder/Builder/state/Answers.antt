use Rattle.std.proofs.Common.{◌≡◌, subst}
use Rattle.ground_form.specs.declared.ground.Ground.{Ground}
use Rattle.ground_form.specs.WellMade.{IsWellMade}
use Rattle.ground_build.specs.Growing.{problem, with_constraint}
use Rattle.ground_build.proofs.Steps.{statement_view, statement_made, statement_done}
use Rattle.ground_build.proofs.builder.Builder.state.Goals as goal

-- what the fields are after the push
built : (c : goal.In_ok-push) → problem c.self.inside.domains.items c.self.inside.search c.push.new.self.items ≡ with_constraint c.args.self.now c.args.con
built c = statement_view c.args.self.now c.self.inside.domains.items c.self.inside.search c.self.inside.cons.items c.push.new.self.items c.args.con c.self.view_is c.in_ok-push.ensures.items

pub invariant_of-self-2 : goal.invariant_of-self-2
invariant_of-self-2 c =
    statement_made c.args.self.now _ c.args.con (subst (λ (g : Ground). IsWellMade g) c.self.view_is c.self.invariant) c.requires.room c.requires.new (built c)

pub returns-clause-ok : goal.returns-clause-ok
returns-clause-ok c =
    statement_done c.args.self.now _ c.args.con (subst (λ (g : Ground). IsWellMade g) c.self.view_is c.self.invariant) c.requires.room c.requires.new (built c)
