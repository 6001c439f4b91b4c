use Rattle.std.proofs.Common.{◌∙◌, ◌<◌, sym, ap, subst}
use Rattle.std.specs.Prelude.{option_and_then, IfSome}
use Rattle.object_alloc.specs.Variables.{variables_of}
use Rattle.serde_json.specs.View.{view}
use Rattle.config_json.specs.Former.{step_to}
use Rattle.config_json.specs.Positions.{seen}
use Rattle.config_json.proofs.PositionLaws.{owned, position_made}
use Rattle.config_json.proofs.positions.position_of.Goals as goal

pub owner_position-requires : goal.owner_position-requires
owner_position-requires c =
    let o = c.args.objects.now in
    let x = c.object_of-object.result in
    record {
      owner = subst (λ m. IfSome x.owner (λ q. q < m)) (sym c.requires.positions.size)
          (owned o (view c.args.former.now) c.args.n x c.object_of-object.ensures.object).less;
    }

pub step_to-requires-clause-attribute : goal.step_to-requires-clause-attribute
step_to-requires-clause-attribute c =
    let o = c.args.objects.now in
    let x = c.object_of-object.result in
    (owned o (view c.args.former.now) c.args.n x c.object_of-object.ensures.object).attribute

pub returns-in_ok-found-in-Some : goal.returns-in_ok-found-in-Some
returns-in_ok-found-in-Some c =
    let o = c.args.objects.now in
    let x = c.object_of-object.result in
    let base = ap seen (sym c.in-Some.is) ∙ c.owner_position.ensures.position in
    record {
      position = c.in_ok-found-in-Some.ensures.position
          ∙ ap (option_and_then (step_to (variables_of o x.owner) x)) base
          ∙ position_made o (view c.args.former.now) c.args.n x c.args.positions.now
          c.object_of-object.ensures.object c.requires.positions;
    }

pub returns-in-None : goal.returns-in-None
returns-in-None c =
    let o = c.args.objects.now in
    let x = c.object_of-object.result in
    let base = ap seen (sym c.in-None.is) ∙ c.owner_position.ensures.position in
    record {
      position = ap (option_and_then (step_to (variables_of o x.owner) x)) base
          ∙ position_made o (view c.args.former.now) c.args.n x c.args.positions.now
          c.object_of-object.ensures.object c.requires.positions;
    }
