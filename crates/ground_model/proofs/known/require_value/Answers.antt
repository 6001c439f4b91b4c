use Rattle.ground_model.proofs.KnownCells.{value_required}
use Rattle.ground_model.proofs.known.require_value.Goals as goal

pub returns : goal.returns
returns c = record {
  says = value_required c.args.maker.now c.state.new.m c.domains.result.now c.args.k c.own_set-only.result c.literal.result c.requires.cell c.domains.ensures.items c.own_set-only.ensures c.literal.ensures.value c.in_ok-state.ensures.says;
}
