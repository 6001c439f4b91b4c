use Rattle.std.proofs.lemmas.List.Elements.{All-nil}
use Rattle.ground_model.specs.Known.{IsKnownCell}
use Rattle.ground_model.proofs.constraints.require_fixing.Goals as goal

pub require_pass-requires-clause-known : goal.require_pass-requires-clause-known
require_pass-requires-clause-known c = record { cells = c.requires.cells; are_known = All-nil (IsKnownCell c.args.maker.now) }
