use Rattle.std.proofs.Common.{true, false, ◌&&◌}
use Rattle.std.specs.List.{list_all}
use Rattle.ground_expr.specs.Asked.{holds_of}
use Rattle.ground_model.specs.Fixing.{holds_in}
use Rattle.ground_model.proofs.KnownCells.{known_still}
use Rattle.ground_model.proofs.Steps.{requires_more, requires_same, both_passes}
use Rattle.ground_model.proofs.WholeSteps.{passes_stand}
use Rattle.ground_model.proofs.constraints.require_both_passes.Goals as goal

pub require_pass-requires-2-clause-known : goal.require_pass-requires-2-clause-known
require_pass-requires-2-clause-known c = known_still c.args.objects.now c.args.known.now c.args.maker.now c.require_pass.new.maker c.in_ok-require_pass.ensures.says.grows c.requires.known

pub returns : goal.returns
returns c =
    let o = c.args.objects.now in
    let ks = c.args.list.now in
    let known = c.args.known.now in
    record {
      says = requires_same known c.args.maker.now c.require_pass-2.new.maker (λ values. list_all (holds_in true o values) ks && list_all (holds_in false o values) ks) (λ values. list_all (holds_of o values) ks) (λ values. both_passes o values ks)
          (requires_more known c.args.maker.now c.require_pass.new.maker c.require_pass-2.new.maker (λ values. list_all (holds_in true o values) ks) (λ values. list_all (holds_in false o values) ks) c.in_ok-require_pass.ensures.says c.in_ok-require_pass-2.ensures.says);
      whole = passes_stand o known c.require_pass.new.maker c.require_pass-2.new.maker ks c.in_ok-require_pass-2.ensures.says.grows c.in_ok-require_pass.ensures.whole c.in_ok-require_pass-2.ensures.whole;
    }
