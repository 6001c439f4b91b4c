use Rattle.std.proofs.Common.{◌∙◌}
use Rattle.std.proofs.lemmas.Result.{on_ok_weaker}
use Rattle.object_alloc.specs.Variables.{variables}
use Rattle.object_alloc.proofs.PathLaws.{step_made}
use Rattle.object_alloc.proofs.paths.push_step.Goals as goal

pub returns : goal.returns
returns c =
    let vs = variables c.args.table.now c.args.class in
    record { text = on_ok_weaker c.push_index.result (λ h. step_made vs c.args.object c.as_bytes.result.now c.extend_from_slice.new.self.items c.args.text.now.items c.push_index.new.text.items c.variable_at-variable.result.shape c.requires.attribute (λ d. c.as_bytes.ensures.bytes ∙ c.variable_at-variable.ensures.name d) c.variable_at-variable.ensures.shape c.in_ok-extend_from_slice.ensures.items h) c.push_index.ensures.text }
