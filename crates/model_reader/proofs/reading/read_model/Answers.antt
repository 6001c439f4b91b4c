use Rattle.std.proofs.Common.{subst, sym}
use Rattle.model_reader.proofs.TextRefusals.{no_refusal, refused_as, text_denied}
use Rattle.model_reader.proofs.reading.read_model.Goals as goal
use Rattle.model_reader.specs.ModelRefusal.{IsTextRefused}
use Rattle.run_status.specs.Stages.{Denied, IsUnless}

pub returns-in-Ok-clause-stands : goal.returns-in-Ok-clause-stands
returns-in-Ok-clause-stands c =
    λ s h. no_refusal c.args.text.now c.in-Ok.ensures.syntax c.in-Ok.ensures.literal c.in-Ok.ensures.nesting s h

pub returns-in-Err-clause-refused : goal.returns-in-Err-clause-refused
returns-in-Err-clause-refused c =
    subst (λ s. Denied s (IsTextRefused c.args.text.now s)) (sym c.refusal_of.ensures)
    (text_denied c.args.text.now c.in-Err.error c.in-Err.ensures.refusal)

pub returns-in-Err-clause-stands : goal.returns-in-Err-clause-stands
returns-in-Err-clause-stands c =
    λ s h. subst (λ x. IsUnless s x) (sym c.refusal_of.ensures)
    (refused_as c.args.text.now c.in-Err.error c.in-Err.ensures.syntax c.in-Err.ensures.literal c.in-Err.ensures.nesting s h)
