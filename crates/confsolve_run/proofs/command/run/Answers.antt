use Rattle.std.proofs.Common.{◌≡◌, ◌∙◌, Some, sym, subst}
use Rattle.conf_request.specs.Words.{request}
use Rattle.run_promise.specs.Asking.{text_of}
use Rattle.confsolve_run.proofs.RunLaws.{one_request}
use Rattle.confsolve_run.proofs.command.run.Goals as goal

pub returns-in-Ok-Some-clause-stands : goal.returns-in-Ok-Some-clause-stands
returns-in-Ok-Some-clause-stands g c =
    let own = sym c.in-Ok-Some.ensures.request ∙ c.in-Ok-Some.field-0-is in
    λ r text s is at h. c.run_request.ensures.stands text s
    (subst (λ q. text_of (g.D.Desk.files c.args.desk.now) q ≡ Some text) (one_request (request c.args.words.now) r c.in-Ok-Some.request is own) at) h
