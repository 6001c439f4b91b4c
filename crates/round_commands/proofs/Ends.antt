-- How a run over a model ends where it is denied.
use Rattle.std.proofs.Common.{◌≡◌, ◌∙◌, ◌⊎◌, inl, inr, ℕ, List, [], Option, ap, subst, sym}
use Rattle.conf_syntax.specs.declared.tree.Program.{Program}
use Rattle.desk_io.specs.Desk.{Files}
use Rattle.model_reader.specs.ModelRefusal.{IsRefusedFor}
use Rattle.model_reader.specs.Models.{IsWithin}
use Rattle.run_promise.specs.Asking.{OfAsked}
use Rattle.run_promise.specs.Delivery.{outside}
use Rattle.round_commands.specs.Ending.{Trace, Searches, EndsModel, EndsModelAt}
use Rattle.run_promise.specs.Recorded.{AreRoundsFor}
use Rattle.run_promise.specs.Refusal.{IsDeniedOf}
use Rattle.round_commands.specs.Unreadable.{Unreadable}
use Rattle.run_status.specs.Stages.{stage_of}
use Rattle.run_status.specs.declared.status.Status.{Status}

pub same_outside : (files now_files : Option Files) (printed now_printed : Option (List ℕ)) →
    now_files ≡ files → now_printed ≡ printed → outside now_files now_printed ≡ outside files printed
same_outside files now_files printed now_printed f q =
    ap (λ x. outside x now_printed) f ∙ ap (λ x. outside files x) q

pub model_denied : (t : Trace) (p : Program) (s : Status) → (t.journal.rounds ≡ []) ⊎ (AreRoundsFor t.request t.journal.rounds × (IsWithin p × OfAsked t.before.files t.request (λ asked. Searches t asked p))) → Unreadable t.reads t.reads_now s (IsRefusedFor s p ⊎ (IsWithin p × IsDeniedOf t.before.files t.request t.journal s p)) → t.now ≡ t.before → EndsModel t p s
model_denied t p s none (inl h) same = subst (λ x. EndsModelAt (stage_of x) t p x) (sym h.0) (h.1, same)
model_denied t p s (inl none) (inr (inl h)) same = subst (λ x. EndsModelAt (stage_of x) t p x) (sym h) (inl (same, none))
model_denied t p s (inr far) (inr (inl h)) same = subst (λ x. EndsModelAt (stage_of x) t p x) (sym h) (inr (inr ((same, far.0), far.1)))
model_denied t p s none (inr (inr h)) same = subst (λ g. EndsModelAt g t p s) (sym h.0) (h.1, same)
