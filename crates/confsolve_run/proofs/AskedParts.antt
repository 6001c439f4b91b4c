-- From what is said of a model's parts to what is said of the model.
use Rattle.std.proofs.Common.{◌≡◌, ◌⊎◌, false, List, [], Option, inl, inr, refl, sym, subst, ℕ}
use Rattle.branch_choice.specs.declared.split.Order.{Order}
use Rattle.class_table.specs.Outline.{Outline}
use Rattle.conf_request.specs.declared.options.OrderName.{OrderName}
use Rattle.conf_request.specs.declared.request.Request.{Request}
use Rattle.conf_request.specs.declared.request.Request.TheVariants.{Solve, Reconfigure, Check, Verify, Gen, Session, Core}
use Rattle.run_promise.specs.Blaming.{IsBlamed, IsSearchedSoFar}
use Rattle.desk_io.specs.Desk.{Files}
use Rattle.proof_log.specs.Rounds.{Journal}
use Rattle.run_status.specs.declared.status.Status.{Status}
use Rattle.run_promise.specs.Answer.{IsModelAnswer, IsModelSearched, IsAnswer, IsAnswerSearched}
use Rattle.run_promise.specs.Asking.{OfAsked}
use Rattle.confsolve_run.specs.Requests.{is_session}
use Rattle.round_commands.proofs.Asking.{asked_map}
use Rattle.conf_syntax.specs.declared.tree.Program.{Program}
use Rattle.conf_types.specs.Programs.{ResolvedConstraint, ResolvedGoal}
use Rattle.model_reader.specs.Building.{IsResolved}
use Rattle.model_reader.specs.Models.{IsWithin}
use Rattle.model_reader.specs.ModelRefusal.{IsRefusedFor}
use Rattle.run_promise.specs.Refusal.{IsDenied, IsDeniedOf}
use Rattle.model_reader.proofs.ModelParts.{at_model}
use Rattle.round_commands.proofs.Reading.{unread_map}
use Rattle.round_commands.proofs.Rounds.{has_blamed, part_rounds}
use Rattle.run_promise.specs.Recorded.{AreRoundsFor, IsRecorded}
use Rattle.round_commands.specs.Unreadable.{Unreadable}

-- ---- over the model that a program is

module _ (told : Option Files) (r : Request) (os : List Order) (journal : Journal) (p : Program) (t o : Outline) (cs : List ResolvedConstraint) (gs : List ResolvedGoal) (objects_are : o ≡ t) (made : IsResolved p t cs gs) (within : IsWithin p) where
  pub model_answer : (s : Status) (text : List ℕ) → OfAsked told r (λ asked. IsModelAnswer o cs gs os journal asked s text) → OfAsked told r (λ asked. IsAnswer os journal asked p s text)
  model_answer s text h = asked_map told r (λ asked. IsModelAnswer o cs gs os journal asked s text) (λ asked. IsAnswer os journal asked p s text) (λ asked is. at_model p t o cs gs objects_are made (λ x ks hs. IsModelAnswer x ks hs os journal asked s text) is) h

  pub model_refusal : (reads reads_now : ℕ) (s : Status) → Unreadable reads reads_now s (IsDenied told r journal s o cs gs) → Unreadable reads reads_now s (IsRefusedFor s p ⊎ (IsWithin p × IsDeniedOf told r journal s p))
  model_refusal reads reads_now s h =
      unread_map reads reads_now s (IsDenied told r journal s o cs gs) (IsRefusedFor s p ⊎ (IsWithin p × IsDeniedOf told r journal s p)) (λ d. inr (within, at_model p t o cs gs objects_are made (λ x ks hs. IsDenied told r journal s x ks hs) d)) h

  -- memory failed among searches
  pub model_cut : (journal.rounds ≡ []) ⊎ (AreRoundsFor r journal.rounds × OfAsked told r (λ asked. IsModelSearched o cs journal asked)) → (journal.rounds ≡ []) ⊎ (AreRoundsFor r journal.rounds × (IsWithin p × OfAsked told r (λ asked. IsAnswerSearched journal asked p)))
  model_cut (inl none) = inl none
  model_cut (inr h) =
      inr (h.0, (within, asked_map told r (λ asked. IsModelSearched o cs journal asked) (λ asked. IsAnswerSearched journal asked p) (λ asked is. at_model p t o cs gs objects_are made (λ x ks hs. IsModelSearched x ks journal asked) is) h.1))

-- a request that is no session
pub no_session : (r : Request) → ((model former events : List ℕ) (budget : ℕ) (order : OrderName) → r ≡ Session model former events budget order → ⊥) → is_session r ≡ false
no_session (Solve model budget log order) h = refl
no_session (Reconfigure model former failed budget log order) h = refl
no_session (Check model log former failed) h = refl
no_session (Verify model config) h = refl
no_session (Gen n) h = refl
no_session (Session model former events budget order) h = absurd (h model former events budget order refl)
no_session (Core model budget order) h = refl

-- ---- what to blame

module _ (told : Option Files) (q : Request) (model : List ℕ) (budget : ℕ) (order : OrderName) (is : q ≡ Core model budget order) (o : Outline) (ks : List ResolvedConstraint) (gs : List ResolvedGoal) (os : List Order) (journal : Journal) where
  pub blamed_answer : (s : Status) (text : List ℕ) → IsBlamed o ks budget journal.rounds s text → OfAsked told q (λ asked. IsModelAnswer o ks gs os journal asked s text)
  blamed_answer s text h = subst (λ (x : Request). OfAsked told x (λ asked. IsModelAnswer o ks gs os journal asked s text)) (sym is) h

  pub blamed_recorded : (s : Status) (text : List ℕ) → IsBlamed o ks budget journal.rounds s text → IsRecorded os q s journal
  blamed_recorded s text h = subst (λ (x : Request). IsRecorded os x s journal) (sym is) (has_blamed o ks budget journal s text h)

  pub blamed_cut : (journal.rounds ≡ []) ⊎ IsSearchedSoFar o ks budget journal.rounds → (journal.rounds ≡ []) ⊎ (AreRoundsFor q journal.rounds × OfAsked told q (λ asked. IsModelSearched o ks journal asked))
  blamed_cut (inl none) = inl none
  blamed_cut (inr h) = inr (
    subst (λ (x : Request). AreRoundsFor x journal.rounds) (sym is) (part_rounds o ks budget journal.rounds h.searched),
    subst (λ (x : Request). OfAsked told x (λ asked. IsModelSearched o ks journal asked)) (sym is) h,
  )
