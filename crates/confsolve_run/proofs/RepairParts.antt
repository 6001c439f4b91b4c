-- From a repair, and what a search or a log tells of it, to what answers the request.
use Rattle.std.proofs.Common.{◌≡◌, ◌∙◌, ◌≤◌, inr, ap, List, Option, Some, Result, Ok, Err, IfOk, IfErr, sym, subst, ℕ}
use Rattle.branch_choice.specs.declared.split.Order.{Order}
use Rattle.class_table.specs.Outline.{Outline}
use Rattle.conf_request.specs.declared.options.OrderName.{OrderName}
use Rattle.conf_request.specs.declared.request.Request.{Request}
use Rattle.conf_request.specs.declared.request.Request.TheVariants.{Reconfigure, Check}
use Rattle.conf_types.specs.Programs.{ResolvedConstraint, ResolvedGoal}
use Rattle.desk_io.specs.Desk.{Files, OfFile}
use Rattle.answer_text.specs.Texts.{solve_text}
use Rattle.proof_log.specs.Rounds.{Journal}
use Rattle.reconfigure.specs.declared.repair.Repair.{Repair}
use Rattle.run_status.specs.declared.status.Status.{Status}
use Rattle.round_commands.specs.declared.answer.Answer.{Answer}
use Rattle.run_promise.specs.Answer.{IsChecked, IsModelAnswer, IsRepairOf, IsSearched, order_at}
use Rattle.run_promise.specs.Asking.{OfAsked, former_text}
use Rattle.run_promise.specs.Refusal.{IsDenied, IsUnchecked}
use Rattle.round_commands.specs.Unreadable.{Unreadable}
use Rattle.round_commands.proofs.Reading.{unread_map, unread_earlier}
use Rattle.round_commands.proofs.Asking.{file_map}

module _ (told : Option Files) (q : Request) (o : Outline) (ks : List ResolvedConstraint) (gs : List ResolvedGoal) (journal : Journal) (former : List ℕ) (failed words : List (List ℕ)) (named : words ≡ failed) (r : Repair) (repair : OfFile told former (λ bytes. IsRepairOf o (former_text bytes words) r)) where
  of_request : OfFile told former (λ bytes. IsRepairOf o (former_text bytes failed) r)
  of_request = subst (λ ws. OfFile told former (λ bytes. IsRepairOf o (former_text bytes ws) r)) named repair

  -- a repair is searched for
  pub repaired : (os : List Order) (s : Status) (text : List ℕ) (model : List ℕ) (budget taken : ℕ) (log : Option (List ℕ)) (order number : OrderName) → q ≡ Reconfigure model former failed budget log order → taken ≡ budget → number ≡ order → IsSearched o ks gs (Some r) (order_at os number) taken journal s (solve_text o gs (Some r) taken) text → OfAsked told q (λ asked. IsModelAnswer o ks gs os journal asked s text)
  repaired os s text model budget taken log order number is within by h =
      let asked = subst (λ n. IsSearched o ks gs (Some r) (order_at os n) budget journal s (solve_text o gs (Some r) budget) text) by
      (subst (λ n. IsSearched o ks gs (Some r) (order_at os number) n journal s (solve_text o gs (Some r) n) text) within h) in
      subst (λ x. OfAsked told x (λ asked. IsModelAnswer o ks gs os journal asked s text)) (sym is)
      (file_map told former _ _ (λ bytes k. (r, k, asked)) of_request)

  -- a log of a repair is checked
  module _ (model log : List ℕ) (file : Option (List ℕ)) (is : q ≡ Check model log file failed) (some : file ≡ Some former) (mid : Option Files) (same : mid ≡ told) where
    asks : q ≡ Check model log (Some former) failed
    asks = is ∙ ap (λ f. Check model log f failed) some

    pub checked : (os : List Order) (res : Result Answer Status) → IfOk res (λ a. OfFile mid log (λ bytes. IsChecked o ks gs (Some r) bytes journal a.status a.text.items)) → IfOk res (λ a. OfAsked told q (λ asked. IsModelAnswer o ks gs os journal asked a.status a.text.items))
    checked os (Ok a) h =
        let here = subst (λ t. OfFile t log (λ bytes. IsChecked o ks gs (Some r) bytes journal a.status a.text.items)) same h in
        subst (λ x. OfAsked told x (λ asked. IsModelAnswer o ks gs os journal asked a.status a.text.items)) (sym asks)
        (file_map told former _ _ (λ before k. file_map told log _ _ (λ bytes p. (r, k, p)) here) of_request)
    checked os (Err s) h = tt

    pub check_refused : (reads between now : ℕ) → reads ≤ between → (res : Result Answer Status) → IfErr res (λ s. Unreadable between now s (OfFile mid log (λ bytes. IsUnchecked o ks gs (Some r) journal bytes s))) → IfErr res (λ s. Unreadable reads now s (IsDenied told q journal s o ks gs))
    check_refused reads between now le (Ok a) h = tt
    check_refused reads between now le (Err s) h =
        unread_map reads now s _ _ (λ u. subst (λ x. IsDenied told x journal s o ks gs) (sym asks)
        (inr (file_map told former _ _ (λ before k. file_map told log _ _ (λ bytes p. (r, k, p)) (subst (λ t. OfFile t log (λ bytes. IsUnchecked o ks gs (Some r) journal bytes s)) same u)) of_request)))
        (unread_earlier reads between now s _ le h)
