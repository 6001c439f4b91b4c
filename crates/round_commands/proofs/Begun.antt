-- An answer that is no session's is one as far as it came.
use Rattle.std.proofs.Common.{◌≡◌, Bool, true, false, List, [], Option, None, Some, ℕ, refl}
use Rattle.branch_choice.specs.declared.split.Order.{Order}
use Rattle.class_table.specs.Outline.{Outline}
use Rattle.conf_request.specs.declared.options.OrderName.{OrderName}
use Rattle.conf_request.specs.declared.request.Request.{Request}
use Rattle.conf_request.specs.declared.request.Request.TheVariants.{Solve, Reconfigure, Check, Verify, Gen, Session, Core}
use Rattle.conf_types.specs.Programs.{ResolvedConstraint, ResolvedGoal}
use Rattle.desk_io.specs.Desk.{Files, OfFile}
use Rattle.proof_log.specs.Rounds.{Journal}
use Rattle.run_promise.specs.Answer.{IsModelAnswer, IsModelBegun}
use Rattle.run_promise.specs.Asking.{Asked, Best, Generated, Checked, Satisfied, Held, Blamed, OfAsked, OfChecked, former_text}
use Rattle.run_status.specs.declared.status.Status.{Status}
use Rattle.round_commands.proofs.Asking.{file_map}

-- the request is no session
abbrev pub IsOther : Request → Type 0
IsOther r =
    (model former events : List ℕ) (budget : ℕ) (order : OrderName)
    → r ≡ Session model former events budget order → ⊥

abbrev pub is_held : Asked → Bool
is_held (Held before bytes budget order) = true
is_held (Best former budget order) = false
is_held (Generated n) = false
is_held (Checked former bytes) = false
is_held (Satisfied bytes) = false
is_held (Blamed budget order) = false

-- P, of what isn't asked by a session
abbrev pub Unheld : (Asked → Type 0) → Asked → Type 0
Unheld P asked = (is_held asked ≡ false) × P asked

unheld_checked : (told : Option Files) (log : List ℕ) (former : Option (List ℕ)) (failed : List (List ℕ)) (P : Asked → Type 0) → OfChecked told log former failed P → OfChecked told log former failed (Unheld P)
unheld_checked told log None failed P h =
    file_map told log (λ bytes. P (Checked None bytes)) (λ bytes. Unheld P (Checked None bytes)) (λ bytes p. (refl, p)) h
unheld_checked told log (Some former) failed P h =
    file_map told former (λ before. OfFile told log (λ bytes. P (Checked (Some (former_text before failed)) bytes))) (λ before. OfFile told log (λ bytes. Unheld P (Checked (Some (former_text before failed)) bytes)))
    (λ before. file_map told log (λ bytes. P (Checked (Some (former_text before failed)) bytes)) (λ bytes. Unheld P (Checked (Some (former_text before failed)) bytes)) (λ bytes p. (refl, p))) h

-- a request that is no session asks for nothing that a session does
pub unheld : (told : Option Files) (r : Request) (P : Asked → Type 0) → IsOther r → OfAsked told r P → OfAsked told r (Unheld P)
unheld told (Solve model budget log order) P other h = (refl, h)
unheld told (Reconfigure model former failed budget log order) P other h =
    file_map told former (λ bytes. P (Best (Some (former_text bytes failed)) budget order)) (λ bytes. Unheld P (Best (Some (former_text bytes failed)) budget order)) (λ bytes p. (refl, p)) h
unheld told (Check model log former failed) P other h = unheld_checked told log former failed P h
unheld told (Verify model config) P other h =
    file_map told config (λ bytes. P (Satisfied bytes)) (λ bytes. Unheld P (Satisfied bytes)) (λ bytes p. (refl, p)) h
unheld told (Gen n) P other h = (refl, h)
unheld told (Session model former events budget order) P other h = absurd (other model former events budget order refl)
unheld told (Core model budget order) P other h = (refl, h)

pub answer_begun : (o : Outline) (ks : List ResolvedConstraint) (gs : List ResolvedGoal) (os : List Order) (journal : Journal) (asked : Asked) (s : Status) (text : List ℕ) → Unheld (λ a. IsModelAnswer o ks gs os journal a s text) asked → IsModelBegun o ks gs os journal asked s [] text
answer_begun o ks gs os journal (Best former budget order) s text h = (refl, h.1)
answer_begun o ks gs os journal (Generated n) s text h = (refl, h.1)
answer_begun o ks gs os journal (Checked former bytes) s text h = (refl, h.1)
answer_begun o ks gs os journal (Satisfied bytes) s text h = (refl, h.1)
answer_begun o ks gs os journal (Blamed budget order) s text h = (refl, h.1)
answer_begun o ks gs os journal (Held before bytes budget order) s text h = absurd cc
