-- What the present round of the journal holds, however a request ends.
use Rattle.std.proofs.Common.{◌≡◌, ◌⊎◌, inl, inr, Bool, true, false, List, [], Option, None, Some, IfSome, Result, Ok, Err, IfErr, ap, refl, sym, subst, ℕ}
use Rattle.branch_choice.specs.declared.split.Order.{Order}
use Rattle.class_table.specs.Outline.{Outline}
use Rattle.conf_request.specs.declared.options.OrderName.{OrderName}
use Rattle.conf_request.specs.declared.options.OrderName.TheVariants as names
use Rattle.conf_request.specs.declared.request.Request.{Request}
use Rattle.conf_request.specs.declared.request.Request.TheVariants.{Solve, Reconfigure, Check, Verify, Gen, Session, Core}
use Rattle.conf_syntax.specs.declared.tree.Program.{Program}
use Rattle.conf_types.specs.Programs.{ResolvedConstraint, ResolvedGoal}
use Rattle.model_reader.specs.ModelRefusal.{IsRefusedFor, IsTextRefused}
use Rattle.ground_form.specs.declared.ground.Ground.{Ground}
use Rattle.log_form.specs.declared.line.Line.{Line}
use Rattle.model_search.specs.Problems.{IsProblemOf}
use Rattle.model_search.specs.Runs.{HasBegun, IsRunBy, values_for}
use Rattle.proof_log.specs.Rounds.{Journal, empty}
use Rattle.reconfigure.specs.declared.repair.Repair.{Repair}
use Rattle.run_promise.specs.Answer.{order_at}
use Rattle.round_commands.specs.Statuses.{is_of_log}
use Rattle.round_commands.specs.declared.answer.Answer.{Answer}
use Rattle.run_finder.specs.SoFar.{AreSoFar}
use Rattle.run_promise.specs.Recorded.{AreLinesBy, AreLinesFor, HasChecked, KeepsProblem}
use Rattle.run_status.specs.Stages.{Answered, Denied, stage_of}
use Rattle.run_status.specs.declared.status.LimitKind.TheVariants as kind
use Rattle.run_status.specs.declared.status.Status.{Status}
use Rattle.run_status.specs.declared.status.Status.TheVariants as status

-- ---- statuses that say nothing of a log

text_fits : (text : List ℕ) (s : Status) → IsTextRefused text s → is_of_log s ≡ false
text_fits text (status.Rejected line) h = absurd h
text_fits text (status.Limit kind.Log None) h = absurd h
text_fits text s h = refl

model_fits : (p : Program) (s : Status) → IsRefusedFor s p → is_of_log s ≡ false
model_fits p (status.Rejected line) h = absurd h
model_fits p (status.Limit kind.Log None) h = absurd h
model_fits p s h = refl

pub text_other : (text : List ℕ) (s : Status) → Denied s (IsTextRefused text s) → is_of_log s ≡ false
text_other text s (inl h) = ap is_of_log h
text_other text s (inr h) = text_fits text s h.1

pub model_other : (p : Program) (s : Status) → Denied s (IsRefusedFor s p) → is_of_log s ≡ false
model_other p s (inl h) = ap is_of_log h
model_other p s (inr h) = model_fits p s h.1

-- an answer says nothing of a log either
answered_fits : (s : Status) → stage_of s ≡ Answered → is_of_log s ≡ false
answered_fits (status.Rejected line) h = absurd cc
answered_fits (status.Limit kind.Log None) h = absurd cc
answered_fits s h = refl

-- ---- the problem of a check

check_keeps : (model log : List ℕ) (former : Option (List ℕ)) (failed : List (List ℕ)) (s : Status) (journal : Journal) → (is_of_log s ≡ true → HasChecked journal) → KeepsProblem (Check model log former failed) s journal
check_keeps model log former failed (status.Rejected line) journal h = h refl
check_keeps model log former failed (status.Limit kind.Log None) journal h = h refl
check_keeps model log former failed s journal h = tt

not_both : (b : Bool) → b ≡ false → b ≡ true → ⊥
not_both b no_log of_log = cc

pub other_problem : (r : Request) (s : Status) (journal : Journal) → is_of_log s ≡ false → KeepsProblem r s journal
other_problem (Check model log former failed) s journal other =
    check_keeps model log former failed s journal (λ is. absurd (not_both (is_of_log s) other is))
other_problem (Solve model budget log order) s journal other = tt
other_problem (Reconfigure model former failed budget log order) s journal other = tt
other_problem (Verify model config) s journal other = tt
other_problem (Gen n) s journal other = tt
other_problem (Session model former events budget order) s journal other = tt
other_problem (Core model budget order) s journal other = tt

pub answered_problem : (r : Request) (s : Status) (journal : Journal) → stage_of s ≡ Answered → KeepsProblem r s journal
answered_problem r s journal h = other_problem r s journal (answered_fits s h)

-- whatever the words are, where memory lacked
pub lost_problem : (o : Option Request) (journal : Journal) → IfSome o (λ r. KeepsProblem r status.Memory journal)
lost_problem None journal = tt
lost_problem (Some r) journal = other_problem r status.Memory journal refl

module _ (q : Request) (journal : Journal) where
  pub check_problem : (model log : List ℕ) (former : Option (List ℕ)) (failed : List (List ℕ)) → q ≡ Check model log former failed → (res : Result Answer Status) → IfErr res (λ s. is_of_log s ≡ true → HasChecked journal) → IfErr res (λ s. KeepsProblem q s journal)
  check_problem model log former failed is (Ok a) h = tt
  check_problem model log former failed is (Err s) h =
      subst (λ x. KeepsProblem x s journal) (sym is) (check_keeps model log former failed s journal h)

  pub session_problem : (model former events : List ℕ) (budget : ℕ) (order : OrderName) → q ≡ Session model former events budget order → (s : Status) → KeepsProblem q s journal
  session_problem model former events budget order is s = subst (λ x. KeepsProblem x s journal) (sym is) tt

  pub verify_problem : (model config : List ℕ) → q ≡ Verify model config → (res : Result Answer Status) → IfErr res (λ s. KeepsProblem q s journal)
  verify_problem model config is (Ok a) = tt
  verify_problem model config is (Err s) = subst (λ x. KeepsProblem x s journal) (sym is) tt

-- ---- lines

-- nothing was written
pub no_lines : (os : List Order) (r : Request) (ls : List Line) → ls ≡ [] → AreLinesFor os r ls
no_lines os (Solve model budget log order) ls none = inl none
no_lines os (Reconfigure model former failed budget log order) ls none = inl none
no_lines os (Gen n) ls none = inl none
no_lines os (Check model log former failed) ls none = inl none
no_lines os (Verify model config) ls none = inl none
no_lines os (Session model former events budget order) ls none = inl none
no_lines os (Core model budget order) ls none = inl none

pub empty_lines : (os : List Order) (r : Request) (journal : Journal) → journal ≡ empty → AreLinesFor os r journal.lines
empty_lines os r journal none = no_lines os r journal.lines (ap (λ (j : Journal). j.lines) none)

-- whatever the words are, where memory lacked to read them
pub lost_lines : (os : List Order) (o : Option Request) (journal : Journal) → journal ≡ empty → IfSome o (λ r. AreLinesFor os r journal.lines)
lost_lines os None journal none = tt
lost_lines os (Some r) journal none = empty_lines os r journal none

begun_lines : (o : Outline) (ks : List ResolvedConstraint) (gs : List ResolvedGoal) (repaired : Bool) (r : Option Repair) (order : Order) (journal : Journal) → (repaired ≡ false → r ≡ None) → HasBegun o ks gs r order journal → AreLinesBy repaired order journal.lines
begun_lines o ks gs repaired r order journal none h = by h.so_far
  where
    by : (journal.lines ≡ []) ⊎ ((g : Ground) × IsProblemOf o ks gs r g × IsRunBy g order (values_for g.search r) journal.lines) → AreLinesBy repaired order journal.lines
    by (inl so) = inl so
    by (inr so) = inr (so.0, values_for so.0.search r, so.1.stands.well_made, (λ e. ap (values_for so.0.search) (none e)), so.2)

module _ (os : List Order) (q : Request) (journal : Journal) (o : Outline) (ks : List ResolvedConstraint) (gs : List ResolvedGoal) where
  pub solve_lines : (model : List ℕ) (budget : ℕ) (log : Option (List ℕ)) (order wanted : OrderName) → q ≡ Solve model budget log order → wanted ≡ order → HasBegun o ks gs None (order_at os wanted) journal → AreLinesFor os q journal.lines
  solve_lines model budget log order wanted is by h =
      subst (λ x. AreLinesFor os x journal.lines) (sym is)
      (subst (λ n. AreLinesBy false (order_at os n) journal.lines) by
      (begun_lines o ks gs false None (order_at os wanted) journal (λ e. refl) h))

  pub repair_lines : (r : Option Repair) (model former : List ℕ) (failed : List (List ℕ)) (budget : ℕ) (log : Option (List ℕ)) (order wanted : OrderName) → q ≡ Reconfigure model former failed budget log order → wanted ≡ order → HasBegun o ks gs r (order_at os wanted) journal → AreLinesFor os q journal.lines
  repair_lines r model former failed budget log order wanted is by h =
      subst (λ x. AreLinesFor os x journal.lines) (sym is)
      (subst (λ n. AreLinesBy true (order_at os n) journal.lines) by
      (begun_lines o ks gs true r (order_at os wanted) journal (λ e. absurd cc) h))

  pub gen_lines : (n : ℕ) → q ≡ Gen n → HasBegun o ks gs None (order_at os names.First) journal → AreLinesFor os q journal.lines
  gen_lines n is h =
      subst (λ x. AreLinesFor os x journal.lines) (sym is)
      (begun_lines o ks gs false None (order_at os names.First) journal (λ e. refl) h)

module _ (os : List Order) (q : Request) (ls : List Line) where
  pub session_lines : (model former events : List ℕ) (budget : ℕ) (order : OrderName) → q ≡ Session model former events budget order → AreSoFar ls → AreLinesFor os q ls
  session_lines model former events budget order is h = subst (λ x. AreLinesFor os x ls) (sym is) h

  pub core_lines : (model : List ℕ) (budget : ℕ) (order : OrderName) → q ≡ Core model budget order → AreSoFar ls → AreLinesFor os q ls
  core_lines model budget order is h = subst (λ x. AreLinesFor os x ls) (sym is) h
