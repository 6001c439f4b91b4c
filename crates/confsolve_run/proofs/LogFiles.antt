-- From what became of a log's file to why it is refused, or what it shows.
use Rattle.std.proofs.Common.{◌≡◌, inl, inr, ◌<◌, ◌≤◌, ◌+◌, List, [], Option, None, Some, length, take, sym, subst, ap, ◌∙◌, refl, ℕ}
use Rattle.class_table.specs.Outline.{Outline}
use Rattle.conf_types.specs.Programs.{ResolvedConstraint, ResolvedGoal}
use Rattle.desk_io.specs.Desk.{Files, OfFile}
use Rattle.desk_io.specs.Fault.{HasRisen}
use Rattle.ground_form.specs.declared.ground.Ground.{Ground}
use Rattle.log_check.specs.Fed.{FailsAt, HasTaken, IsLogOf, Left}
use Rattle.log_check.specs.Verdicts.{Ending}
use Rattle.log_check.specs.declared.lines.CheckError.{CheckError}
use Rattle.log_check.specs.declared.lines.CheckError.TheVariants as refusal
use Rattle.command_limits.specs.Limits.{log_bytes}
use Rattle.log_file.specs.declared.reading.FileCheck.{FileCheck}
use Rattle.log_file.specs.declared.reading.FileCheck.TheVariants as file
use Rattle.model_search.specs.Findings.{finding}
use Rattle.model_search.specs.Problems.{IsProblemOf}
use Rattle.model_search.specs.declared.finding.Finding.{Finding}
use Rattle.proof_log.specs.Rounds.{Journal}
use Rattle.reconfigure.specs.declared.repair.Repair.{Repair}
use Rattle.run_status.specs.declared.status.Status.{Status}
use Rattle.run_status.specs.declared.status.Status.TheVariants as status
use Rattle.confsolve_run.specs.Checking.{file_status, IsShownBy}
use Rattle.run_promise.specs.Refusal.{IsUnfit, IsUnchecked}
use Rattle.round_commands.specs.Unreadable.{Unreadable}
use Rattle.round_commands.proofs.Asking.{file_map}

some_same : {X : Type 0} (x y : X) → Some x ≡ Some y → x ≡ y
some_same x y e = cc

-- two facts of one file
file_both : (told : Option Files) (name : List ℕ) (P Q : List ℕ → Type 0) → OfFile told name P → OfFile told name Q → OfFile told name (λ bytes. P bytes × Q bytes)
file_both None name P Q p q = tt
file_both (Some files) name P Q p q =
    (p.0, p.1, (p.2, subst Q (some_same q.0 p.0 (sym q.1 ∙ p.1)) q.2))

abbrev line_of : CheckError → ℕ
line_of (refusal.Rejected n) = n
line_of refusal.Memory = 0

module _ (told : Option Files) (name : List ℕ) (g h : Ground) (same : h ≡ g) (left : Left) (reads reads_now : ℕ) where
  here : (s : Status) → Unreadable reads reads_now s (OfFile told name (λ bytes. IsUnfit bytes s h)) → Unreadable reads reads_now s (OfFile told name (λ bytes. IsUnfit bytes s g))
  here s u = subst (λ x. Unreadable reads reads_now s (OfFile told name (λ bytes. IsUnfit bytes s x))) same u

  pub file_refused : (e : FileCheck) → (e ≡ file.ReadFault → HasRisen reads reads_now) → (e ≡ file.TooLong → OfFile told name (λ bytes. log_bytes < length bytes)) → (e ≡ file.TooLong → OfFile told name (λ bytes. HasTaken h (take log_bytes bytes) left)) → ((line : ℕ) → e ≡ file.Rejected line → OfFile told name (λ bytes. FailsAt h (take log_bytes bytes) line)) → Unreadable reads reads_now (file_status e) (OfFile told name (λ bytes. IsUnfit bytes (file_status e) g))
  file_refused file.ReadFault risen long taken fails = inl (refl, risen refl)
  file_refused file.TooLong risen long taken fails =
      here (file_status file.TooLong) (inr (inr (refl, file_map told name _ _ (λ bytes k. (k.0, (left, k.1))) (file_both told name _ _ (long refl) (taken refl)))))
  file_refused (file.Rejected line) risen long taken fails =
      here (file_status (file.Rejected line)) (inr (inr (refl, file_map told name _ _ (λ bytes k. inl k) (fails line refl))))
  file_refused file.Memory risen long taken fails = inr (inl refl)

  -- bytes are left behind the last line
  pub rest_refused : (e : CheckError) (fed line : ℕ) → e ≡ refusal.Rejected line → e ≡ refusal.Rejected (left.ended + 1) → 0 < length left.rest → OfFile told name (λ bytes. length bytes ≡ fed) → fed ≤ log_bytes → OfFile told name (λ bytes. HasTaken h bytes left) → Unreadable reads reads_now (status.Rejected line) (OfFile told name (λ bytes. IsUnfit bytes (status.Rejected line) g))
  rest_refused e fed line is number some whole within taken =
      let at : line ≡ left.ended + 1 = ap line_of (sym is ∙ number) in
      here (status.Rejected line) (inr (inr (refl, file_map told name _ _ (λ bytes k. inr (subst (λ n. n ≤ log_bytes) (sym k.0) within, record { left = left; taken = k.1; some = some; number = at })) (file_both told name _ _ whole taken))))

  pub log_of : (k : Ground) (v : Ending) → k ≡ h → OfFile told name (λ bytes. HasTaken h bytes left) → ((bytes : List ℕ) → HasTaken k bytes left → IsLogOf k bytes v) → OfFile told name (λ bytes. IsLogOf g bytes v)
  log_of k v is taken log =
      subst (λ x. OfFile told name (λ bytes. IsLogOf x bytes v)) same
      (file_map told name _ _ (λ bytes t. subst (λ x. IsLogOf x bytes v) is (log bytes (subst (λ x. HasTaken x bytes left) (sym is) t))) taken)

-- the lines of a log show what is told
pub shown_by : (told : Option Files) (name : List ℕ) (g : Ground) (v : Ending) (f : Finding) → OfFile told name (λ bytes. IsLogOf g bytes v) → f ≡ finding g v → OfFile told name (λ bytes. IsShownBy g bytes f)
shown_by told name g v f log is =
    file_map told name _ _ (λ bytes h. record { lines = h.lines; read = h.text; spelled = h.spelled; taken = h.taken; shown = is ∙ ap (finding g) h.verdict }) log

-- the journal holds the problem
pub unchecked : (told : Option Files) (name : List ℕ) (reads reads_now : ℕ) (s : Status) (o : Outline) (ks : List ResolvedConstraint) (gs : List ResolvedGoal) (r : Option Repair) (g : Ground) (journal : Journal) → Unreadable reads reads_now s (OfFile told name (λ bytes. IsUnfit bytes s g)) → journal.ground ≡ Some g → journal.lines ≡ [] → IsProblemOf o ks gs r g → Unreadable reads reads_now s (OfFile told name (λ bytes. IsUnchecked o ks gs r journal bytes s))
unchecked told name reads reads_now s o ks gs r g journal (inl u) kept alone problem = inl u
unchecked told name reads reads_now s o ks gs r g journal (inr (inl u)) kept alone problem = inr (inl u)
unchecked told name reads reads_now s o ks gs r g journal (inr (inr u)) kept alone problem =
    inr (inr (u.0, file_map told name _ _ (λ bytes h. record { ground = g; kept = kept; alone = alone; problem = problem; holds = h }) u.1))

-- the problem of one question is that of the same one
pub same_problem : (o p : Outline) (ks ls : List ResolvedConstraint) (gs hs : List ResolvedGoal) (r q : Option Repair) (g : Ground) → p ≡ o → ls ≡ ks → hs ≡ gs → q ≡ r → IsProblemOf p ls hs q g → IsProblemOf o ks gs r g
same_problem o p ks ls gs hs r q g outlines constraints goals repairs h =
    subst (λ x. IsProblemOf x ks gs r g) outlines (subst (λ x. IsProblemOf p x gs r g) constraints (subst (λ x. IsProblemOf p ls x r g) goals (subst (λ x. IsProblemOf p ls hs x g) repairs h)))
