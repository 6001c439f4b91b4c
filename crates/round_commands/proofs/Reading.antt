-- Steps that read files, one behind the other.
use Rattle.std.proofs.Common.{◌≡◌, ◌∙◌, ◌≤◌, ◌⊎◌, false, ap, arith, inl, inr, refl, ℕ}
use Rattle.config_json.specs.declared.former.FormerError.{FormerError}
use Rattle.config_json.specs.declared.former.FormerError.TheVariants as json
use Rattle.desk_io.specs.Fault.{HasRisen}
use Rattle.round_commands.specs.Statuses.{former_status, is_of_log}
use Rattle.round_commands.specs.Unreadable.{Unreadable}
use Rattle.run_status.specs.Stages.{Denied}
use Rattle.run_status.specs.declared.status.Status.{Status}

-- the model is refused, whatever is asked of it
pub denied_for : (reads reads_now : ℕ) (s : Status) (P Q : Type 0) → Denied s P → Unreadable reads reads_now s (P ⊎ Q)
denied_for reads reads_now s P Q (inl h) = inr (inl h)
denied_for reads reads_now s P Q (inr h) = inr (inr (h.0, inl h.1))

pub unread_map : (reads reads_now : ℕ) (s : Status) (P Q : Type 0) → (P → Q) → Unreadable reads reads_now s P → Unreadable reads reads_now s Q
unread_map reads reads_now s P Q f (inl h) = inl h
unread_map reads reads_now s P Q f (inr (inl h)) = inr (inl h)
unread_map reads reads_now s P Q f (inr (inr h)) = inr (inr (h.0, f h.1))

-- a count that rose later has risen since
pub risen_earlier : (before mid now : ℕ) → before ≤ mid → HasRisen mid now → HasRisen before now
risen_earlier before mid now h r = omega (arith, h, r)

pub unread_earlier : (reads mid reads_now : ℕ) (s : Status) (P : Type 0) → reads ≤ mid → Unreadable mid reads_now s P → Unreadable reads reads_now s P
unread_earlier reads mid reads_now s P le (inl h) = inl (h.0, risen_earlier reads mid reads_now le h.1)
unread_earlier reads mid reads_now s P le (inr h) = inr h

-- a configuration's text that isn't read says nothing of a log
former_fits : (e : FormerError) → is_of_log (former_status e) ≡ false
former_fits json.NotJson = refl
former_fits json.NotObject = refl
former_fits json.Memory = refl

pub former_other : (s : Status) (e : FormerError) → s ≡ former_status e → is_of_log s ≡ false
former_other s e is = ap is_of_log is ∙ former_fits e
