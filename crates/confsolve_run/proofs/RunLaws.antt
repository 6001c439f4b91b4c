-- From how a request ends to what each clause of the top call says.
use Rattle.std.proofs.Common.{◌≡◌, ◌⊎◌, inl, inr, ◌≤◌, true, List, [], Option, None, Some, IfSome, length, sym, subst, ap, ◌∙◌, ℕ}
use native.Mathlib.Omega.{arith}
use Rattle.std.proofs.lemmas.List.Elements.{All-nil}
use Rattle.branch_choice.specs.declared.split.Order.{Order}
use Rattle.conf_request.specs.declared.request.Request.{Request}
use Rattle.conf_request.specs.declared.request.Request.TheVariants.{Solve, Reconfigure, Check, Verify, Gen, Session, Core}
use Rattle.desk_io.specs.Desk.{Files}
use Rattle.desk_io.specs.Fault.{HasRisen}
use Rattle.model_limits.specs.Limits.{model_bytes}
use Rattle.proof_log.specs.Rounds.{Journal}
use Rattle.run_status.specs.declared.status.Status.{Status}
use Rattle.run_status.specs.declared.status.Status.TheVariants as status
use Rattle.run_promise.specs.Asking.{OfText, log_file, text_of}
use Rattle.run_promise.specs.Delivery.{IsLogFront, IsLogFrontIn}
use Rattle.round_commands.specs.Ending.{Trace, Prints, Breaks, Searches, Delivers, Begins, IsAmong, IsUntouched, RunEnds, RunEndsAt, OfTrace}
use Rattle.run_promise.specs.Recorded.{AreRoundsFor, IsRecorded, IsRoundOf}
use Rattle.run_promise.specs.Refusal.{IsReason, IsTooLongText, IsStanding}
use Rattle.model_reader.specs.ModelRefusal.{IsTextRefused}
use Rattle.run_status.specs.Stages.{Stage, Unasked, Unread, Refused, Answered, Unwritten, Lost, stage_of, is_silent, is_partial, IsSettled, IsUnless}
use Rattle.round_commands.specs.Unreadable.{Unreadable}
use Rattle.round_commands.proofs.Asking.{text_known}

-- what holds of the request holds where there is one
pub given : (o : Option Request) (r : Request) (P : Request → Type 0) → o ≡ Some r → P r → IfSome o P
given o r P is h = subst (λ x. IfSome x P) (sym is) h

pub some_none : (o : Option Request) (r : Request) → o ≡ Some r → o ≡ None → ⊥
some_none o r some none = cc

some_same : (r q : Request) → Some r ≡ Some q → r ≡ q
some_same r q e = cc

pub one_request : (o : Option Request) (r q : Request) → o ≡ Some r → o ≡ Some q → r ≡ q
one_request o r q some other = some_same r q (sym some ∙ other)

-- ---- rounds behind want of memory

no_rounds : (r : Request) → AreRoundsFor r []
no_rounds (Session model former events budget order) = All-nil (IsRoundOf budget)
no_rounds (Core model budget order) = All-nil (IsRoundOf budget)
no_rounds (Solve model budget log order) = tt
no_rounds (Reconfigure model former failed budget log order) = tt
no_rounds (Check model log former failed) = tt
no_rounds (Verify model config) = tt
no_rounds (Gen n) = tt

recorded_rounds : (os : List Order) (r : Request) (s : Status) (journal : Journal) → IsRecorded os r s journal → AreRoundsFor r journal.rounds
recorded_rounds os (Session model former events budget order) s journal h = h.rounds
recorded_rounds os (Core model budget order) s journal h = h.rounds
recorded_rounds os (Solve model budget log order) s journal h = tt
recorded_rounds os (Reconfigure model former failed budget log order) s journal h = tt
recorded_rounds os (Check model log former failed) s journal h = tt
recorded_rounds os (Verify model config) s journal h = tt
recorded_rounds os (Gen n) s journal h = tt

abbrev IsLost : Trace → Type 0
IsLost t = IsUntouched t ⊎ ((Begins t × OfTrace t (Breaks t)) ⊎ (IsAmong t × OfTrace t (Searches t)))

-- without what is said of rounds
untold : (t : Trace) → IsLost t → IsUntouched t ⊎ ((Begins t × OfTrace t (Breaks t)) ⊎ ((t.now ≡ t.before) × OfTrace t (Searches t)))
untold t (inl h) = inl h
untold t (inr (inl h)) = inr (inl h)
untold t (inr (inr h)) = inr (inr (h.0.0, h.1))

lost_rounds : (t : Trace) → IsLost t → AreRoundsFor t.request t.journal.rounds
lost_rounds t (inl same) = subst (λ rounds. AreRoundsFor t.request rounds) (sym same.1) (no_rounds t.request)
lost_rounds t (inr (inl h)) = recorded_rounds t.orders t.request h.0.status t.journal h.0.recorded
lost_rounds t (inr (inr h)) = h.0.1

module _ (t : Trace) (s : Status) (h : RunEnds t s) where
  at : (g : Stage) → stage_of s ≡ g → RunEndsAt g t s
  at g is = subst (λ x. RunEndsAt x t s) is h

  pub delivered : stage_of s ≡ Answered → Delivers t s × OfTrace t (Prints t s)
  delivered is = at Answered is

  pub refused : stage_of s ≡ Refused → OfText t.before.files t.request (λ text. IsReason t.before.files t.request t.journal text s)
  refused is = (at Refused is).0

  pub unasked : s ≡ status.Usage → ⊥
  unasked is = at Unasked (ap stage_of is)

  pub unread : s ≡ status.ReadFault → HasRisen t.reads t.reads_now
  unread is = (at Unread (ap stage_of is)).0

  pub unwritten : s ≡ status.WriteFault → HasRisen t.writes t.writes_now × Begins t × OfTrace t (Breaks t)
  unwritten is = at Unwritten (ap stage_of is)

  pub lost : s ≡ status.Memory → IsUntouched t ⊎ ((Begins t × OfTrace t (Breaks t)) ⊎ ((t.now ≡ t.before) × OfTrace t (Searches t)))
  lost is = untold t (at Lost (ap stage_of is))

  pub rounds_behind : s ≡ status.Memory → AreRoundsFor t.request t.journal.rounds
  rounds_behind is = lost_rounds t (at Lost (ap stage_of is))

silent_at : (g : Stage) (t : Trace) (s : Status) → is_silent g ≡ true → RunEndsAt g t s → t.now ≡ t.before
silent_at Unasked t s is h = absurd h
silent_at Unread t s is h = h.1
silent_at Refused t s is h = h.1
silent_at Answered t s is h = absurd cc
silent_at Unwritten t s is h = absurd cc
silent_at Lost t s is h = absurd cc

pub silent : (t : Trace) (s : Status) → RunEnds t s → is_silent (stage_of s) ≡ true → t.now ≡ t.before
silent t s h is = silent_at (stage_of s) t s is h

-- no file has changed
pub untouched : (name : Option (List ℕ)) (journal : Journal) (before now : Option Files) → now ≡ before → IsLogFrontIn name journal before now
untouched None journal before now is = is
untouched (Some name) journal before now is = inl is

front_at : (g : Stage) (t : Trace) (s : Status) → is_partial g ≡ true → RunEndsAt g t s → IsLogFront t.request t.journal t.before.files t.now.files
front_at Unasked t s is h = absurd h
front_at Unread t s is h = absurd cc
front_at Refused t s is h = absurd cc
front_at Answered t s is h = absurd cc
front_at Unwritten t s is h = h.1.logged
front_at Lost t s is (inl same) = untouched (log_file t.request) t.journal t.before.files t.now.files (ap (λ o. o.files) same.0)
front_at Lost t s is (inr (inl h)) = h.0.logged
front_at Lost t s is (inr (inr h)) = untouched (log_file t.request) t.journal t.before.files t.now.files (ap (λ o. o.files) h.0.0)

pub log_front : (t : Trace) (s : Status) → RunEnds t s → is_partial (stage_of s) ≡ true → IsLogFront t.request t.journal t.before.files t.now.files
log_front t s h is = front_at (stage_of s) t s is h

settled_at : (g : Stage) (t : Trace) (s : Status) → RunEndsAt g t s → (HasRisen t.reads t.reads_now → ⊥) → (HasRisen t.writes t.writes_now → ⊥) → IsSettled g
settled_at Unasked t s h unread unwritten = absurd h
settled_at Unread t s h unread unwritten = unread h.0
settled_at Refused t s h unread unwritten = tt
settled_at Answered t s h unread unwritten = tt
settled_at Unwritten t s h unread unwritten = unwritten h.0
settled_at Lost t s h unread unwritten = tt

pub settled : (t : Trace) (s : Status) → RunEnds t s → (HasRisen t.reads t.reads_now → ⊥) → (HasRisen t.writes t.writes_now → ⊥) → IsSettled (stage_of s)
settled t s h unread unwritten = settled_at (stage_of s) t s h unread unwritten

-- ---- a refusal that stands comes

-- the text is the one that was read
pub stands_read : (told : Option Files) (r : Request) (bytes text : List ℕ) (s result : Status) → text_of told r ≡ Some text → OfText told r (λ x. x ≡ bytes) → length bytes ≤ model_bytes → ((w : Status) → IsTextRefused bytes w → IsUnless w result) → IsStanding text s → IsUnless s result
stands_read told r bytes text s result is read short stands (inl long) =
    let same : text ≡ bytes = text_known told r text (λ x. x ≡ bytes) is read in
    let fits = subst (λ x. length x ≤ model_bytes) (sym same) short in
    absurd (omega (arith, fits, long.1))
stands_read told r bytes text s result is read short stands (inr h) =
    let same : text ≡ bytes = text_known told r text (λ x. x ≡ bytes) is read in
    stands s (subst (λ x. IsTextRefused x s) same h.1)

-- or it couldn't be read, or was too long
pub stands_denied : (told : Option Files) (r : Request) (text : List ℕ) (s result : Status) (reads reads_now : ℕ) → text_of told r ≡ Some text → Unreadable reads reads_now result (OfText told r (λ x. IsTooLongText x result)) → IsStanding text s → IsUnless s result
stands_denied told r text s result reads reads_now is (inl h) stands = inr (inr h.0)
stands_denied told r text s result reads reads_now is (inr (inl h)) stands = inr (inl h)
stands_denied told r text s result reads reads_now is (inr (inr h)) (inl long) =
    let e = text_known told r text (λ x. IsTooLongText x result) is h.1 in
    inl (e.0 ∙ sym long.0)
stands_denied told r text s result reads reads_now is (inr (inr h)) (inr short) =
    let e = text_known told r text (λ x. IsTooLongText x result) is h.1 in
    absurd (omega (arith, short.0, e.1))
