-- How a run ends, stage by stage, as its steps hand it on. What a reader believes after this file:
-- nothing that `run` says.
use Rattle.std.specs.Prelude.{◌≡◌, ◌⊎◌, List, [], ℕ}
use Rattle.branch_choice.specs.declared.split.Order.{Order}
use Rattle.conf_request.specs.declared.request.Request.{Request}
use Rattle.conf_syntax.specs.declared.tree.Program.{Program}
use Rattle.desk_io.specs.Desk.{with_printed}
use Rattle.desk_io.specs.Fault.{HasRisen}
use Rattle.proof_log.specs.Rounds.{Journal}
use Rattle.run_status.specs.declared.status.Status.{Status}
use Rattle.run_promise.specs.Answer.{IsAnswer, IsAnswerSearched}
use Rattle.run_promise.specs.Asking.{Asked, OfAsked, OfModel, OfText}
use Rattle.run_promise.specs.Delivery.{Outside, IsLogged, IsLogFront, IsBrokenOff}
use Rattle.run_promise.specs.Recorded.{AreRoundsFor, IsRecorded}
use Rattle.model_reader.specs.Models.{IsWithin}
use Rattle.run_promise.specs.Refusal.{IsReason, IsDeniedOf}
use Rattle.model_reader.specs.ModelRefusal.{IsRefusedFor}
use Rattle.run_status.specs.Stages.{Stage, Unasked, Unread, Refused, Answered, Unwritten, Lost, stage_of}

-- what a run has to do with: the request, the choosers' orders and the journal; the outside before
-- and now, and the counts of failed reads and writes
pub record Trace : Type 0 where
  pub request : Request
  pub orders : List Order
  pub journal : Journal
  pub before : Outside
  pub now : Outside
  pub reads : ℕ
  pub reads_now : ℕ
  pub writes : ℕ
  pub writes_now : ℕ

abbrev pub trace : Request → List Order → Journal → Outside → Outside → ℕ → ℕ → ℕ → ℕ → Trace
trace r os journal before now reads reads_now writes writes_now =
    record {
      request = r;
      orders = os;
      journal = journal;
      before = before;
      now = now;
      reads = reads;
      reads_now = reads_now;
      writes = writes;
      writes_now = writes_now;
    }

-- an answer was printed
abbrev pub Prints : Trace → Status → Asked → Program → Type 0
Prints t s asked p =
    (text : List ℕ) × IsAnswer t.orders t.journal asked p s text
    × (t.now.printed ≡ with_printed text t.before.printed)

-- writing an answer broke off
abbrev pub Breaks : Trace → Asked → Program → Type 0
Breaks t asked p = IsBrokenOff t.orders t.journal t.before t.now t.request asked p

-- memory failed among searches, before anything was printed or written
abbrev pub Searches : Trace → Asked → Program → Type 0
Searches t asked p = IsAnswerSearched t.journal asked p

-- whatever is known of the model's text: the journal holds what the answer rests on, and its log
-- was written
pub record Delivers (t : Trace) (s : Status) : Type 0 where
  pub recorded : IsRecorded t.orders t.request s t.journal
  pub logged : IsLogged t.request t.journal t.before.files t.now.files

-- or was begun
pub record Begins (t : Trace) : Type 0 where
  pub status : Status
  pub recorded : IsRecorded t.orders t.request status t.journal
  pub logged : IsLogFront t.request t.journal t.before.files t.now.files

-- nothing was printed or written, and the rounds that were closed are runs
abbrev pub IsAmong : Trace → Type 0
IsAmong t = (t.now ≡ t.before) × AreRoundsFor t.request t.journal.rounds

-- nothing was printed or written, and no round was closed
abbrev pub IsUntouched : Trace → Type 0
IsUntouched t = (t.now ≡ t.before) × (t.journal.rounds ≡ [])

-- writing an answer of a model broke off
pub record IsBegun (t : Trace) (p : Program) : Type 0 where
  pub begins : Begins t
  pub within : IsWithin p
  pub breaks : OfAsked t.before.files t.request (λ asked. Breaks t asked p)

-- an answer of a model was printed whole
pub record IsHeldWhole (t : Trace) (p : Program) (s : Status) : Type 0 where
  pub stage : stage_of s ≡ Answered
  pub delivers : Delivers t s
  pub within : IsWithin p
  pub prints : OfAsked t.before.files t.request (λ asked. Prints t s asked p)

-- how a run over a model ends
abbrev pub EndsModelAt : Stage → Trace → Program → Status → Type 0
EndsModelAt Unasked t p s = ⊥
EndsModelAt Unread t p s = HasRisen t.reads t.reads_now × (t.now ≡ t.before)
EndsModelAt Refused t p s =
    (IsRefusedFor s p
    ⊎ (IsWithin p × IsDeniedOf t.before.files t.request t.journal s p))
    × (t.now ≡ t.before)
EndsModelAt Answered t p s =
    Delivers t s
    × (IsWithin p × OfAsked t.before.files t.request (λ asked. Prints t s asked p))
EndsModelAt Unwritten t p s =
    HasRisen t.writes t.writes_now × Begins t
    × (IsWithin p × OfAsked t.before.files t.request (λ asked. Breaks t asked p))
EndsModelAt Lost t p s =
    IsUntouched t
    ⊎ ((Begins t × (IsWithin p × OfAsked t.before.files t.request (λ asked. Breaks t asked p)))
    ⊎ (IsAmong t
    × (IsWithin p × OfAsked t.before.files t.request (λ asked. Searches t asked p))))

abbrev pub EndsModel : Trace → Program → Status → Type 0
EndsModel t p s = EndsModelAt (stage_of s) t p s

-- how a run over the model's text ends
abbrev pub EndsAt : Stage → Trace → List ℕ → Status → Type 0
EndsAt Unasked t text s = ⊥
EndsAt Unread t text s = HasRisen t.reads t.reads_now × (t.now ≡ t.before)
EndsAt Refused t text s =
    IsReason t.before.files t.request t.journal text s × (t.now ≡ t.before)
EndsAt Answered t text s =
    Delivers t s × OfModel t.before.files t.request text (Prints t s)
EndsAt Unwritten t text s =
    HasRisen t.writes t.writes_now × Begins t
    × OfModel t.before.files t.request text (Breaks t)
EndsAt Lost t text s =
    IsUntouched t
    ⊎ ((Begins t × OfModel t.before.files t.request text (Breaks t))
    ⊎ (IsAmong t × OfModel t.before.files t.request text (Searches t)))

abbrev pub Ends : Trace → List ℕ → Status → Type 0
Ends t text s = EndsAt (stage_of s) t text s

-- where files are told, P holds of the model in the request's text
abbrev pub OfTrace : Trace → (Asked → Program → Type 0) → Type 0
OfTrace t P =
    OfText t.before.files t.request (λ text. OfModel t.before.files t.request text P)

-- how a request ends; reading its model's text may fail
abbrev pub RunEndsAt : Stage → Trace → Status → Type 0
RunEndsAt Unasked t s = ⊥
RunEndsAt Unread t s = HasRisen t.reads t.reads_now × (t.now ≡ t.before)
RunEndsAt Refused t s =
    OfText t.before.files t.request
    (λ text. IsReason t.before.files t.request t.journal text s) × (t.now ≡ t.before)
RunEndsAt Answered t s = Delivers t s × OfTrace t (Prints t s)
RunEndsAt Unwritten t s =
    HasRisen t.writes t.writes_now × Begins t × OfTrace t (Breaks t)
RunEndsAt Lost t s =
    IsUntouched t
    ⊎ ((Begins t × OfTrace t (Breaks t)) ⊎ (IsAmong t × OfTrace t (Searches t)))

abbrev pub RunEnds : Trace → Status → Type 0
RunEnds t s = RunEndsAt (stage_of s) t s
