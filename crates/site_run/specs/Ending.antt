-- What each status of a run says.
use Rattle.std.specs.Prelude.{ℕ, ◌≡◌, ◌<◌, List, [], length, Option, None, Some, ⊤}
use Rattle.desk_io.specs.Desk.{Files, OfFile, with_printed}
use Rattle.desk_io.specs.Fault.{HasRisen}
use Rattle.desk_io.specs.Whole.{PrintsFront}
use Rattle.model_limits.specs.Limits.{config_bytes}
use Rattle.site_drafts.specs.Answers.{Given, IsAnswer, IsUnanswered}
use Rattle.site_words.specs.Words.{Job, Plain, Fewest, Spread, Keep, Former, Table, Changes, Asked}
use Rattle.site_drafts.specs.declared.refusal.FileName.{FileName}
use Rattle.site_drafts.specs.declared.refusal.FileName.TheVariants as file
use Rattle.site_drafts.specs.declared.refusal.Refusal.{Refusal}
use Rattle.site_run.specs.declared.status.Status.{Status as Ended}
use Rattle.site_run.specs.declared.status.Status.TheVariants as ended
use Rattle.site_run.specs.declared.status.Unread.{Unread}
use Rattle.site_run.specs.declared.status.Unread.TheVariants as unread

-- what was printed, and how often reading and writing had failed, before a run and behind it
pub record Trace : Type 0 where
  pub printed : Option (List ℕ)
  pub printed_now : Option (List ℕ)
  pub reads : ℕ
  pub reads_now : ℕ
  pub writes : ℕ
  pub writes_now : ℕ

-- what a file that is asked for holds
abbrev pub OfAsked : Option Files → Option (List ℕ) → (List ℕ → Type 0) → Type 0
OfAsked files None P = ⊥
OfAsked files (Some name) P = OfFile files name P

-- the text of a file; nothing of one that isn't asked for
abbrev pub IsText : Option Files → Option (List ℕ) → List ℕ → Type 0
IsText files None text = text ≡ []
IsText files (Some name) text = OfFile files name (λ bytes. bytes ≡ text)

-- all files hold these texts
pub record IsRead (files : Option Files) (asked : Asked) (given : Given) : Type 0 where
  pub hosts_read : IsText files (Some asked.hosts) given.hosts
  pub services_read : IsText files (Some asked.services) given.services
  pub state_read : IsText files asked.state given.state
  pub beside_read : IsText files asked.beside given.beside

-- which file is told by what name
abbrev pub state_file : Job → FileName
state_file Plain = file.Today
state_file Fewest = file.Today
state_file (Spread resource) = file.Today
state_file Keep = file.Today
state_file Former = file.Today
state_file Table = file.Answer
state_file Changes = file.Answer

abbrev pub beside_file : Job → FileName
beside_file Plain = file.Extra
beside_file Fewest = file.Extra
beside_file (Spread resource) = file.Extra
beside_file Keep = file.Extra
beside_file Former = file.Extra
beside_file Table = file.Former
beside_file Changes = file.Former

abbrev pub named : Asked → FileName → Option (List ℕ)
named asked file.Hosts = Some asked.hosts
named asked file.Services = Some asked.services
named asked file.Today = asked.state
named asked file.Answer = asked.state
named asked file.Extra = asked.beside
named asked file.Former = asked.beside

-- why a file wasn't read: reading failed, or the file of this name is too long
abbrev pub IsNoFile : Option Files → Option (List ℕ) → FileName → ℕ → ℕ → Unread → Type 0
IsNoFile files name file reads reads_now (unread.Unreadable f) = HasRisen reads reads_now
IsNoFile files name file reads reads_now (unread.TooLong f) =
    (f ≡ file) × OfAsked files name (λ bytes. config_bytes < length bytes)
IsNoFile files name file reads reads_now unread.Memory = ⊤

abbrev pub IsUnread : Option Files → Asked → ℕ → ℕ → Unread → Type 0
IsUnread files asked reads reads_now (unread.Unreadable f) = HasRisen reads reads_now
IsUnread files asked reads reads_now (unread.TooLong f) =
    OfAsked files (named asked f) (λ bytes. config_bytes < length bytes)
IsUnread files asked reads reads_now unread.Memory = ⊤

-- what was asked for was printed of what the files hold, and nothing else
pub record IsPrinted (files : Option Files) (asked : Asked) (t : Trace) : Type 0 where
  pub given : Given
  pub text : List ℕ
  pub read : IsRead files asked given
  pub answer : IsAnswer asked.job given text
  pub printed : t.printed_now ≡ with_printed text t.printed

-- writing failed behind a front of it
pub record IsCutShort (files : Option Files) (asked : Asked) (t : Trace) : Type 0 where
  pub given : Given
  pub text : List ℕ
  pub read : IsRead files asked given
  pub answer : IsAnswer asked.job given text
  pub printed : PrintsFront text t.printed t.printed_now
  pub risen : HasRisen t.writes t.writes_now

-- a file wasn't read, for this reason, and nothing was printed
pub record IsUnreadRun (files : Option Files) (asked : Asked) (t : Trace) (u : Unread)
    : Type 0 where
  pub silent : t.printed_now ≡ t.printed
  pub unread : IsUnread files asked t.reads t.reads_now u

-- what the files hold gives nothing to print, for this reason, and nothing was printed
pub record IsRefusedRun (files : Option Files) (asked : Asked) (t : Trace) (r : Refusal)
    : Type 0 where
  pub silent : t.printed_now ≡ t.printed
  pub given : Given
  pub read : IsRead files asked given
  pub unanswered : IsUnanswered asked.job given r

abbrev pub Ends : Option Files → Asked → Trace → Ended → Type 0
Ends files asked t ended.Done = IsPrinted files asked t
Ends files asked t ended.Usage = ⊥
Ends files asked t (ended.Unread u) = IsUnreadRun files asked t u
Ends files asked t (ended.Refused r) = IsRefusedRun files asked t r
Ends files asked t ended.WriteFault = IsCutShort files asked t
Ends files asked t ended.Memory = ⊤

-- what printing a text came to
abbrev pub IsHandedOut : List ℕ → Option (List ℕ) → Option (List ℕ) → ℕ → ℕ → Ended → Type 0
IsHandedOut text before now writes writes_now ended.Done = now ≡ with_printed text before
IsHandedOut text before now writes writes_now ended.Usage = ⊥
IsHandedOut text before now writes writes_now (ended.Unread u) = ⊥
IsHandedOut text before now writes writes_now (ended.Refused r) = ⊥
IsHandedOut text before now writes writes_now ended.WriteFault =
    PrintsFront text before now × HasRisen writes writes_now
IsHandedOut text before now writes writes_now ended.Memory = ⊤
