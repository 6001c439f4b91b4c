-- What an answer leaves outside. What a reader believes after this file: that a log lies whole in
-- its file, and how far writing came where it broke off.
use Rattle.std.specs.Prelude.{◌≡◌, ◌⊎◌, List, [], Option, None, Some, ℕ}
use Rattle.std.specs.Option.{option_map}
use Rattle.branch_choice.specs.declared.split.Order.{Order}
use Rattle.conf_request.specs.declared.request.Request.{Request}
use Rattle.conf_syntax.specs.declared.tree.Program.{Program}
use Rattle.desk_io.specs.Desk.{Files, with_file, with_printed}
use Rattle.desk_io.specs.Whole.{PrintsFront, StoresFront}
use Rattle.ground_form.specs.declared.ground.Ground.{Ground}
use Rattle.log_check.specs.Trimmed.{trimmed}
use Rattle.proof_log.specs.Rounds.{Journal}
use Rattle.proof_log.specs.Spelling.{lines_text}
use Rattle.run_promise.specs.Answer.{IsAnswerBegun}
use Rattle.run_promise.specs.Asking.{Asked, log_file}
use Rattle.run_status.specs.declared.status.Status.{Status}

-- the files, and what was printed, where they are told
pub record Outside : Type 0 where
  pub files : Option Files
  pub printed : Option (List ℕ)

abbrev pub outside : Option Files → Option (List ℕ) → Outside
outside files printed = record { files = files; printed = printed }

-- the text of the lines that are needed of the journal's
abbrev pub log_text : Ground → Journal → List ℕ
log_text g journal = lines_text (trimmed g journal.lines)

-- the file of this name, where there is one, holds the journal's log, and the others are as before
abbrev pub IsLoggedIn : Option (List ℕ) → Journal → Option Files → Option Files → Type 0
IsLoggedIn None journal before now = now ≡ before
IsLoggedIn (Some name) journal before now =
    (g : Ground) × (journal.ground ≡ Some g)
    × (now ≡ option_map (with_file name (log_text g journal)) before)

-- the files are as before, or that one holds a front of the log
abbrev pub IsLogFrontIn : Option (List ℕ) → Journal → Option Files → Option Files → Type 0
IsLogFrontIn None journal before now = now ≡ before
IsLogFrontIn (Some name) journal before now =
    (now ≡ before)
    ⊎ ((g : Ground) × (journal.ground ≡ Some g) × StoresFront name (log_text g journal) before now)

-- the request's log was written
abbrev pub IsLogged : Request → Journal → Option Files → Option Files → Type 0
IsLogged r journal before now = IsLoggedIn (log_file r) journal before now

-- as much of it as there was time for
abbrev pub IsLogFront : Request → Journal → Option Files → Option Files → Type 0
IsLogFront r journal before now = IsLogFrontIn (log_file r) journal before now

-- writing an answer broke off: within the log, and nothing was printed; or behind it, and behind
-- what was printed whole, within the text that comes next
abbrev pub IsCutOff : Request → Journal → List ℕ → List ℕ → Outside → Outside → Type 0
IsCutOff r journal whole text before now =
    ((whole ≡ []) × (now.printed ≡ before.printed) × IsLogFront r journal before.files now.files)
    ⊎ (IsLogged r journal before.files now.files
    × PrintsFront text (with_printed whole before.printed) now.printed)

-- and that answer is what the request asks of a model, as far as it was answered
abbrev pub IsBrokenOff : List Order → Journal → Outside → Outside → Request → Asked → Program
    → Type 0
IsBrokenOff os journal before now r asked p =
    (s : Status) × (whole : List ℕ) × (text : List ℕ)
    × IsAnswerBegun os journal asked p s whole text × IsCutOff r journal whole text before now
