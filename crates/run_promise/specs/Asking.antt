-- What is asked of which model. What a reader believes after this file: which text is that of a
-- request's model, and what the request asks of it.
use Rattle.std.specs.Prelude.{◌≡◌, ◌≤◌, ◌⊎◌, Bool, true, false, length, List, [], Option, Some, None, IfSome, IsSomeAnd, String, ℕ}
use Rattle.std.specs.Option.{option_and_then}
use Rattle.std.specs.declared.alloc.Global.{Global}
use Rattle.conf_request.specs.Words.{request, model_file}
use Rattle.conf_request.specs.declared.options.OrderName.{OrderName}
use Rattle.conf_request.specs.declared.request.Request.{Request}
use Rattle.conf_request.specs.declared.request.Request.TheVariants.{Solve, Reconfigure, Check, Verify, Gen, Session, Core}
use Rattle.conf_syntax.specs.declared.tree.Program.{Program}
use Rattle.desk_io.specs.Desk.{Files, OfFile}
use Rattle.model_generator.specs.Generated.{generated}
use Rattle.model_limits.specs.Limits.{config_bytes}
use Rattle.model_reader.specs.Models.{IsWithin}
use Rattle.model_reader.specs.TextModel.{HasModel}

-- these bytes aren't too long for a configuration's text
abbrev pub IsShort : List ℕ → Type 0
IsShort bytes = length bytes ≤ config_bytes

-- ---- the model's text

-- where files are told, P holds of the text of the request's model: of the file that it names, or
-- of the text that is generated
abbrev pub OfText : Option Files → Request → (List ℕ → Type 0) → Type 0
OfText told (Gen n) P = P (generated n)
OfText told r P = IfSome (model_file r) (λ name. OfFile told name P)

-- the text itself, where it is known
abbrev pub text_of : Option Files → Request → Option (List ℕ)
text_of told (Gen n) = Some (generated n)
text_of told r =
    option_and_then (λ name. option_and_then (λ (files : Files). files name) told) (model_file r)

-- ---- what is asked of a model

-- the text of a former configuration, and the words that name what failed
pub record FormerText : Type 0 where
  pub bytes : List ℕ
  pub failed : List (List ℕ)

abbrev pub former_text : List ℕ → List (List ℕ) → FormerText
former_text bytes failed = record { bytes = bytes; failed = failed }

-- each, where there is a former text of its repair
pub data Asked : Type 0 where
  -- a best configuration, within a budget of decisions and in this order
  Best : Option FormerText → ℕ → OrderName → Asked
  -- the numbers of the model that is generated for n, and its best objectives
  Generated : ℕ → Asked
  -- what the log with these bytes shows
  Checked : Option FormerText → List ℕ → Asked
  -- whether it is satisfied by the configuration whose text has these bytes
  Satisfied : List ℕ → Asked
  -- the best repair behind each event of a text, from a former text on, within a budget of
  -- decisions each and in this order
  Held : List ℕ → List ℕ → ℕ → OrderName → Asked
  -- what to blame where it has no configuration, within a budget of decisions for each search and
  -- at first in this order
  Blamed : ℕ → OrderName → Asked

-- where files are told, P holds of what a request asks of its model that has a log checked, and
-- names a former configuration or none
abbrev pub OfChecked : Option Files → List ℕ → Option (List ℕ) → List (List ℕ)
    → (Asked → Type 0) → Type 0
OfChecked told log None failed P = OfFile told log (λ bytes. P (Checked None bytes))
OfChecked told log (Some former) failed P =
    OfFile told former (λ before. OfFile told log
    (λ bytes. P (Checked (Some (former_text before failed)) bytes)))

-- where files are told, P holds of what the request asks of its model
abbrev pub OfAsked : Option Files → Request → (Asked → Type 0) → Type 0
OfAsked told (Solve model budget log order) P = P (Best None budget order)
OfAsked told (Reconfigure model former failed budget log order) P =
    OfFile told former (λ bytes. P (Best (Some (former_text bytes failed)) budget order))
OfAsked told (Check model log former failed) P = OfChecked told log former failed P
OfAsked told (Verify model config) P = OfFile told config (λ bytes. P (Satisfied bytes))
OfAsked told (Gen n) P = P (Generated n)
OfAsked told (Session model former events budget order) P =
    OfFile told former (λ before. OfFile told events (λ bytes. P (Held before bytes budget order)))
OfAsked told (Core model budget order) P = P (Blamed budget order)

-- where files are told, the text's model is within the limits, and P holds of it and of what the
-- request asks of it
abbrev pub OfModel : Option Files → Request → List ℕ → (Asked → Program → Type 0) → Type 0
OfModel told r text P =
    HasModel text (λ p. IsWithin p × OfAsked told r (λ asked. P asked p))

-- the words are a request, and that holds of the text of its model
abbrev pub OfRequest : Option Files → List (String Global)
    → (Request → Asked → Program → Type 0) → Type 0
OfRequest told words P =
    IfSome (request words) (λ r. OfText told r (λ text. OfModel told r text (P r)))

-- where files are told, P holds of the former text of the repair that the request names, and it
-- names one
abbrev pub OfFormer : Option Files → Request → (FormerText → Type 0) → Type 0
OfFormer told (Reconfigure model former failed budget log order) P =
    OfFile told former (λ bytes. P (former_text bytes failed))
OfFormer told (Check model log (Some former) failed) P =
    OfFile told former (λ bytes. P (former_text bytes failed))
OfFormer told r P = ⊥

-- the searches of the request are rounds of the journal
abbrev pub closes_rounds : Request → Bool
closes_rounds (Session model former events budget order) = true
closes_rounds (Core model budget order) = true
closes_rounds r = false

-- the request leaves the journal as it is: nothing is searched, and no log checked
abbrev pub leaves_journal : Request → Bool
leaves_journal (Verify model config) = true
leaves_journal r = false

-- ---- files

-- the request reads the file of this name beside that of the model
abbrev pub IsFurther : Request → List ℕ → Type 0
IsFurther (Reconfigure model former failed budget log order) name = name ≡ former
IsFurther (Check model log former failed) name = (former ≡ Some name) ⊎ (name ≡ log)
IsFurther (Verify model config) name = name ≡ config
IsFurther (Session model former events budget order) name = (name ≡ former) ⊎ (name ≡ events)
IsFurther r name = ⊥

-- the file that a log is written to, where the request asks for one
abbrev pub log_file : Request → Option (List ℕ)
log_file (Solve model budget log order) = log
log_file (Reconfigure model former failed budget log order) = log
log_file r = None

-- the words name this file to be read
abbrev pub Reads : List (String Global) → List ℕ → Type 0
Reads words name =
    IsSomeAnd (request words) (λ r. (model_file r ≡ Some name) ⊎ IsFurther r name)

-- the words name this file to be written
abbrev pub Writes : List (String Global) → List ℕ → Type 0
Writes words name = IsSomeAnd (request words) (λ r. log_file r ≡ Some name)
