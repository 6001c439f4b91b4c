-- What a former text is read as.
use Rattle.std.specs.Prelude.{◌≡◌, ℕ, List, Option, None, Some, if◌then◌else◌}
use Rattle.std.specs.Str.{is_utf8}
use Rattle.serde_json.specs.Data.{Data}
use Rattle.serde_json.specs.Find.{as_object}
use Rattle.serde_json.specs.Read.{read}
use Rattle.serde_json.specs.View.{view}
use Rattle.config_json.specs.declared.former.ConfigText.{ConfigText}
use Rattle.config_json.specs.declared.former.FormerError.{FormerError}
use Rattle.config_json.specs.declared.former.FormerError.TheVariants.{NotJson, NotObject, Memory}

-- the value that bytes are read as; bytes that aren't UTF-8 have none
abbrev pub value_read : List ℕ → Option Data
value_read bytes = if is_utf8 bytes then read bytes else None

-- the value that a former text was read as
abbrev pub json_of : ConfigText → Data
json_of f = view f.value

-- bytes that are read as something else than an object
pub record IsOther (bytes : List ℕ) : Type 0 where
  pub json : Data
  pub read : value_read bytes ≡ Some json
  pub other : as_object json ≡ None

-- why bytes are refused
abbrev pub IsRefused : List ℕ → FormerError → Type 0
IsRefused bytes NotJson = value_read bytes ≡ None
IsRefused bytes NotObject = IsOther bytes
IsRefused bytes Memory = Unit {0}
