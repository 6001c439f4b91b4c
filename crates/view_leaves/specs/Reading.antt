-- What a text is read as: its first line, where that is JSON, or else the whole. So the output of
-- the solver is read, behind whose first line further lines stand, and JSON over several lines too.
use Rattle.std.specs.Prelude.{◌≡◌, ◌==◌, ℕ, List, [], ◌∷◌, Option, None, Some, if◌then◌else◌}
use Rattle.std.specs.Str.{is_utf8}
use Rattle.serde_json.specs.Data.{Data}
use Rattle.serde_json.specs.Find.{as_object}
use Rattle.serde_json.specs.Read.{read}
use Rattle.view_leaves.specs.declared.reading.TextError.{TextError}
use Rattle.view_leaves.specs.declared.reading.TextError.TheVariants.{NotJson, NotObject, Memory}

-- up to the first line feed
abbrev pub first_line : List ℕ → List ℕ
first_line [] = []
first_line (b ∷ bytes) = if b == 10 then [] else b ∷ first_line bytes

-- the value that bytes are read as; bytes that aren't UTF-8 have none
abbrev pub json_of : List ℕ → Option Data
json_of bytes = if is_utf8 bytes then read bytes else None

abbrev pub first_of : Option Data → Option Data → Option Data
first_of (Some d) e = Some d
first_of None e = e

-- the value of a text
abbrev pub text_json : List ℕ → Option Data
text_json bytes = first_of (json_of (first_line bytes)) (json_of bytes)

-- a text that is read as something else than an object
pub record IsOther (bytes : List ℕ) : Type 0 where
  pub json : Data
  pub read : text_json bytes ≡ Some json
  pub other : as_object json ≡ None

-- why a text is refused
abbrev pub IsRefused : List ℕ → TextError → Type 0
IsRefused bytes NotJson = text_json bytes ≡ None
IsRefused bytes NotObject = IsOther bytes
IsRefused bytes Memory = Unit {0}
