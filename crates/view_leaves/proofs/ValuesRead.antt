-- What `serde_json` reads of bytes is what they are said to be read as.
use Rattle.std.proofs.Common.{◌≡◌, ℕ, List, Bool, true, false, Option, None, Some, is_some, if◌then◌else◌, true≢false, refl, ap}
use Rattle.std.proofs.lemmas.Str.{IsUtf8-from_is_utf8, is_utf8-from_IsUtf8}
use Rattle.std.specs.Str.{IsUtf8, is_utf8}
use Rattle.serde_json.specs.Data.{Data}
use Rattle.serde_json.specs.Read.{read}
use Rattle.view_leaves.specs.Reading.{json_of}

-- UTF-8 is read as `serde_json` reads it
pub reads_utf8 : (bytes : List ℕ) → IsUtf8 bytes → json_of bytes ≡ read bytes
reads_utf8 bytes is = ap (λ b. if b then read bytes else None) (is_utf8-from_IsUtf8 bytes is)

refused_at : (b : Bool) (d : Option Data) → (b ≡ true → d ≡ None) → (if b then d else None) ≡ None
refused_at true d none = none refl
refused_at false d none = refl

-- what `serde_json` refuses is read as nothing
pub reads_nothing : (bytes : List ℕ) → (IsUtf8 bytes → read bytes ≡ None) → json_of bytes ≡ None
reads_nothing bytes none =
    refused_at (is_utf8 bytes) (read bytes) (λ is. none (IsUtf8-from_is_utf8 bytes is))
