-- What a former text is read as, by whether it is UTF-8.
use Rattle.std.proofs.Common.{◌≡◌, ℕ, List, Bool, true, false, Option, None, Some, is_some, if◌then◌else◌, true≢false, refl, ap}
use Rattle.std.proofs.lemmas.Str.{IsUtf8-from_is_utf8, is_utf8-from_IsUtf8}
use Rattle.std.specs.Str.{IsUtf8, is_utf8}
use Rattle.serde_json.specs.Data.{Data}
use Rattle.serde_json.specs.Read.{read}
use Rattle.config_json.specs.Reading.{value_read}

-- UTF-8 is read as `serde_json` reads it
pub read_text : (bytes : List ℕ) → IsUtf8 bytes → value_read bytes ≡ read bytes
read_text bytes is = ap (λ b. if b then read bytes else None) (is_utf8-from_IsUtf8 bytes is)

refused_at : (b : Bool) (d : Option Data) → (b ≡ true → d ≡ None) → (if b then d else None) ≡ None
refused_at true d none = none refl
refused_at false d none = refl

-- what `serde_json` refuses is read as nothing
pub read_nothing : (bytes : List ℕ) → (IsUtf8 bytes → read bytes ≡ None) → value_read bytes ≡ None
read_nothing bytes none = refused_at (is_utf8 bytes) (read bytes) (λ is. none (IsUtf8-from_is_utf8 bytes is))

pub is_none : {X : Type 0} → (found : Option X) → is_some found ≡ false → found ≡ None
is_none None h = refl
is_none (Some x) h = absurd (true≢false h)
