-- Words are ASCII, so they are the same as text.
use Rattle.std.proofs.Common.{◌≡◌, ℕ, ◌<◌, Bool, true, false, if◌then◌else◌, List, [], ◌∷◌, map, arith}
use Rattle.std.specs.Str.{IsAscii}
use Rattle.std.specs.Str.Lossy.{utf8_lossy}
use Rattle.std.proofs.lemmas.Bool.Decides.{nat_tests}
use Rattle.std.proofs.lemmas.Str.{IsUtf8-from_ascii, IsAscii-append, utf8_lossy-IsUtf8}
use Rattle.std.proofs.lemmas.Str.Ascii.{IsAscii-nil, IsAscii-cons}
use Rattle.site_names.specs.Words.{word_byte, lead, begun, is_kept, word_of}

byte_small : (b : ℕ) → word_byte b < 128
byte_small b = grind (arith, nat_tests)

bytes_ascii : (bs : List ℕ) → IsAscii (map word_byte bs)
bytes_ascii [] = IsAscii-nil
bytes_ascii (b ∷ bs) = IsAscii-cons (word_byte b) (map word_byte bs) (byte_small b) (bytes_ascii bs)

line_ascii : (b : Bool) → IsAscii (if b then 95 ∷ [] else [])
line_ascii true = IsAscii-cons 95 [] (omega arith) IsAscii-nil
line_ascii false = IsAscii-nil

begun_ascii : (name : List ℕ) → IsAscii (begun name)
begun_ascii name = IsAscii-append (if lead name then 95 ∷ [] else []) (map word_byte name) (line_ascii (lead name)) (bytes_ascii name)

word_ascii : (name : List ℕ) → IsAscii (word_of name)
word_ascii name = IsAscii-append (begun name) (if is_kept (begun name) then 95 ∷ [] else []) (begun_ascii name) (line_ascii (is_kept (begun name)))

pub word_lossy : (name : List ℕ) → utf8_lossy (word_of name) ≡ word_of name
word_lossy name = utf8_lossy-IsUtf8 (word_of name) (IsUtf8-from_ascii (word_of name) (word_ascii name))
