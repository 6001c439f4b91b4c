-- The lines of the text that a session prints, and what each is. What a reader believes after this
-- file: a line that begins as an object answers an event by a configuration, `none exists` answers
-- one too, and any other line is said beside an answer.
use Rattle.std.specs.Prelude.{ℕ, ◌==◌, ◌≡◌, Bool, if◌then◌else◌, List, [], ◌∷◌, ◌++◌, Option, None, Some, Contains, bytes_eq, codes, map, nat_eq, option_and_then, option_map}
use Rattle.std.specs.List.{starts_with}
use Rattle.serde_json.specs.Data.{Data}
use Rattle.serde_json.specs.Find.{as_object}
use Rattle.view_leaves.specs.Reading.{text_json}
use Rattle.view_page.specs.declared.page.PageError.{PageError}
use Rattle.view_page.specs.declared.page.PageError.TheVariants.{NotJson, NoAttribute, Memory}

pub data PageEntry : Type 0 where
  shown : Data → PageEntry
  missing : PageEntry
  said : List ℕ → PageEntry

-- a last line without a line feed counts where it isn't empty
abbrev pub last_line : List ℕ → List (List ℕ)
last_line [] = []
last_line (b ∷ line) = (b ∷ line) ∷ []

-- the lines, of which the first has begun with these bytes
abbrev pub lines_from : List ℕ → List ℕ → List (List ℕ)
lines_from line [] = last_line line
lines_from line (b ∷ bytes) =
    if b == 10 then line ∷ lines_from [] bytes else lines_from (line ++ b ∷ []) bytes

abbrev pub lines : List ℕ → List (List ℕ)
lines text = lines_from [] text

abbrev pub begins_object : List ℕ → Bool
begins_object line = starts_with nat_eq line (codes "{")

abbrev pub is_none : List ℕ → Bool
is_none line = bytes_eq line (codes "none exists")

abbrev pub object_entry : Data → Option PageEntry
object_entry d = option_map (λ _. shown d) (as_object d)

-- what a line is; None where it begins as an object and is none
abbrev pub entry_of : List ℕ → Option PageEntry
entry_of line =
    if begins_object line then option_and_then object_entry (text_json line)
    else if is_none line then Some missing else Some (said line)

-- each line of the text is one of these entries, in order
abbrev pub AreEntries : List ℕ → List PageEntry → Type 0
AreEntries text entries = map entry_of (lines text) ≡ map Some entries

-- why a line is none
abbrev pub IsNoEntry : List ℕ → PageError → Type 0
IsNoEntry line NotJson = entry_of line ≡ None
IsNoEntry line NoAttribute = ⊥
IsNoEntry line Memory = Unit {0}

-- why some of these lines is none
abbrev pub HasNone : List (List ℕ) → PageError → Type 0
HasNone ls NotJson = Contains (map entry_of ls) None
HasNone ls NoAttribute = ⊥
HasNone ls Memory = Unit {0}

abbrev pub HasNoEntry : List ℕ → PageError → Type 0
HasNoEntry text e = HasNone (lines text) e
