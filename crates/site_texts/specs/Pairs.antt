-- What stands under a name in a list of names with their texts.
use Rattle.std.specs.Prelude.{ℕ, List, [], ◌∷◌, Option, Some, if◌then◌else◌}
use Rattle.std.specs.Map.{lookup}
use Rattle.site_names.specs.Meeting.{same_word}

-- a name and its text
abbrev pub NamedText : Type 0
NamedText = List ℕ × List ℕ

-- the text of the first of this name
abbrev pub under : List ℕ → List NamedText → Option (List ℕ)
under name pairs = lookup (same_word name) pairs

-- the text of the last of this name; where none has it, what was there before
abbrev pub last_under : List ℕ → Option (List ℕ) → List NamedText → Option (List ℕ)
last_under name was [] = was
last_under name was (p ∷ ps) = last_under name (if same_word p.0 name then Some p.1 else was) ps
