-- Entries of tables. What a reader believes after this file: what an entry says is so in every
-- world in which all constraints hold.
use Rattle.std.specs.Prelude.{◌≡◌, true, ◌||◌, List, ℤ}
use Rattle.signed_clause.specs.Ranges.{has}
use Rattle.ground_form.specs.declared.ground.Ground.{Ground}
use Rattle.ground_form.specs.Meaning.{value_of}
use Rattle.form_build.specs.Worlds.{IsWorld, AllHold}
use Rattle.stated_cases.specs.declared.entries.Entry.{Entry}

-- the index is one of the others, or the number one of the values
abbrev pub IsEntry : Ground → Entry → Type 0
IsEntry g e =
    (a : List ℤ) → IsWorld g a → AllHold g a
    → (has e.others (value_of a e.index) || has e.values (value_of a e.number)) ≡ true
