-- Which words stand as failed behind an event of a session.
use Rattle.std.specs.Prelude.{ℕ, not, cond, List, ◌∷◌, ◌++◌, filter, []}
use Rattle.std.specs.List.{list_any}
use Rattle.class_table.specs.Same.{same_name}
use Rattle.conf_events.specs.declared.event.Event.{Event}

-- the words that stand as failed with one more, where it isn't one of them yet
abbrev pub with_word : List ℕ → List (List ℕ) → List (List ℕ)
with_word word failed = cond (list_any (same_name word) failed) failed (failed ++ word ∷ [])

-- those without this one
abbrev pub without_word : List ℕ → List (List ℕ) → List (List ℕ)
without_word word failed = filter (λ w. not (same_name word w)) failed

-- those behind an event
abbrev pub failed_behind : Event → List (List ℕ) → List (List ℕ)
failed_behind e failed = cond e.fails (with_word e.path failed) (without_word e.path failed)
