-- Texts of events. What a reader believes after this file: which event a line is, and which line of
-- a text is the first that is none.
use Rattle.std.specs.Prelude.{◌≡◌, ℕ, ◌+◌, Bool, true, false, ◌&&◌, cond, List, [], ◌∷◌, ◌++◌, Option, None, Some, codes, drop, filter_map, is_some, nat_eq, nat_le}
use Rattle.std.specs.List.{starts_with}
use Rattle.class_table.specs.Outline.{Outline}
use Rattle.object_alloc.specs.Paths.{object_named}
use Rattle.command_limits.specs.Limits.{most_events}
use Rattle.conf_events.specs.declared.event.Event.{Event}
use Rattle.conf_events.specs.declared.event.EventsError.{EventsError}
use Rattle.conf_events.specs.declared.event.EventsError.TheVariants.{BadLine, Memory}

-- ---- lines

-- the lines that a line feed ends, without it, of which the first begins with what is here
abbrev pub ended : List ℕ → List ℕ → List (List ℕ)
ended here [] = []
ended here (b ∷ bytes) =
    cond (nat_eq b 10) (here ∷ ended [] bytes) (ended (here ++ b ∷ []) bytes)

-- what stands behind the last line feed
abbrev pub unended : List ℕ → List ℕ → List ℕ
unended here [] = here
unended here (b ∷ bytes) = cond (nat_eq b 10) (unended [] bytes) (unended (here ++ b ∷ []) bytes)

-- ---- events

-- the event that something fails, or is repaired, where this is the path of an object
abbrev pub event_at : Outline → Bool → List ℕ → Option Event
event_at o fails path =
    cond (is_some (object_named o path)) (Some (record { fails = fails; path = path })) None

-- the event that a line is: `fail` or `repair`, one space, and the path of an object
abbrev pub event_of : Outline → List ℕ → Option Event
event_of o line =
    cond (starts_with nat_eq line (codes "fail ")) (event_at o true (drop 5 line))
    (cond (starts_with nat_eq line (codes "repair ")) (event_at o false (drop 7 line)) None)

-- the number of the first line that is no event, or is one too many, where the first one has number
-- n and these bytes stand behind the last line feed
abbrev pub bad_from : Outline → ℕ → List (List ℕ) → List ℕ → Option ℕ
bad_from o n [] [] = None
bad_from o n [] (b ∷ rest) = Some n
bad_from o n (line ∷ lines) rest =
    cond (nat_le n most_events && is_some (event_of o line)) (bad_from o (n + 1) lines rest)
    (Some n)

-- ---- texts

-- the number, counted from 1, of the first line of a text that is no event, isn't ended, or is one
-- too many
abbrev pub bad_line : Outline → List ℕ → Option ℕ
bad_line o bytes = bad_from o 1 (ended [] bytes) (unended [] bytes)

-- the events that its lines are, in order
abbrev pub events_of : Outline → List ℕ → List Event
events_of o bytes = filter_map (event_of o) (ended [] bytes)

-- when there are no events: a line is none, the first such one; or memory lacks
abbrev pub IsEventsError : Outline → List ℕ → EventsError → Type 0
IsEventsError o bytes (BadLine n) = bad_line o bytes ≡ Some n
IsEventsError o bytes Memory = Unit {0}
