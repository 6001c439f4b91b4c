-- What the commands take. What a reader believes after this file: how long a log and a text of
-- events may be, how many events it may have, how many clauses a session keeps, and how many
-- decisions searches may take.
use Rattle.std.specs.Prelude.{ℕ}

-- bytes of a log, and of a text of events
abbrev pub log_bytes : ℕ
log_bytes = 536870912

abbrev pub events_bytes : ℕ
events_bytes = 1048576

-- lines of a text of events
abbrev pub most_events : ℕ
most_events = 100

-- how many clauses a session keeps
abbrev pub most_kept : ℕ
most_kept = 10000

-- how many decisions a search may take where no word says it, and how many a word may give
abbrev pub usual_budget : ℕ
usual_budget = 10000

abbrev pub most_budget : ℕ
most_budget = 1000000

-- how many decisions `gen` may take
abbrev pub generated_budget : ℕ
generated_budget = 10000
