-- The numbers and the lines of statuses.
use Rattle.std.specs.Prelude.{ℕ, List, [], ◌++◌, codes}
use Rattle.run_status.specs.Status.{line_text}
use Rattle.view_reports.specs.declared.status.Source.{Source}
use Rattle.view_reports.specs.declared.status.Source.TheVariants.{Model, Config, Former, Answers}
use Rattle.view_reports.specs.declared.status.Status.{Status as Ended}
use Rattle.view_reports.specs.declared.status.Status.TheVariants.{Whole, Broken, Usage, Unreadable, TooLong, NotJson, NotObject, NoAttribute, WriteFault, Memory, Refused}

abbrev pub number_of : Ended → ℕ
number_of Whole = 0
number_of Broken = 1
number_of Usage = 2
number_of (Unreadable s) = 3
number_of (TooLong s) = 4
number_of (NotJson s) = 5
number_of (NotObject s) = 5
number_of NoAttribute = 6
number_of WriteFault = 7
number_of Memory = 8
number_of (Refused s) = 10

abbrev pub source_text : Source → List ℕ
source_text Model = codes "model"
source_text Config = codes "configuration"
source_text Former = codes "former"
source_text Answers = codes "answers"

abbrev pub length_text : Source → List ℕ
length_text Model = codes " longer than 1 MiB"
length_text Config = codes " longer than 16 MiB"
length_text Former = codes " longer than 16 MiB"
length_text Answers = codes " longer than 16 MiB"

-- a refusal is told as `confsolve` tells it
abbrev pub line_of : Ended → List ℕ
line_of Whole = []
line_of Broken = []
line_of Usage =
    codes "usage: confsolve-view breaks MODEL CONFIG, page FORMER ANSWERS ATTRIBUTE [SIZE[=CAPACITY] ..]"
line_of (Unreadable s) = source_text s ++ codes " unreadable"
line_of (TooLong s) = source_text s ++ length_text s
line_of (NotJson s) = source_text s ++ codes " not JSON"
line_of (NotObject s) = source_text s ++ codes " not an object"
line_of NoAttribute = codes "no such attribute"
line_of WriteFault = codes "output not written"
line_of Memory = codes "no memory"
line_of (Refused s) = line_text s
