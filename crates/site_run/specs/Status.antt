-- The numbers and the lines of statuses.
use Rattle.std.specs.Prelude.{ℕ, ◌+◌, ◌-◌, ◌^◌, List, [], ◌++◌, codes, decimal, min}
use Rattle.run_status.specs.Status.{line_text}
use Rattle.site_tables.specs.declared.fault.Fault.{Fault}
use Rattle.site_tables.specs.declared.fault.FaultKind.{FaultKind}
use Rattle.site_tables.specs.declared.fault.FaultKind.TheVariants as kind
use Rattle.site_tables.specs.declared.fault.Place.{Place}
use Rattle.site_tables.specs.declared.fault.TableName.{TableName}
use Rattle.site_tables.specs.declared.fault.TableName.TheVariants.{Hosts, Services, Today}
use Rattle.site_drafts.specs.declared.refusal.FileName.{FileName}
use Rattle.site_drafts.specs.declared.refusal.FileName.TheVariants as file
use Rattle.site_drafts.specs.declared.refusal.Refusal.{Refusal}
use Rattle.site_drafts.specs.declared.refusal.Refusal.TheVariants as refusal
use Rattle.site_run.specs.declared.status.Status.{Status as Ended}
use Rattle.site_run.specs.declared.status.Status.TheVariants as ended
use Rattle.site_run.specs.declared.status.Unread.{Unread}
use Rattle.site_run.specs.declared.status.Unread.TheVariants as unread

abbrev pub unread_number : Unread → ℕ
unread_number (unread.Unreadable f) = 3
unread_number (unread.TooLong f) = 4
unread_number unread.Memory = 9

abbrev pub refusal_number : Refusal → ℕ
refusal_number (refusal.NotText t) = 5
refusal_number (refusal.NotJson f) = 5
refusal_number (refusal.NotObject f) = 5
refusal_number (refusal.Faulty f) = 6
refusal_number refusal.NoResource = 6
refusal_number (refusal.Unplaced p) = 6
refusal_number refusal.LongModel = 7
refusal_number (refusal.Refused s) = 7
refusal_number refusal.Memory = 9

abbrev pub number_of : Ended → ℕ
number_of ended.Done = 0
number_of ended.Usage = 2
number_of (ended.Unread u) = unread_number u
number_of (ended.Refused r) = refusal_number r
number_of ended.WriteFault = 8
number_of ended.Memory = 9

abbrev pub file_text : FileName → List ℕ
file_text file.Hosts = codes "hosts"
file_text file.Services = codes "services"
file_text file.Today = codes "today"
file_text file.Answer = codes "answer"
file_text file.Extra = codes "extra"
file_text file.Former = codes "former"

abbrev pub table_text : TableName → List ℕ
table_text Hosts = codes "hosts"
table_text Services = codes "services"
table_text Today = codes "today"

-- rows and columns are counted from 1; the header is row 1
abbrev pub counted : ℕ → List ℕ
counted n = decimal (min (n + 1) (2 ^ 64 - 1))

abbrev pub place_text : Place → List ℕ
place_text p =
    table_text p.table ++ (codes " row " ++ (counted p.row ++ (codes " column " ++ counted p.column)))

abbrev pub kind_text : FaultKind → List ℕ
kind_text kind.NoRow = codes "no row"
kind_text kind.NoSuchColumn = codes "no such column"
kind_text kind.CellCount = codes "more or fewer cells than the header"
kind_text kind.NotAName = codes "not a name"
kind_text kind.NotANumber = codes "not a number of one to nine digits"
kind_text kind.NoSuchHost = codes "no such host"
kind_text kind.NoSuchService = codes "no such service"
kind_text kind.NoSuchValue = codes "a value that no host has"
kind_text kind.TooManyRows = codes "more than 10,000 rows"
kind_text kind.ValuesMeet = codes "two values become the same word"
kind_text (kind.Meets p) = codes "becomes the same word as "

abbrev pub other_text : FaultKind → List ℕ
other_text kind.NoRow = []
other_text kind.NoSuchColumn = []
other_text kind.CellCount = []
other_text kind.NotAName = []
other_text kind.NotANumber = []
other_text kind.NoSuchHost = []
other_text kind.NoSuchService = []
other_text kind.NoSuchValue = []
other_text kind.TooManyRows = []
other_text kind.ValuesMeet = []
other_text (kind.Meets p) = place_text p

abbrev pub fault_text : Fault → List ℕ
fault_text f =
    place_text f.place ++ (codes ": " ++ (kind_text f.kind ++ other_text f.kind))

abbrev pub unplaced_text : Place → List ℕ
unplaced_text p = place_text p ++ codes ": no host in the answer"

-- the line on standard error, without its end
abbrev pub unread_line : Unread → List ℕ
unread_line (unread.Unreadable f) = file_text f ++ codes " unreadable"
unread_line (unread.TooLong f) = file_text f ++ codes " longer than 16 MiB"
unread_line unread.Memory = codes "no memory"

abbrev pub refusal_line : Refusal → List ℕ
refusal_line (refusal.NotText t) = table_text t ++ codes " not UTF-8"
refusal_line (refusal.Faulty f) = fault_text f
refusal_line refusal.NoResource = codes "no such resource"
refusal_line refusal.LongModel = codes "model longer than 1 MiB"
refusal_line (refusal.Refused s) = codes "model refused: " ++ line_text s
refusal_line (refusal.NotJson f) = file_text f ++ codes " not JSON"
refusal_line (refusal.NotObject f) = file_text f ++ codes " not an object"
refusal_line (refusal.Unplaced p) = unplaced_text p
refusal_line refusal.Memory = codes "no memory"

abbrev pub line_of : Ended → List ℕ
line_of ended.Done = []
line_of ended.Usage = codes "usage: confsolve-site model|former|table HOSTS SERVICES .."
line_of (ended.Unread u) = unread_line u
line_of (ended.Refused r) = refusal_line r
line_of ended.WriteFault = codes "output not written"
line_of ended.Memory = codes "no memory"
