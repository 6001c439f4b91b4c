-- What a desk in memory holds, which of its calls are to fail, and what a call leaves as it was.
use Rattle.std.specs.Prelude.{ℕ, ◌≡◌, List, Option, Contains}
use Rattle.desk_io.specs.declared.memory.MemoryDesk.{MemoryDesk}
use Rattle.desk_io.specs.Desk.{Files}
use Rattle.desk_io.specs.Fault.{one_more}
use Rattle.desk_io.specs.FileList.{stored}

-- the files that it was given or has written
abbrev pub stored_in : MemoryDesk → Files
stored_in d = stored d.files.items

abbrev pub printed_by : MemoryDesk → List ℕ
printed_by d = d.printed.items

-- the numbers of the calls that fail
abbrev pub failing_of : MemoryDesk → List ℕ
failing_of d = d.failing.items

-- the number of the call that comes next
abbrev pub calls_of : MemoryDesk → ℕ
calls_of d = d.calls

-- the most bytes that a call handles, if there is such a bound
abbrev pub step_of : MemoryDesk → Option ℕ
step_of d = d.step

abbrev pub read_faults_of : MemoryDesk → ℕ
read_faults_of d = d.read_faults

abbrev pub write_faults_of : MemoryDesk → ℕ
write_faults_of d = d.write_faults

-- the call that comes next is one of those that fail
abbrev pub Fails : MemoryDesk → Type 0
Fails d = Contains (failing_of d) (calls_of d)

-- all but the step is as before
pub record KeepsAllButStep (old new : MemoryDesk) : Type 0 where
  pub files : stored_in new ≡ stored_in old
  pub printed : printed_by new ≡ printed_by old
  pub failing : failing_of new ≡ failing_of old
  pub calls : calls_of new ≡ calls_of old
  pub read_faults : read_faults_of new ≡ read_faults_of old
  pub write_faults : write_faults_of new ≡ write_faults_of old

-- one more call was counted, of a desk of which the same calls fail and which has the same step
pub record CountsCall (old new : MemoryDesk) : Type 0 where
  pub calls : calls_of new ≡ one_more (calls_of old)
  pub failing : failing_of new ≡ failing_of old
  pub step : step_of new ≡ step_of old
