-- What a desk over real files counts. The types are the runtime's: itself, and those of its files,
-- folders and allocator.
use Rattle.std.specs.Prelude.{ℕ}
use Rattle.desk_io.specs.declared.real.RealDesk.{RealDesk}

abbrev pub read_faults_of : {R A B C : Type 0} → RealDesk R A B C → ℕ
read_faults_of d = d.read_faults

abbrev pub write_faults_of : {R A B C : Type 0} → RealDesk R A B C → ℕ
write_faults_of d = d.write_faults
