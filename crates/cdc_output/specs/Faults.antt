-- The faults of a command: those of its parts, their lines as text, and their names.
use Rattle.std.specs.Prelude.{ℕ, List, codes}
use Rattle.cdc_files.specs.declared.errors.StoreError.{StoreError}
use Rattle.cdc_files.specs.declared.errors.StoreError.TheVariants as store
use Rattle.cdc_script.specs.declared.faults.ReadError.{ReadError}
use Rattle.cdc_script.specs.declared.faults.ReadError.TheVariants as read
use Rattle.cdc_output.specs.declared.faults.ProgramFault.{ProgramFault}
use Rattle.cdc_output.specs.declared.faults.ProgramFault.TheVariants as fault

-- what the store answers, as the fault of the program
abbrev pub store_fault : StoreError → ProgramFault
store_fault store.ReadFault = fault.Store store.ReadFault
store_fault store.WriteFault = fault.Store store.WriteFault
store_fault store.BadRecord = fault.Store store.BadRecord
store_fault store.OutOfMemory = fault.OutOfMemory

-- why a text wasn't read, as the fault of the program
abbrev pub read_fault : ReadError → ProgramFault
read_fault (read.ReadFault why) = fault.ReadFault why
read_fault read.OutOfMemory = fault.OutOfMemory

-- the line of a command that failed
abbrev pub program_fault_line : ProgramFault → List ℕ
program_fault_line (fault.ReadFault why) = codes "fault: read_fault\n"
program_fault_line (fault.WriteFault why) = codes "fault: write_fault\n"
program_fault_line (fault.Store why) = codes "fault: store\n"
program_fault_line fault.OutOfMemory = codes "fault: out_of_memory\n"
program_fault_line fault.PeerGone = codes "fault: peer_gone\n"
program_fault_line fault.SessionsExhausted = codes "fault: sessions_exhausted\n"
program_fault_line fault.StartNotAllowed = codes "fault: start_not_allowed\n"
program_fault_line fault.NotOneSystem = codes "fault: not_one_system\n"

-- the name of the fault that a command failed with
abbrev pub program_fault_name : ProgramFault → List ℕ
program_fault_name (fault.ReadFault why) = codes "read_fault"
program_fault_name (fault.WriteFault why) = codes "write_fault"
program_fault_name (fault.Store why) = codes "store"
program_fault_name fault.OutOfMemory = codes "out_of_memory"
program_fault_name fault.PeerGone = codes "peer_gone"
program_fault_name fault.SessionsExhausted = codes "sessions_exhausted"
program_fault_name fault.StartNotAllowed = codes "start_not_allowed"
program_fault_name fault.NotOneSystem = codes "not_one_system"
