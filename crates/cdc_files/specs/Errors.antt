-- The numbers and names of what a store answers.
use Rattle.std.specs.Prelude.{ℕ, List, codes}
use Rattle.cdc_files.specs.declared.errors.StoreError.{StoreError}
use Rattle.cdc_files.specs.declared.errors.StoreError.TheVariants.{ReadFault, WriteFault, BadRecord, OutOfMemory}

-- the error's number
abbrev pub store_error_number : StoreError → ℕ
store_error_number ReadFault = 1
store_error_number WriteFault = 2
store_error_number BadRecord = 3
store_error_number OutOfMemory = 4

-- the error's name
abbrev pub store_error_name : StoreError → List ℕ
store_error_name ReadFault = codes "read_fault"
store_error_name WriteFault = codes "write_fault"
store_error_name BadRecord = codes "bad_record"
store_error_name OutOfMemory = codes "out_of_memory"
