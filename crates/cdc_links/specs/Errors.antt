-- The numbers and names of what a call on a link answers in place of doing its work.
use Rattle.std.specs.Prelude.{ℕ, List, codes}
use Rattle.cdc_links.specs.declared.errors.LinkFault.{LinkFault}
use Rattle.cdc_links.specs.declared.errors.LinkFault.TheVariants.{PeerGone, OutOfMemory}

-- the fault's number
abbrev pub link_fault_number : LinkFault → ℕ
link_fault_number PeerGone = 1
link_fault_number OutOfMemory = 2

-- the fault's name
abbrev pub link_fault_name : LinkFault → List ℕ
link_fault_name PeerGone = codes "peer_gone"
link_fault_name OutOfMemory = codes "out_of_memory"
