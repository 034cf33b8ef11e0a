use Rattle.std.proofs.Common.{rules}
use Rattle.serde_json.proofs.OnLiterals.{serde_json_on_literals}
use Rattle.cdc_output.specs.Lines.{json_line}
use Rattle.cdc_output.proofs.forms.fault_line.Goals as goal

pub returns-in-ReadFault : goal.returns-in-ReadFault
unfolding json_line serde_json_on_literals
returns-in-ReadFault c = search rules

pub returns-in-WriteFault : goal.returns-in-WriteFault
unfolding json_line serde_json_on_literals
returns-in-WriteFault c = search rules

pub returns-in-Store : goal.returns-in-Store
unfolding json_line serde_json_on_literals
returns-in-Store c = search rules

pub returns-in-OutOfMemory : goal.returns-in-OutOfMemory
unfolding json_line serde_json_on_literals
returns-in-OutOfMemory c = search rules

pub returns-in-PeerGone : goal.returns-in-PeerGone
unfolding json_line serde_json_on_literals
returns-in-PeerGone c = search rules

pub returns-in-SessionsExhausted : goal.returns-in-SessionsExhausted
unfolding json_line serde_json_on_literals
returns-in-SessionsExhausted c = search rules

pub returns-in-StartNotAllowed : goal.returns-in-StartNotAllowed
unfolding json_line serde_json_on_literals
returns-in-StartNotAllowed c = search rules

pub returns-in-NotOneSystem : goal.returns-in-NotOneSystem
unfolding json_line serde_json_on_literals
returns-in-NotOneSystem c = search rules
