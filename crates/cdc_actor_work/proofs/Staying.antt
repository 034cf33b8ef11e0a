-- What stays whether a step of an actor fails or not.
use Rattle.std.specs.Prelude.{IfErr, IfOk, Result, Ok, Err}
use Rattle.cdc_actor_work.specs.declared.faults.RunFault.{RunFault}

pub stays_by : {T : Type 0} {Stays : Type 0} (result : Result T RunFault) (Turns : T → Type 0)
    (Fails : RunFault → Type 0)
    → ((x : T) → Turns x → Stays) → ((fault : RunFault) → Fails fault → Stays) → IfOk result Turns → IfErr result Fails
    → Stays
stays_by (Ok x) Turns Fails turned failed ok err = turned x ok
stays_by (Err fault) Turns Fails turned failed ok err = failed fault err
