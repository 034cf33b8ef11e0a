-- Why actors of a run stopped before they had finished.
use Rattle.std.specs.Prelude.{ℕ}
use Rattle.cdc_actor_work.specs.declared.faults.RunFault.{RunFault}
use Rattle.cdc_actor_work.specs.declared.faults.RunFault.TheVariants.{OutOfMemory}
use Rattle.cdc_actors.specs.declared.met.Met.{Met}
use Rattle.cdc_actors.specs.declared.met.Met.TheVariants.{Fault, Unstarted}
use Rattle.cdc_actor_work.specs.declared.places.Place.{Place}

-- the fault that a run answers for it
abbrev pub fault_met : Met → RunFault
fault_met (Fault fault) = fault
fault_met Unstarted = OutOfMemory

-- the actor's system and place, and why it stopped
pub record StopState : Type 0 where
  pub system : ℕ
  pub place : Place
  pub met : Met
