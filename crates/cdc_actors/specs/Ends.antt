-- An actor, whatever it works with: what is seen of it from outside.
use Rattle.std.specs.Prelude.{◌≡◌, ◌&&◌, ℕ, Bool, true, false, Option, None, is_none, if◌then◌else◌}
use Rattle.cdc_actor_work.specs.declared.faults.RunFault.{RunFault}
use Rattle.cdc_actors.specs.declared.turns.Turn.{Turn}
use Rattle.cdc_actors.specs.declared.turns.Turn.TheVariants.{More, Finished}

-- the number of the system that it is of, what it works with, and the first fault that it met
pub record ActorState (W : Type 0) : Type 0 where
  pub system : ℕ
  pub work : W
  pub fault : Option RunFault

-- what a turn returns: whether the actor has finished
abbrev pub turn_if : Bool → Turn
turn_if finished = if finished then Finished else More

module _ {W : Type 0} where
  -- an actor that has met no fault
  abbrev pub new_end : ℕ → W → ActorState W
  new_end system work = record { system = system; work = work; fault = None }

  module _ (is_over : W → Bool) where
    -- its work is over, and it has met no fault
    abbrev pub has_finished : ActorState W → Bool
    has_finished end = is_none end.fault && is_over end.work

    -- a turn of an actor that has met no fault. If its work is over, nothing changes; otherwise the work has taken
    -- this turn. The result is whether it is over then
    pub record HasTurned (turns : W → W → Type 0) (old : ActorState W) (turn : Turn) (new : ActorState W) : Type 0 where
      pub answers : turn ≡ turn_if (is_over new.work)
      pub goes_on : is_over old.work ≡ false → turns old.work new.work
      pub stays : is_over old.work ≡ true → new ≡ old
      pub rest : new ≡ record old { work = new.work }
