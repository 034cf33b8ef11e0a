-- What a client actor does with a batch.
use Rattle.std.specs.Prelude.{◌≡◌}
use Rattle.cdc_ledger_actors.specs.Client.{IsAnswered, ClientCore}
use Rattle.cdc_actors.specs.Ends.{ActorState}
use Rattle.cdc_traffic.specs.declared.requests.Reply.{Reply}
use Rattle.cdc_types.specs.declared.batches.Batch.{Batch}

-- the batch was sent by a client actor that has met no fault, and this is the reply to it
pub record IsReplied (old : ActorState ClientCore) (batch : Batch) (reply : Reply) (new : ActorState ClientCore)
    : Type 0 where
  pub answered : IsAnswered old.work batch reply new.work
  pub rest : new ≡ record old { work = new.work }
