-- Consuming a queue over a reader and a writer whose bytes are known.
use Rattle.std.specs.Prelude.{◌≡◌, ℕ, List, ◌++◌, Bool, true, false, Option, Some, IfSome, Result, Ok, Err}
use Rattle.std.specs.List.{flat_map}
use Rattle.std.specs.Io.KnownBytes.{Appends}
use Rattle.cdc_amqp_frames.specs.Frames.{Parts, frame, frame_at}
use Rattle.cdc_amqp_methods.specs.Requests.{frame_of}
use Rattle.cdc_amqp_consumer.specs.declared.consumer.End.{End}
use Rattle.cdc_amqp_consumer.specs.declared.replies.Settings.{Settings}
use Rattle.cdc_amqp_consumer.specs.Machine.{payload_limit, received}
use Rattle.cdc_amqp_dialogue.specs.declared.dialogue.TheConstants.{PROTOCOL}
use Rattle.cdc_amqp_dialogue.specs.declared.errors.ConsumeFailure.{ConsumeFailure}
use Rattle.cdc_amqp_dialogue.specs.declared.errors.ConsumeFailure.TheVariants.{Read, Frame, Fault, Store, Write}
use Rattle.cdc_amqp_dialogue.specs.declared.errors.ConsumeFailure.TheVariants.{OutOfMemory}
use Rattle.cdc_amqp_dialogue.specs.declared.taking.Refusal.{Refusal}
use Rattle.cdc_amqp_dialogue.specs.Laws.{AreSettled}
use Rattle.cdc_amqp_dialogue.specs.Steps.{WritesPart, is_write_failure}
use Rattle.cdc_amqp_dialogue.specs.Taking.{Plan}
use Rattle.cdc_amqp_dialogue.specs.Worlds.{Sight, Step, World, begins, bytes_of, follower_of, run, sights_of}

-- known bytes begin with a text, after which the rest has this property
abbrev pub GoesOnWith : Option (List ℕ) → List ℕ → (List ℕ → Type 0) → Type 0
GoesOnWith known text Holds = IfSome known (λ bytes. (rest : List ℕ) × (bytes ≡ text ++ rest) × Holds rest)

-- a text was written, or a part of it if a write failed
abbrev pub WritesBy : Bool → Option (List ℕ) → Option (List ℕ) → List ℕ → Type 0
WritesBy true old new text = WritesPart old new text
WritesBy false old new text = Appends old new text

abbrev pub Writes : Option (List ℕ) → Option (List ℕ) → List ℕ → Result End ConsumeFailure → Type 0
Writes old new text (Ok end) = Appends old new text
Writes old new text (Err why) = WritesBy (is_write_failure why) old new text

-- Why consuming ends after these steps. The server ended it; or its bytes don't go on with a frame, for this reason;
-- or they go on with a frame that it may not send; or the reader, the store or a write failed, or memory ran out.
abbrev pub IsCause : {S R : Type 0} → Settings → Option (List ℕ) → List ℕ → World S R → Result End ConsumeFailure
    → Type 0
IsCause settings known text w (Ok end) = w.end ≡ Some end
IsCause settings known text w (Err (Frame fault)) =
    GoesOnWith known text (λ rest. frame_at (payload_limit w.state) rest ≡ Err fault)
IsCause settings known text w (Err (Fault fault)) = (f : Parts)
    × GoesOnWith known (text ++ frame f) (λ rest. Unit {0})
    × (received settings w.state f.kind f.channel f.payload ≡ Err fault)
IsCause settings known text w (Err (Read why)) = Unit {0}
IsCause settings known text w (Err (Store why)) = Unit {0}
IsCause settings known text w (Err (Write why)) = Unit {0}
IsCause settings known text w (Err OutOfMemory) = Unit {0}

-- Whatever the server's bytes are, there are steps such that they begin with the frames that come. What was written
-- is the protocol header and the requests of these steps, in order, or a part of that if a write failed. The follower
-- stands for the fold over the entries of the deliveries of these frames, in order, up to the first at which following
-- stops, for this reason. The store was given the followers of these steps. The reader, as it was before a read that
-- failed, answered and gave frames as these steps have it, and each step was next when it may be: before a frame is
-- awaited, what was taken is saved, and what is saved is acknowledged.
pub record Converses {K D S R : Type 0} (settings : Settings) (plan : Plan S R) (every : ℕ)
    (HasKept : K → List S → Type 0) (Stands : K → S → Type 0) (HasAnswered : D → List Sight → Type 0)
    (known writer written : Option (List ℕ)) (keeper : K) (stop : Option (Refusal R))
    (result : Result End ConsumeFailure) : Type 0 where
  pub steps : List Step
  pub came : GoesOnWith known (bytes_of steps) (λ rest. Unit {0})
  pub wrote : Writes writer written
      (PROTOCOL.now ++ flat_map frame_of (run settings plan begins steps).sent) result
  pub follows : Stands keeper (follower_of plan (run settings plan begins steps))
  pub stops : stop ≡ (run settings plan begins steps).stop
  pub kept : HasKept keeper (run settings plan begins steps).kept
  pub answered : (reader : D) × HasAnswered reader (sights_of steps)
  pub settled : AreSettled settings plan every begins steps
  pub cause : IsCause settings known (bytes_of steps) (run settings plan begins steps) result
