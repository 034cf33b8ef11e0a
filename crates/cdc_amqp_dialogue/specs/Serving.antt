-- Serving a frame. Cited by private contracts alone.
use Rattle.std.specs.Prelude.{◌≡◌, ℕ, List, Bool, true, false, Option, Result, Ok, Err}
use Rattle.std.specs.List.{flat_map}
use Rattle.std.specs.Io.KnownBytes.{Appends}
use Rattle.cdc_amqp_frames.specs.Frames.{Parts}
use Rattle.cdc_amqp_frames.specs.declared.errors.ReadFrameError.{ReadFrameError}
use Rattle.cdc_amqp_frames.specs.declared.errors.ReadFrameError.TheVariants as read
use Rattle.cdc_amqp_methods.specs.Requests.{frame_of}
use Rattle.cdc_amqp_consumer.specs.declared.consumer.Done.{Done}
use Rattle.cdc_amqp_consumer.specs.declared.consumer.End.{End}
use Rattle.cdc_amqp_consumer.specs.declared.consumer.Outcome.{Outcome}
use Rattle.cdc_amqp_consumer.specs.declared.errors.ConsumeError.{ConsumeError}
use Rattle.cdc_amqp_consumer.specs.declared.errors.ConsumeError.TheVariants as untaken
use Rattle.cdc_amqp_consumer.specs.declared.replies.Settings.{Settings}
use Rattle.cdc_amqp_consumer.specs.Machine.{State, received}
use Rattle.cdc_amqp_dialogue.specs.declared.dialogue.Served.{Served}
use Rattle.cdc_amqp_dialogue.specs.declared.errors.ConsumeFailure.{ConsumeFailure}
use Rattle.cdc_amqp_dialogue.specs.declared.errors.ConsumeFailure.TheVariants.{Read, Frame, Fault, Store, Write}
use Rattle.cdc_amqp_dialogue.specs.declared.errors.ConsumeFailure.TheVariants.{OutOfMemory}
use Rattle.cdc_amqp_dialogue.specs.declared.taking.Refusal.{Refusal}
use Rattle.cdc_amqp_dialogue.specs.declared.taking.Taking.{Taking}
use Rattle.cdc_amqp_dialogue.specs.Steps.{FailsBy, WritesPart, is_write_failure}
use Rattle.cdc_amqp_dialogue.specs.Taking.{EntryRules, follower_after, taking_after}
use Rattle.cdc_amqp_dialogue.specs.Worlds.{answers_of, stop_after}

-- the failure of a frame that isn't read, or that the consumer doesn't take
abbrev pub unread_failure : ReadFrameError → ConsumeFailure
unread_failure (read.Read why) = Read why
unread_failure (read.Fault fault) = Frame fault
unread_failure read.OutOfMemory = OutOfMemory

abbrev pub untaken_failure : ConsumeError → ConsumeFailure
untaken_failure (untaken.Fault fault) = Fault fault
untaken_failure untaken.OutOfMemory = OutOfMemory

-- what is sent after a frame, as bytes
abbrev pub text_of : {R : Type 0} → Done → Taking R → List ℕ
text_of done taking = flat_map frame_of (answers_of done taking)

-- whatever a follower stood for, this became of a delivery, and the follower stands for what is after it
abbrev pub TakesBy : {S R : Type 0} → EntryRules S R → Bool → Option (Refusal R) → Outcome → State → (S → Type 0)
    → (S → Type 0) → Taking R → Type 0
TakesBy {S} rules parks stop outcome s Old New taking =
    (state : S) → Old state → (taking ≡ taking_after rules parks state stop outcome s)
    × New (follower_after rules state taking)

-- a frame is taken, and its delivery, if it completes one
pub record Serves {S R : Type 0} (settings : Settings) (rules : EntryRules S R) (parks : Bool) (f : Parts)
    (old new : State) (stop after : Option (Refusal R)) (Old New : S → Type 0) (done : Done) (taking : Taking R)
    : Type 0 where
  pub turn : received settings old f.kind f.channel f.payload ≡ Ok (record { state = new; done = done })
  pub becomes : TakesBy rules parks stop done.outcome new Old New taking
  pub stops : after ≡ stop_after stop taking

-- a frame that isn't taken is at fault, or memory ran out
abbrev pub IsFaultOf : Settings → Parts → State → ConsumeFailure → Type 0
IsFaultOf settings f old (Fault fault) = received settings old f.kind f.channel f.payload ≡ Err fault
IsFaultOf settings f old (Read why) = ⊥
IsFaultOf settings f old (Frame why) = ⊥
IsFaultOf settings f old (Store why) = ⊥
IsFaultOf settings f old (Write why) = ⊥
IsFaultOf settings f old OutOfMemory = Unit {0}

-- a frame is served: it is taken, and answered
abbrev pub ServesBy : {S R : Type 0} → Settings → EntryRules S R → Bool → Parts → State → State → Option (Refusal R)
    → Option (Refusal R) → (S → Type 0) → (S → Type 0) → Option (List ℕ) → Option (List ℕ)
    → Result (Served R) ConsumeFailure → Type 0
ServesBy settings rules parks f old new stop after Old New writer written (Ok served) =
    (done : Done) × (served.outcome ≡ done.outcome)
    × Serves settings rules parks f old new stop after Old New done served.taking
    × Appends writer written (text_of done served.taking)
ServesBy {S} {R} settings rules parks f old new stop after Old New writer written (Err why) =
    FailsBy (is_write_failure why)
    ((done : Done) × (taking : Taking R) × Serves settings rules parks f old new stop after Old New done taking
    × WritesPart writer written (text_of done taking))
    ((after ≡ stop) × ((state : S) → Old state → New state) × (written ≡ writer) × IsFaultOf settings f old why)

-- one or the other holds
abbrev pub HoldsBy : Bool → Type 0 → Type 0 → Type 0
HoldsBy true Holds Other = Holds
HoldsBy false Holds Other = Other

-- the follower is saved at the end, if it is due
abbrev pub SavesLast : Type 0 → Type 0 → Bool → End → Result End ConsumeFailure → Type 0
SavesLast Kept Same due end (Ok how) = (how ≡ end) × HoldsBy due Kept Same
SavesLast Kept Same due end (Err (Store why)) = Same
SavesLast Kept Same due end (Err (Read why)) = ⊥
SavesLast Kept Same due end (Err (Frame why)) = ⊥
SavesLast Kept Same due end (Err (Fault why)) = ⊥
SavesLast Kept Same due end (Err (Write why)) = ⊥
SavesLast Kept Same due end (Err OutOfMemory) = ⊥
