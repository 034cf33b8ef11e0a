-- What single steps write, and give to the store. Except for `is_write_failure` and `WritesPart`, cited by private
-- contracts alone.
use Rattle.std.specs.Prelude.{◌≡◌, ℕ, ◌-◌, List, [], ◌∷◌, ◌++◌, take, Bool, true, false, ◌&&◌, ◌||◌, not, nat_lt, nat_le}
use Rattle.std.specs.Prelude.{Option, Some, None, Result, Ok, Err}
use Rattle.std.specs.Io.KnownBytes.{Appends}
use Rattle.cdc_amqp_methods.specs.declared.requests.Request.{Request}
use Rattle.cdc_amqp_methods.specs.declared.requests.Request.TheVariants as sent
use Rattle.cdc_amqp_methods.specs.Requests.{Fits, frame_of}
use Rattle.cdc_amqp_consumer.specs.Machine.{State, closing}
use Rattle.cdc_amqp_dialogue.specs.declared.errors.ConsumeFailure.{ConsumeFailure}
use Rattle.cdc_amqp_dialogue.specs.declared.errors.ConsumeFailure.TheVariants.{Read, Frame, Fault, Store, Write}
use Rattle.cdc_amqp_dialogue.specs.declared.errors.ConsumeFailure.TheVariants.{OutOfMemory}

-- a failed write
abbrev pub is_write_failure : ConsumeFailure → Bool
is_write_failure (Write why) = true
is_write_failure (Read why) = false
is_write_failure (Frame why) = false
is_write_failure (Fault why) = false
is_write_failure (Store why) = false
is_write_failure OutOfMemory = false

-- a failure of a write, of the store or of memory
abbrev pub IsPlain : ConsumeFailure → Type 0
IsPlain (Write why) = Unit {0}
IsPlain (Store why) = Unit {0}
IsPlain OutOfMemory = Unit {0}
IsPlain (Read why) = ⊥
IsPlain (Frame why) = ⊥
IsPlain (Fault why) = ⊥

-- a part of a text was written
abbrev pub WritesPart : Option (List ℕ) → Option (List ℕ) → List ℕ → Type 0
WritesPart old new text = (n : ℕ) × Appends old new (take n text)

-- a text was written, or a part of it since the write failed; there is no other failure
abbrev pub Sends : {T : Type 0} → Option (List ℕ) → Option (List ℕ) → List ℕ → Result T ConsumeFailure → Type 0
Sends old new text (Ok done) = Appends old new text
Sends old new text (Err why) = (is_write_failure why ≡ true) × WritesPart old new text

-- one came from the other, and meanwhile the store was given nothing more
abbrev pub KeepsNothing : {K S : Type 0} → (K → K → List S → Type 0) → K → K → Type 0
KeepsNothing {K} {S} HasKept old new = (first : K) (states : List S) → HasKept first old states → HasKept first new states

-- and meanwhile it was given the follower for which one stands
abbrev pub KeepsIt : {K S : Type 0} → (K → K → List S → Type 0) → (K → S → Type 0) → K → K → Type 0
KeepsIt {K} {S} HasKept Stands old new = (first : K) (states : List S) (state : S) → Stands old state
    → HasKept first old states → HasKept first new (states ++ state ∷ [])

-- the one stands for what the other stood for
abbrev pub StandsStill : {K S : Type 0} → (K → S → Type 0) → K → K → Type 0
StandsStill {K} {S} Stands old new = (state : S) → Stands old state → Stands new state

-- a failed step did all but write, or nothing at all
abbrev pub FailsBy : Bool → Type 0 → Type 0 → Type 0
FailsBy true Done Same = Done
FailsBy false Done Same = Same

-- the follower is saved, and then acknowledged by this tag, if it is due
abbrev pub SavesBy : Type 0 → Type 0 → Bool → ℕ → Option (List ℕ) → Option (List ℕ) → Result Bool ConsumeFailure → Type 0
SavesBy Kept Same due tag old new (Ok true) = (due ≡ true) × Kept × Appends old new (frame_of (sent.Ack tag))
SavesBy Kept Same due tag old new (Ok false) = (due ≡ false) × Same × (new ≡ old)
SavesBy Kept Same due tag old new (Err why) = FailsBy (is_write_failure why)
    ((due ≡ true) × Kept × WritesPart old new (frame_of (sent.Ack tag))) (Same × (new ≡ old))

-- the consumer begins to close, if it is due
abbrev pub ClosesBy : Bool → State → State → Option (List ℕ) → Option (List ℕ) → Result Bool ConsumeFailure → Type 0
ClosesBy due state after old new (Ok true) =
    (due ≡ true) × (after ≡ closing state) × Appends old new (frame_of sent.Cancel)
ClosesBy due state after old new (Ok false) = (after ≡ state) × (new ≡ old)
ClosesBy due state after old new (Err why) = FailsBy (is_write_failure why)
    ((due ≡ true) × (after ≡ closing state) × WritesPart old new (frame_of sent.Cancel)) (new ≡ old)

-- a save is due: something is unsaved, and it is to be saved at once, or there are so many unsaved deliveries
abbrev pub is_due : ℕ → ℕ → ℕ → Bool → Bool
is_due every taken saved at_once = nat_lt saved taken && (at_once || nat_le every (taken - saved))

-- it is to be saved at once if the consumer closes, or no whole frame is waiting
abbrev pub is_save_due : ℕ → ℕ → ℕ → Bool → Bool → Bool
is_save_due every taken saved closes waiting = is_due every taken saved (closes || not waiting)

-- the texts of a request fit their fields, if there is one
abbrev pub FitsOption : Option Request → Type 0
FitsOption None = Unit {0}
FitsOption (Some r) = Fits r
