-- What is acknowledged is saved, what is rejected is no entry, and what is taken is saved and acknowledged.
use Rattle.std.specs.Prelude.{◌≡◌, ◌⊎◌, ◌≤◌, ◌+◌, ◌-◌, ℕ, List, [], ◌∷◌, ◌++◌, take, Bool, true, false, length}
use Rattle.std.specs.Prelude.{None, Ok}
use Rattle.std.specs.List.{AllByRecursion}
use Rattle.cdc_amqp_methods.specs.declared.requests.Request.{Request}
use Rattle.cdc_amqp_methods.specs.declared.requests.Request.TheVariants.{Ack, Reject}
use Rattle.cdc_amqp_consumer.specs.declared.replies.Phase.{Phase}
use Rattle.cdc_amqp_consumer.specs.declared.replies.Phase.TheVariants as phase
use Rattle.cdc_amqp_consumer.specs.declared.replies.Settings.{Settings}
use Rattle.cdc_amqp_consumer.specs.Machine.{State}
use Rattle.cdc_follow.specs.declared.entries.Entry.{Entry}
use Rattle.cdc_amqp_dialogue.specs.Deliveries.{Delivery, bad_tags, delivery_entry, entries_of}
use Rattle.cdc_amqp_dialogue.specs.Taking.{Plan, follow_entries}
use Rattle.cdc_amqp_dialogue.specs.Worlds.{Step, Comes, Closes, Looks, Saves, Acknowledges, World, begins, happens, run}

-- the delivery with this tag carries an entry
pub record Carries (chained : Bool) (deliveries : List Delivery) (tag : ℕ) : Type 0 where
  pub before : List Delivery
  pub delivery : Delivery
  pub later : List Delivery
  pub all : deliveries ≡ before ++ delivery ∷ later
  pub tag_is : tag ≡ length before + 1
  pub entry : Entry
  pub carried : delivery_entry chained delivery ≡ Ok entry

-- an acknowledgement is of at most so many deliveries, the last of which carries an entry
abbrev pub IsAllowed : Bool → List Delivery → ℕ → Request → Type 0
IsAllowed chained deliveries count (Ack tag) = (1 ≤ tag) × (tag ≤ count) × Carries chained deliveries tag
IsAllowed chained deliveries count _ = Unit {0}

-- the tags of the deliveries that are rejected
abbrev pub rejected_tag : Request → List ℕ
rejected_tag (Reject tag) = tag ∷ []
rejected_tag _ = []

unfoldable pub rejected_tags : List Request → List ℕ
rejected_tags [] = []
rejected_tags (request ∷ requests) = rejected_tag request ++ rejected_tags requests

-- a delivery is under way
abbrev pub is_under_way : Phase → Bool
is_under_way phase.Header = true
is_under_way phase.Body = true
is_under_way _ = false

-- the tag of a delivery that is under way is the number of deliveries plus one
abbrev pub IsReady : State → Type 0
IsReady s = is_under_way s.phase ≡ true → s.tag ≡ s.delivered + 1

-- the follower that the store was given last is the fold over the entries of the first so many deliveries; it was given
-- none if these are none
abbrev pub IsKept : {S R : Type 0} → Plan S R → List Delivery → ℕ → List S → Type 0
IsKept {S} plan deliveries saved kept =
    ((kept ≡ []) × (saved ≡ 0))
    ⊎ ((before : List S)
    × (kept ≡ before ++ follow_entries plan (entries_of plan.rules.chained (take saved deliveries)) ∷ []))

-- The number of deliveries is the tag of the last one. All of them are handled while following goes on. Of those that
-- are handled, the ones that carry no entry are rejected, if these are parked, and no other ones; all of them are, since
-- following stops at the first such one if they aren't parked. The last one taken carries an entry, and none after it
-- does. The store has the follower of the first `saved` deliveries. Each acknowledgement is of at most so many, and names
-- one that carries an entry: so none that is rejected.
pub record IsSound {S R : Type 0} (plan : Plan S R) (w : World S R) : Type 0 where
  pub counted : w.state.delivered ≡ length w.deliveries
  pub ready : IsReady w.state
  pub handled : w.handled ≤ length w.deliveries
  pub all : w.stop ≡ None → w.handled ≡ length w.deliveries
  pub rejected : rejected_tags w.sent ≡ bad_tags plan.rules.chained 1 (take w.handled w.deliveries)
  pub parked : plan.parks ≡ false → rejected_tags w.sent ≡ []
  pub taken : w.taken ≤ w.handled
  pub last : (w.taken ≡ 0) ⊎ Carries plan.rules.chained w.deliveries w.taken
  pub later : entries_of plan.rules.chained (take w.handled w.deliveries)
      ≡ entries_of plan.rules.chained (take w.taken w.deliveries)
  pub saved : w.saved ≤ w.taken
  pub saved_last : (w.saved ≡ 0) ⊎ Carries plan.rules.chained w.deliveries w.saved
  pub kept : IsKept plan w.deliveries w.saved w.kept
  pub acknowledged : AllByRecursion (IsAllowed plan.rules.chained w.deliveries w.saved) w.sent

-- whatever frames come, and whatever happens between them
abbrev pub AcknowledgedIsSaved : Type 0 → Type 0 → Type 0
AcknowledgedIsSaved S R = (settings : Settings) (plan : Plan S R) (steps : List Step)
    → IsSound plan (run settings plan begins steps)

-- Before a frame is awaited each save is acknowledged; all that was taken is saved unless a whole frame was waiting; and
-- the last `every` deliveries aren't all unsaved.
pub record IsSettled {S R : Type 0} (most : ℕ) (w : World S R) : Type 0 where
  pub acknowledged : w.acknowledged ≡ w.saved
  pub waiting : w.waiting ≡ false → w.saved ≡ w.taken
  pub paced : w.taken ≤ w.saved + (most - 1)

-- before the consumer closes, all that was taken is saved and acknowledged
pub record IsComplete {S R : Type 0} (w : World S R) : Type 0 where
  pub acknowledged : w.acknowledged ≡ w.saved
  pub saved : w.saved ≡ w.taken

-- in this world this step may be next
abbrev pub MayBeNext : {S R : Type 0} → ℕ → World S R → Step → Type 0
MayBeNext every w (Comes f) = IsSettled every w
MayBeNext every w Closes = IsComplete w
MayBeNext every w (Looks waiting) = Unit {0}
MayBeNext every w Saves = Unit {0}
MayBeNext every w Acknowledges = Unit {0}

-- from this world on, each step may be next
unfoldable pub AreSettled : {S R : Type 0} → Settings → Plan S R → ℕ → World S R → List Step → Type 0
AreSettled settings plan every w [] = Unit {0}
AreSettled settings plan every w (step ∷ steps) =
    MayBeNext every w step × AreSettled settings plan every (happens settings plan w step) steps
