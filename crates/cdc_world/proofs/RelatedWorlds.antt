-- What each step keeps, it keeps in a row, in a play and in every world that steps lead to.
use Rattle.cdc_world.proofs.Words.{Ack, Answer, Arguments, Arrive, BatchError, BatchResults, Break, Close, CloseLedger, Contains, Course, Crash, Delivery, Did, DoesAll, Err, FailsTimes, Going, History, IsAtStart, IsPlayBy, IsReached, IsTried, Leads, List, Next, NextPast, None, Ok, Option, OutOfMemory, Outcome, Packet, PollStep, PublishStep, Result, Rewind, Risks, Save, Saved, Send, Some, Start, StartAt, StartError, Step, StepError, StopsAt, Store, Submit, Subscription, Take, WorldState, [], ap, begun, drop, first_flight, inl, inr, is_taken, new_course, new_world, next, next_delivery, next_packet, next_poll, numbered, refl, saves, submit, subst, suc, sym, take, true, with_ack, with_arrival, with_batch, with_break, with_close, with_delivery, with_rewind, with_session, with_start, with_subscription, with_taking, zero, ℕ, ◌>>=◌, ◌∷◌, ◌≡◌}
use Rattle.cdc_world.proofs.NumberedElements.{Contains_numbered}
use Rattle.cdc_progress.specs.StoreError.TheVariants as store

-- ---- what a step leaves

-- this holds for the world after a step, if the step is done
abbrev pub Leaves : (WorldState → Type 0) → Outcome → Type 0
Leaves P (Ok after) = P after.1
Leaves P (Err why) = Unit {0}

-- what a step leaves if it is done holds for the world after it
Leaves_so : (P : WorldState → Type 0) (outcome : Outcome) (did : Did) (w : WorldState) → Leaves P outcome
    → outcome ≡ Ok (did, w) → P w
Leaves_so P (Ok after) did w holds is =
    let same : after ≡ (did, w) = cc in subst P (ap (λ (x : Did × WorldState). x.1) same) holds
Leaves_so P (Err why) did w holds is = cc

-- a step for which there is nothing isn't done, so only what it does with what there is needs to be shown
pub Leaves_on : {A : Type 0} (P : WorldState → Type 0) (o : Option A) (rest : A → Outcome)
    → ((x : A) → o ≡ Some x → Leaves P (rest x)) → Leaves P (o >>= rest)
Leaves_on P (Some x) rest further = further x refl
Leaves_on P None rest further = tt

-- ---- what a step changes

-- this holds of what each step of a subscriber and its queue makes of the subscription
pub record EachMove (w : WorldState) (s : Subscription) (P : Subscription → Type 0) : Type 0 where
  pub sends : (d : Delivery) → next_delivery w s ≡ Some d → P (with_delivery d s)
  pub rewinds : P (with_rewind s)
  pub breaks : P (with_break s)
  pub takes : (first : Delivery × List Delivery) → first_flight s.flight ≡ Some first
      → P (with_taking first.0 first.1 s)
  pub acks : (position : ℕ) → Contains s.acks position → P (with_ack position s)
  pub closes : P (with_close s)

-- a step of ledger or connector leaves broker and subscriptions as they are; one of the broker takes a packet or not;
-- and one of a subscriber changes its subscription
module _ (P : WorldState → Type 0) (w : WorldState)
    (others : (history : History) (held : Option Saved) (session : Option Course) (packets : List Packet)
    → P (record w { history = history; held = held; session = session; packets = packets }))
    (arrives : (packet : Packet) → P (with_arrival w packet (is_taken w.accepted packet)))
    (moves : (i : ℕ) (s : Subscription) → numbered w.subscriptions i ≡ Some s
    → EachMove w s (λ s'. P (with_subscription i s' w))) where
  -- a batch, taken or refused
  leaves_batch : (answer : Result (BatchResults × History) BatchError) → Leaves P (with_batch w answer)
  leaves_batch (Ok answered) = others answered.1 w.held w.session w.packets
  leaves_batch (Err why) = tt

  -- a session that starts, if it may
  leaves_session : (answer : Result Saved StartError) → Leaves P (with_session w answer)
  leaves_session (Ok saved) = others w.history (Some saved) (Some (new_course saved w.window)) w.packets
  leaves_session (Err why) = tt

  -- and if none runs
  leaves_start : (at : Option ℕ) (session : Option Course) → Leaves P (with_start w at session)
  leaves_start at None = leaves_session (begun w.held at)
  leaves_start at (Some course) = tt

  -- of a step that acts on one subscriber
  of_one : (i : ℕ) (rest : Subscription → Outcome)
      → ((s : Subscription) → EachMove w s (λ s'. P (with_subscription i s' w)) → Leaves P (rest s))
      → Leaves P (numbered w.subscriptions i >>= rest)
  of_one i rest further = Leaves_on P (numbered w.subscriptions i) rest (λ s found. further s (moves i s found))

  -- so whichever step is done
  pub step_leaves : (s : Step) → Leaves P (next w s)
  step_leaves (Submit batch) = leaves_batch (submit w.history batch)
  step_leaves CloseLedger = others (record w.history { closed = true }) w.held w.session w.packets
  step_leaves Start = leaves_start None w.session
  step_leaves (StartAt time) = leaves_start (Some time) w.session
  step_leaves Crash = Leaves_on P w.session _ (λ course found. others w.history w.held None w.packets)
  step_leaves PollStep =
      Leaves_on P w.session _ (λ course found.
      Leaves_on P (next_poll course) _ (λ poll wants. others w.history w.held _ w.packets))
  step_leaves PublishStep =
      Leaves_on P w.session _ (λ course found.
      Leaves_on P (next_packet course) _ (λ packet sends. others w.history w.held _ _))
  step_leaves (Arrive k) = Leaves_on P (numbered w.packets k) _ (λ packet found. arrives packet)
  step_leaves (Answer k) =
      Leaves_on P w.session _ (λ course found.
      Leaves_on P (numbered w.confirms k) _ (λ confirm came. others w.history w.held _ w.packets))
  step_leaves Save = Leaves_on P w.session _ (λ course found. others w.history _ w.session w.packets)
  step_leaves (Send i) =
      of_one i _ (λ s each. Leaves_on P (next_delivery w s) _ (λ d found. each.sends d found))
  step_leaves (Rewind i) = of_one i _ (λ s each. each.rewinds)
  step_leaves (Break i) = of_one i _ (λ s each. each.breaks)
  step_leaves (Take i) =
      of_one i _ (λ s each. Leaves_on P (first_flight s.flight) _ (λ first found. each.takes first found))
  step_leaves (Ack i k) =
      of_one i _ (λ s each.
      Leaves_on P (numbered s.acks k) _ (λ position found. each.acks position
      (Contains_numbered s.acks k position found)))
  step_leaves (Close i) = of_one i _ (λ s each. each.closes)

-- ---- whatever is answered

-- what a step leaves, if it holds before the step, and also for the world in which the store holds what the step
-- saves
pub next_leaves : (P : WorldState → Type 0) (w : WorldState) (s : Step)
    (answer : Result Did StepError) (w' : WorldState) → Next w s answer w' → P w
    → ((saved : Saved) → IsTried (next w s) → saves w s ≡ Some saved → P (record w { held = Some saved }))
    → Leaves P (next w s) → P w'
next_leaves P w s (Ok did) w' is before held holds = Leaves_so P (next w s) did w' holds is
next_leaves P w s (Err OutOfMemory) w' is before held holds = subst P (sym is.1.1) before
next_leaves P w s (Err (Store store.ReadFault)) w' (uses, (tried, (loads, same))) before held holds =
    subst P (sym same) before
next_leaves P w s (Err (Store store.WriteFault)) w' (uses, (tried, (saved, is, either))) before held holds =
    elim either [
      | inl same ↦ subst P (sym same) before
      | inr new ↦ subst P (sym new) (held saved tried is)
    ]
next_leaves P w s (Err (Store why)) w' is before held holds = absurd is.1.1
next_leaves P w s (Err why) w' is before held holds = subst P (sym is.1) before

-- ---- steps in a row

-- each step that is taken like this leads to a world that the one before it is related to like this
abbrev pub Relates : (WorldState → WorldState → Type 0) → Going → Type 0
Relates R Goes = (w : WorldState) (s : Step) (answer : Result Did StepError) (w' : WorldState) → Goes w s answer w'
    → R w w'

-- if each world is so related to itself, and the relation is transitive, steps in a row relate worlds if each step
-- does
module _ (R : WorldState → WorldState → Type 0) (same : (w : WorldState) → R w w)
    (on : (u v w : WorldState) → R u v → R v w → R u w) where
  -- to what is the same
  same_as : (w w' : WorldState) → w' ≡ w → R w w'
  same_as w w' is = subst (R w) (sym is) (same w)

  -- through steps, whatever their answers
  pub has_leads : Relates R Next → (w : WorldState) (steps : List Step) (w' : WorldState) → Leads w steps w' → R w w'
  has_leads has w [] w' leads = same_as w w' leads
  has_leads has w (s ∷ steps) w' (answer, between, first, leads) =
      on w between w' (has w s answer between first) (has_leads has between steps w' leads)

  -- through tries of a step that all failed
  has_fails : Relates R Next → (risks : Risks) (failed : ℕ) (w : WorldState) (s : Step) (w' : WorldState)
      → FailsTimes risks failed w s w' → R w w'
  has_fails has risks zero w s w' fails = same_as w w' fails
  has_fails has risks (suc failed) w s w' (answer, between, (before, (passing, last))) =
      on w between w' (has_fails has risks failed w s between before) (has between s answer w' last.0)

  -- so through a step that is tried again
  pub has_past : Relates R Next → (risks : Risks) (tries : ℕ) → Relates R (NextPast risks tries)
  has_past has risks tries w s answer w' next =
      on w next.before w' (has_fails has risks next.failed w s next.before next.fails)
      (has next.before s answer w' next.last.0)

  -- through steps that are all done
  has_does : (Goes : Going) → Relates R Goes → (w : WorldState) (steps : List Step) (w' : WorldState)
      → DoesAll Goes w steps w' → R w w'
  has_does Goes has w [] w' does = same_as w w' does
  has_does Goes has w (s ∷ steps) w' (did, between, (first, rest)) =
      on w between w' (has w s (Ok did) between first) (has_does Goes has between steps w' rest)

  -- and the one that is refused, if one is
  has_stops : (Goes : Going) → Relates R Goes → (w : WorldState) (steps : List Step) (refusal : Option StepError)
      (w' : WorldState) → StopsAt Goes w steps refusal w' → R w w'
  has_stops Goes has w [] None w' stops = same_as w w' stops
  has_stops Goes has w [] (Some why) w' stops = absurd stops
  has_stops Goes has w (s ∷ steps) None w' stops = absurd stops
  has_stops Goes has w (s ∷ steps) (Some why) w' stops = has w s (Err why) w' stops

  -- so through a play
  pub has_play : (Goes : Going) → Relates R Goes → (w : WorldState) (steps : List Step) (done : ℕ)
      (refusal : Option StepError) (w' : WorldState) → IsPlayBy Goes w steps done refusal w' → R w w'
  has_play Goes has w steps done refusal w' play =
      on w play.before w' (has_does Goes has w (take done steps) play.before play.does)
      (has_stops Goes has play.before (drop done steps) refusal w' play.stops)

-- one world has this if the other has it
abbrev pub Keeps : (WorldState → Type 0) → WorldState → WorldState → Type 0
Keeps P w w' = P w → P w'

-- if it holds before the first step, it holds for each world that steps lead to
pub reached_has : (P : WorldState → Type 0) → Relates (Keeps P) Next
    → ((bindings : List Arguments) (window : ℕ) (held : Option Saved) → IsAtStart held
    → P (new_world bindings window held))
    → (w : WorldState) → IsReached w → P w
reached_has P kept new w reached =
    has_leads (Keeps P) (λ v holds. holds) (λ u v x first second holds. second (first holds)) kept
    (new_world reached.bindings reached.window reached.held) reached.steps w reached.leads
    (new reached.bindings reached.window reached.held reached.at_start)
