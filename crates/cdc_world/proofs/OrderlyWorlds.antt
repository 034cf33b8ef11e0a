-- Whatever steps are taken, ledger, connector and broker keep what holds of them, so that what the broker took is a
-- replay of the ledger's line.
use Rattle.cdc_world.proofs.Words.{Ack, Answer, Arguments, Arrive, BatchError, BatchResults, Break, Close, CloseLedger, Confirm, Connect, Contains, Contains-append_left, Contains-push, Contains-push_cases, Course, Crash, Err, History, IsAtStart, IsOrderly, IsReached, IsReplay, IsTried, List, Next, None, Ok, Option, Packet, Poll, PollStep, Publish, PublishStep, Reading, Result, Rewind, Save, Saved, Send, Some, Start, StartAt, StartError, Step, Submit, Subscription, Take, WorldState, [], after_answer, all_sent, ap, append-nil, begun, cases_Bool, cond_some, confirms_of, connector_in, empty_history, events, events_after, first_flight, inl, inr, is_taken, items_of, length, nat_lt, new_course, new_world, next, next_delivery, next_packet, next_poll, none-some, none_follow, none_there, not, numbered, progress_of, refl, same_Some, saved_in, saves, start_of, submit, subst, sym, take, taken_after-true, taken_items, true, unconfirmed, with_arrival, with_batch, with_offer, with_poll, with_sent, with_session, with_start, ℕ, ◌&&◌, ◌++◌, ◌-◌, ◌∙◌, ◌∷◌, ◌≡◌}
use Rattle.std.specs.Option.{option_map}
use Rattle.cdc_ledger.specs.Sound.{IsSound}
use Rattle.cdc_ledger.proofs.KeptLaws.{IsSound-submit}
use Rattle.cdc_ledger.proofs.SoundLaws.{IsSound-closed, IsSound-empty}
use Rattle.cdc_laws.specs.Arrivals.{AreOfTaken, taken_of}
use Rattle.cdc_laws.specs.Connectors.{KeepsTo, held_start, held_timestamp}
use Rattle.cdc_laws.specs.GoingOn.{GoesOn}
use Rattle.cdc_laws.specs.Line.{line_after}
use Rattle.cdc_laws.proofs.Arrivals.{IsReplay-taken}
use Rattle.cdc_laws.proofs.Brokers.{AreOfTaken-confirmed, AreOfTaken-taken, taken_of-push}
use Rattle.cdc_laws.proofs.Connectors.{IsConnectorRun-keeps, KeepsTo-begin, KeepsTo-confirm, KeepsTo-end, KeepsTo-goes_on, KeepsTo-half_started, KeepsTo-save, KeepsTo-sent, KeepsTo-start}
use Rattle.cdc_laws.proofs.GoingOn.{GoesOn-closed, GoesOn-submit}
use Rattle.cdc_laws.proofs.Offers.{KeepsTo-offer}
use Rattle.cdc_types.specs.Timestamps.{last_timestamp_from}
use Rattle.cdc_world.proofs.NumberedElements.{Contains_numbered}
use Rattle.cdc_world.proofs.RelatedWorlds.{Keeps, Leaves, Leaves_on, Relates, next_leaves, reached_has}

-- a store at the start holds nothing, or a timestamp that is its start
none_yet : (held : Option Saved) → IsAtStart held → held_timestamp held ≡ held_start held
none_yet None start = refl
none_yet (Some saved) start = start

-- before the first step
IsOrderly-new : (bindings : List Arguments) (window : ℕ) (held : Option Saved) → IsAtStart held
    → IsOrderly (new_world bindings window held)
IsOrderly-new bindings window held start = record {
  sound = IsSound-empty;
  received = [];
  answers = λ confirm there. there;
  connector = KeepsTo-begin empty_history held (none_yet held start);
  arrived = [];
  packets = λ packet there. there;
  accepted = refl;
  confirmed = λ session tag there. absurd (none_there _ there);
}

-- ---- when parts of the world change

-- the ledger goes on, the session changes, or what the store holds, or the subscribers
IsOrderly-with : (w : WorldState) (g : History) (held : Option Saved) (session : Option Course)
    (subscriptions : List Subscription) (is : IsOrderly w) → IsSound g
    → KeepsTo g (record (connector_in w is.received) { held = held; session = session })
    → IsOrderly (record w { history = g; held = held; session = session; subscriptions = subscriptions })
IsOrderly-with w g held session subscriptions is sound keeps = record {
  sound = sound;
  received = is.received;
  answers = is.answers;
  connector = keeps;
  arrived = is.arrived;
  packets = is.packets;
  accepted = is.accepted;
  confirmed = is.confirmed;
}

-- the subscribers alone
IsOrderly-subscriptions : (w : WorldState) (subscriptions : List Subscription) → IsOrderly w
    → IsOrderly (record w { subscriptions = subscriptions })
IsOrderly-subscriptions w subscriptions is =
    IsOrderly-with w w.history w.held w.session subscriptions is is.sound is.connector

-- the ledger, which goes on
IsOrderly-history : (w : WorldState) (g : History) → IsOrderly w → GoesOn w.history g → IsSound g
    → IsOrderly (record w { history = g })
IsOrderly-history w g is on sound =
    IsOrderly-with w g w.held w.session w.subscriptions is sound
    (KeepsTo-goes_on w.history g (connector_in w is.received) on is.connector)

-- the session, and what the store holds
IsOrderly-session : (w : WorldState) (held : Option Saved) (session : Option Course) (is : IsOrderly w)
    → KeepsTo w.history (record (connector_in w is.received) { held = held; session = session })
    → IsOrderly (record w { held = held; session = session })
IsOrderly-session w held session is keeps =
    IsOrderly-with w w.history held session w.subscriptions is is.sound keeps

-- ---- the connector

-- a session that starts
IsOrderly-started : (w : WorldState) (at : Option ℕ) (answer : Result Saved StartError) → IsOrderly w
    → begun w.held at ≡ answer → Leaves IsOrderly (with_session w answer)
IsOrderly-started w at (Ok saved) is new =
    IsOrderly-session w (Some saved) (Some (new_course saved w.window)) is
    (KeepsTo-start w.history (connector_in w is.received) at saved w.window is.connector new)
IsOrderly-started w at (Err why) is new = tt

-- when the connector is down
IsOrderly-starting : (w : WorldState) (at : Option ℕ) (session : Option Course) → IsOrderly w
    → Leaves IsOrderly (with_start w at session)
IsOrderly-starting w at None is = IsOrderly-started w at (begun w.held at) is refl
IsOrderly-starting w at (Some course) is = tt

-- it is offered the events that it wants
IsOrderly-polled : (w : WorldState) (course : Course) (poll : Poll) → IsOrderly w → w.session ≡ Some course
    → next_poll course ≡ Some poll → IsOrderly (with_poll w course poll)
IsOrderly-polled w course poll is there wants =
    let asked =
    cond_some (all_sent course && nat_lt (length (unconfirmed course)) course.window && not course.complete) (record {
      after = last_timestamp_from course.base course.offered;
      limit = course.window - length (unconfirmed course);
    }) poll wants in
    let reading : Reading = record {
      after = poll.after;
      limit = poll.limit;
      events = take poll.limit (events_after poll.after (events w.history));
      complete = none_follow w.history poll;
    } in
    IsOrderly-session w w.held (Some (with_offer reading.events reading.complete course)) is
    (KeepsTo-offer w.history (connector_in w is.received) course reading is.sound is.connector there
    (record { events_are = refl; complete_is = refl }) (sym (ap (λ (p : Poll). p.after) asked.1)))

-- it sends its next packet
IsOrderly-sent : (w : WorldState) (course : Course) (packet : Packet) → IsOrderly w → w.session ≡ Some course
    → next_packet course ≡ Some packet
    → IsOrderly (record w { packets = w.packets ++ packet ∷ []; session = Some (with_sent (Some packet) course) })
IsOrderly-sent w course packet is there sends = record {
  sound = is.sound;
  received = is.received;
  answers = is.answers;
  connector = KeepsTo-sent w.history (connector_in w is.received) is.connector course there packet sends;
  arrived = is.arrived;
  packets = λ p came. Contains-append_left w.packets (packet ∷ []) p (is.packets p came);
  accepted = is.accepted;
  confirmed = is.confirmed;
}

-- a confirm comes to it
IsOrderly-answered : (w : WorldState) (course : Course) (confirm : Confirm) → IsOrderly w → w.session ≡ Some course
    → Contains w.confirms confirm
    → IsOrderly (record w { session = Some (after_answer course confirm.session confirm.answer) })
IsOrderly-answered w course confirm is there sent = record {
  sound = is.sound;
  received = is.received ++ confirm ∷ [];
  answers = λ c came.
      elim (Contains-push_cases is.received confirm c came) [
        | inl old ↦ is.answers c old
        | inr new ↦ subst (Contains w.confirms) new sent
      ];
  connector = subst (λ session. KeepsTo w.history
      (record (connector_in w (is.received ++ confirm ∷ [])) { session = session }))
      (ap (option_map (λ x. after_answer x confirm.session confirm.answer)) there)
      (KeepsTo-confirm w.history (connector_in w is.received) confirm is.connector);
  arrived = is.arrived;
  packets = is.packets;
  accepted = is.accepted;
  confirmed = is.confirmed;
}

-- ---- the broker

-- it confirms a publish that it takes
confirms_taken : (confirms : List Confirm) (accepted : List Packet) (packet : Packet) → AreOfTaken confirms accepted
    → AreOfTaken (confirms ++ confirms_of packet) (accepted ++ packet ∷ [])
confirms_taken confirms accepted (Connect session) are =
    rw (append-nil confirms) (AreOfTaken-taken confirms accepted (Connect session) are)
confirms_taken confirms accepted (Publish session tag item) are =
    AreOfTaken-confirmed confirms (accepted ++ Publish session tag item ∷ []) session tag item
    (AreOfTaken-taken confirms accepted (Publish session tag item) are)
    (Contains-push accepted (Publish session tag item))

-- a packet that was sent comes to it, and it takes that
IsOrderly-taken : (w : WorldState) (packet : Packet) → IsOrderly w → Contains w.packets packet
    → is_taken w.accepted packet ≡ true → IsOrderly (with_arrival w packet true)
IsOrderly-taken w packet is sent takes = record {
  sound = is.sound;
  received = is.received;
  answers = λ c came. Contains-append_left w.confirms (confirms_of packet) c (is.answers c came);
  connector = is.connector;
  arrived = is.arrived ++ packet ∷ [];
  packets = λ p came.
      elim (Contains-push_cases is.arrived packet p came) [
        | inl old ↦ is.packets p old
        | inr new ↦ subst (Contains w.packets) new sent
      ];
  accepted = ap (λ ps. ps ++ packet ∷ []) is.accepted
      ∙ sym (taken_of-push is.arrived packet
      ∙ taken_after-true (taken_of is.arrived) packet (ap (λ ps. is_taken ps packet) (sym is.accepted) ∙ takes));
  confirmed = confirms_taken w.confirms w.accepted packet is.confirmed;
}

-- or ignores it
IsOrderly-arrived : (w : WorldState) (packet : Packet) → IsOrderly w → Contains w.packets packet
    → IsOrderly (with_arrival w packet (is_taken w.accepted packet))
IsOrderly-arrived w packet is sent =
    elim (cases_Bool (is_taken w.accepted packet)) [
      | inl takes ↦ rw takes (IsOrderly-taken w packet is sent takes)
      | inr passes ↦ rw passes is
    ]

-- ---- each step

-- a batch, taken or refused
IsOrderly-submitted : (w : WorldState) (answer : Result (BatchResults × History) BatchError)
    → ((found : BatchResults × History) → answer ≡ Ok found → GoesOn w.history found.1 × IsSound found.1)
    → IsOrderly w → Leaves IsOrderly (with_batch w answer)
IsOrderly-submitted w (Ok found) on is =
    let goes = on found refl in IsOrderly-history w found.1 is goes.0 goes.1
IsOrderly-submitted w (Err why) on is = tt

-- one that is done
IsOrderly-step : (w : WorldState) (s : Step) → IsOrderly w → Leaves IsOrderly (next w s)
IsOrderly-step w (Submit batch) is =
    IsOrderly-submitted w (submit w.history batch) (λ found answers. (
      GoesOn-submit w.history batch found is.sound answers,
      IsSound-submit w.history batch found is.sound answers,
    )) is
IsOrderly-step w CloseLedger is =
    IsOrderly-history w (record w.history { closed = true }) is (GoesOn-closed w.history)
    (IsSound-closed w.history is.sound)
IsOrderly-step w Start is = IsOrderly-starting w None w.session is
IsOrderly-step w (StartAt time) is = IsOrderly-starting w (Some time) w.session is
IsOrderly-step w Crash is =
    Leaves_on IsOrderly w.session _ (λ course there.
    IsOrderly-session w w.held None is (KeepsTo-end w.history (connector_in w is.received) is.connector))
IsOrderly-step w PollStep is =
    Leaves_on IsOrderly w.session _ (λ course there.
    Leaves_on IsOrderly (next_poll course) _ (λ poll wants. IsOrderly-polled w course poll is there wants))
IsOrderly-step w PublishStep is =
    Leaves_on IsOrderly w.session _ (λ course there.
    Leaves_on IsOrderly (next_packet course) _ (λ packet sends. IsOrderly-sent w course packet is there sends))
IsOrderly-step w (Arrive k) is =
    Leaves_on IsOrderly (numbered w.packets k) _ (λ packet found.
    IsOrderly-arrived w packet is (Contains_numbered w.packets k packet found))
IsOrderly-step w (Answer k) is =
    Leaves_on IsOrderly w.session _ (λ course there.
    Leaves_on IsOrderly (numbered w.confirms k) _ (λ confirm found.
    IsOrderly-answered w course confirm is there (Contains_numbered w.confirms k confirm found)))
IsOrderly-step w Save is =
    Leaves_on IsOrderly w.session _ (λ course there.
    IsOrderly-session w (Some (progress_of course)) w.session is
    (KeepsTo-save w.history (connector_in w is.received) course is.connector there))
IsOrderly-step w (Send i) is =
    Leaves_on IsOrderly (numbered w.subscriptions i) _ (λ s found.
    Leaves_on IsOrderly (next_delivery w s) _ (λ d there. IsOrderly-subscriptions w _ is))
IsOrderly-step w (Rewind i) is =
    Leaves_on IsOrderly (numbered w.subscriptions i) _ (λ s found. IsOrderly-subscriptions w _ is)
IsOrderly-step w (Break i) is =
    Leaves_on IsOrderly (numbered w.subscriptions i) _ (λ s found. IsOrderly-subscriptions w _ is)
IsOrderly-step w (Take i) is =
    Leaves_on IsOrderly (numbered w.subscriptions i) _ (λ s found.
    Leaves_on IsOrderly (first_flight s.flight) _ (λ first there. IsOrderly-subscriptions w _ is))
IsOrderly-step w (Ack i k) is =
    Leaves_on IsOrderly (numbered w.subscriptions i) _ (λ s found.
    Leaves_on IsOrderly (numbered s.acks k) _ (λ position acked. IsOrderly-subscriptions w _ is))
IsOrderly-step w (Close i) is =
    Leaves_on IsOrderly (numbered w.subscriptions i) _ (λ s found. IsOrderly-subscriptions w _ is)

-- ---- a store that fails

-- a start that is tried comes while the connector is down
tried_down : (w : WorldState) (at : Option ℕ) (session : Option Course) → IsTried (with_start w at session)
    → session ≡ None
tried_down w at None tried = refl
tried_down w at (Some course) tried = absurd tried

-- what a start saves
saved_by : (answer : Result Saved StartError) (saved : Saved) → saved_in answer ≡ Some saved → answer ≡ Ok saved
saved_by (Ok other) saved is = ap (λ (x : Saved). Ok x) (same_Some other saved is)
saved_by (Err why) saved is = absurd (none-some saved is)

-- the record of a start was written all the same
IsOrderly-start_written : (w : WorldState) (at : Option ℕ) → IsOrderly w → (saved : Saved)
    → IsTried (with_start w at w.session) → saved_in (begun w.held at) ≡ Some saved
    → IsOrderly (record w { held = Some saved })
IsOrderly-start_written w at is saved tried saves =
    IsOrderly-session w (Some saved) w.session is (subst (λ session. KeepsTo w.history
    (record (connector_in w is.received) { held = Some saved; session = session }))
    (sym (tried_down w at w.session tried))
    (KeepsTo-half_started w.history (connector_in w is.received) at saved is.connector
    (saved_by (begun w.held at) saved saves)))

-- what a session saves
saved_of : (session : Option Course) (saved : Saved) → option_map progress_of session ≡ Some saved
    → (course : Course) × (session ≡ Some course) × (progress_of course ≡ saved)
saved_of None saved is = absurd (none-some saved is)
saved_of (Some course) saved is = (course, refl, same_Some (progress_of course) saved is)

-- the record was written all the same
IsOrderly-written : (w : WorldState) (s : Step) → IsOrderly w → (saved : Saved) → IsTried (next w s)
    → saves w s ≡ Some saved → IsOrderly (record w { held = Some saved })
IsOrderly-written w Start is saved tried saves = IsOrderly-start_written w None is saved tried saves
IsOrderly-written w (StartAt time) is saved tried saves =
    IsOrderly-start_written w (Some time) is saved tried saves
IsOrderly-written w Save is saved tried saves =
    let of = saved_of w.session saved saves in
    IsOrderly-session w (Some saved) w.session is
    (subst (λ (s : Saved). KeepsTo w.history (record (connector_in w is.received) { held = Some s })) of.2
    (KeepsTo-save w.history (connector_in w is.received) of.0 is.connector of.1))
IsOrderly-written w s is saved tried saves = absurd (none-some saved saves)

-- ---- every world that steps lead to

-- whatever is answered
IsOrderly-next : Relates (Keeps IsOrderly) Next
IsOrderly-next w s answer w' next is =
    next_leaves IsOrderly w s answer w' next is (IsOrderly-written w s is) (IsOrderly-step w s is)

-- so it is in each of them
pub IsOrderly-reached : (w : WorldState) → IsReached w → IsOrderly w
IsOrderly-reached = reached_has IsOrderly IsOrderly-next IsOrderly-new

-- what the broker took is a replay of the ledger's line after the start
pub IsReplay-orderly : (w : WorldState) → IsOrderly w
    → IsReplay (taken_items w) (line_after w.history (start_of w))
IsReplay-orderly w is =
    let confirmed : AreOfTaken is.received (taken_of is.arrived) =
    subst (AreOfTaken is.received) is.accepted (λ session tag came. is.confirmed session tag (is.answers _ came)) in
    subst (λ ps. IsReplay (items_of ps) (line_after w.history (start_of w))) (sym is.accepted)
    (IsReplay-taken w.history (start_of w) w.packets is.arrived is.received is.sound
    (IsConnectorRun-keeps w.history (connector_in w is.received) is.connector) is.packets confirmed)
