-- The kept state after each step of the connector, and the state of the world that it represents.
use Rattle.cdc_world.proofs.Words.{ActorParts, ActorsMove, ActorsStand, Answer, Bool, Confirm, Counted, Course, Crash, Done, Err, History, IsRisked, IsStepRisked, IsTried, IsTrue, List, MayRefuseSave, Moves, MovesBy, Next, None, NotEnabled, Offers, OffersAt, Ok, Option, Outcome, Packet, Parts, Poll, PollStep, PublishStep, Result, Risks, Save, Saved, Sends, SendsAt, SessionState, Some, Stands, StartError, Step, WorldState, [], after_answer, ap, begun, counts, events, events_after, false, if◌then◌else◌, inl, inr, is_some, last_session, loads, new_course, next, next_packet, next_poll, none_follow, numbered, option_map, progress_of, refl, saved_in, saves, start_after, start_refusal, store_refusal, subst, success, sym, take, takes_memory, true, uses_store, with_answer, with_crash, with_offer, with_packet, with_poll, with_progress, with_sent, with_session, ℕ, ◌++◌, ◌+◌, ◌==◌, ◌>>=◌, ◌∙◌, ◌∷◌, ◌≡◌, ◌⊎◌}
use Rattle.cdc_progress.specs.StoreError.{StoreError}
use Rattle.cdc_progress.specs.StoreError.TheVariants as store
use Rattle.cdc_publisher.specs.Stands.{StandsFor, SessionStands}
use Rattle.cdc_publisher.specs.Starts.{HasStarted, IsStartRisked, MayRefuseStart}
use Rattle.cdc_publisher.specs.declared.errors.StartError.TheVariants as start
use Rattle.cdc_world.proofs.ActorMoves.{Moves-risked, done, unable}

-- the course of a session that is there
pub record IsCourse (kept : SessionState) (session : Option Course) : Type 0 where
  pub course : Course
  pub is : session ≡ Some course
  pub stands : StandsFor kept course

-- a kept session represents a course that is there
course_found : (kept : SessionState) (session : Option Course) → SessionStands (Some kept) session
    → IsCourse kept session
course_found kept None stands = absurd stands
course_found kept (Some course) stands = record { course = course; is = refl; stands = stands }

-- so a step finds the course that the kept session represents
course_of : (a : ActorParts) (w : WorldState) (kept : SessionState) → ActorsStand a w → a.session ≡ Some kept
    → IsCourse kept w.session
course_of a w kept st is =
    course_found kept w.session (subst (λ (s : Option SessionState). SessionStands s w.session) is st.connector.session)

-- no session, no course
no_course_found : (session : Option Course) → SessionStands None session → session ≡ None
no_course_found None stands = refl
no_course_found (Some course) stands = absurd stands

-- so a step finds that the connector is down if no session is kept
no_course : (a : ActorParts) (w : WorldState) → ActorsStand a w → a.session ≡ None → w.session ≡ None
no_course a w st is =
    no_course_found w.session (subst (λ (s : Option SessionState). SessionStands s w.session) is st.connector.session)

-- nothing that isn't something
pub none_of : {A : Type 0} (o : Option A) → is_some o ≡ false → o ≡ None
none_of None is = refl
none_of (Some x) is = cc

-- if the connector changes, or what the store holds, all else is as it was
connector_changes : (a : ActorParts) (w : WorldState) (held : Option Saved) (kept : Option SessionState)
    (session : Option Course) (packets packets' : List Packet) → ActorsStand a w → SessionStands kept session
    → packets ≡ packets' → ActorsStand (record a { session = kept; packets = packets })
    (record w { held = held; session = session; packets = packets' })
connector_changes a w held kept session packets packets' st stands same = record {
  history = st.history;
  connector = record { window = st.connector.window; session = stands; packets = same };
  broker = st.broker;
  subscribers = st.subscribers;
}

-- the events that a session was offered
offered_found : (h : History) (kept kept' : SessionState) (course : Course) (found : Option Poll)
    → OffersAt h kept course found (Ok tt) kept'
    → (poll : Poll) × ((found ≡ Some poll)
    × StandsFor kept' (with_offer (take poll.limit (events_after poll.after (events h))) (none_follow h poll) course))
offered_found h kept kept' course None offers = cc (offers.0)
offered_found h kept kept' course (Some poll) offers = (poll, (refl, offers))

-- the session is offered events
pub poll_done : (a : ActorParts) (kept kept' : SessionState) → a.session ≡ Some kept
    → Offers a.history kept (Ok tt) kept'
    → ActorsMove a PollStep (Ok Done) (record a { session = Some kept' })
poll_done a kept kept' is offers = (
  tt,
  λ w st.
      let at = course_of a w kept st is in
      let found = offered_found a.history kept kept' at.course (next_poll at.course) (offers at.course at.stands) in
      let stands =
      subst (λ (h : History). StandsFor kept' (with_offer (take found.0.limit (events_after found.0.after (events h)))
      (none_follow h found.0) at.course)) st.history found.1.1 in
      done w (with_poll w at.course found.0) PollStep Done
      (connector_changes a w w.held (Some kept') (with_poll w at.course found.0).session a.packets w.packets st stands
      st.connector.packets) (ap (λ (s : Option Course). s >>= (λ course. next_poll course >>= (λ poll. success
      (with_poll w course poll)))) at.is
      ∙ ap (λ (f : Option Poll). f >>= (λ poll. success (with_poll w at.course poll))) found.1.0) refl,
)

-- the packet that a session sent
sent_found : (kept kept' : SessionState) (packets packets' : List Packet) (course : Course) (found : Option Packet)
    → SendsAt kept packets course found (Ok tt) kept' packets'
    → (packet : Packet) × ((found ≡ Some packet)
    × (StandsFor kept' (with_sent (Some packet) course) × (packets' ≡ packets ++ packet ∷ [])))
sent_found kept kept' packets packets' course None sends = cc (sends.0)
sent_found kept kept' packets packets' course (Some packet) sends = (packet, (refl, sends))

-- the session sends a packet
pub publish_done : (a : ActorParts) (kept kept' : SessionState) (packets' : List Packet) → a.session ≡ Some kept
    → Sends kept a.packets (Ok tt) kept' packets'
    → ActorsMove a PublishStep (Ok Done) (record a { session = Some kept'; packets = packets' })
publish_done a kept kept' packets' is sends = (
  tt,
  λ w st.
      let at = course_of a w kept st is in
      let found = sent_found kept kept' a.packets packets' at.course (next_packet at.course)
      (sends at.course at.stands) in
      done w (with_packet w at.course found.0) PublishStep Done
      (connector_changes a w w.held (Some kept') (with_packet w at.course found.0).session packets'
      (w.packets ++ found.0 ∷ []) st found.1.1.0
      (found.1.1.1 ∙ ap (λ (ps : List Packet). ps ++ found.0 ∷ []) st.connector.packets))
      (ap (λ (s : Option Course). s >>= (λ course. next_packet course >>= (λ packet. success
      (with_packet w course packet)))) at.is
      ∙ ap (λ (f : Option Packet). f >>= (λ packet. success (with_packet w at.course packet))) found.1.0) refl,
)

-- something, if there is something
some_of : {A : Type 0} (o : Option A) → is_some o ≡ true → (x : A) × (o ≡ Some x)
some_of None is = cc
some_of (Some x) is = (x, refl)

-- the session is lost
pub crash_done : (a : ActorParts) → is_some a.session ≡ true
    → ActorsMove a Crash (Ok Done) (record a { session = None })
crash_done a up = (
  tt,
  λ w st.
      let kept = some_of a.session up in
      let at = course_of a w kept.0 st kept.1 in
      done w (with_crash w) Crash Done
      (connector_changes a w w.held None None a.packets w.packets st tt st.connector.packets) (rw (at.is)) refl,
)

-- a confirm that is there comes to the session, which decides whether it counts
pub answer_done : (a : ActorParts) (kept kept' : SessionState) (k : ℕ) (confirm : Confirm) (counted : Bool)
    → a.session ≡ Some kept → numbered a.confirms k ≡ Some confirm
    → ((course : Course) → StandsFor kept course → counted ≡ counts course confirm.session confirm.answer)
    → ((course : Course) → StandsFor kept course → StandsFor kept' (after_answer course confirm.session confirm.answer))
    → ActorsMove a (Answer k) (Ok (Counted counted)) (record a { session = Some kept' })
answer_done a kept kept' k confirm counted is there answer stands = (
  tt,
  λ w st.
      let at = course_of a w kept st is in
      let found : numbered w.confirms k ≡ Some confirm = ap (λ b. numbered b.confirms k) (sym st.broker) ∙ there in
      let session = Some (after_answer at.course confirm.session confirm.answer) in
      done w (record w { session = session }) (Answer k) (Counted counted)
      (connector_changes a w w.held (Some kept') session a.packets w.packets st (stands at.course at.stands)
      st.connector.packets) (ap (λ (s : Option Course). s >>= (λ course. numbered w.confirms k
      >>= with_answer w course)) at.is ∙ ap (λ (f : Option Confirm). f >>= with_answer w at.course) found
      ∙ ap (λ (b : Bool). Ok (Counted b, record w { session = session })) (sym (answer at.course at.stands))) refl,
)

-- a step of a session isn't enabled if the connector is down
pub down : (a : ActorParts) (step : Step) (rest : WorldState → Course → Outcome)
    → ((w : WorldState) → next w step ≡ (w.session >>= rest w)) → a.session ≡ None
    → ActorsMove a step (Err NotEnabled) a
down a step rest is none =
    unable a step (λ w st. is w ∙ ap (λ (s : Option Course). s >>= rest w) (no_course a w st none))

-- ---- with the store

-- the kept state if the store holds something else
with_held : (p : Parts) (w : WorldState) (held : Option Saved) (honest : Bool) (risks : Risks) (failed' : ℕ)
    (held' : Option Saved) → Stands p w → held ≡ held'
    → Stands (record p { held = held; honest = honest; failed = failed'; risks = risks }) (record w { held = held' })
with_held p w held honest risks failed' held' st same =
    record {
      actors = connector_changes p.actors w held' p.actors.session w.session p.actors.packets w.packets
          st.actors st.actors.connector.session st.actors.connector.packets;
      held = same;
    }

-- a save is done if there is a session, and its progress is held then
saves_next : (w : WorldState) (course : Course) → w.session ≡ Some course
    → next w Save ≡ success (with_progress w course)
saves_next w course is = rw is

-- the session saves
pub save_done : (p : Parts) (kept : SessionState) (held : Option Saved) (honest : Bool) (risks : Risks) (failed' : ℕ)
    → p.actors.session ≡ Some kept
    → ((course : Course) → StandsFor kept course → held ≡ Some (progress_of course))
    → MovesBy Next p Save (Ok Done) (record p { held = held; honest = honest; failed = failed'; risks = risks })
save_done p kept held honest' risks' failed' is saved honest w st =
    let at = course_of p.actors w kept st.actors is in (
      with_progress w at.course,
      (
        with_held p w held honest' risks' failed' (Some (progress_of at.course)) st (saved at.course at.stands),
        saves_next w at.course at.is,
      ),
    )

-- if a session runs, only the store or memory can keep it from saving its progress
save_tried : (w : WorldState) (course : Course) → w.session ≡ Some course → IsTried (next w Save)
save_tried w course is = subst IsTried (sym (saves_next w course is)) tt

-- a save that fails
pub save_failed : (p : Parts) (kept : SessionState) (held : Option Saved) (honest : Bool) (risks : Risks)
    (why : StoreError) (failed failed' : ℕ) → p.actors.session ≡ Some kept
    → ((course : Course) → StandsFor kept course → (held ≡ p.held) ⊎ (held ≡ Some (progress_of course)))
    → (why ≡ store.OutOfMemory → held ≡ p.held) → MayRefuseSave failed failed' why
    → MovesBy Next p Save (Err (store_refusal why))
    (record p { held = held; honest = honest; failed = failed'; risks = risks })
save_failed p kept held honest' risks' store.ReadFault failed failed' is either exhausted may honest w st = absurd may
save_failed p kept held honest' risks' store.BadRecord failed failed' is either exhausted may honest w st = absurd may
save_failed p kept held honest' risks' store.OutOfMemory failed failed' is either exhausted may honest w st =
    let at = course_of p.actors w kept st.actors is in (
      w,
      (
        with_held p w held honest' risks' failed' w.held st (exhausted refl ∙ st.held),
        (refl, (save_tried w at.course at.is, refl)),
      ),
    )
save_failed p kept held honest' risks' store.WriteFault failed failed' is either exhausted may honest w st =
    let at = course_of p.actors w kept st.actors is in
    elim (either at.course at.stands) [
      | inl same ↦ (
        w,
        (
          with_held p w held honest' risks' failed' w.held st (same ∙ st.held),
          (
            refl,
            (
              save_tried w at.course at.is,
              (progress_of at.course, ap (λ (s : Option Course). option_map progress_of s) at.is, inl refl),
            ),
          ),
        ),
      )
      | inr new ↦ (
        record w { held = Some (progress_of at.course) },
        (
          with_held p w held honest' risks' failed' (Some (progress_of at.course)) st new,
          (
            refl,
            (
              save_tried w at.course at.is,
              (progress_of at.course, ap (λ (s : Option Course). option_map progress_of s) at.is, inr refl),
            ),
          ),
        ),
      )
    ]

-- a step that starts a session turns to the store: it loads, and may run out of memory before that
loads_start : (at : Option ℕ) → IsTrue (loads (start_after at)) × IsTrue (uses_store (start_after at))
    × IsTrue (takes_memory (start_after at))
loads_start None = (refl, refl, refl)
loads_start (Some time) = (refl, refl, refl)

-- what it saves
saves_start : (w : WorldState) (at : Option ℕ) (saved : Saved) → begun w.held at ≡ Ok saved
    → saves w (start_after at) ≡ Some saved
saves_start w None saved begins = ap saved_in begins
saves_start w (Some time) saved begins = ap saved_in begins

-- a session starts if the connector is down, or what keeps it from that is answered
starts_next : (w : WorldState) (at : Option ℕ) (answer : Result Saved StartError) → w.session ≡ None
    → begun w.held at ≡ answer → next w (start_after at) ≡ with_session w answer
starts_next w None answer down begins = rw (down, begins)
starts_next w (Some time) answer down begins = rw (down, begins)

-- a session that is about to start is refused only if there is no further number for it, or because of the timestamp
-- that is asked for
begun_tried : (w : WorldState) (held : Option Saved) (at : Option ℕ) → IsTried (with_session w (begun held at))
begun_tried w None at = tt
begun_tried w (Some held) (Some time) = tt
begun_tried w (Some held) None = by (held.session == last_session)
  where
    by : (b : Bool) → IsTried (with_session w
        (if b then Err start.SessionsExhausted else Ok (record held { session = held.session + 1 })))
    by true = tt
    by false = tt

-- so if the connector is down, a start may fail because of the store or because memory runs out
start_tried : (w : WorldState) (at : Option ℕ) → w.session ≡ None → IsTried (next w (start_after at))
start_tried w at down =
    subst IsTried (sym (starts_next w at (begun w.held at) down refl)) (begun_tried w w.held at)

-- over an honest store a session begins from what is held
begins_held : (held loaded before : Option Saved) (at : Option ℕ) (answer : Result Saved StartError) → before ≡ held
    → loaded ≡ before → begun loaded at ≡ answer → begun held at ≡ answer
begins_held held loaded before at answer stands given begins =
    ap (λ h. begun h at) (sym (given ∙ stands)) ∙ begins

-- a session starts over an honest store: it represents a new course under the record that is now held
pub start_done : (p : Parts) (at : Option ℕ) (actors' : ActorParts) (kept : SessionState) (held : Option Saved)
    (honest : Bool) (risks : Risks) (failed' window : ℕ) → p.actors.session ≡ None
    → actors' ≡ record p.actors { session = Some kept } → window ≡ p.actors.window → HasStarted (record {
      honest = p.honest;
      before = p.held;
      after = held;
      failed_before = p.failed;
      failed_after = failed';
    }) at window kept
    → MovesBy Next p (start_after at) (Ok Done)
    (record { actors = actors'; held = held; honest = honest; failed = failed'; risks = risks })
start_done p at actors' kept held honest' risks' failed' window down new waits has honest w st =
    let begins : begun w.held at ≡ Ok has.saved =
    begins_held w.held has.loaded p.held at (Ok has.saved) st.held (has.given (honest (loads_start at).0)) has.begins in
    let after : WorldState = record w { held = Some has.saved; session = Some (new_course has.saved w.window) } in (
      after,
      (
        record {
          actors = rw new (connector_changes p.actors w (Some has.saved) (Some kept) after.session p.actors.packets
              w.packets st.actors
              (subst (λ (n : ℕ). StandsFor kept (new_course has.saved n)) (waits ∙ st.actors.connector.window)
              has.stands) st.actors.connector.packets);
          held = has.held;
        },
        starts_next w at (Ok has.saved) (no_course p.actors w st.actors down) begins,
      ),
    )

-- a session doesn't start
pub start_failed : (p : Parts) (at : Option ℕ) (held : Option Saved) (honest : Bool) (risks : Risks) (why : StartError)
    (failed failed' : ℕ) → p.actors.session ≡ None → MayRefuseStart (record {
      honest = p.honest;
      before = p.held;
      after = held;
      failed_before = failed;
      failed_after = failed';
    }) at why
    → MovesBy Next p (start_after at) (Err (start_refusal why))
    (record p { held = held; honest = honest; failed = failed'; risks = risks })
start_failed p at held honest' risks' (start.Store store.ReadFault) failed failed' down may honest w st = (
  w,
  (
    with_held p w held honest' risks' failed' w.held st (may.0 ∙ st.held),
    ((loads_start at).1, (start_tried w at (no_course p.actors w st.actors down), ((loads_start at).0, refl))),
  ),
)
start_failed p at held honest' risks' (start.Store store.BadRecord) failed failed' down may honest w st =
    absurd (may.1.1 (honest (loads_start at).0))
start_failed p at held honest' risks' (start.Store store.OutOfMemory) failed failed' down may honest w st = absurd may
start_failed p at held honest' risks' (start.Store store.WriteFault) failed failed' down may honest w st =
    let half = may.0 in
    let given = half.given (honest (loads_start at).0) in
    let begins : begun w.held at ≡ Ok half.saved =
    begins_held w.held half.loaded p.held at (Ok half.saved) st.held given half.begins in
    let tried = start_tried w at (no_course p.actors w st.actors down) in
    let saves = saves_start w at half.saved begins in
    elim half.held [
      | inl same ↦ (
        w,
        (
          with_held p w held honest' risks' failed' w.held st (same ∙ (given ∙ st.held)),
          ((loads_start at).1, (tried, (half.saved, saves, inl refl))),
        ),
      )
      | inr new ↦ (
        record w { held = Some half.saved },
        (
          with_held p w held honest' risks' failed' (Some half.saved) st new,
          ((loads_start at).1, (tried, (half.saved, saves, inr refl))),
        ),
      )
    ]
start_failed p at held honest' risks' start.SessionsExhausted failed failed' down may honest w st =
    let same = may.1.1 (honest (loads_start at).0) ∙ st.held in (
      w,
      (
        with_held p w held honest' risks' failed' w.held st same,
        (
          starts_next w at (Err start.SessionsExhausted) (no_course p.actors w st.actors down)
              (rw same at (may.1.0)),
          refl,
        ),
      ),
    )
start_failed p at held honest' risks' start.StartNotAllowed failed failed' down may honest w st =
    let same = may.1.1 (honest (loads_start at).0) ∙ st.held in (
      w,
      (
        with_held p w held honest' risks' failed' w.held st same,
        (
          starts_next w at (Err start.StartNotAllowed) (no_course p.actors w st.actors down)
              (rw same at (may.1.0)),
          refl,
        ),
      ),
    )
start_failed p at held honest' risks' start.OutOfMemory failed failed' down may honest w st = (
  w,
  (
    with_held p w held honest' risks' failed' w.held st (may.1 (honest (loads_start at).0) ∙ st.held),
    ((loads_start at).2, (start_tried w at (no_course p.actors w st.actors down), refl)),
  ),
)

-- ---- at which risk

-- a save is refused as its store may be
save_risked : (risks : Risks) (why : StoreError) → IsRisked risks why → IsStepRisked risks (Err (store_refusal why))
save_risked risks store.OutOfMemory may = tt
save_risked risks why may = may

-- and so is a start
start_risked : (risks : Risks) (why : StartError) → IsStartRisked risks why
    → IsStepRisked risks (Err (start_refusal why))
start_risked risks (start.Store why) may = may
start_risked risks why may = tt

-- so a save that fails
pub save_refused : (p : Parts) (why : StoreError) (p' : Parts) → IsRisked p.risks why
    → MovesBy Next p Save (Err (store_refusal why)) p' → Moves p Save (Err (store_refusal why)) p'
save_refused p why p' may moves =
    Moves-risked p Save (Err (store_refusal why)) p' moves (save_risked p.risks why may)

-- and a session that doesn't start
pub start_refused : (p : Parts) (at : Option ℕ) (why : StartError) (p' : Parts) → IsStartRisked p.risks why
    → MovesBy Next p (start_after at) (Err (start_refusal why)) p'
    → Moves p (start_after at) (Err (start_refusal why)) p'
start_refused p at why p' may moves =
    Moves-risked p (start_after at) (Err (start_refusal why)) p' moves (start_risked p.risks why may)
