-- Each step of consuming, as steps.
use Rattle.std.proofs.Common.{◌≡◌, ℕ, ◌+◌, ◌≤◌, ◌<◌, List, [], ◌∷◌, ◌++◌, length, take, Bool, true, false, cond}
use Rattle.std.proofs.Common.{ltb, leb}
use Rattle.std.proofs.Common.{Option, Some, None, Result, Ok, Err, refl, sym, ap, subst, ◌∙◌, arith, append_assoc}
use Rattle.std.proofs.Common.{append-nil}
use Rattle.std.specs.Prelude.{◌-◌, ◌&&◌, ◌||◌, not, IfSome}
use Rattle.std.specs.List.{flat_map}
use Rattle.std.specs.Io.KnownBytes.{Appends, Consumes}
use Rattle.std.proofs.KnownBytes.{Appends-trans, Consumes-nil, Consumes-trans}
use Rattle.std.proofs.Math.Seq.{take-append-add}
use Rattle.std.proofs.lemmas.Bool.{ne_eqb}
use Rattle.std.proofs.lemmas.Bool.Decides.{nat_tests}
use Rattle.std.proofs.lemmas.Grind.{flat_map-append}
use Rattle.std.proofs.lemmas.List.Concat.{flat_map-cons}
use Rattle.cdc_amqp_frames.specs.Frames.{Parts, frame, frame_at}
use Rattle.cdc_amqp_frames.specs.Reading.{IsFault}
use Rattle.cdc_amqp_frames.specs.declared.errors.ReadFrameError.{ReadFrameError}
use Rattle.cdc_amqp_frames.specs.declared.errors.ReadFrameError.TheVariants as read
use Rattle.cdc_amqp_methods.specs.Requests.{frame_of}
use Rattle.cdc_amqp_methods.specs.declared.requests.Request.{Request}
use Rattle.cdc_amqp_methods.specs.declared.requests.Request.TheVariants as sent
use Rattle.cdc_amqp_consumer.specs.declared.consumer.Done.{Done}
use Rattle.cdc_amqp_consumer.specs.declared.consumer.End.{End}
use Rattle.cdc_amqp_consumer.specs.declared.consumer.Outcome.{Outcome}
use Rattle.cdc_amqp_consumer.specs.declared.consumer.Outcome.TheVariants.{Ended}
use Rattle.cdc_amqp_consumer.specs.declared.replies.Settings.{Settings}
use Rattle.cdc_amqp_consumer.specs.Machine as machine
use Rattle.cdc_amqp_consumer.specs.Machine.{State, Turn, closing, payload_limit, received}
use Rattle.cdc_amqp_dialogue.specs.Deliveries.{entries_of}
use Rattle.cdc_amqp_dialogue.specs.Dialogues.{Converses, GoesOnWith, IsCause, Writes, WritesBy}
use Rattle.cdc_amqp_dialogue.specs.Laws.{AreSettled, MayBeNext}
use Rattle.cdc_amqp_dialogue.specs.Serving.{IsFaultOf, SavesLast, Serves, ServesBy, TakesBy, text_of, unread_failure}
use Rattle.cdc_amqp_dialogue.specs.Steps.{ClosesBy, FailsBy, IsPlain, KeepsIt, KeepsNothing, SavesBy, StandsStill}
use Rattle.cdc_amqp_dialogue.specs.Steps.{WritesPart, is_due, is_save_due, is_write_failure}
use Rattle.cdc_amqp_dialogue.specs.Taking.{Plan, taking_after}
use Rattle.cdc_amqp_dialogue.specs.Worlds.{Step, Looks, Comes, Saves, Acknowledges, Closes, World, acknowledges}
use Rattle.cdc_amqp_dialogue.specs.Worlds.{answers_of, begins, bytes_of, came, comes, closes, end_after, follower_of}
use Rattle.cdc_amqp_dialogue.specs.Worlds.{Asked, Gave, Sight, happens, its_bytes, its_sight, run, saves, sights_of, stop_after}
use Rattle.cdc_amqp_dialogue.specs.Worlds.{taken_after}
use Rattle.cdc_amqp_dialogue.specs.declared.dialogue.Served.{Served}
use Rattle.cdc_amqp_dialogue.specs.declared.dialogue.TheConstants.{PROTOCOL}
use Rattle.cdc_amqp_dialogue.specs.declared.errors.ConsumeFailure.{ConsumeFailure}
use Rattle.cdc_amqp_dialogue.specs.declared.errors.ConsumeFailure.TheVariants as failure
use Rattle.cdc_amqp_dialogue.specs.declared.taking.Refusal.{Refusal}
use Rattle.cdc_amqp_dialogue.specs.declared.taking.Taking.{Taking}
use Rattle.cdc_amqp_dialogue.proofs.Sound.{IsFair, came_follows, fair, runs_are_sound}
use Rattle.cdc_amqp_dialogue.proofs.Turns.{turn_keeps}
use Rattle.cdc_amqp_dialogue.proofs.Turns as turns

-- what was sent, as bytes
abbrev pub text_sent : {S R : Type 0} → World S R → List ℕ
text_sent w = PROTOCOL.now ++ flat_map frame_of w.sent

-- more is sent
sent_more : {S R : Type 0} (w : World S R) (more : List Request)
    → PROTOCOL.now ++ flat_map frame_of (w.sent ++ more) ≡ text_sent w ++ flat_map frame_of more
sent_more w more =
    ap (λ (l : List ℕ). PROTOCOL.now ++ l) (flat_map-append frame_of w.sent more)
    ∙ sym (append_assoc PROTOCOL.now (flat_map frame_of w.sent) (flat_map frame_of more))

-- a request, as bytes
one_request : (r : Request) → flat_map frame_of (r ∷ []) ≡ frame_of r
one_request r = flat_map-cons frame_of r [] ∙ append-nil (frame_of r)

one_more : {S R : Type 0} (w : World S R) (r : Request)
    → PROTOCOL.now ++ flat_map frame_of (w.sent ++ r ∷ []) ≡ text_sent w ++ frame_of r
one_more w r = sent_more w (r ∷ []) ∙ ap (λ (l : List ℕ). text_sent w ++ l) (one_request r)

-- a text was written, and then a part of another one
part_after : (text more : List ℕ) (old mid new : Option (List ℕ)) → Appends old mid text → WritesPart mid new more
    → WritesPart old new (text ++ more)
part_after text more old mid new wrote part = (
  length text + part.0,
  subst (Appends old new) (sym (take-append-add text more part.0)) (Appends-trans old mid new text (take part.0 more)
      wrote part.1),
)

-- one more step
run_more : {S R : Type 0} (settings : Settings) (plan : Plan S R) (w : World S R) (ms : List Step) (m : Step)
    → run settings plan w (ms ++ m ∷ []) ≡ happens settings plan (run settings plan w ms) m
unfolding run
run_more settings plan w [] m = refl
run_more settings plan w (x ∷ ms) m = run_more settings plan (happens settings plan w x) ms m

bytes_more : (ms : List Step) (m : Step) → bytes_of (ms ++ m ∷ []) ≡ bytes_of ms ++ its_bytes m
unfolding bytes_of
bytes_more [] m = append-nil (its_bytes m)
bytes_more (x ∷ ms) m =
    ap (λ (l : List ℕ). its_bytes x ++ l) (bytes_more ms m)
    ∙ sym (append_assoc (its_bytes x) (bytes_of ms) (its_bytes m))

sights_more : (ms : List Step) (m : Step) → sights_of (ms ++ m ∷ []) ≡ sights_of ms ++ its_sight m
unfolding sights_of
sights_more [] m = append-nil (its_sight m)
sights_more (x ∷ ms) m =
    ap (λ (l : List Sight). its_sight x ++ l) (sights_more ms m)
    ∙ sym (append_assoc (its_sight x) (sights_of ms) (its_sight m))

settled_more : {S R : Type 0} (settings : Settings) (plan : Plan S R) (every : ℕ) (w : World S R) (ms : List Step)
    (m : Step) → AreSettled settings plan every w ms → MayBeNext every (run settings plan w ms) m
    → AreSettled settings plan every w (ms ++ m ∷ [])
unfolding AreSettled run
settled_more settings plan every w [] m settled next = (next, tt)
settled_more settings plan every w (x ∷ ms) m settled next =
    (settled.0, settled_more settings plan every (happens settings plan w x) ms m settled.1 next)

-- where consuming is: what is left to read, the reader, what was written, the consumer, why following stops, the tags of
-- the last deliveries that were taken and saved, and the follower with its store
pub record Place (K D R : Type 0) : Type 0 where
  pub left : Option (List ℕ)
  pub reader : D
  pub written : Option (List ℕ)
  pub state : State
  pub stop : Option (Refusal R)
  pub taken : ℕ
  pub saved : ℕ
  pub keeper : K

-- by these bytes and sights of the reader, in this world, it is here
pub record Is {K D S R : Type 0} (plan : Plan S R) (HasKept : K → K → List S → Type 0) (first : K)
    (Stands : K → S → Type 0)
    (HasAnswered : D → List Sight → Type 0) (known : Option (List ℕ)) (p : Place K D R) (bytes : List ℕ)
    (answers : List Sight) (w : World S R) : Type 0 where
  pub came : Consumes known p.left bytes
  pub answered : HasAnswered p.reader answers
  pub state_is : p.state ≡ w.state
  pub stop_is : p.stop ≡ w.stop
  pub taken_is : p.taken ≡ w.taken
  pub saved_is : p.saved ≡ w.saved
  pub follows : Stands p.keeper (follower_of plan w)
  pub kept : HasKept first p.keeper w.kept

-- by some steps, with what was written
pub record Goes {K D S R : Type 0} (settings : Settings) (plan : Plan S R) (every : ℕ)
    (HasKept : K → K → List S → Type 0) (first : K) (Stands : K → S → Type 0) (HasAnswered : D → List Sight → Type 0)
    (known writer : Option (List ℕ)) (p : Place K D R) : Type 0 where
  pub steps : List Step
  pub wrote : Appends writer p.written (text_sent (run settings plan begins steps))
  pub is : Is plan HasKept first Stands HasAnswered known p (bytes_of steps) (sights_of steps) (run settings plan begins steps)
  pub settled : AreSettled settings plan every begins steps
  pub acknowledged : (run settings plan begins steps).acknowledged ≡ (run settings plan begins steps).saved

-- and the reader's last answer was this one
pub record Looked {K D S R : Type 0} (settings : Settings) (plan : Plan S R) (every : ℕ)
    (HasKept : K → K → List S → Type 0) (first : K) (Stands : K → S → Type 0) (HasAnswered : D → List Sight → Type 0)
    (known writer : Option (List ℕ)) (p : Place K D R) (answer : Bool) : Type 0 where
  pub goes : Goes settings plan every HasKept first Stands HasAnswered known writer p
  pub waiting : (run settings plan begins goes.steps).waiting ≡ answer

-- known bytes begin with those that were read
begins_with : (known left : Option (List ℕ)) (bytes : List ℕ) → Consumes known left bytes
    → GoesOnWith known bytes (λ rest. Unit {0})
begins_with None left bytes came = tt
begins_with (Some xs) None bytes came = absurd came
begins_with (Some xs) (Some ys) bytes came = (ys, came, tt)

goes_on_with : (known left : Option (List ℕ)) (bytes : List ℕ) (Holds : List ℕ → Type 0) → Consumes known left bytes
    → IfSome left Holds → GoesOnWith known bytes Holds
goes_on_with None left bytes Holds came holds = tt
goes_on_with (Some xs) None bytes Holds came holds = absurd came
goes_on_with (Some xs) (Some ys) bytes Holds came holds = (ys, came, holds)

-- a failed write needs no other cause
write_cause : {S R : Type 0} (settings : Settings) (known : Option (List ℕ)) (text : List ℕ) (w : World S R)
    (why : ConsumeFailure) → is_write_failure why ≡ true → IsCause settings known text w (Err why)
write_cause settings known text w (failure.Write why) is = tt
write_cause settings known text w (failure.Read why) is = absurd cc
write_cause settings known text w (failure.Frame why) is = absurd cc
write_cause settings known text w (failure.Fault why) is = absurd cc
write_cause settings known text w (failure.Store why) is = absurd cc
write_cause settings known text w failure.OutOfMemory is = absurd cc

-- a failed step of saving or closing needs no other cause
plain_cause : {S R : Type 0} (settings : Settings) (known : Option (List ℕ)) (text : List ℕ) (w : World S R)
    (why : ConsumeFailure) → IsPlain why → IsCause settings known text w (Err why)
plain_cause settings known text w (failure.Read why) plain = absurd plain
plain_cause settings known text w (failure.Frame why) plain = absurd plain
plain_cause settings known text w (failure.Fault why) plain = absurd plain
plain_cause settings known text w (failure.Store why) plain = tt
plain_cause settings known text w (failure.Write why) plain = tt
plain_cause settings known text w failure.OutOfMemory plain = tt

-- a failure that isn't one of a write, and one that is
writes_all : (writer written : Option (List ℕ)) (text : List ℕ) (why : ConsumeFailure) → is_write_failure why ≡ false
    → Appends writer written text → Writes writer written text (Err why)
writes_all writer written text why none wrote = subst (λ b. WritesBy b writer written text) (sym none) wrote

writes_part : (writer written : Option (List ℕ)) (text : List ℕ) (why : ConsumeFailure) → is_write_failure why ≡ true
    → WritesPart writer written text → Writes writer written text (Err why)
writes_part writer written text why is wrote = subst (λ b. WritesBy b writer written text) (sym is) wrote

-- ---- when a save is due

-- a save that isn't due
not_due : (every taken saved : ℕ) (at_once some many : Bool) → ltb saved taken ≡ some
    → leb every (taken - saved) ≡ many → false ≡ (some && (at_once || many)) → saved ≤ taken
    → (at_once ≡ true → saved ≡ taken) × (taken ≤ saved + (every - 1))
not_due every taken saved at_once false many is more none le =
    let same : saved ≡ taken = grind (arith, nat_tests) in (λ _. same, omega (arith, same))
not_due every taken saved true true many is more none le = absurd cc
not_due every taken saved false true true is more none le = absurd cc
not_due every taken saved false true false is more none le =
    (λ once. absurd cc, (let few : taken - saved < every = grind (arith, nat_tests) in omega (arith, few, le)))

-- after a save that is made if it is due
due_by : (every taken saved : ℕ) (at_once due : Bool) → due ≡ is_due every taken saved at_once → saved ≤ taken
    → (at_once ≡ true → cond due taken saved ≡ taken) × (taken ≤ cond due taken saved + (every - 1))
due_by every taken saved at_once true due le = (λ _. refl, omega arith)
due_by every taken saved at_once false due le =
    not_due every taken saved at_once (ltb saved taken) (leb every (taken - saved)) refl refl due le

-- what holds of such a save if the consumer closes, and if no whole frame is waiting
pub record IsDone (every taken after : ℕ) (closes waiting : Bool) : Type 0 where
  pub waits : waiting ≡ false → after ≡ taken
  pub closing : closes ≡ true → after ≡ taken
  pub paced : taken ≤ after + (every - 1)

if_closes : (closes waiting : Bool) → closes ≡ true → (closes || not waiting) ≡ true
if_closes true waiting is = refl
if_closes false waiting is = absurd cc

if_waits : (closes waiting : Bool) → waiting ≡ false → (closes || not waiting) ≡ true
if_waits true waiting is = refl
if_waits false false is = refl
if_waits false true is = absurd cc

pub done_by : {every taken saved after : ℕ} {closes waiting due : Bool}
    {done : Bool} → due ≡ is_save_due every taken saved closes waiting → saved ≤ taken → done ≡ due
    → after ≡ cond done taken saved → IsDone every taken after closes waiting
done_by {every} {taken} {saved} {after} {closes} {waiting} {due} {done} is le was after_was =
    let after_is : after ≡ cond due taken saved = after_was ∙ ap (λ (b : Bool). cond b taken saved) was in
    let by = due_by every taken saved (closes || not waiting) due is le in
    record {
      waits = λ none. after_is ∙ by.0 (if_waits closes waiting none);
      closing = λ so. after_is ∙ by.0 (if_closes closes waiting so);
      paced = subst (λ (n : ℕ). taken ≤ n + (every - 1)) (sym after_is) by.1;
    }

-- a save that is due is of something
some_by : (every taken saved : ℕ) (at_once some : Bool) → ltb saved taken ≡ some
    → true ≡ (some && (at_once || leb every (taken - saved))) → 0 < taken
some_by every taken saved at_once true is due = grind (arith, nat_tests)
some_by every taken saved at_once false is due = absurd cc

pub due_some : (every taken saved : ℕ) (closes waiting due : Bool)
    → due ≡ is_save_due every taken saved closes waiting → due ≡ true → 0 < taken
due_some every taken saved closes waiting due due_is is =
    some_by every taken saved (closes || not waiting) (ltb saved taken) refl (sym is ∙ due_is)

-- ---- saving

-- the follower is saved and acknowledged
abbrev pub saved_world : {S R : Type 0} → Plan S R → World S R → World S R
saved_world plan w = record w {
  kept = w.kept ++ follower_of plan w ∷ [];
  saved = w.taken;
  sent = w.sent ++ sent.Ack w.taken ∷ [];
  acknowledged = w.taken;
}

acknowledged_after : {S R : Type 0} (plan : Plan S R) (w : World S R) → 0 < w.taken
    → acknowledges (saves plan w) ≡ saved_world plan w
acknowledged_after plan w some =
    ap (λ (b : Bool). cond b (saves plan w) (saved_world plan w))
    (ne_eqb w.taken 0 (λ is. absurd (omega (arith, some, is))))

saved_run : {S R : Type 0} (settings : Settings) (plan : Plan S R) (ms : List Step)
    → 0 < (run settings plan begins ms).taken
    → run settings plan begins ((ms ++ Saves ∷ []) ++ Acknowledges ∷ [])
    ≡ saved_world plan (run settings plan begins ms)
saved_run settings plan ms some =
    run_more settings plan begins (ms ++ Saves ∷ []) Acknowledges
    ∙ ap acknowledges (run_more settings plan begins ms Saves)
    ∙ acknowledged_after plan (run settings plan begins ms) some

-- steps of which none is a frame or an answer
no_bytes : (ms : List Step) (m : Step) → its_bytes m ≡ [] → bytes_of (ms ++ m ∷ []) ≡ bytes_of ms
no_bytes ms m none = bytes_more ms m ∙ ap (λ (l : List ℕ). bytes_of ms ++ l) none ∙ append-nil (bytes_of ms)

no_sights : (ms : List Step) (m : Step) → its_sight m ≡ [] → sights_of (ms ++ m ∷ []) ≡ sights_of ms
no_sights ms m none = sights_more ms m ∙ ap (λ (l : List Sight). sights_of ms ++ l) none ∙ append-nil (sights_of ms)

-- the two steps of a save may be next
settled_saved : {S R : Type 0} (settings : Settings) (plan : Plan S R) (every : ℕ) (ms : List Step) → AreSettled settings plan every begins ms
    → AreSettled settings plan every begins ((ms ++ Saves ∷ []) ++ Acknowledges ∷ [])
settled_saved settings plan every ms settled =
    settled_more settings plan every begins (ms ++ Saves ∷ []) Acknowledges
    (settled_more settings plan every begins ms Saves settled tt) tt

saved_bytes : (ms : List Step) → bytes_of ((ms ++ Saves ∷ []) ++ Acknowledges ∷ []) ≡ bytes_of ms
saved_bytes ms = no_bytes (ms ++ Saves ∷ []) Acknowledges refl ∙ no_bytes ms Saves refl

saved_sights : (ms : List Step) → sights_of ((ms ++ Saves ∷ []) ++ Acknowledges ∷ []) ≡ sights_of ms
saved_sights ms = no_sights (ms ++ Saves ∷ []) Acknowledges refl ∙ no_sights ms Saves refl

-- the server ended it by this frame
end_came : {S R : Type 0} (w : World S R) (t : Turn) (taking : Taking R) (outcome : Outcome) (end : End)
    → outcome ≡ t.done.outcome → outcome ≡ Ended end → (came w t taking).end ≡ Some end
end_came w t taking outcome end is ended = ap (end_after w.end) (sym is ∙ ended)

-- a frame that isn't taken is the cause
fault_cause : {S R : Type 0} (settings : Settings) (known left rest : Option (List ℕ)) (old : State) (f : Parts) (text : List ℕ) (w : World S R)
    (why : ConsumeFailure) → old ≡ w.state → Consumes known left text → Consumes left rest (frame f)
    → IsFaultOf settings f old why → IsCause settings known text w (Err why)
fault_cause settings known left rest old f text w (failure.Fault fault) is begun reads fault_is = (
  f,
  begins_with known rest (text ++ frame f) (Consumes-trans known left rest text (frame f) begun reads),
  ap (λ (s : State). received settings s f.kind f.channel f.payload) (sym is) ∙ fault_is,
)
fault_cause settings known left rest old f text w (failure.Read why) is begun reads fault_is = absurd fault_is
fault_cause settings known left rest old f text w (failure.Frame why) is begun reads fault_is = absurd fault_is
fault_cause settings known left rest old f text w (failure.Store why) is begun reads fault_is = absurd fault_is
fault_cause settings known left rest old f text w (failure.Write why) is begun reads fault_is = absurd fault_is
fault_cause settings known left rest old f text w failure.OutOfMemory is begun reads fault_is = tt

module _ {K D S R : Type 0} (settings : Settings) (plan : Plan S R) (H : K → K → List S → Type 0)
    (Stands : K → S → Type 0) (A : D → List Sight → Type 0) (known : Option (List ℕ)) (first : K) where
  -- the place after a save
  is_saved : (p : Place K D R) (keeper : K) (written : Option (List ℕ)) (bytes : List ℕ) (answers : List Sight)
      (w : World S R) → StandsStill Stands p.keeper keeper → KeepsIt H Stands p.keeper keeper
      → Is plan H first Stands A known p bytes answers w
      → Is plan H first Stands A known (record p { keeper = keeper; written = written; saved = p.taken }) bytes
      answers (saved_world plan w)
  is_saved p keeper written bytes answers w stands keeps is = record {
    came = is.came;
    answered = is.answered;
    state_is = is.state_is;
    stop_is = is.stop_is;
    taken_is = is.taken_is;
    saved_is = is.taken_is;
    follows = stands (follower_of plan w) is.follows;
    kept = keeps first w.kept (follower_of plan w) is.follows is.kept;
  }

  is_closing : (p : Place K D R) (state : State) (written : Option (List ℕ)) (bytes : List ℕ) (answers : List Sight)
      (w : World S R) → state ≡ closing p.state → Is plan H first Stands A known p bytes answers w
      → Is plan H first Stands A known (record p { state = state; written = written }) bytes answers (closes w)
  is_closing p state written bytes answers w state_is is = record {
    came = is.came;
    answered = is.answered;
    state_is = state_is ∙ ap closing is.state_is;
    stop_is = is.stop_is;
    taken_is = is.taken_is;
    saved_is = is.saved_is;
    follows = is.follows;
    kept = is.kept;
  }

  -- what became of its delivery is what becomes of it in the world
  becomes_so : (p : Place K D R) (w : World S R) (new : State) (done : Done) (keeper : K) (taking : Taking R)
      → p.stop ≡ w.stop → Stands p.keeper (follower_of plan w)
      → TakesBy plan.rules plan.parks p.stop done.outcome new (Stands p.keeper) (Stands keeper) taking
      → taking ≡ taking_after plan.rules plan.parks (follower_of plan w) w.stop done.outcome new
  becomes_so p w new done keeper taking stop_is stands becomes =
      (becomes (follower_of plan w) stands).0
      ∙ ap (λ (s : Option (Refusal R)). taking_after plan.rules plan.parks (follower_of plan w) s done.outcome new)
      stop_is

  -- the world after a frame that is taken
  world_after : (p : Place K D R) (w : World S R) (f : Parts) (new : State) (after : Option (Refusal R)) (keeper : K)
      (done : Done) (taking : Taking R) → p.state ≡ w.state → p.stop ≡ w.stop → Stands p.keeper (follower_of plan w)
      → Serves settings plan.rules plan.parks f p.state new p.stop after (Stands p.keeper) (Stands keeper) done taking
      → happens settings plan w (Comes f) ≡ came w (record { state = new; done = done }) taking
  world_after p w f new after keeper done taking state_is stop_is stands step =
      let turn : received settings w.state f.kind f.channel f.payload ≡ Ok (record { state = new; done = done }) =
      ap (λ (s : State). received settings s f.kind f.channel f.payload) (sym state_is) ∙ step.turn in
      ap (comes plan w) turn
      ∙ ap (came w (record { state = new; done = done }))
      (sym (becomes_so p w new done keeper taking stop_is stands step.becomes))

  is_served : (p : Place K D R) (rest : Option (List ℕ)) (reader : D) (written : Option (List ℕ)) (new : State)
      (after : Option (Refusal R)) (taken : ℕ) (keeper : K) (ms : List Step) (f : Parts) (done : Done)
      (taking : Taking R) → Consumes p.left rest (frame f) → ((answers : List Sight) → A p.reader answers
      → A reader (answers ++ Gave f ∷ [])) → KeepsNothing H p.keeper keeper → taken ≡ taken_after p.taken new.delivered taking
      → Is plan H first Stands A known p (bytes_of ms) (sights_of ms) (run settings plan begins ms)
      → Serves settings plan.rules plan.parks f p.state new p.stop after (Stands p.keeper) (Stands keeper) done taking
      → Is plan H first Stands A known (record p {
        left = rest;
        reader = reader;
        written = written;
        state = new;
        stop = after;
        taken = taken;
        keeper = keeper;
      }) (bytes_of ms ++ frame f) (sights_of ms ++ Gave f ∷ [])
      (came (run settings plan begins ms) (record { state = new; done = done }) taking)
  is_served p rest reader written new after taken keeper ms f done taking reads answers keeps counts is step =
      let w = run settings plan begins ms in
      let t : Turn = record { state = new; done = done } in
      let sound = runs_are_sound settings plan ms in
      let turn : received settings w.state f.kind f.channel f.payload ≡ Ok t =
      ap (λ (s : State). received settings s f.kind f.channel f.payload) (sym is.state_is) ∙ step.turn in
      let kept : turns.IsKept w.state.delivered t =
      subst (turns.Keeps w.state.delivered) turn
      (turn_keeps settings w.state f.kind f.channel f.payload sound.ready) in
      let becomes = becomes_so p w new done keeper taking is.stop_is is.follows step.becomes in
      record {
        came = Consumes-trans known p.left rest (bytes_of ms) (frame f) is.came reads;
        answered = answers (sights_of ms) is.answered;
        state_is = refl;
        stop_is = step.stops ∙ ap (λ (s : Option (Refusal R)). stop_after s taking) is.stop_is;
        taken_is = counts ∙ ap (λ (n : ℕ). taken_after n new.delivered taking) is.taken_is;
        saved_is = is.saved_is;
        follows = subst (Stands keeper)
            (sym (came_follows plan w sound t taking kept
            (subst (IsFair plan.rules plan.parks done.outcome w.stop new) (sym becomes)
            (fair plan.rules plan.parks (follower_of plan w) w.stop done.outcome new))))
            (step.becomes (follower_of plan w) is.follows).1;
        kept = keeps first w.kept is.kept;
      }

module _ {K D S R : Type 0} {settings : Settings} {plan : Plan S R} {every : ℕ} {H : K → K → List S → Type 0}
    {Stands : K → S → Type 0} {A : D → List Sight → Type 0} {known writer : Option (List ℕ)} {first : K} where
  -- some steps lead to this world
  goes_at : (p : Place K D R) (ms : List Step) (bytes : List ℕ) (answers : List Sight) (w : World S R)
      → bytes_of ms ≡ bytes → sights_of ms ≡ answers → run settings plan begins ms ≡ w
      → Is plan H first Stands A known p bytes answers w → Appends writer p.written (text_sent w)
      → AreSettled settings plan every begins ms → w.acknowledged ≡ w.saved
      → Goes settings plan every H first Stands A known writer p
  goes_at p ms bytes answers w bytes_are answers_are world_is is wrote settled acknowledged = record {
    steps = ms;
    wrote = subst (λ (v : World S R). Appends writer p.written (text_sent v)) (sym world_is) wrote;
    is = subst (Is plan H first Stands A known p (bytes_of ms) (sights_of ms)) (sym world_is)
        (subst (λ (b : List ℕ). Is plan H first Stands A known p b (sights_of ms) w) (sym bytes_are)
        (subst (λ (l : List Sight). Is plan H first Stands A known p bytes l w) (sym answers_are) is));
    settled = settled;
    acknowledged = subst (λ (v : World S R). v.acknowledged ≡ v.saved) (sym world_is) acknowledged;
  }

  -- consuming ends
  ends : (p : Place K D R) (result : Result End ConsumeFailure) (ms : List Step)
      → Is plan H first Stands A known p (bytes_of ms) (sights_of ms) (run settings plan begins ms)
      → AreSettled settings plan every begins ms
      → Writes writer p.written (text_sent (run settings plan begins ms)) result
      → IsCause settings known (bytes_of ms) (run settings plan begins ms) result
      → Converses settings plan every (H first) Stands A known writer p.written p.keeper p.stop result
  ends p result ms is settled wrote cause = record {
    steps = ms;
    came = begins_with known p.left (bytes_of ms) is.came;
    wrote = wrote;
    follows = is.follows;
    stops = is.stop_is;
    kept = is.kept;
    answered = (p.reader, is.answered);
    settled = settled;
    cause = cause;
  }

  -- some steps lead to this world, in which consuming ends
  ends_at : (p : Place K D R) (result : Result End ConsumeFailure) (ms : List Step) (bytes : List ℕ)
      (answers : List Sight) (w : World S R) → bytes_of ms ≡ bytes → sights_of ms ≡ answers
      → run settings plan begins ms ≡ w → Is plan H first Stands A known p bytes answers w
      → AreSettled settings plan every begins ms → Writes writer p.written (text_sent w) result
      → IsCause settings known bytes w result
      → Converses settings plan every (H first) Stands A known writer p.written p.keeper p.stop result
  ends_at p result ms bytes answers w bytes_are answers_are world_is is settled wrote cause =
      ends p result ms
      (subst (Is plan H first Stands A known p (bytes_of ms) (sights_of ms)) (sym world_is)
      (subst (λ (b : List ℕ). Is plan H first Stands A known p b (sights_of ms) w) (sym bytes_are)
      (subst (λ (l : List Sight). Is plan H first Stands A known p bytes l w) (sym answers_are) is)))
      settled
      (subst (λ (v : World S R). Writes writer p.written (text_sent v) result) (sym world_is) wrote)
      (subst (λ (v : World S R). IsCause settings known (bytes_of ms) v result) (sym world_is)
      (subst (λ (b : List ℕ). IsCause settings known b w result) (sym bytes_are) cause))

  -- what is saved was taken
  pub saved_le : {p : Place K D R} → Goes settings plan every H first Stands A known writer p → p.saved ≤ p.taken
  saved_le goes =
      omega (arith, (runs_are_sound settings plan goes.steps).saved, goes.is.saved_is, goes.is.taken_is)

  -- ---- the reader is asked

  pub goes_looked : {p : Place K D R} {rest : Option (List ℕ)} {reader : D} {answer : Bool} → rest ≡ p.left
      → ((answers : List Sight) → A p.reader answers → A reader (answers ++ Asked answer ∷ []))
      → Goes settings plan every H first Stands A known writer p
      → Looked settings plan every H first Stands A known writer (record p { left = rest; reader = reader }) answer
  unfolding goes_at
  goes_looked {p} {rest} {reader} {answer} same answers goes =
      let w = run settings plan begins goes.steps in
      let next = run_more settings plan begins goes.steps (Looks answer) in
      record {
        goes = goes_at (record p { left = rest; reader = reader }) (goes.steps ++ Looks answer ∷ [])
            (bytes_of goes.steps) (sights_of goes.steps ++ Asked answer ∷ []) (record w { waiting = answer })
            (no_bytes goes.steps (Looks answer) refl) (sights_more goes.steps (Looks answer)) next
            (record {
              came = subst (λ (o : Option (List ℕ)). Consumes known o (bytes_of goes.steps)) (sym same) goes.is.came;
              answered = answers (sights_of goes.steps) goes.is.answered;
              state_is = goes.is.state_is;
              stop_is = goes.is.stop_is;
              taken_is = goes.is.taken_is;
              saved_is = goes.is.saved_is;
              follows = goes.is.follows;
              kept = goes.is.kept;
            })
            goes.wrote (settled_more settings plan every begins goes.steps (Looks answer) goes.settled tt)
            goes.acknowledged;
        waiting = ap (λ (v : World S R). v.waiting) next;
      }

  -- a step that failed, and did nothing
  unchanged : {p : Place K D R} (keeper : K) (written : Option (List ℕ)) (why : ConsumeFailure)
      → StandsStill Stands p.keeper keeper → written ≡ p.written → KeepsNothing H p.keeper keeper
      → is_write_failure why ≡ false
      → (goes : Goes settings plan every H first Stands A known writer p)
      → IsCause settings known (bytes_of goes.steps) (run settings plan begins goes.steps) (Err why)
      → Converses settings plan every (H first) Stands A known writer written keeper p.stop (Err why)
  unchanged {p} keeper written why stands is keeps none goes cause =
      let w = run settings plan begins goes.steps in
      ends (record p { keeper = keeper; written = written }) (Err why) goes.steps
      (record {
        came = goes.is.came;
        answered = goes.is.answered;
        state_is = goes.is.state_is;
        stop_is = goes.is.stop_is;
        taken_is = goes.is.taken_is;
        saved_is = goes.is.saved_is;
        follows = stands (follower_of plan w) goes.is.follows;
        kept = keeps first w.kept goes.is.kept;
      })
      goes.settled
      (writes_all writer written (text_sent w) why none
      (subst (λ (o : Option (List ℕ)). Appends writer o (text_sent w)) (sym is) goes.wrote))
      cause

  -- ---- saving

  pub goes_saved : {p : Place K D R} {answer : Bool} {keeper : K} {written : Option (List ℕ)} {saved : ℕ}
      {due : Bool} (done : Bool) → Looked settings plan every H first Stands A known writer p answer
      → StandsStill Stands p.keeper keeper → (due ≡ true → 0 < p.taken) → saved ≡ cond done p.taken p.saved
      → SavesBy (KeepsIt H Stands p.keeper keeper) (KeepsNothing H p.keeper keeper) due p.taken p.written written
      (Ok done)
      → Looked settings plan every H first Stands A known writer
      (record p { keeper = keeper; written = written; saved = saved }) answer
  unfolding goes_at
  goes_saved {p} {answer} {keeper} {written} {saved} {due} true looked stands some saved_is step =
      let goes = looked.goes in
      let w = run settings plan begins goes.steps in
      let more : 0 < w.taken = omega (arith, some step.0, goes.is.taken_is) in
      let after : saved ≡ p.taken = saved_is in
      let world = saved_run settings plan goes.steps more in
      subst (λ (n : ℕ). Looked settings plan every H first Stands A known writer
      (record p { keeper = keeper; written = written; saved = n }) answer) (sym after)
      (record {
        goes = goes_at (record p { keeper = keeper; written = written; saved = p.taken })
            ((goes.steps ++ Saves ∷ []) ++ Acknowledges ∷ []) (bytes_of goes.steps) (sights_of goes.steps)
            (saved_world plan w) (saved_bytes goes.steps) (saved_sights goes.steps) world
            (is_saved settings plan H Stands A known first p keeper written (bytes_of goes.steps) (sights_of goes.steps) w stands step.1 goes.is)
            (subst (Appends writer written) (sym (one_more w (sent.Ack w.taken)
            ∙ ap (λ (n : ℕ). text_sent w ++ frame_of (sent.Ack n)) (sym goes.is.taken_is)))
            (Appends-trans writer p.written written (text_sent w) (frame_of (sent.Ack p.taken)) goes.wrote step.2))
            (settled_saved settings plan every goes.steps goes.settled) refl;
        waiting = ap (λ (v : World S R). v.waiting) world ∙ looked.waiting;
      })
  goes_saved {p} {answer} {keeper} {written} {saved} {due} false looked stands some saved_is step =
      let goes = looked.goes in
      let w = run settings plan begins goes.steps in
      let after : saved ≡ p.saved = saved_is in
      record {
        goes = record {
          steps = goes.steps;
          wrote = subst (λ (o : Option (List ℕ)). Appends writer o (text_sent w)) (sym step.2) goes.wrote;
          is = record {
            came = goes.is.came;
            answered = goes.is.answered;
            state_is = goes.is.state_is;
            stop_is = goes.is.stop_is;
            taken_is = goes.is.taken_is;
            saved_is = after ∙ goes.is.saved_is;
            follows = stands (follower_of plan w) goes.is.follows;
            kept = step.1 first w.kept goes.is.kept;
          };
          settled = goes.settled;
          acknowledged = goes.acknowledged;
        };
        waiting = looked.waiting;
      }

  -- saving failed: in a write, when all is saved, or before
  save_fails : {p : Place K D R} {answer : Bool} {keeper : K} {written : Option (List ℕ)} {due : Bool}
      (why : ConsumeFailure) (b : Bool) → is_write_failure why ≡ b
      → (looked : Looked settings plan every H first Stands A known writer p answer)
      → StandsStill Stands p.keeper keeper → (due ≡ true → 0 < p.taken) → IsPlain why
      → FailsBy b ((due ≡ true) × KeepsIt H Stands p.keeper keeper
      × WritesPart p.written written (frame_of (sent.Ack p.taken)))
      (KeepsNothing H p.keeper keeper × (written ≡ p.written))
      → Converses settings plan every (H first) Stands A known writer written keeper p.stop (Err why)
  save_fails {p} {answer} {keeper} {written} {due} why true fails looked stands some plain step =
      let goes = looked.goes in
      let w = run settings plan begins goes.steps in
      let more : 0 < w.taken = omega (arith, some step.0, goes.is.taken_is) in
      ends_at (record p { keeper = keeper; written = written; saved = p.taken }) (Err why)
      ((goes.steps ++ Saves ∷ []) ++ Acknowledges ∷ []) (bytes_of goes.steps) (sights_of goes.steps)
      (saved_world plan w) (saved_bytes goes.steps) (saved_sights goes.steps) (saved_run settings plan goes.steps more)
      (is_saved settings plan H Stands A known first p keeper written (bytes_of goes.steps) (sights_of goes.steps) w stands step.1 goes.is)
      (settled_saved settings plan every goes.steps goes.settled)
      (writes_part writer written (text_sent (saved_world plan w)) why fails
      (subst (WritesPart writer written) (sym (one_more w (sent.Ack w.taken)
      ∙ ap (λ (n : ℕ). text_sent w ++ frame_of (sent.Ack n)) (sym goes.is.taken_is)))
      (part_after (text_sent w) (frame_of (sent.Ack p.taken)) writer p.written written goes.wrote step.2)))
      (write_cause settings known (bytes_of goes.steps) (saved_world plan w) why fails)
  save_fails {p} {answer} {keeper} {written} {due} why false fails looked stands some plain step =
      unchanged keeper written why stands step.1 step.0 fails looked.goes
      (plain_cause settings known (bytes_of looked.goes.steps) (run settings plan begins looked.goes.steps) why plain)

  pub save_failed : {p : Place K D R} {answer : Bool} {keeper : K} {written : Option (List ℕ)} {due : Bool}
      (why : ConsumeFailure) → Looked settings plan every H first Stands A known writer p answer
      → StandsStill Stands p.keeper keeper → (due ≡ true → 0 < p.taken) → IsPlain why
      → SavesBy (KeepsIt H Stands p.keeper keeper) (KeepsNothing H p.keeper keeper) due p.taken p.written written
      (Err why)
      → Converses settings plan every (H first) Stands A known writer written keeper p.stop (Err why)
  save_failed why looked stands some plain step =
      save_fails why (is_write_failure why) refl looked stands some plain step

  -- ---- closing

  -- it may close if all is saved
  settled_closed : {p : Place K D R} → p.saved ≡ p.taken
      → (goes : Goes settings plan every H first Stands A known writer p)
      → AreSettled settings plan every begins (goes.steps ++ Closes ∷ [])
  settled_closed complete goes =
      settled_more settings plan every begins goes.steps Closes goes.settled
      (record {
        acknowledged = goes.acknowledged;
        saved = sym goes.is.saved_is ∙ complete ∙ goes.is.taken_is;
      })

  pub goes_closed : {p : Place K D R} {answer : Bool} {state : State} {written : Option (List ℕ)} {due : Bool}
      (done : Bool)
      → Looked settings plan every H first Stands A known writer p answer → (due ≡ true → p.saved ≡ p.taken)
      → ClosesBy due p.state state p.written written (Ok done)
      → Looked settings plan every H first Stands A known writer (record p { state = state; written = written })
      answer
  unfolding goes_at
  goes_closed {p} {answer} {state} {written} {due} true looked complete step =
      let goes = looked.goes in
      let w = run settings plan begins goes.steps in
      let world = run_more settings plan begins goes.steps Closes in
      record {
        goes = goes_at (record p { state = state; written = written }) (goes.steps ++ Closes ∷ [])
            (bytes_of goes.steps) (sights_of goes.steps) (closes w) (no_bytes goes.steps Closes refl)
            (no_sights goes.steps Closes refl) world
            (is_closing settings plan H Stands A known first p state written (bytes_of goes.steps) (sights_of goes.steps) w step.1 goes.is)
            (subst (Appends writer written) (sym (one_more w sent.Cancel))
            (Appends-trans writer p.written written (text_sent w) (frame_of sent.Cancel) goes.wrote step.2))
            (settled_closed (complete step.0) goes) goes.acknowledged;
        waiting = ap (λ (v : World S R). v.waiting) world ∙ looked.waiting;
      }
  goes_closed {p} {answer} {state} {written} {due} false looked complete step =
      let goes = looked.goes in
      let w = run settings plan begins goes.steps in
      record {
        goes = record {
          steps = goes.steps;
          wrote = subst (λ (o : Option (List ℕ)). Appends writer o (text_sent w)) (sym step.1) goes.wrote;
          is = record {
            came = goes.is.came;
            answered = goes.is.answered;
            state_is = step.0 ∙ goes.is.state_is;
            stop_is = goes.is.stop_is;
            taken_is = goes.is.taken_is;
            saved_is = goes.is.saved_is;
            follows = goes.is.follows;
            kept = goes.is.kept;
          };
          settled = goes.settled;
          acknowledged = goes.acknowledged;
        };
        waiting = looked.waiting;
      }

  close_fails : {p : Place K D R} {answer : Bool} (state : State) {written : Option (List ℕ)} {due : Bool}
      (why : ConsumeFailure) (b : Bool) → is_write_failure why ≡ b
      → (looked : Looked settings plan every H first Stands A known writer p answer)
      → (due ≡ true → p.saved ≡ p.taken) → IsPlain why
      → FailsBy b ((due ≡ true) × (state ≡ closing p.state) × WritesPart p.written written (frame_of sent.Cancel))
      (written ≡ p.written)
      → Converses settings plan every (H first) Stands A known writer written p.keeper p.stop (Err why)
  close_fails {p} {answer} state {written} {due} why true fails looked complete plain step =
      let goes = looked.goes in
      let w = run settings plan begins goes.steps in
      ends_at (record p { state = state; written = written }) (Err why) (goes.steps ++ Closes ∷ [])
      (bytes_of goes.steps) (sights_of goes.steps) (closes w) (no_bytes goes.steps Closes refl)
      (no_sights goes.steps Closes refl) (run_more settings plan begins goes.steps Closes)
      (is_closing settings plan H Stands A known first p state written (bytes_of goes.steps) (sights_of goes.steps) w step.1 goes.is)
      (settled_closed (complete step.0) goes)
      (writes_part writer written (text_sent (closes w)) why fails
      (subst (WritesPart writer written) (sym (one_more w sent.Cancel))
      (part_after (text_sent w) (frame_of sent.Cancel) writer p.written written goes.wrote step.2)))
      (write_cause settings known (bytes_of goes.steps) (closes w) why fails)
  close_fails {p} {answer} state {written} {due} why false fails looked complete plain step =
      unchanged p.keeper written why (λ _ stands. stands) step (λ _ _ kept. kept) fails looked.goes
      (plain_cause settings known (bytes_of looked.goes.steps) (run settings plan begins looked.goes.steps) why plain)

  pub close_failed : {p : Place K D R} {answer : Bool} (state : State) {written : Option (List ℕ)} {due : Bool}
      (why : ConsumeFailure) → Looked settings plan every H first Stands A known writer p answer
      → (due ≡ true → p.saved ≡ p.taken) → IsPlain why → ClosesBy due p.state state p.written written (Err why)
      → Converses settings plan every (H first) Stands A known writer written p.keeper p.stop (Err why)
  close_failed state why looked complete plain step =
      close_fails state why (is_write_failure why) refl looked complete plain step

  -- ---- a frame

  -- a frame may be next
  settled_came : {p : Place K D R} {answer : Bool} (f : Parts)
      → (looked : Looked settings plan every H first Stands A known writer p answer)
      → (answer ≡ false → p.saved ≡ p.taken) → p.taken ≤ p.saved + (every - 1)
      → AreSettled settings plan every begins (looked.goes.steps ++ Comes f ∷ [])
  settled_came f looked waits paced =
      let goes = looked.goes in
      settled_more settings plan every begins goes.steps (Comes f) goes.settled
      (record {
        acknowledged = goes.acknowledged;
        waiting = λ none. sym goes.is.saved_is ∙ waits (sym looked.waiting ∙ none) ∙ goes.is.taken_is;
        paced = omega (arith, paced, goes.is.saved_is, goes.is.taken_is);
      })

  -- what a frame that is served leads to
  pub goes_served : {p : Place K D R} {answer : Bool} {rest : Option (List ℕ)} {reader : D} {written : Option (List ℕ)}
      {new : State} {after : Option (Refusal R)} {taken : ℕ} {keeper : K} {f : Parts} {served : Served R}
      → Looked settings plan every H first Stands A known writer p answer → (answer ≡ false → p.saved ≡ p.taken)
      → p.taken ≤ p.saved + (every - 1) → Consumes p.left rest (frame f)
      → ((answers : List Sight) → A p.reader answers → A reader (answers ++ Gave f ∷ [])) → KeepsNothing H p.keeper keeper
      → taken ≡ taken_after p.taken new.delivered served.taking
      → ServesBy settings plan.rules plan.parks f p.state new p.stop after (Stands p.keeper) (Stands keeper) p.written
      written (Ok served)
      → (goes : Goes settings plan every H first Stands A known writer (record p {
        left = rest;
        reader = reader;
        written = written;
        state = new;
        stop = after;
        taken = taken;
        keeper = keeper;
      }))
      × ((end : End) → served.outcome ≡ Ended end → (run settings plan begins goes.steps).end ≡ Some end)
  unfolding goes_at
  goes_served {p} {answer} {rest} {reader} {written} {new} {after} {taken} {keeper} {f} {served} looked waits paced reads
      answers keeps counts step =
      let goes = looked.goes in
      let w = run settings plan begins goes.steps in
      let done = step.0 in
      let t : Turn = record { state = new; done = done } in
      let world = run_more settings plan begins goes.steps (Comes f)
      ∙ world_after settings plan H Stands A known first p w f new after keeper done served.taking goes.is.state_is goes.is.stop_is goes.is.follows step.2 in (
        goes_at (record p {
          left = rest;
          reader = reader;
          written = written;
          state = new;
          stop = after;
          taken = taken;
          keeper = keeper;
        })
            (goes.steps ++ Comes f ∷ []) (bytes_of goes.steps ++ frame f) (sights_of goes.steps ++ Gave f ∷ [])
            (came w t served.taking) (bytes_more goes.steps (Comes f)) (sights_more goes.steps (Comes f)) world
            (is_served settings plan H Stands A known first p rest reader written new after taken keeper goes.steps f done served.taking reads answers keeps
            counts goes.is step.2)
            (subst (Appends writer written) (sym (sent_more w (answers_of done served.taking)))
            (Appends-trans writer p.written written (text_sent w) (text_of done served.taking) goes.wrote step.3))
            (settled_came f looked waits paced) goes.acknowledged,
        λ end is. ap (λ (v : World S R). v.end) world ∙ end_came w t served.taking served.outcome end step.1 is,
      )

  serve_fails : {p : Place K D R} {answer : Bool} {reader : D} {written : Option (List ℕ)} {after : Option (Refusal R)}
      {keeper : K} (rest : Option (List ℕ)) (new : State) (f : Parts) (why : ConsumeFailure) (b : Bool)
      → is_write_failure why ≡ b → (looked : Looked settings plan every H first Stands A known writer p answer)
      → (answer ≡ false → p.saved ≡ p.taken) → p.taken ≤ p.saved + (every - 1) → Consumes p.left rest (frame f)
      → ((answers : List Sight) → A p.reader answers → A reader (answers ++ Gave f ∷ [])) → KeepsNothing H p.keeper keeper
      → FailsBy b ((done : Done) × (taking : Taking R)
      × Serves settings plan.rules plan.parks f p.state new p.stop after (Stands p.keeper) (Stands keeper) done taking
      × WritesPart p.written written (text_of done taking))
      ((after ≡ p.stop) × StandsStill Stands p.keeper keeper × (written ≡ p.written) × IsFaultOf settings f p.state why)
      → Converses settings plan every (H first) Stands A known writer written keeper after (Err why)
  serve_fails {p} {answer} {reader} {written} {after} {keeper} rest new f why true fails looked waits paced reads
      answers keeps step =
      let goes = looked.goes in
      let w = run settings plan begins goes.steps in
      let done = step.0 in
      let taking = step.1 in
      let t : Turn = record { state = new; done = done } in
      let taken = taken_after p.taken new.delivered taking in
      ends_at (record p {
        left = rest;
        reader = reader;
        written = written;
        state = new;
        stop = after;
        taken = taken;
        keeper = keeper;
      })
      (Err why) (goes.steps ++ Comes f ∷ []) (bytes_of goes.steps ++ frame f) (sights_of goes.steps ++ Gave f ∷ [])
      (came w t taking) (bytes_more goes.steps (Comes f)) (sights_more goes.steps (Comes f))
      (run_more settings plan begins goes.steps (Comes f)
      ∙ world_after settings plan H Stands A known first p w f new after keeper done taking goes.is.state_is goes.is.stop_is goes.is.follows step.2)
      (is_served settings plan H Stands A known first p rest reader written new after taken keeper goes.steps f done taking reads answers keeps refl goes.is
      step.2)
      (settled_came f looked waits paced)
      (writes_part writer written (text_sent (came w t taking)) why fails
      (subst (WritesPart writer written) (sym (sent_more w (answers_of done taking)))
      (part_after (text_sent w) (text_of done taking) writer p.written written goes.wrote step.3)))
      (write_cause settings known (bytes_of goes.steps ++ frame f) (came w t taking) why fails)
  serve_fails {p} {answer} {reader} {written} {after} {keeper} rest new f why false fails looked waits paced reads
      answers keeps step =
      let goes = looked.goes in
      let w = run settings plan begins goes.steps in
      ends (record p { written = written; stop = after; keeper = keeper }) (Err why) goes.steps
      (record {
        came = goes.is.came;
        answered = goes.is.answered;
        state_is = goes.is.state_is;
        stop_is = step.0 ∙ goes.is.stop_is;
        taken_is = goes.is.taken_is;
        saved_is = goes.is.saved_is;
        follows = step.1 (follower_of plan w) goes.is.follows;
        kept = keeps first w.kept goes.is.kept;
      })
      goes.settled
      (writes_all writer written (text_sent w) why fails
      (subst (λ (o : Option (List ℕ)). Appends writer o (text_sent w)) (sym step.2) goes.wrote))
      (fault_cause settings known p.left rest p.state f (bytes_of goes.steps) w why goes.is.state_is goes.is.came reads step.3)

  pub serve_failed : {p : Place K D R} {answer : Bool} {reader : D} {written : Option (List ℕ)}
      {after : Option (Refusal R)} {keeper : K} (rest : Option (List ℕ)) (new : State) (f : Parts)
      (why : ConsumeFailure) → Looked settings plan every H first Stands A known writer p answer
      → (answer ≡ false → p.saved ≡ p.taken) → p.taken ≤ p.saved + (every - 1) → Consumes p.left rest (frame f)
      → ((answers : List Sight) → A p.reader answers → A reader (answers ++ Gave f ∷ [])) → KeepsNothing H p.keeper keeper
      → ServesBy settings plan.rules plan.parks f p.state new p.stop after (Stands p.keeper) (Stands keeper) p.written
      written (Err why)
      → Converses settings plan every (H first) Stands A known writer written keeper after (Err why)
  serve_failed rest new f why looked waits paced reads answers keeps step =
      serve_fails rest new f why (is_write_failure why) refl looked waits paced reads answers keeps step

  -- ---- the start and the end

  pub starts : (left written : Option (List ℕ)) (reader : D) (stop : Option (Refusal R)) (state : State)
      → state ≡ machine.begins → known ≡ left → stop ≡ None → Stands first plan.start → H first first []
      → A reader [] → Appends writer written PROTOCOL.now
      → Goes settings plan every H first Stands A known writer (record {
        left = left;
        reader = reader;
        written = written;
        state = state;
        stop = stop;
        taken = 0;
        saved = 0;
        keeper = first;
      })
  unfolding run bytes_of sights_of AreSettled entries_of
  starts left written reader stop state state_is same none stands kept answered wrote = record {
    steps = [];
    wrote = subst (Appends writer written) (sym (append-nil PROTOCOL.now)) wrote;
    is = record {
      came = subst (λ (o : Option (List ℕ)). Consumes known o []) same (Consumes-nil known);
      answered = answered;
      state_is = state_is;
      stop_is = none;
      taken_is = refl;
      saved_is = refl;
      follows = stands;
      kept = kept;
    };
    settled = tt;
    acknowledged = refl;
  }

  -- a failure after which nothing more happened
  pub fails : {p : Place K D R} (why : ConsumeFailure) → is_write_failure why ≡ false
      → (goes : Goes settings plan every H first Stands A known writer p)
      → IsCause settings known (bytes_of goes.steps) (run settings plan begins goes.steps) (Err why)
      → Converses settings plan every (H first) Stands A known writer p.written p.keeper p.stop (Err why)
  fails {p} why none goes cause =
      let w = run settings plan begins goes.steps in
      ends p (Err why) goes.steps goes.is goes.settled (writes_all writer p.written (text_sent w) why none goes.wrote) cause

  -- no frame was read
  read_fails_at : {p : Place K D R} (T : Type 0) (error : ReadFrameError)
      → Goes settings plan every H first Stands A known writer p
      → IsFault {T = T} (payload_limit p.state) p.left (Err error)
      → Converses settings plan every (H first) Stands A known writer p.written p.keeper p.stop
      (Err (unread_failure error))
  read_fails_at {p} T (read.Read why) goes fault = fails (failure.Read why) refl goes tt
  read_fails_at {p} T (read.Fault why) goes fault =
      fails (failure.Frame why) refl goes
      (subst (λ (s : State). GoesOnWith known (bytes_of goes.steps)
      (λ rest. frame_at (payload_limit s) rest ≡ Err why)) goes.is.state_is
      (goes_on_with known p.left (bytes_of goes.steps) (λ rest. frame_at (payload_limit p.state) rest ≡ Err why)
      goes.is.came fault))
  read_fails_at {p} T read.OutOfMemory goes fault = fails failure.OutOfMemory refl goes tt

  pub read_fails : {p : Place K D R} {answer : Bool} (T : Type 0) (limit : ℕ) (error : ReadFrameError)
      → limit ≡ payload_limit p.state
      → Looked settings plan every H first Stands A known writer p answer
      → IsFault {T = T} limit p.left (Err error)
      → Converses settings plan every (H first) Stands A known writer p.written p.keeper p.stop
      (Err (unread_failure error))
  read_fails {p} T limit error same looked fault =
      read_fails_at T error looked.goes
      (subst (λ (n : ℕ). IsFault {T = T} n p.left (Err error)) same fault)

  -- the server ended it, and the follower was saved if that was due
  pub ends_last : {p : Place K D R} {keeper : K} {end : End} (due : Bool) (result : Result End ConsumeFailure)
      → StandsStill Stands p.keeper keeper
      → (goes : Goes settings plan every H first Stands A known writer p)
      → (run settings plan begins goes.steps).end ≡ Some end
      → SavesLast (KeepsIt H Stands p.keeper keeper) (KeepsNothing H p.keeper keeper) due end result
      → Converses settings plan every (H first) Stands A known writer p.written keeper p.stop result
  ends_last {p} {keeper} {end} true (Ok how) stands goes ended step =
      let w = run settings plan begins goes.steps in
      ends_at (record p { keeper = keeper; saved = p.taken }) (Ok how) (goes.steps ++ Saves ∷ [])
      (bytes_of goes.steps) (sights_of goes.steps) (saves plan w) (no_bytes goes.steps Saves refl)
      (no_sights goes.steps Saves refl) (run_more settings plan begins goes.steps Saves)
      (record {
        came = goes.is.came;
        answered = goes.is.answered;
        state_is = goes.is.state_is;
        stop_is = goes.is.stop_is;
        taken_is = goes.is.taken_is;
        saved_is = goes.is.taken_is;
        follows = stands (follower_of plan w) goes.is.follows;
        kept = step.1 first w.kept (follower_of plan w) goes.is.follows goes.is.kept;
      })
      (settled_more settings plan every begins goes.steps Saves goes.settled tt)
      goes.wrote (ended ∙ ap Some (sym step.0))
  ends_last {p} {keeper} {end} false (Ok how) stands goes ended step =
      let w = run settings plan begins goes.steps in
      ends (record p { keeper = keeper }) (Ok how) goes.steps
      (record {
        came = goes.is.came;
        answered = goes.is.answered;
        state_is = goes.is.state_is;
        stop_is = goes.is.stop_is;
        taken_is = goes.is.taken_is;
        saved_is = goes.is.saved_is;
        follows = stands (follower_of plan w) goes.is.follows;
        kept = step.1 first w.kept goes.is.kept;
      })
      goes.settled goes.wrote (ended ∙ ap Some (sym step.0))
  ends_last {p} {keeper} {end} due (Err (failure.Store why)) stands goes ended given =
      unchanged keeper p.written (failure.Store why) stands refl given refl goes tt
  ends_last due (Err (failure.Read why)) stands goes ended given = absurd given
  ends_last due (Err (failure.Frame why)) stands goes ended given = absurd given
  ends_last due (Err (failure.Fault why)) stands goes ended given = absurd given
  ends_last due (Err (failure.Write why)) stands goes ended given = absurd given
  ends_last due (Err failure.OutOfMemory) stands goes ended given = absurd given

module _ {K D S R : Type 0} {settings : Settings} {plan : Plan S R} {every : ℕ} (H : K → K → List S → Type 0)
    {Stands : K → S → Type 0} {A : D → List Sight → Type 0} {known writer : Option (List ℕ)} {first : K} where
  -- a failed write of the protocol header
  pub start_fails : (left written : Option (List ℕ)) (reader : D) (stop : Option (Refusal R)) (state : State)
      (why : ConsumeFailure) → state ≡ machine.begins → known ≡ left → stop ≡ None → Stands first plan.start
      → H first first [] → A reader [] → (is_write_failure why ≡ true) × WritesPart writer written PROTOCOL.now
      → Converses settings plan every (H first) Stands A known writer written first stop (Err why)
  unfolding run bytes_of sights_of AreSettled entries_of
  start_fails left written reader stop state why state_is same none stands kept answered step =
      ends {H = H} (record {
        left = left;
        reader = reader;
        written = written;
        state = state;
        stop = stop;
        taken = 0;
        saved = 0;
        keeper = first;
      })
      (Err why) []
      (record {
        came = subst (λ (o : Option (List ℕ)). Consumes known o []) same (Consumes-nil known);
        answered = answered;
        state_is = state_is;
        stop_is = none;
        taken_is = refl;
        saved_is = refl;
        follows = stands;
        kept = kept;
      })
      tt
      (writes_part writer written (PROTOCOL.now ++ []) why step.0
      (subst (WritesPart writer written) (sym (append-nil PROTOCOL.now)) step.1))
      (write_cause settings known [] (begins {S = S} {R = R}) why step.0)
