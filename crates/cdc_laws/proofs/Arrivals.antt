-- What a broker takes of a connector run is a replay of the line.
use Rattle.std.proofs.Common.{◌≡◌, ℕ, ◌+◌, ◌-◌, ◌<◌, ◌≤◌, true, List, [], ◌∷◌, ◌++◌, length, map, refl, sym, ap, ◌∙◌, inl, inr, append-nil, arith}
use Rattle.std.specs.Prelude.{◌==◌, Some, Contains, fold, slice_get}
use Rattle.std.specs.List.{AllByRecursion}
use Rattle.std.proofs.lemmas.Bool.{and_parts, cases_Bool, cases_lt, eqb-true}
use Rattle.std.proofs.lemmas.List.Elements.{Contains-append_left, Contains-append_right, Contains-push, Contains-push_cases}
use Rattle.std.proofs.lemmas.Option.{none-some, same_Some}
use Rattle.cdc_broker.specs.Packets.{current_session, expected_tag, is_tag, is_taken, items_of}
use Rattle.cdc_ledger.specs.Events.{events}
use Rattle.cdc_ledger.specs.History.{History}
use Rattle.cdc_ledger.specs.Sound.{IsSound}
use Rattle.cdc_laws.specs.Arrivals.{AreAmong, AreOfTaken, taken_after, taken_of}
use Rattle.cdc_laws.specs.ConnectorRuns.{AreSessions, IsConfirmed, IsConnectorRun, Shown, sent_by}
use Rattle.cdc_laws.specs.Line.{line_after}
use Rattle.cdc_laws.proofs.Bases.{bases_taken, prefix_at}
use Rattle.cdc_laws.specs.Takings.{HasTakenUpTo}
use Rattle.cdc_laws.proofs.Lines.{line_splits, split_after}
use Rattle.cdc_laws.proofs.LongerRuns.{each_late}
use Rattle.cdc_laws.proofs.ListElements.{Contains_slice_get, each_from, each_has, none_there, slice_get-before, slice_get-behind}
use Rattle.cdc_laws.proofs.Replays.{from_places}
use Rattle.cdc_laws.proofs.Sessions.{IsPublished-sent, follows, one_session}
use Rattle.cdc_laws.proofs.Taking.{current_session-push, expected_tag-push, is_tag-some, item_taken, items_of-push, later_numbers, tag_after-is, taken_after-false, taken_after-true}
use Rattle.cdc_log.specs.Log.{events_after}
use Rattle.cdc_message.specs.declared.items.Item.{Item}
use Rattle.cdc_message.specs.declared.items.Item.TheVariants.{Event as OfEvent}
use Rattle.cdc_message.specs.declared.packets.Confirm.{Confirm}
use Rattle.cdc_message.specs.declared.packets.Packet.{Packet}
use Rattle.cdc_message.specs.declared.packets.Packet.TheVariants.{Connect, Publish}
use Rattle.cdc_message.specs.Replays.{IsReplay}
use Rattle.cdc_message.proofs.ReplayLaws.{IsReplay-in_turn, IsReplay-nil}
use Rattle.cdc_types.specs.declared.events.Event.{Event}

-- ---- an item that comes in turn

-- what holds for the item of each event holds for each item of the line before its end mark, so that everything
-- before the base of a session is known to have been taken
pub each_of_map : (P : Item → Type 0) (es : List Event) → AllByRecursion (λ e. P (OfEvent e)) es
    → AllByRecursion P (map OfEvent es)
each_of_map P [] all = tt
each_of_map P (e ∷ es) all = (all.0, each_of_map P es all.1)

-- the item at a place after a front that was taken may come once those before it have come
pub IsReplay-behind : (all f front rest : List Item) (k : ℕ) (item : Item) → IsReplay all f → f ≡ front ++ rest
    → AllByRecursion (Contains all) front → slice_get rest k ≡ Some item
    → ((i : ℕ) (x : Item) → i < k → slice_get rest i ≡ Some x → Contains all x) → IsReplay (all ++ item ∷ []) f
IsReplay-behind all f front rest k item replay whole has there earlier =
    let place : ℕ = length front + k in
    let here : slice_get f place ≡ Some item =
    rw (whole, slice_get-behind front rest place (omega arith)) (ap (slice_get rest) (omega arith) ∙ there) in
    let before : (i : ℕ) (y : Item) → i < place → slice_get f i ≡ Some y → Contains all y =
    λ i y below is.
    let at = rw whole at is in
    elim (cases_lt i (length front)) [
      | inl early ↦
          each_has (Contains all) front y has
          (Contains_slice_get front i y (sym (slice_get-before front rest i early) ∙ at))
      | inr late ↦
          earlier (i - length front) y (omega (arith, below, late)) (sym (slice_get-behind front rest i late) ∙ at)
    ] in
    IsReplay-in_turn all f item place replay here (from_places (Contains all) place f before)

-- ---- what a broker has taken, packet by packet

-- of a session that is current: every event after the start and up to its base was taken, and every item of it before
-- this tag
record IsUpTo (h : History) (start : ℕ) (items : List Item) (s : Shown) (next : ℕ) : Type 0 where
  base : HasTakenUpTo h start items s.base
  before : (k : ℕ) (x : Item) → k + 1 < next → slice_get (line_after h s.base) k ≡ Some x → Contains items x

module _ (h : History) (sound : IsSound h) (start : ℕ) (confirms : List Confirm) (sessions : List Shown)
    (each : AreSessions h start confirms sessions) where
  -- what was taken was sent, is a replay of the line, and of the current session there is no gap
  record IsInTurn (taken : List Packet) : Type 0 where
    sent : AreAmong taken (sent_by sessions)
    replay : IsReplay (items_of taken) (line_after h start)
    current : (s : Shown) → Contains sessions s → s.number ≡ current_session taken → (next : ℕ)
        → expected_tag taken ≡ Some next → IsUpTo h start (items_of taken) s next

  -- before anything has come
  IsInTurn-nil : IsInTurn []
  IsInTurn-nil = record {
    sent = λ packet there. absurd (none_there packet there);
    replay = IsReplay-nil (line_after h start);
    current = λ s there number next expected. absurd (none-some next expected);
  }

  -- what was taken of a session has its items
  its_item : (taken : List Packet) → AreAmong taken (sent_by sessions) → (s : Shown) → Contains sessions s → (place : ℕ)
      (item other : Item)
      → slice_get s.items place ≡ Some item → Contains taken (Publish s.number (place + 1) other)
      → Contains (items_of taken) item
  its_item taken sent s among place item other here there =
      let found = IsPublished-sent sessions s.number (place + 1) other (sent _ there) in
      let same = one_session h start confirms sessions found.session s each found.among among found.its in
      let places : found.place ≡ place = omega (arith, found.tagged) in
      let is : slice_get s.items place ≡ Some other = rw (same, places) at found.here in
      rw (← same_Some other item (sym is ∙ here)) (item_taken taken s.number (place + 1) other there)

  -- ---- a session connects

  -- every event up to its base was taken, since what was confirmed of earlier sessions was taken before it
  IsInTurn-connect : (taken rest : List Packet) (session : ℕ)
      → AreOfTaken confirms (fold taken_after (taken ++ Connect session ∷ []) rest) → IsInTurn taken
      → Contains (sent_by sessions) (Connect session) → IsInTurn (taken ++ Connect session ∷ [])
  IsInTurn-connect taken rest session confirmed is was_sent =
      let after : List Packet = taken ++ Connect session ∷ [] in
      let same = items_of-push taken (Connect session) ∙ append-nil (items_of taken) in
      let number = current_session-push taken (Connect session) in
      let was_taken : (s : Shown) → Contains sessions s → s.number < session → (place : ℕ) (item : Item)
      → slice_get s.items place ≡ Some item → IsConfirmed confirms s.number (place + 1)
      → Contains (items_of taken) item =
      λ s among below place item here confirm.
      let publish = confirmed s.number (place + 1) confirm in
      elim (later_numbers after rest _ publish.1) [
        | inl so_far ↦
            elim (Contains-push_cases taken (Connect session) _ so_far) [
              | inl old ↦ its_item taken is.sent s among place item publish.0 here old
              | inr not ↦ cc
            ]
        | inr late ↦ absurd (omega (arith, late, number, below))
      ] in
      record {
        sent = λ packet there.
            elim (Contains-push_cases taken (Connect session) packet there) [
              | inl old ↦ is.sent packet old
              | inr new ↦ rw (← new) was_sent
            ];
        replay = rw same is.replay;
        current = λ s among its next expected.
            let first = same_Some 1 next (sym (expected_tag-push taken (Connect session)) ∙ expected) in
            record {
              base = rw same
                  (bases_taken h sound start confirms session (items_of taken) sessions each was_taken s among
                  (omega (arith, its, number)));
              before = λ k x below here. absurd (omega (arith, below, first));
            };
      }

  -- ---- an item is published

  -- the item comes in turn, since it directly follows in the line what was taken of its session
  IsInTurn-publish : (taken : List Packet) (session tag : ℕ) (item : Item) → IsInTurn taken
      → Contains (sent_by sessions) (Publish session tag item) → session ≡ current_session taken
      → expected_tag taken ≡ Some tag → IsInTurn (taken ++ Publish session tag item ∷ [])
  IsInTurn-publish taken session tag item is was_sent its expected =
      let packet : Packet = Publish session tag item in
      let after : List Packet = taken ++ packet ∷ [] in
      let pushed : items_of after ≡ items_of taken ++ item ∷ [] = items_of-push taken packet in
      let more : (x : Item) → Contains (items_of taken) x → Contains (items_of after) x =
      λ x old. rw pushed (Contains-append_left (items_of taken) (item ∷ []) x old) in
      let found = IsPublished-sent sessions session tag item was_sent in
      let s : Shown = found.session in
      let here =
      prefix_at s.items (line_after h s.base) found.place item
      (follows h start confirms sessions s each found.among).may.items found.here in
      let up_to = is.current s found.among (found.its ∙ its) tag expected in
      let cut = split_after h start s.base sound (each_late h sound start confirms sessions each s found.among) in
      let front =
      each_from (λ e. Contains (items_of taken) (OfEvent e)) cut.0
      (λ e there. up_to.base e
      (rw cut.1.whole (Contains-append_left cut.0 (events_after s.base (events h)) e there))
      (each_has (λ x. x.timestamp ≤ s.base) cut.0 e cut.1.low there)) in
      record {
        sent = λ other there.
            elim (Contains-push_cases taken packet other there) [
              | inl old ↦ is.sent other old
              | inr new ↦ rw (← new) was_sent
            ];
        replay = rw pushed
            (IsReplay-behind _ _ (map OfEvent cut.0) (line_after h s.base) found.place item is.replay
            (line_splits h start s.base cut.0 cut.1) (each_of_map (Contains (items_of taken)) cut.0 front) here
            (λ i x below at. up_to.before i x (omega (arith, below, found.tagged)) at));
        current = λ t among number next expects.
            let same =
            one_session h start confirms sessions s t each found.among among
            (found.its ∙ its ∙ sym (current_session-push taken packet) ∙ sym number) in
            let is_next = tag_after-is tag next (sym (expected_tag-push taken packet) ∙ expects) in
            rw (← same)
            (record {
              base = λ e there low. more (OfEvent e) (up_to.base e there low);
              before = λ k x below at.
                  elim (cases_lt (k + 1) tag) [
                    | inl early ↦ more x (up_to.before k x early at)
                    | inr late ↦
                        let this : k ≡ found.place = omega (arith, late, below, is_next, found.tagged) in
                        let item_is = same_Some item x (sym here ∙ rw this at at) in
                        rw (pushed, ← item_is) (Contains-push (items_of taken) item)
                  ];
            });
      }

  -- ---- whatever arrives

  -- a packet that is taken
  IsInTurn-taken : (taken rest : List Packet) (packet : Packet)
      → AreOfTaken confirms (fold taken_after (taken ++ packet ∷ []) rest) → IsInTurn taken
      → Contains (sent_by sessions) packet → is_taken taken packet ≡ true → IsInTurn (taken ++ packet ∷ [])
  IsInTurn-taken taken rest (Connect session) confirmed is was_sent takes =
      IsInTurn-connect taken rest session confirmed is was_sent
  IsInTurn-taken taken rest (Publish session tag item) confirmed is was_sent takes =
      let parts = and_parts (session == current_session taken) (is_tag (expected_tag taken) tag) takes in
      IsInTurn-publish taken session tag item is was_sent (eqb-true session (current_session taken) parts.0)
      (is_tag-some (expected_tag taken) tag parts.1)

  -- packets that arrive one after another
  IsInTurn-all : (taken rest : List Packet) → AreOfTaken confirms (fold taken_after taken rest)
      → AreAmong rest (sent_by sessions) → IsInTurn taken → IsInTurn (fold taken_after taken rest)
  IsInTurn-all taken [] confirmed among is = is
  IsInTurn-all taken (packet ∷ rest) confirmed among is =
      let first : Contains (sent_by sessions) packet = among packet (0, omega arith, refl) in
      let others : AreAmong rest (sent_by sessions) =
      λ other there. among other (Contains-append_right (packet ∷ []) rest other there) in
      elim (cases_Bool (is_taken taken packet)) [
        | inl takes ↦
            let same = taken_after-true taken packet takes in
            let of_taken = rw same at confirmed in
            rw same
            (IsInTurn-all (taken ++ packet ∷ []) rest of_taken others
            (IsInTurn-taken taken rest packet of_taken is first takes))
        | inr passes ↦
            let same = taken_after-false taken packet passes in
            rw same (IsInTurn-all taken rest (rw same at confirmed) others is)
      ]

-- so whatever arrives of what a connector has sent, what a broker takes of it is a replay of the line after the start
pub IsReplay-taken : (h : History) (start : ℕ) (sent arrived : List Packet) (confirms : List Confirm) → IsSound h
    → IsConnectorRun h start sent confirms → AreAmong arrived sent → AreOfTaken confirms (taken_of arrived)
    → IsReplay (items_of (taken_of arrived)) (line_after h start)
IsReplay-taken h start sent arrived confirms sound run among confirmed =
    let came : AreAmong arrived (sent_by run.sessions) = λ packet there. rw run.makes (among packet there) in
    (IsInTurn-all h sound start confirms run.sessions run.each [] arrived confirmed came
    (IsInTurn-nil h sound start confirms run.sessions run.each)).replay
