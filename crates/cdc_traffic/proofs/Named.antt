-- The pasts that one sender names, one after another, and what is read of them.
use Rattle.std.proofs.Common.{◌≡◌, ℕ, Option, Some, None, List, [], ◌∷◌, ◌++◌, sym, ap, subst, append_assoc, append-nil}
use Rattle.std.specs.Prelude.{unwrap_or}
use Rattle.std.proofs.lemmas.List.Sums.{fold-append}
use Rattle.cdc_laws.specs.Readings.{AreReadings, IsOf, Reading}
use Rattle.cdc_laws.proofs.GoingOn.{GoesOn-same}
use Rattle.cdc_laws.proofs.Offers.{readings-goes_on}
use Rattle.cdc_ledger.specs.History.{History}
use Rattle.cdc_ledger.proofs.SoundLaws.{IsSound-empty}
use Rattle.cdc_links.specs.Links.{CanSend, FollowFrom}
use Rattle.cdc_links.proofs.Entries.{follow-prefix}
use Rattle.cdc_traffic.specs.Following.{FollowsToClient, FollowsToConnector, MaySendConnector, last_left, last_named}
use Rattle.cdc_traffic.specs.Laws.{reading_of, readings_of, with_reading}
use Rattle.cdc_traffic.specs.Pasts.{Continues, history_of, no_past, with_batch}
use Rattle.cdc_traffic.specs.declared.messages.ToConnector.{ToConnector}
use Rattle.cdc_traffic.specs.declared.messages.ToConnector.TheVariants as message
use Rattle.cdc_traffic.specs.declared.pasts.Past.{Past}
use Rattle.cdc_traffic.specs.declared.requests.Reply.{Reply}
use Rattle.cdc_traffic.proofs.Continuing.{Continues-batch, Continues-same, Continues-trans, past_sound, pasts_go_on}

module _ {M N : Type 0} (may_follow : ℕ → List (M × N) → M × N → Type 0) where
  -- what could be sent after some messages is what is left of what could be sent with them
  pub follow-rest : (j : ℕ) (before xs ys : List (M × N)) → FollowFrom may_follow j before (xs ++ ys)
      → FollowFrom may_follow j (before ++ xs) ys
  follow-rest j before [] ys chain =
      subst (λ (l : List (M × N)). FollowFrom may_follow j l ys) (sym (append-nil before)) chain
  follow-rest j before (x ∷ xs) ys chain =
      subst (λ (l : List (M × N)). FollowFrom may_follow j l ys) (append_assoc before (x ∷ []) xs)
      (follow-rest j (before ++ x ∷ []) xs ys chain.1)

  -- if each message may only continue what the messages before it name, so do several of them
  pub follow-continues : (j : ℕ) (name : List (M × N) → Past)
      → ((before : List (M × N)) (x : M × N) → may_follow j before x
      → Continues (name before) (name (before ++ x ∷ []))) → (before xs : List (M × N))
      → FollowFrom may_follow j before xs → Continues (name before) (name (before ++ xs))
  follow-continues j name next before [] chain =
      subst (λ (l : List (M × N)). Continues (name before) (name l)) (sym (append-nil before))
      (Continues-same (name before))
  follow-continues j name next before (x ∷ xs) chain =
      let more : List (M × N) = before ++ x ∷ [] in
      Continues-trans (name before) (name more) (name (before ++ x ∷ xs)) (next before x chain.0)
      (subst (λ (l : List (M × N)). Continues (name more) (name l)) (append_assoc before (x ∷ []) xs)
      (follow-continues j name next more xs chain.1))

-- ---- to a client

-- a reply leaves a past that continues the one before
left_next : (before : List (Reply × Past)) (x : Reply × Past) → FollowsToClient 0 before x
    → Continues (last_left before) (last_left (before ++ x ∷ []))
left_next before x may =
    let left : Past = with_batch x.0.batch x.1 in
    let is : last_left (before ++ x ∷ []) ≡ left =
    fold-append (λ (past : Past) (each : Reply × Past). with_batch each.0.batch each.1) no_past before (x ∷ []) in
    subst (Continues (last_left before)) (sym is)
    (Continues-trans (last_left before) x.1 left may.continues (Continues-batch x.0.batch x.1 may.not_closed))

pub replies_go_on : (received more : List (Reply × Past)) → CanSend FollowsToClient 0 (received ++ more)
    → Continues (last_left received) (last_left (received ++ more))
replies_go_on received more chain =
    follow-continues FollowsToClient 0 last_left left_next received more
    (follow-rest FollowsToClient 0 [] received more chain)

-- ---- to the connector

-- the past that is named last
last_named-push : (before : List (ToConnector × Option Past)) (x : ToConnector × Option Past)
    → last_named (before ++ x ∷ []) ≡ unwrap_or x.1 (last_named before)
last_named-push before x =
    fold-append (λ (past : Past) (each : ToConnector × Option Past). unwrap_or each.1 past) no_past before (x ∷ [])

-- a message names a past that continues the one before, or none
named_next : (before : List (ToConnector × Option Past)) (m : ToConnector) (name : Option Past)
    → MaySendConnector 0 before m name → Continues (last_named before) (unwrap_or name (last_named before))
named_next before (message.PollReply reply) (Some past) may = may.1.continues
named_next before (message.PollReply reply) None may = absurd may
named_next before (message.Confirm confirm) (Some past) may = absurd may
named_next before (message.Confirm confirm) None may = Continues-same (last_named before)

named_follows : (before : List (ToConnector × Option Past)) (x : ToConnector × Option Past)
    → FollowsToConnector 0 before x → Continues (last_named before) (last_named (before ++ x ∷ []))
named_follows before x follows =
    subst (Continues (last_named before)) (sym (last_named-push before x)) (named_next before x.0 x.1 follows.may)

-- a reply to a poll is a reading of the history that it names
reply_reads : (before : List (ToConnector × Option Past)) (m : ToConnector) (name : Option Past)
    → MaySendConnector 0 before m name → AreReadings (readings_of before) (history_of (last_named before))
    → AreReadings (with_reading (readings_of before) m) (history_of (unwrap_or name (last_named before)))
reply_reads before (message.PollReply reply) (Some past) may are =
    let h : History = history_of past in
    let of : IsOf h (reading_of reply) =
    record { events_are = ap (λ r. r.events) may.1.read; complete_is = ap (λ r. r.complete) may.1.read } in
    let on = pasts_go_on (last_named before) past may.1.continues in
    let earlier : AreReadings (readings_of before) h =
    readings-goes_on (readings_of before) (history_of (last_named before)) h are on (past_sound past) in
    (past_sound past, (h, (of, earlier, GoesOn-same h)))
reply_reads before (message.PollReply reply) None may are = absurd may
reply_reads before (message.Confirm confirm) (Some past) may are = absurd may
reply_reads before (message.Confirm confirm) None may are = are

-- the replies to polls are readings of the history that is named last
all_read : (before xs : List (ToConnector × Option Past)) → FollowFrom FollowsToConnector 0 before xs
    → AreReadings (readings_of before) (history_of (last_named before))
    → AreReadings (readings_of (before ++ xs)) (history_of (last_named (before ++ xs)))
all_read before [] chain are =
    subst (λ (l : List (ToConnector × Option Past)). AreReadings (readings_of l) (history_of (last_named l)))
    (sym (append-nil before)) are
all_read before (x ∷ xs) chain are =
    let more : List (ToConnector × Option Past) = before ++ x ∷ [] in
    let read : readings_of more ≡ with_reading (readings_of before) x.0 =
    fold-append (λ (readings : List Reading) (each : ToConnector × Option Past). with_reading readings each.0) []
    before (x ∷ []) in
    let next : AreReadings (with_reading (readings_of before) x.0)
    (history_of (unwrap_or x.1 (last_named before))) = reply_reads before x.0 x.1 chain.0.may are in
    let named : AreReadings (with_reading (readings_of before) x.0) (history_of (last_named more)) =
    subst (λ (past : Past). AreReadings (with_reading (readings_of before) x.0) (history_of past))
    (sym (last_named-push before x)) next in
    subst (λ (l : List (ToConnector × Option Past)). AreReadings (readings_of l) (history_of (last_named l)))
    (append_assoc before (x ∷ []) xs)
    (all_read more xs chain.1
    (subst (λ (rs : List Reading). AreReadings rs (history_of (last_named more))) (sym read) named))

-- and so are those of any prefix of them, for each history that extends it
pub poll_replies_read : (received more : List (ToConnector × Option Past)) (past : Past)
    → CanSend FollowsToConnector 0 (received ++ more) → Continues (last_named (received ++ more)) past
    → AreReadings (readings_of received) (history_of past)
poll_replies_read received more past chain on =
    let start : FollowFrom FollowsToConnector 0 [] received =
    follow-prefix FollowsToConnector 0 [] received more chain in
    let are : AreReadings (readings_of received) (history_of (last_named received)) =
    all_read [] received start IsSound-empty in
    let later : Continues (last_named received) (last_named (received ++ more)) =
    follow-continues FollowsToConnector 0 last_named named_follows received more
    (follow-rest FollowsToConnector 0 [] received more chain) in
    let whole = Continues-trans (last_named received) (last_named (received ++ more)) past later on in
    readings-goes_on (readings_of received) (history_of (last_named received)) (history_of past) are
    (pasts_go_on (last_named received) past whole) (past_sound past)
