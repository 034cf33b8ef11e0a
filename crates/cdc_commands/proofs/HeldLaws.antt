-- What a subscriber keeps that has taken its whole queue of a closed ledger.
use Rattle.cdc_commands.proofs.Terms.{AllByRecursion, Arguments, Bool, Event, History, IsFaithful, Item, List, Reception, Script, SubscriberState, [], ap, append-nil, applied, ap₂, arith, emitted, empty_history, event_of, events, false, feed, feed_of, filter, has_ended, history_after, history_of, if◌then◌else◌, kept_by, length, length-map, line, line_after, map, min, queue, received_of, receiving, refl, subst, sym, takes_event, true, ℕ, ◌+◌, ◌-◌, ◌<◌, ◌^◌, ◌∙◌, ◌∷◌, ◌≡◌, ◌≤◌}
use Rattle.cdc_types.specs.declared.events.Entry.{Entry}
use Rattle.cdc_types.specs.Timestamps.{last_timestamp}
use Rattle.cdc_ledger.specs.Sound as sound
use Rattle.cdc_ledger.specs.Verdict.{max_timestamp}
use Rattle.cdc_ledger.proofs.KeptLaws.{IsSound-after_batches}
use Rattle.cdc_ledger.proofs.SoundLaws.{IsSound-empty, IsSound-closed}
use Rattle.cdc_message.specs.Replays.{IsPrefix, IsReplay}
use Rattle.cdc_subscriber.specs.Book.{accounts_of, book_of}
use Rattle.cdc_laws.proofs.Books.{book_of-prefix}
use Rattle.cdc_laws.proofs.Faithful.{receives-all, receives-emitted, kept_of-line}
use Rattle.cdc_laws.proofs.Feeds.{queue-line}
use Rattle.cdc_laws.proofs.Lines.{all_after_zero, line_after-zero}
use Rattle.cdc_laws.proofs.Replays.{IsReplay-same}
use Rattle.cdc_commands.specs.Held.{HasWholeFeed, ListsBalances, entry_as_of}

-- ---- a ledger's events are few: no two have one timestamp

-- rising entries are no more than the timestamps up to the last
few_entries : (t most : ℕ) (es : List Entry) → t ≤ most → sound.RiseFrom t es
    → AllByRecursion (λ e. e.timestamp ≤ most) es
    → t + length es ≤ most
few_entries t most [] within rise past = omega arith
few_entries t most (e ∷ es) within rise past =
    omega (arith, rise.0, few_entries e.timestamp most es past.0 rise.1 past.1)

-- so a ledger has no more events than there are timestamps
few_events : (h : History) → sound.IsSound h → length (events h) ≤ max_timestamp
few_events h is =
    omega (
      arith,
      length-map h.entries (event_of h),
      few_entries 0 h.last h.entries (omega arith) is.rising is.past,
      is.within,
    )

-- a feed has no more events than the ledger, so that a subscriber's count of them is exact
length_filter : (p : Event → Bool) (es : List Event) → length (filter p es) ≤ length es
length_filter p [] = omega arith
length_filter p (e ∷ es) = kept_or_not (p e) (length_filter p es)
  where
    kept_or_not : (b : Bool) → length (filter p es) ≤ length es
        → length (if b then e ∷ filter p es else filter p es) ≤ length (e ∷ es)
    kept_or_not true rest = omega (arith, rest)
    kept_or_not false rest = omega (arith, rest)

-- ---- a subscriber of a closed ledger

module _ (h : History) (binding : Arguments) (is : sound.IsSound h) (shut : h.closed ≡ true) where
  -- its queue is its feed, and the end mark
  whole_queue : queue (line h) binding ≡ emitted (feed_of h binding) true
  whole_queue = queue-line h binding ∙ ap (emitted (feed_of h binding)) shut

  -- it receives all of it
  receives_queue : received_of (line h) binding ≡ record { items = queue (line h) binding; closed = false }
  receives_queue =
      ap receiving whole_queue ∙ receives-emitted (feed_of h binding)
      ∙ ap (λ (items : List Item). record { items = items; closed = false }) (sym whole_queue)

  -- all that the ledger has to publish comes after 0
  line_zero : line_after h 0 ≡ line h
  line_zero = line_after-zero h is

  -- so it has ended and is faithful
  receives : (has_ended (received_of (line h) binding) ≡ true) × IsFaithful h 0 binding (received_of (line h) binding)
  receives =
      receives-all h 0 binding (received_of (line h) binding) is shut
      (ap (λ (x : Reception). x.items) receives_queue ∙ ap (λ (items : List Item). queue items binding) (sym line_zero))

  -- its feed is short enough to be counted
  few_of_feed : length (feed_of h binding) ≤ 2 ^ 64 - 1
  few_of_feed = omega (arith, few_events h is, length_filter (takes_event binding) (events h))

  -- its state is determined by its feed
  keeps_feed : kept_by (line h) binding ≡ record {
    book = book_of (feed_of h binding);
    last = last_timestamp (feed_of h binding);
    applied = length (feed_of h binding);
    ended = true;
    closed = false;
  }
  keeps_feed =
      let reception = received_of (line h) binding in
      let replay : IsReplay reception.items (queue (line h) binding) =
      subst (λ items. IsReplay items (queue (line h) binding)) (sym (ap (λ (x : Reception). x.items) receives_queue))
      (IsReplay-same (queue (line h) binding)) in
      let after_zero : IsReplay reception.items (queue (line_after h 0) binding) =
      subst (λ (items : List Item). IsReplay reception.items (queue items binding)) (sym line_zero) replay in
      let whole : applied reception ≡ feed_of h binding =
      (receives.1.whole receives.0).1 ∙ ap (λ es. feed es binding) (all_after_zero h is) in
      let count : min (length (feed_of h binding)) (2 ^ 64 - 1) ≡ length (feed_of h binding) =
      omega (arith, few_of_feed) in
      let kept : List Event → ℕ → Bool → Bool → SubscriberState = λ es n ended closed.
      record { book = book_of es; last = last_timestamp es; applied = n; ended = ended; closed = closed } in
      kept_of-line h 0 binding reception is after_zero
      ∙ ap (λ es. kept es (min (length es) (2 ^ 64 - 1)) (has_ended reception) reception.closed) whole
      ∙ ap (λ n. kept (feed_of h binding) n (has_ended reception) reception.closed) count
      ∙ ap₂ (kept (feed_of h binding) (length (feed_of h binding))) receives.0
      (ap (λ (x : Reception). x.closed) receives_queue)

  -- and if every event matches the binding, its book has the ledger's balances
  lists_balances : ListsBalances h binding
  lists_balances every =
      let last : (kept_by (line h) binding).last ≡ last_timestamp (events h) =
      ap (λ (k : SubscriberState). k.last) keeps_feed ∙ ap last_timestamp every in
      let all : IsPrefix (events h) (events h) = record { rest = []; whole = append-nil (events h) } in
      ap (λ (k : SubscriberState). k.book) keeps_feed ∙ ap book_of every ∙ book_of-prefix h (events h) is all
      ∙ ap (λ t. map (entry_as_of h t) (accounts_of (events h))) (sym last)

-- ---- the histories of scripts

-- what holds of every history that batches and a close make holds of a script's
sound_script : (script : Script) → sound.IsSound (history_of script)
sound_script script =
    IsSound-closed (history_after empty_history script.batches)
    (IsSound-after_batches empty_history (map (λ b. b.batch) script.batches) IsSound-empty)

-- a script's events never use up the tags of their one connection
pub few_of_script : (script : Script) → length (events (history_of script)) < 2 ^ 63
few_of_script script = omega (arith, few_events (history_of script) (sound_script script))

-- a subscriber of the ledger that a script makes has its whole feed, which is what `books` promises of each binding
pub whole_feeds : (script : Script) (binding : Arguments) → HasWholeFeed (history_of script) binding
whole_feeds script binding =
    let h : History = history_of script in
    let reception = receives h binding (sound_script script) refl in
    record { faithful = reception.1; ended = reception.0; kept = keeps_feed h binding (sound_script script) refl }

-- and it has the ledger's balances if every event matches its binding, as `books` promises too
pub all_balances : (script : Script) (binding : Arguments) → ListsBalances (history_of script) binding
all_balances script binding = lists_balances (history_of script) binding (sound_script script) refl
