-- The lines of a queue are entries of that queue, and so is whatever arrives of them.
use Rattle.std.proofs.Common.{◌≡◌, ℕ, ◌+◌, ◌<◌, ◌^◌, Bool, true, false, cond, List, [], ◌∷◌, ◌++◌, Some, codes, flat_map, filter, refl, sym, ap, ◌∙◌, subst, arith, append_assoc, append-nil}
use Rattle.std.specs.Prelude.{Contains, Option, Result}
use Rattle.std.specs.List.{AllByRecursion}
use Rattle.std.proofs.lemmas.List.Elements.{All-contains, All-from_recursion}
use Rattle.cdc_types.specs.declared.events.Event.{Event}
use Rattle.cdc_types.specs.Timestamps.{RiseFrom, last_timestamp}
use Rattle.cdc_types.proofs.Rising.{RiseFrom-filter, last_timestamp_from-push}
use Rattle.cdc_message.specs.Widths.{EventFits}
use Rattle.cdc_match.specs.Queue.{feed, takes_event}
use Rattle.cdc_follow.specs.declared.entries.Content.TheVariants as content
use Rattle.cdc_follow.specs.declared.entries.Entry.{Entry}
use Rattle.cdc_follow.specs.declared.errors.LineError.{LineError}
use Rattle.cdc_follow.specs.Laws.{IsOfQueue, begins, entries_in, taken_by}
use Rattle.cdc_follow.specs.LineParts.{HasNoFeed}
use Rattle.cdc_follow.specs.Lines.{lines_of}
use Rattle.cdc_follow.specs.Streams.{stream_of_lines, stream_with}
use Rattle.cdc_follow.proofs.FoldLemmas.{followed_keep_a_prefix}
use Rattle.cdc_follow.proofs.LineLemmas.{lines_of-feed, lines_of-none}
use Rattle.cdc_follow.proofs.QueueLemmas.{keeps_a_prefix}
use Rattle.cdc_queue_lines.specs.Lines.{end_line, ended, lines_after, message_line, queue_text}
use Rattle.cdc_queue_lines.proofs.Values.{ends_read, messages_read}
use Rattle.cdc_queue_laws.specs.Laws.{IsLineOfQueue, QueueTextsAreOfQueues, WhateverArrivesIsAPrefix, WhateverArrivesLaterToo}
use Rattle.cdc_queue_laws.proofs.EntryLemmas.{chained, end_entry, message_entry}

-- ---- the lines

-- the lines of the events after some prefix of a queue, and of its end, are of the queue
lines_are : (queue before after : List Event) → queue ≡ before ++ after → last_timestamp before < 2 ^ 64
    → AllByRecursion EventFits after
    → AllByRecursion (IsLineOfQueue queue) (lines_after (last_timestamp before) after)
lines_are queue before [] whole small fit =
    let previous = last_timestamp before in
    let last : last_timestamp before ≡ last_timestamp queue = ap last_timestamp (sym (whole ∙ append-nil before)) in (
      (
        chained content.End previous,
        end_entry previous (end_line previous) small (ends_read previous small),
        ap (λ (t : ℕ). Some t) last,
      ),
      tt,
    )
lines_are queue before (e ∷ rest) whole small fit =
    let previous = last_timestamp before in
    let next : last_timestamp (before ++ e ∷ []) ≡ e.timestamp = last_timestamp_from-push 0 before e in
    let fits : e.timestamp < 2 ^ 64 = fit.0.timestamp in
    let later : last_timestamp (before ++ e ∷ []) < 2 ^ 64 = subst (λ (t : ℕ). t < 2 ^ 64) (sym next) fits in (
      (
        chained (content.Event e) previous,
        message_entry previous e (message_line previous e) small (messages_read previous e small fit.0),
        (before, rest, whole, refl),
      ),
      subst (λ (t : ℕ). AllByRecursion (IsLineOfQueue queue) (lines_after t rest)) next
          (lines_are queue (before ++ e ∷ []) rest (whole ∙ sym (append_assoc before (e ∷ []) rest)) later fit.1),
    )

-- no line has a line feed in it
lines_clean : (previous : ℕ) (events : List Event) → previous < 2 ^ 64 → AllByRecursion EventFits events
    → AllByRecursion HasNoFeed (lines_after previous events)
lines_clean previous [] small fit = ((ends_read previous small).is_line.clean, tt)
lines_clean previous (e ∷ rest) small fit =
    ((messages_read previous e small fit.0).is_line.clean, lines_clean e.timestamp rest fit.0.timestamp fit.1)

-- so the lines of their text are these lines
text_lines : (lines : List (List ℕ)) → AllByRecursion HasNoFeed lines → lines_of (flat_map ended lines) ≡ lines
text_lines [] clean = lines_of-none
text_lines (line ∷ rest) clean =
    ap lines_of (append_assoc line (codes "\n") (flat_map ended rest))
    ∙ lines_of-feed line (flat_map ended rest) clean.0
    ∙ ap (λ (ls : List (List ℕ)). line ∷ ls) (text_lines rest clean.1)

-- the events that a binding takes fit as well
fit_taken : (p : Event → Bool) (events : List Event) → AllByRecursion EventFits events
    → AllByRecursion EventFits (filter p events)
fit_taken p [] fit = tt
fit_taken p (e ∷ events) fit = kept_or_not (p e) (fit_taken p events fit.1)
  where
    kept_or_not : (b : Bool) → AllByRecursion EventFits (filter p events)
        → AllByRecursion EventFits (cond b (e ∷ filter p events) (filter p events))
    kept_or_not true rest = (fit.0, rest)
    kept_or_not false rest = rest

-- the lines of a queue's text are entries of the queue
pub texts_are_of_queues : QueueTextsAreOfQueues
texts_are_of_queues binding events are =
    let queue = feed events binding in
    let fit = fit_taken (takes_event binding) events are.fit in
    let zero_fits : 0 < 2 ^ 64 = omega arith in
    subst (AllByRecursion (IsLineOfQueue (taken_by binding events)))
    (sym (text_lines (lines_after 0 queue) (lines_clean 0 queue zero_fits fit)))
    (lines_are queue [] queue refl zero_fits fit)

-- ---- what arrives

-- whatever lines of a queue arrive, each has an entry of the queue, and none is bad
arrived : (queue : List Event) (number : ℕ) (lines : List (List ℕ)) → AllByRecursion (IsLineOfQueue queue) lines
    → AllByRecursion (IsOfQueue queue) (entries_in (stream_of_lines true number lines).entries)
unfolding stream_of_lines
arrived queue number [] are = tt
arrived queue number (line ∷ rest) are =
    subst (λ (read : Result (Option Entry) LineError). AllByRecursion (IsOfQueue queue)
    (entries_in (stream_with number read (stream_of_lines true (number + 1) rest)).entries)) (sym are.0.1)
    (are.0.2, arrived queue (number + 1) rest are.1)

-- each line that is among lines of a queue is one
among : (queue : List Event) (all lines : List (List ℕ)) → AllByRecursion (IsLineOfQueue queue) all
    → AllByRecursion (Contains all) lines → AllByRecursion (IsLineOfQueue queue) lines
among queue all [] are within = tt
among queue all (line ∷ rest) are within = (
  All-contains (IsLineOfQueue queue) all line (All-from_recursion (IsLineOfQueue queue) all are) within.0,
  among queue all rest are within.1,
)

-- a follower that keeps a prefix of the queue keeps one after whatever arrives
pub arrives_later : WhateverArrivesLaterToo
arrives_later binding own events rules state bytes are keeps within chains =
    let queue = taken_by binding events in
    let rising : RiseFrom 0 (taken_by binding events) = RiseFrom-filter (takes_event binding) 0 events are.rising in
    let lines = among queue (lines_of (queue_text binding events)) (lines_of bytes)
    (texts_are_of_queues binding events are) within in
    let stream = stream_of_lines rules.chained 1 (lines_of bytes) in
    let listed : AllByRecursion (IsOfQueue queue) (entries_in stream.entries) =
    subst (λ (b : Bool). AllByRecursion (IsOfQueue queue) (entries_in (stream_of_lines b 1 (lines_of bytes)).entries))
    (sym chains) (arrived queue 1 (lines_of bytes) lines) in
    followed_keep_a_prefix own rules.skips_gaps queue state stream.entries rising keeps listed

-- and so does one that begins, with the empty prefix
pub whatever_arrives : WhateverArrivesIsAPrefix
whatever_arrives binding own events rules bytes are within chains =
    let rising : RiseFrom 0 (taken_by binding events) = RiseFrom-filter (takes_event binding) 0 events are.rising in
    arrives_later binding own events rules begins bytes are
    (keeps_a_prefix own (taken_by binding events) [] rising tt) within chains
