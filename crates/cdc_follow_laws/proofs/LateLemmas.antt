-- A follower that begins after some events of a queue keeps a prefix of the later ones.
use Rattle.std.proofs.Common.{◌≡◌, ℕ, ◌+◌, ◌<◌, ◌≤◌, List, [], ◌∷◌, ◌++◌, length, length-append, min, fold}
use Rattle.std.proofs.Common.{Bool, true, false, cond, Some, refl, sym, ap, ◌∙◌, arith, subst, append-nil, append_assoc}
use Rattle.std.specs.Prelude.{nat_le}
use Rattle.std.specs.List.{AllByRecursion}
use Rattle.std.proofs.lemmas.Bool.{lt-leb}
use Rattle.cdc_types.specs.declared.events.Event.{Event}
use Rattle.cdc_types.specs.Timestamps.{RiseFrom, last_timestamp, last_timestamp_from}
use Rattle.cdc_types.specs.Widths.{max_64}
use Rattle.cdc_types.proofs.Rising.{RiseFrom-earlier, RiseFrom-filter, last_timestamp_from-push}
use Rattle.cdc_message.specs.declared.items.Item.TheVariants as item
use Rattle.cdc_message.specs.Headers.{headers_of_event}
use Rattle.cdc_match.specs.Arguments.{Arguments}
use Rattle.cdc_match.specs.Matching.{matches}
use Rattle.cdc_subscriber.specs.declared.book.BookEntry.{BookEntry}
use Rattle.cdc_subscriber.specs.Book.{book_of}
use Rattle.cdc_subscriber.specs.Steps.{next_state, with_event}
use Rattle.cdc_subscriber.specs.SubscriberState.{SubscriberState}
use Rattle.cdc_subscriber.proofs.BookLemmas.{book_of-push}
use Rattle.cdc_follow.specs.declared.entries.Content.{Content}
use Rattle.cdc_follow.specs.declared.entries.Content.TheVariants as content
use Rattle.cdc_follow.specs.declared.entries.Entry.{Entry}
use Rattle.cdc_follow.specs.Following.{FollowState, follow_all, next_follow, outcome_of}
use Rattle.cdc_follow.specs.Laws.{IsContentOf, IsOfQueue, begins, kept_after, reception_of, taken_by}
use Rattle.cdc_follow_laws.specs.Chains.{LateFollowersKeepAPrefix, NamesPrevious, chain_from, is_seen}
use Rattle.cdc_follow_laws.specs.Chains.{seen_among}
use Rattle.cdc_follow_laws.proofs.ChainLemmas.{sees_a_chain}

-- ---- what a subscriber keeps that receives events that rise

-- the count after one more
counted : (n most : ℕ) → min (min n most + 1) most ≡ min (n + 1) most
counted n most = omega arith

-- a subscriber that has applied events applies one that is later than all of them
kept_after-push : (events : List Event) (e : Event) → last_timestamp events < e.timestamp
    → next_state (kept_after events false) (item.Event e) ≡ kept_after (events ++ e ∷ []) false
kept_after-push events e later =
    let new : nat_le e.timestamp (last_timestamp events) ≡ false = lt-leb e.timestamp (last_timestamp events) later in
    ap (λ (b : Bool). cond b (kept_after events false) (with_event (kept_after events false) e)) new ∙ same
  where
    all : List Event
    all = events ++ e ∷ []

    with_all : List BookEntry → ℕ → ℕ → SubscriberState
    with_all book last count =
        record { book = book; last = last; applied = count; ended = false; closed = false }

    same : with_event (kept_after events false) e ≡ kept_after all false
    same = ap (λ (book : List BookEntry). with_all book e.timestamp (min (min (length events) max_64 + 1) max_64))
        (sym (book_of-push events e))
        ∙ ap (λ (last : ℕ). with_all (book_of all) last (min (min (length events) max_64 + 1) max_64))
        (sym (last_timestamp_from-push 0 events e))
        ∙ ap (λ (count : ℕ). with_all (book_of all) (last_timestamp all) count)
        (counted (length events) max_64 ∙ ap (λ (n : ℕ). min n max_64) (sym (length-append events (e ∷ []))))

-- and so it does with more events, and with the end
received : (done events : List Event) (ended : Bool) → RiseFrom (last_timestamp done) events
    → fold next_state (kept_after done false) (reception_of events ended).items ≡ kept_after (done ++ events) ended
received done [] true rising = ap (λ (es : List Event). kept_after es true) (sym (append-nil done))
received done [] false rising = ap (λ (es : List Event). kept_after es false) (sym (append-nil done))
received done (e ∷ events) ended rising =
    let later : last_timestamp (done ++ e ∷ []) ≡ e.timestamp = last_timestamp_from-push 0 done e in
    ap (λ (kept : SubscriberState). fold next_state kept (reception_of events ended).items)
    (kept_after-push done e rising.0)
    ∙ received (done ++ e ∷ []) events ended (subst (λ (t : ℕ). RiseFrom t events) (sym later) rising.1)
    ∙ ap (λ (es : List Event). kept_after es ended) (append_assoc done (e ∷ []) events)

-- ---- where an event stands in a queue

last-append : (t : ℕ) (xs ys : List Event)
    → last_timestamp_from t (xs ++ ys) ≡ last_timestamp_from (last_timestamp_from t xs) ys
last-append t [] ys = refl
last-append t (x ∷ xs) ys = last-append x.timestamp xs ys

rise_after : (t : ℕ) (xs ys : List Event) → RiseFrom t (xs ++ ys) → RiseFrom (last_timestamp_from t xs) ys
rise_after t [] ys rising = rising
rise_after t (x ∷ xs) ys rising = rise_after x.timestamp xs ys rising.1

last-rises : (t : ℕ) (xs : List Event) → RiseFrom t xs → t ≤ last_timestamp_from t xs
last-rises t [] rising = omega arith
last-rises t (x ∷ xs) rising = omega (arith, rising.0, last-rises x.timestamp xs rising.1)

rise_before : (t : ℕ) (xs ys : List Event) → RiseFrom t (xs ++ ys) → RiseFrom t xs
rise_before t [] ys rising = tt
rise_before t (x ∷ xs) ys rising = (rising.0, rise_before x.timestamp xs ys rising.1)

head_is : (x y : Event) (xs ys : List Event) → x ∷ xs ≡ y ∷ ys → x ≡ y
head_is x y xs ys is = cc

tail_is : (x y : Event) (xs ys : List Event) → x ∷ xs ≡ y ∷ ys → xs ≡ ys
tail_is x y xs ys is = cc

-- a list that rises ends where it began only if it has no event
none_after : (t : ℕ) (xs : List Event) → RiseFrom t xs → last_timestamp_from t xs ≡ t → xs ≡ []
none_after t [] rising is = refl
none_after t (x ∷ xs) rising is = absurd (omega (arith, rising.0, last-rises x.timestamp xs rising.1, is))

-- two prefixes with one last timestamp leave the same
same_rest : (t : ℕ) (one other rest later : List Event) → RiseFrom t (other ++ later) → other ++ later ≡ one ++ rest
    → last_timestamp_from t one ≡ last_timestamp_from t other → later ≡ rest
same_rest t [] [] rest later rising is last = is
same_rest t [] (x ∷ other) rest later rising is last =
    let none = none_after t (x ∷ other) (rise_before t (x ∷ other) later rising) (sym last) in absurd cc
same_rest t (y ∷ one) [] rest later rising is last =
    let rises : RiseFrom t (y ∷ one) = rise_before t (y ∷ one) rest (subst (RiseFrom t) is rising) in
    let none = none_after t (y ∷ one) rises last in absurd cc
same_rest t (y ∷ one) (x ∷ other) rest later rising is last =
    let same = head_is x y (other ++ later) (one ++ rest) is in
    same_rest x.timestamp one other rest later rising.1 (tail_is x y (other ++ later) (one ++ rest) is)
    (ap (λ (e : Event). last_timestamp_from e.timestamp one) same ∙ last)

-- ---- entries of a queue that are a chain

-- the events of a chain from the last one of the first events begin the later ones, and are all of them if the chain
-- has the end
record Begins (events later : List Event) (ended : Bool) : Type 0 where
  after : List Event
  whole : later ≡ events ++ after
  complete : ended ≡ true → after ≡ []

same_some : (a b : ℕ) → Some a ≡ Some b → a ≡ b
same_some a b is = cc

begins_later : (queue first later events : List Event) (ended : Bool) → queue ≡ first ++ later
    → RiseFrom 0 (first ++ later) → AllByRecursion (IsOfQueue queue) (chain_from (last_timestamp first) events ended)
    → Begins events later ended
begins_later queue first later [] false whole rising are =
    record { after = later; whole = refl; complete = λ is. absurd cc }
begins_later queue first later [] true whole rising are =
    let last : last_timestamp first ≡ last_timestamp queue =
    same_some (last_timestamp first) (last_timestamp queue) are.0 in
    record {
      after = later;
      whole = refl;
      complete = λ _. none_after (last_timestamp first) later (rise_after 0 first later rising)
          (sym (last-append 0 first later) ∙ sym (ap last_timestamp whole) ∙ sym last);
    }
begins_later queue first later (e ∷ events) ended whole rising are =
    let before = are.0.0 in
    let rest = are.0.1 in
    let last : last_timestamp before ≡ last_timestamp first =
    sym (same_some (last_timestamp first) (last_timestamp before) are.0.3) in
    let next : later ≡ e ∷ rest =
    same_rest 0 before first (e ∷ rest) later rising (sym whole ∙ are.0.2) last in
    let now : first ++ later ≡ (first ++ e ∷ []) ++ rest =
    ap (λ (es : List Event). first ++ es) next ∙ sym (append_assoc first (e ∷ []) rest) in
    let others = begins_later queue (first ++ e ∷ []) rest events ended (whole ∙ now) (subst (RiseFrom 0) now rising)
    (subst (λ (t : ℕ). AllByRecursion (IsOfQueue queue) (chain_from t events ended))
    (sym (last_timestamp_from-push 0 first e)) are.1) in
    record {
      after = others.after;
      whole = next ∙ ap (λ (es : List Event). e ∷ es) others.whole;
      complete = others.complete;
    }

-- an entry of a queue names a predecessor
content_names : (queue : List Event) (entry : Entry) (content : Content) → entry.content ≡ content
    → IsContentOf queue entry.previous content → NamesPrevious entry
content_names queue entry (content.Event e) is of = (last_timestamp of.0, of.3)
content_names queue entry content.End is of = (last_timestamp queue, of)

all_name : (queue : List Event) (entries : List Entry) → AllByRecursion (IsOfQueue queue) entries
    → AllByRecursion NamesPrevious entries
all_name queue [] are = tt
all_name queue (entry ∷ entries) are =
    (content_names queue entry entry.content refl are.0, all_name queue entries are.1)

-- what is seen of entries of a queue are entries of it
seen_are : (queue : List Event) (binding : Arguments) (state : FollowState) (entries : List Entry)
    → AllByRecursion (IsOfQueue queue) entries → AllByRecursion (IsOfQueue queue) (seen_among binding state entries)
seen_are queue binding state [] are = tt
seen_are queue binding state (entry ∷ entries) are =
    either (is_seen (outcome_of binding state entry))
    (seen_are queue binding (next_follow binding state entry) entries are.1)
  where
    either : (seen : Bool)
        → AllByRecursion (IsOfQueue queue) (seen_among binding (next_follow binding state entry) entries)
        → AllByRecursion (IsOfQueue queue)
        (cond seen (entry ∷ seen_among binding (next_follow binding state entry) entries)
        (seen_among binding (next_follow binding state entry) entries))
    either true later = (are.0, later)
    either false later = later

pub late_prefix : LateFollowersKeepAPrefix
late_prefix binding first later entries rising are =
    let queue = first ++ later in
    let start : FollowState = record begins { seen = last_timestamp first } in
    let new = follow_all binding start entries in
    let sees = sees_a_chain binding start entries (all_name queue entries are) in
    let chain : AllByRecursion (IsOfQueue queue) (chain_from (last_timestamp first) sees.events sees.ended) =
    subst (AllByRecursion (IsOfQueue queue)) sees.chain (seen_are queue binding start entries are) in
    let all = begins_later queue first later sees.events sees.ended refl rising chain in
    let rises : RiseFrom 0 (taken_by binding sees.events) =
    RiseFrom-filter (λ e. matches binding (headers_of_event e)) 0 sees.events
    (RiseFrom-earlier 0 (last_timestamp first) sees.events (omega arith) sees.rising) in
    let kept : new.kept ≡ kept_after (taken_by binding sees.events) sees.ended =
    sees.kept ∙ received [] (taken_by binding sees.events) sees.ended rises in
    let ends : new.kept.ended ≡ sees.ended = ap (λ (k : SubscriberState). k.ended) kept in
    record {
      before = sees.events;
      after = all.after;
      whole = all.whole;
      seen = sees.last ∙ sym (last-append 0 first sees.events);
      kept = kept ∙ ap (kept_after (taken_by binding sees.events)) (sym ends);
      complete = λ is. all.complete (sym ends ∙ is);
    }
