-- A follower of a chained queue keeps a prefix of it.
use Rattle.std.proofs.Common.{◌≡◌, ◌⊎◌, inl, inr, ℕ, ◌+◌, ◌<◌, ◌≤◌, length, length-append, min, List, [], ◌∷◌, ◌++◌}
use Rattle.std.proofs.Common.{Bool, true, false, cond, Some, Option, refl, sym, ap, ◌∙◌, arith, subst, append-nil}
use Rattle.std.proofs.Common.{append_assoc, leb-false, eqb-true}
use Rattle.std.specs.Prelude.{nat_eq, nat_le, nat_lt, filter}
use Rattle.std.specs.List.{AllByRecursion}
use Rattle.std.proofs.lemmas.List.Elements.{filter-append}
use Rattle.std.proofs.lemmas.Bool.{false≢true, lt-leb}
use Rattle.cdc_types.specs.declared.bounds.TheConstants.Limits.{TIMESTAMP}
use Rattle.cdc_types.specs.declared.events.Event.{Event}
use Rattle.cdc_types.specs.Timestamps.{RiseFrom, last_timestamp, last_timestamp_from}
use Rattle.cdc_types.specs.Widths.{max_64}
use Rattle.cdc_types.proofs.Rising.{last_timestamp_from-push}
use Rattle.cdc_message.specs.declared.items.Item.TheVariants as item
use Rattle.cdc_message.specs.Headers.{headers_of_event}
use Rattle.cdc_match.specs.Arguments.{Arguments}
use Rattle.cdc_match.specs.Matching.{matches}
use Rattle.cdc_subscriber.specs.declared.book.BookEntry.{BookEntry}
use Rattle.cdc_subscriber.specs.Answers.{listens}
use Rattle.cdc_subscriber.specs.Book.{book_of}
use Rattle.cdc_subscriber.specs.Steps.{next_state, with_event}
use Rattle.cdc_subscriber.specs.SubscriberState.{SubscriberState}
use Rattle.cdc_subscriber.proofs.BookLemmas.{book_of-push}
use Rattle.cdc_follow.specs.declared.entries.Content.{Content}
use Rattle.cdc_follow.specs.declared.entries.Content.TheVariants as content
use Rattle.cdc_follow.specs.declared.entries.Entry.{Entry}
use Rattle.cdc_follow.specs.Following.{FollowState, content_outcome, follow_all, next_follow, next_outcome, state_by}
use Rattle.cdc_follow.specs.Laws.{ChainedFollowersGoOn, ChainedFollowersKeepAPrefix, IsContentOf, IsOfQueue}
use Rattle.cdc_follow.specs.Laws.{KeepsPrefix, begins, kept_after, taken_by}
use Rattle.cdc_follow.proofs.StepLemmas.{next-closed, next-open}

-- ---- where an event stands in a queue, against a prefix of it

-- the event is in the prefix
abbrev IsWithin : List Event → List Event → Event → Type 0
IsWithin before first e = (rest : List Event) × (before ≡ first ++ e ∷ rest)

-- it is the next one
abbrev IsNext : List Event → List Event → List Event → List Event → Event → Type 0
IsNext before after first last e = (before ≡ first) × (after ≡ e ∷ last)

-- others are between
abbrev IsBeyond : List Event → List Event → Type 0
IsBeyond before first = (x : Event) × (rest : List Event) × (first ≡ before ++ x ∷ rest)

abbrev Place : List Event → List Event → List Event → List Event → Event → Type 0
Place before after first last e = IsWithin before first e ⊎ (IsNext before after first last e ⊎ IsBeyond before first)

-- one more event in front of both
cons_place : (x : Event) (before after first last : List Event) (e : Event) → Place before after first last e
    → Place (x ∷ before) after (x ∷ first) last e
cons_place x before after first last e (inl within) = inl (within.0, ap (λ es. x ∷ es) within.1)
cons_place x before after first last e (inr (inl next)) = inr (inl (ap (λ es. x ∷ es) next.0, next.1))
cons_place x before after first last e (inr (inr beyond)) = inr (inr (beyond.0, beyond.1, ap (λ es. x ∷ es) beyond.2))

head_is : (x y : Event) (xs ys : List Event) → x ∷ xs ≡ y ∷ ys → x ≡ y
head_is x y xs ys is = cc

tail_is : (x y : Event) (xs ys : List Event) → x ∷ xs ≡ y ∷ ys → xs ≡ ys
tail_is x y xs ys is = cc

place_of : (before after first last : List Event) (e : Event) → before ++ after ≡ first ++ e ∷ last
    → Place before after first last e
place_of [] after [] last e is = inr (inl (refl, is))
place_of [] after (x ∷ first) last e is = inr (inr (x, first, refl))
place_of (x ∷ before) after [] last e is =
    inl (before, ap (λ y. y ∷ before) (head_is x e (before ++ after) last is))
place_of (x ∷ before) after (y ∷ first) last e is =
    let same = head_is x y (before ++ after) (first ++ e ∷ last) is in
    subst (λ z. Place (x ∷ before) after (z ∷ first) last e) same
    (cons_place x before after first last e
    (place_of before after first last e (tail_is x y (before ++ after) (first ++ e ∷ last) is)))

-- ---- timestamps of a list that rises

last-append : (t : ℕ) (xs ys : List Event)
    → last_timestamp_from t (xs ++ ys) ≡ last_timestamp_from (last_timestamp_from t xs) ys
last-append t [] ys = refl
last-append t (x ∷ xs) ys = last-append x.timestamp xs ys

rise_after : (t : ℕ) (xs ys : List Event) → RiseFrom t (xs ++ ys) → RiseFrom (last_timestamp_from t xs) ys
rise_after t [] ys rising = rising
rise_after t (x ∷ xs) ys rising = rise_after x.timestamp xs ys rising.1

last-rises : (t : ℕ) (xs : List Event) → RiseFrom t xs → t ≤ last_timestamp_from t xs
last-rises t [] rising = omega arith
last-rises t (x ∷ xs) rising = omega (arith, rising.0, last-rises x.timestamp xs rising.1)

rise_before : (t : ℕ) (xs ys : List Event) → RiseFrom t (xs ++ ys) → RiseFrom t xs
rise_before t [] ys rising = tt
rise_before t (x ∷ xs) ys rising = (rising.0, rise_before x.timestamp xs ys rising.1)

-- an event of a list isn't later than the list's last one
last-within : (t : ℕ) (first rest : List Event) (e : Event) → RiseFrom t (first ++ e ∷ rest)
    → e.timestamp ≤ last_timestamp_from t (first ++ e ∷ rest)
last-within t first rest e rising =
    let after = rise_after t first (e ∷ rest) rising in
    omega (arith, last-append t first (e ∷ rest), last-rises e.timestamp rest after.1)

-- what comes behind a list is later than its last one
last-beyond : (t : ℕ) (before rest : List Event) (x : Event) → RiseFrom t (before ++ x ∷ rest)
    → last_timestamp_from t before < last_timestamp_from t (before ++ x ∷ rest)
last-beyond t before rest x rising =
    let after = rise_after t before (x ∷ rest) rising in
    omega (arith, after.0, last-append t before (x ∷ rest), last-rises x.timestamp rest after.1)

-- ---- states of a subscriber

-- a subscriber that listens hasn't the end
open_is : (kept : SubscriberState) → listens kept ≡ true → kept.ended ≡ false
open_is kept listening = case_of kept.closed kept.ended refl refl
  where
    case_of : (closed ended : Bool) → kept.closed ≡ closed → kept.ended ≡ ended → kept.ended ≡ false
    case_of true ended c e = absurd (false≢true (rw c at listening))
    case_of false true c e = absurd (false≢true (rw (c, e) at listening))
    case_of false false c e = e

-- the count after one more
counted : (n most : ℕ) → min (min n most + 1) most ≡ min (n + 1) most
counted n most = omega arith

-- a subscriber that has applied events applies one that is later than all of them
kept_after-push : (events : List Event) (e : Event) → last_timestamp events < e.timestamp
    → next_state (kept_after events false) (item.Event e) ≡ kept_after (events ++ e ∷ []) false
kept_after-push events e later =
    let new : nat_le e.timestamp (last_timestamp events) ≡ false = lt-leb e.timestamp (last_timestamp events) later in
    ap (λ b. cond b (kept_after events false) (with_event (kept_after events false) e)) new ∙ same
  where
    all : List Event
    all = events ++ e ∷ []

    with_book : List BookEntry → SubscriberState
    with_book book = record {
      book = book;
      last = e.timestamp;
      applied = min (min (length events) max_64 + 1) max_64;
      ended = false;
      closed = false;
    }

    with_last : ℕ → SubscriberState
    with_last last = record {
      book = book_of all;
      last = last;
      applied = min (min (length events) max_64 + 1) max_64;
      ended = false;
      closed = false;
    }

    with_count : ℕ → SubscriberState
    with_count count = record {
      book = book_of all;
      last = last_timestamp all;
      applied = count;
      ended = false;
      closed = false;
    }

    same : with_event (kept_after events false) e ≡ kept_after all false
    same = ap with_book (sym (book_of-push events e)) ∙ ap with_last (sym (last_timestamp_from-push 0 events e))
        ∙ ap with_count (counted (length events) max_64 ∙ ap (λ n. min n max_64) (sym (length-append events (e ∷ []))))

-- the end ends a subscriber that listens
ended-end : (kept : SubscriberState) → listens kept ≡ true → (next_state kept item.EndMark).ended ≡ true
ended-end kept listening = ap (λ b. (cond b (record kept { ended = true }) kept).ended) listening

-- ---- one entry

-- the last timestamp of events is later if they begin later
last-later : (s t : ℕ) (es : List Event) → s ≤ t → last_timestamp_from s es ≤ last_timestamp_from t es
last-later s t [] later = later
last-later s t (x ∷ es) later = omega arith

-- the last of those that a binding takes isn't later than the last of all
last-taken : (p : Event → Bool) (t : ℕ) (es : List Event) → RiseFrom t es
    → last_timestamp_from t (filter p es) ≤ last_timestamp_from t es
last-taken p t [] rising = omega arith
last-taken p t (x ∷ es) rising = case_of (p x) (last-taken p x.timestamp es rising.1)
  where
    case_of : (taken : Bool) → last_timestamp_from x.timestamp (filter p es) ≤ last_timestamp_from x.timestamp es
        → last_timestamp_from t (cond taken (x ∷ filter p es) (filter p es)) ≤ last_timestamp_from x.timestamp es
    case_of true rest = rest
    case_of false rest = omega (arith, rest, last-later t x.timestamp (filter p es) (omega (arith, rising.0)))

-- the next event of the queue, if the binding takes it
taken_by-push : (binding : Arguments) (before : List Event) (e : Event) (takes : Bool)
    → matches binding (headers_of_event e) ≡ takes
    → taken_by binding (before ++ e ∷ []) ≡ cond takes (taken_by binding before ++ e ∷ []) (taken_by binding before)
taken_by-push binding before e takes is =
    filter-append (λ e. matches binding (headers_of_event e)) before (e ∷ []) ∙ case_of takes is
  where
    case_of : (takes : Bool) → matches binding (headers_of_event e) ≡ takes
        → taken_by binding before ++ taken_by binding (e ∷ [])
        ≡ cond takes (taken_by binding before ++ e ∷ []) (taken_by binding before)
    case_of true is = rw is refl
    case_of false is = rw is (append-nil (taken_by binding before))

-- what is kept, by what it has of the end
kept_as : (kept : SubscriberState) (events : List Event) (ended : Bool) → kept ≡ kept_after events ended
    → kept ≡ kept_after events kept.ended
kept_as kept events ended is = is ∙ ap (kept_after events) (sym (ap (λ (k : SubscriberState). k.ended) is))

module _ (binding : Arguments) (queue : List Event) (rising : RiseFrom 0 queue) where
  -- the next event is applied or passed by
  keeps-next : (state : FollowState) (before last : List Event) (e : Event) (previous : ℕ) (takes : Bool)
      → queue ≡ before ++ e ∷ last → state.kept ≡ kept_after (taken_by binding before) false
      → matches binding (headers_of_event e) ≡ takes
      → KeepsPrefix binding queue (state_by (next_outcome binding e) state (Some previous)
      (content.Event e))
  keeps-next state before last e previous true whole kept is =
      rw is (record {
        before = before ++ e ∷ [];
        after = last;
        whole = whole ∙ sym (append_assoc before (e ∷ []) last);
        seen = sym (last_timestamp_from-push 0 before e);
        kept = kept_as (next_state state.kept (item.Event e)) (taken_by binding (before ++ e ∷ [])) false applied;
        complete = λ ended. absurd (false≢true (sym (ap (λ (k : SubscriberState). k.ended) applied) ∙ ended));
      })
    where
      rises : RiseFrom 0 (before ++ e ∷ last)
      rises = subst (RiseFrom 0) whole rising

      later : last_timestamp (taken_by binding before) < e.timestamp
      later =
          omega (
            arith,
            last-taken (λ e. matches binding (headers_of_event e)) 0 before (rise_before 0 before (e ∷ last) rises),
            (rise_after 0 before (e ∷ last) rises).0,
          )

      applied : next_state state.kept (item.Event e) ≡ kept_after (taken_by binding (before ++ e ∷ [])) false
      applied = ap (λ k. next_state k (item.Event e)) kept ∙ kept_after-push (taken_by binding before) e later
          ∙ ap (λ es. kept_after es false) (sym (taken_by-push binding before e true is))
  keeps-next state before last e previous false whole kept is =
      rw is (record {
        before = before ++ e ∷ [];
        after = last;
        whole = whole ∙ sym (append_assoc before (e ∷ []) last);
        seen = sym (last_timestamp_from-push 0 before e);
        kept = kept_as state.kept (taken_by binding (before ++ e ∷ [])) false passed;
        complete = λ ended. absurd (false≢true (sym (ap (λ (k : SubscriberState). k.ended) passed) ∙ ended));
      })
    where
      passed : state.kept ≡ kept_after (taken_by binding (before ++ e ∷ [])) false
      passed = kept ∙ ap (λ es. kept_after es false) (sym (taken_by-push binding before e false is))

  -- an event of the queue that is later than the last one seen, and follows it, is the next one
  keeps-new : (state : FollowState) (keeps : KeepsPrefix binding queue state) (e : Event) (first last : List Event)
      → queue ≡ first ++ e ∷ last → listens state.kept ≡ true → nat_le e.timestamp state.seen ≡ false
      → nat_eq (last_timestamp first) state.seen ≡ true
      → KeepsPrefix binding queue (state_by (next_outcome binding e) state
      (Some (last_timestamp first)) (content.Event e))
  keeps-new state keeps e first last whole listening late next =
      case_of (place_of keeps.before keeps.after first last e (sym keeps.whole ∙ whole))
    where
      ended : state.kept.ended ≡ false
      ended = open_is state.kept listening

      case_of : Place keeps.before keeps.after first last e
          → KeepsPrefix binding queue (state_by (next_outcome binding e) state
          (Some (last_timestamp first)) (content.Event e))
      case_of (inl within) =
          let rest = within.0 in
          let is = within.1 in
          let rises : RiseFrom 0 keeps.before =
          rise_before 0 keeps.before keeps.after (subst (RiseFrom 0) keeps.whole rising) in
          let bound = last-within 0 first rest e (subst (RiseFrom 0) is rises) in
          let seen : state.seen ≡ last_timestamp (first ++ e ∷ rest) = keeps.seen ∙ ap last_timestamp is in
          absurd (omega (arith, leb-false e.timestamp state.seen late, bound, seen))
      case_of (inr (inl is)) =
          keeps-next state keeps.before last e (last_timestamp first) _
          (keeps.whole ∙ ap (λ es. keeps.before ++ es) is.1)
          (keeps.kept ∙ ap (kept_after (taken_by binding keeps.before)) ended) refl
      case_of (inr (inr place)) =
          let x = place.0 in
          let rest = place.1 in
          let is = place.2 in
          let rises : RiseFrom 0 first = rise_before 0 first (e ∷ last) (subst (RiseFrom 0) whole rising) in
          let beyond = last-beyond 0 keeps.before rest x (subst (RiseFrom 0) is rises) in
          let front : last_timestamp first ≡ last_timestamp (keeps.before ++ x ∷ rest) = ap last_timestamp is in
          absurd (omega (arith, eqb-true (last_timestamp first) state.seen next, beyond, front, keeps.seen))

  keeps-event : (state : FollowState) → KeepsPrefix binding queue state → (e : Event) (first last : List Event)
      (late high next : Bool) → queue ≡ first ++ e ∷ last → listens state.kept ≡ true
      → nat_le e.timestamp state.seen ≡ late → nat_lt TIMESTAMP e.timestamp ≡ high
      → nat_eq (last_timestamp first) state.seen ≡ next
      → KeepsPrefix binding queue (state_by (content_outcome binding state.seen (Some (last_timestamp first))
      (content.Event e)) state (Some (last_timestamp first)) (content.Event e))
  keeps-event state keeps e first last true high next whole listening l h n = rw l keeps
  keeps-event state keeps e first last false true next whole listening l h n = rw (l, h) keeps
  keeps-event state keeps e first last false false false whole listening l h n = rw (l, h, n) keeps
  keeps-event state keeps e first last false false true whole listening l h n =
      rw (l, h, n) (keeps-new state keeps e first last whole listening l n)

  -- the end is received behind the last event of the queue alone
  keeps-end : (state : FollowState) → KeepsPrefix binding queue state → (next : Bool) → listens state.kept ≡ true
      → nat_eq (last_timestamp queue) state.seen ≡ next
      → KeepsPrefix binding queue
      (state_by (content_outcome binding state.seen (Some (last_timestamp queue)) content.End)
      state (Some (last_timestamp queue)) content.End)
  keeps-end state keeps false listening n = rw n keeps
  keeps-end state keeps true listening n =
      rw n (record {
        before = keeps.before;
        after = keeps.after;
        whole = keeps.whole;
        seen = keeps.seen;
        kept = ap (λ k. next_state k item.EndMark)
            (keeps.kept ∙ ap (kept_after (taken_by binding keeps.before)) (open_is state.kept listening))
            ∙ ap (kept_after (taken_by binding keeps.before)) (sym (ended-end state.kept listening));
        complete = λ _. nothing_after keeps.after refl;
      })
    where
      nothing_after : (after : List Event) → keeps.after ≡ after → keeps.after ≡ []
      nothing_after [] is = is
      nothing_after (x ∷ rest) is =
          let all : queue ≡ keeps.before ++ x ∷ rest = keeps.whole ∙ ap (λ es. keeps.before ++ es) is in
          let beyond = last-beyond 0 keeps.before rest x (subst (RiseFrom 0) all rising) in
          let last : last_timestamp queue ≡ last_timestamp (keeps.before ++ x ∷ rest) = ap last_timestamp all in
          absurd (omega (arith, eqb-true (last_timestamp queue) state.seen n, beyond, last, keeps.seen))

  keeps-content : (state : FollowState) → KeepsPrefix binding queue state → listens state.kept ≡ true
      → (previous : Option ℕ) (content : Content) → IsContentOf queue previous content
      → KeepsPrefix binding queue
      (state_by (content_outcome binding state.seen previous content) state previous content)
  keeps-content state keeps listening previous (content.Event e) among =
      subst (λ p. KeepsPrefix binding queue (state_by (content_outcome binding state.seen p (content.Event e)) state p
      (content.Event e))) (sym among.3)
      (keeps-event state keeps e among.0 among.1 _ _ _ among.2 listening refl refl refl)
  keeps-content state keeps listening previous content.End among =
      subst
      (λ p. KeepsPrefix binding queue (state_by (content_outcome binding state.seen p content.End) state p content.End))
      (sym among) (keeps-end state keeps _ listening refl)

  keeps-entry : (state : FollowState) → KeepsPrefix binding queue state → (entry : Entry) → IsOfQueue queue entry
      → KeepsPrefix binding queue (next_follow binding state entry)
  keeps-entry state keeps entry among = case_of (listens state.kept) refl
    where
      case_of : (listening : Bool) → listens state.kept ≡ listening
          → KeepsPrefix binding queue (next_follow binding state entry)
      case_of false is = subst (KeepsPrefix binding queue) (sym (next-closed binding state entry is)) keeps
      case_of true is =
          subst (KeepsPrefix binding queue) (sym (next-open binding state entry is))
          (keeps-content state keeps is entry.previous entry.content among)

  keeps-all : (state : FollowState) (entries : List Entry) → KeepsPrefix binding queue state
      → AllByRecursion (IsOfQueue queue) entries → KeepsPrefix binding queue (follow_all binding state entries)
  keeps-all state [] keeps are = keeps
  keeps-all state (entry ∷ entries) keeps are =
      keeps-all (next_follow binding state entry) entries (keeps-entry state keeps entry are.0) are.1

pub goes_on : ChainedFollowersGoOn
goes_on binding queue state entries rising keeps are = keeps-all binding queue rising state entries keeps are

-- a follower that begins keeps the empty prefix
keeps-begins : (binding : Arguments) (queue : List Event) → KeepsPrefix binding queue begins
keeps-begins binding queue = record {
  before = [];
  after = queue;
  whole = refl;
  seen = refl;
  kept = refl;
  complete = λ ended. absurd (false≢true ended);
}

pub keeps_a_prefix : ChainedFollowersKeepAPrefix
keeps_a_prefix binding queue entries rising are =
    keeps-all binding queue rising begins entries (keeps-begins binding queue) are
