-- A follower's step by entries: it depends on the follower's place alone, and of a chained queue it goes on with the
-- events of a prefix.
use Rattle.std.proofs.Common.{◌≡◌, ℕ, ◌≤◌, List, [], ◌∷◌, ◌++◌, append_assoc, append-nil, Bool, true, false, cond}
use Rattle.std.proofs.Common.{Option, Some, refl, sym, ap, ◌∙◌, arith, subst, eqb-true, inl, inr}
use Rattle.std.specs.Prelude.{nat_eq, nat_le, nat_lt, filter}
use Rattle.std.specs.List.{AllByRecursion}
use Rattle.std.proofs.lemmas.Bool.Decides.{eqb_tells}
use Rattle.std.proofs.lemmas.Grind.{flat_map-append}
use Rattle.std.proofs.lemmas.List.Elements.{filter-append}
use Rattle.cdc_types.specs.declared.bounds.TheConstants.Limits.{TIMESTAMP}
use Rattle.cdc_types.specs.declared.events.Event.{Event}
use Rattle.cdc_types.specs.Timestamps.{RiseFrom, last_timestamp, last_timestamp_from}
use Rattle.cdc_types.proofs.Rising.{last_timestamp_from-push}
use Rattle.cdc_message.specs.declared.items.Item.{Item}
use Rattle.cdc_message.specs.Headers.{headers_of_event}
use Rattle.cdc_match.specs.Arguments.{Arguments}
use Rattle.cdc_match.specs.Matching.{matches}
use Rattle.cdc_subscriber.specs.Answers.{listens}
use Rattle.cdc_subscriber.specs.Book.{are_distinct, ids_of, is_among}
use Rattle.cdc_follow.specs.declared.entries.Content.{Content}
use Rattle.cdc_follow.specs.declared.entries.Content.TheVariants as content
use Rattle.cdc_follow.specs.declared.entries.Entry.{Entry}
use Rattle.cdc_follow.specs.declared.follower.Following.TheVariants.{Applied, PassedBy, Duplicate, Gap, Ended}
use Rattle.cdc_follow.specs.declared.follower.Following.TheVariants.{AfterEnd, OutOfRange}
use Rattle.cdc_follow.specs.Following.{FollowState, after_outcome, belongs, closed_outcome, content_outcome}
use Rattle.cdc_follow.specs.Following.{follow_all, follows, next_follow, next_outcome, outcome_of, state_by}
use Rattle.cdc_follow.specs.Laws.{IsContentOf, IsOfQueue, KeepsPrefix, taken_by}
use Rattle.cdc_follow.proofs.QueueLemmas.{goes_on}
use Rattle.cdc_follow.proofs.StepLemmas.{next-closed, next-open}
use Rattle.cdc_book_log.specs.Details.{items_of}
use Rattle.cdc_book_log.specs.Replay.{emptied, with_changes}
use Rattle.cdc_book_log.proofs.ReplayLemmas.{changes_replayed, state_apart, state_with}
use Rattle.cdc_sql.specs.Laws.{items_by, step_by}
use Rattle.cdc_sql.specs.Places.{follower_at, place_of}
use Rattle.cdc_sql.specs.Saves.{Step, event_in, events_in}
use Rattle.cdc_sql.specs.Tables.{times_of}
use Rattle.cdc_sql.specs.declared.places.Place.{Place}

-- ---- a step depends on the place alone

module _ (binding : Arguments) where
  -- a follower with changes is given what the changes are
  items_with : (from change : FollowState) (entries : List Entry) → are_distinct (ids_of change.kept.book) ≡ true
      → items_by binding change entries ≡ items_by binding (with_changes from change) entries
  items_with from change [] apart = refl
  items_with from change (entry ∷ entries) apart =
      let outcome = outcome_of binding change entry in
      ap (λ (l : List Item). items_of outcome entry.content ++ l)
      (items_with from (next_follow binding change entry) entries
      (state_apart change outcome entry.previous entry.content apart)
      ∙ ap (λ s. items_by binding s entries) (sym (state_with from change outcome entry.previous entry.content apart)))

  abbrev made : Place → List Item → Step
  made to items = record { after = to; items = items }

  emptied_step : (state : FollowState) (entries : List Entry)
      → step_by binding (emptied state) entries ≡ step_by binding state entries
  emptied_step state entries =
      ap (made (place_of (follow_all binding (emptied state) entries)))
      (items_with state (emptied state) entries refl)
      ∙ ap (λ p. made p (items_by binding state entries)) (ap place_of (changes_replayed binding state entries))

  pub same_step : (one other : FollowState) (entries : List Entry) → place_of one ≡ place_of other
      → step_by binding one entries ≡ step_by binding other entries
  same_step one other entries same =
      sym (emptied_step one entries) ∙ ap (λ p. step_by binding (follower_at p []) entries) same
      ∙ emptied_step other entries

-- ---- prefixes of a list that rises

head_is : (x y : Event) (xs ys : List Event) → x ∷ xs ≡ y ∷ ys → x ≡ y
head_is x y xs ys is = cc

tail_is : (x y : Event) (xs ys : List Event) → x ∷ xs ≡ y ∷ ys → xs ≡ ys
tail_is x y xs ys is = cc

last_rises : (t : ℕ) (xs : List Event) → RiseFrom t xs → t ≤ last_timestamp_from t xs
last_rises t [] rising = omega arith
last_rises t (x ∷ xs) rising = omega (arith, rising.0, last_rises x.timestamp xs rising.1)

rise_before : (t : ℕ) (xs ys : List Event) → RiseFrom t (xs ++ ys) → RiseFrom t xs
rise_before t [] ys rising = tt
rise_before t (x ∷ xs) ys rising = (rising.0, rise_before x.timestamp xs ys rising.1)

-- a prefix is known by its last timestamp
same_front : (t : ℕ) (one rest other more : List Event) → RiseFrom t (one ++ rest) → one ++ rest ≡ other ++ more
    → last_timestamp_from t one ≡ last_timestamp_from t other → one ≡ other
same_front t [] rest [] more rise is same = refl
same_front t [] rest (y ∷ other) more rise is same =
    let rises : RiseFrom t (y ∷ (other ++ more)) = subst (RiseFrom t) is rise in
    let later = last_rises y.timestamp other (rise_before y.timestamp other more rises.1) in
    absurd (omega (arith, rises.0, later, same))
same_front t (x ∷ one) rest [] more rise is same =
    let later = last_rises x.timestamp one (rise_before x.timestamp one rest rise.1) in
    absurd (omega (arith, rise.0, later, same))
same_front t (x ∷ one) rest (y ∷ other) more rise is same =
    let head = head_is x y (one ++ rest) (other ++ more) is in
    let tail = tail_is x y (one ++ rest) (other ++ more) is in
    ap (λ (l : List Event). x ∷ l) (same_front x.timestamp one rest other more rise.1 tail
    (same ∙ ap (λ (z : Event). last_timestamp_from z.timestamp other) (sym head)))
    ∙ ap (λ (z : Event). z ∷ other) head

-- ---- events that have no timestamp twice

rise_from_earlier : (s t : ℕ) (xs : List Event) → s ≤ t → RiseFrom t xs → RiseFrom s xs
rise_from_earlier s t [] early rising = tt
rise_from_earlier s t (x ∷ xs) early rising = (omega (arith, early, rising.0), rising.1)

filter_rises : (p : Event → Bool) (t : ℕ) (xs : List Event) → RiseFrom t xs → RiseFrom t (filter p xs)
filter_rises p t [] rising = tt
filter_rises p t (x ∷ xs) rising = go (p x) (filter_rises p x.timestamp xs rising.1)
  where
    go : (b : Bool) → RiseFrom x.timestamp (filter p xs) → RiseFrom t (cond b (x ∷ filter p xs) (filter p xs))
    go true rest = (rising.0, rest)
    go false rest = rise_from_earlier t x.timestamp (filter p xs) (omega (arith, rising.0)) rest

not_later : (n t : ℕ) (xs : List Event) → n ≤ t → RiseFrom t xs → is_among n (times_of xs) ≡ false
not_later n t [] early rising = refl
not_later n t (x ∷ xs) early rising =
    elim (eqb_tells x.timestamp n) [
      | inl same ↦ absurd (omega (arith, early, rising.0, same.1))
      | inr other ↦
          rw other.0 (not_later n x.timestamp xs (omega (arith, early, rising.0)) rising.1)
    ]

pub rising_distinct : (t : ℕ) (xs : List Event) → RiseFrom t xs → are_distinct (times_of xs) ≡ true
rising_distinct t [] rising = refl
rising_distinct t (x ∷ xs) rising =
    rw (not_later x.timestamp x.timestamp xs (omega arith) rising.1) (rising_distinct x.timestamp xs rising.1)

pub taken_distinct : (binding : Arguments) (queue before after : List Event) → RiseFrom 0 queue
    → queue ≡ before ++ after → are_distinct (times_of (taken_by binding before)) ≡ true
taken_distinct binding queue before after rise whole =
    let rises : RiseFrom 0 before = rise_before 0 before after (subst (RiseFrom 0) whole rise) in
    rising_distinct 0 (taken_by binding before)
    (filter_rises (λ e. matches binding (headers_of_event e)) 0 before rises)

-- ---- one entry of a queue

-- the events that a follower's subscriber is given of an entry
abbrev pub given : Arguments → FollowState → Entry → List Event
given binding state entry = events_in (items_of (outcome_of binding state entry) entry.content)

-- a follower that is closed is given nothing
closed_event : (late high mine : Bool) (e : Event)
    → events_in (items_of (cond late Duplicate (cond high OutOfRange (cond mine AfterEnd PassedBy))) (content.Event e))
    ≡ []
closed_event true high mine e = refl
closed_event false true mine e = refl
closed_event false false true e = refl
closed_event false false false e = refl

closed_end : (next : Bool) → events_in (items_of (cond next Duplicate AfterEnd) content.End) ≡ []
closed_end true = refl
closed_end false = refl

after_end : (binding : Arguments) (seen : ℕ) (previous : Option ℕ) (c : Content)
    → events_in (items_of (after_outcome binding seen previous c) c) ≡ []
after_end binding seen previous (content.Event e) =
    closed_event (nat_le e.timestamp seen) (nat_lt TIMESTAMP e.timestamp) (belongs binding previous e) e
after_end binding seen previous content.End = closed_end (follows seen previous)

closed_given : (binding : Arguments) (state : FollowState) (entry : Entry) → listens state.kept ≡ false
    → given binding state entry ≡ []
closed_given binding state entry closed =
    ap (λ b. events_in (items_of (cond b (content_outcome binding state.seen entry.previous entry.content)
    (closed_outcome binding state entry)) entry.content)) closed
    ∙ go state.kept.ended
  where
    dup : (c : Content) → events_in (items_of Duplicate c) ≡ []
    dup (content.Event e) = refl
    dup content.End = refl

    go : (ended : Bool) → events_in (items_of (cond ended (after_outcome binding state.seen entry.previous entry.content)
        Duplicate) entry.content) ≡ []
    go true = after_end binding state.seen entry.previous entry.content
    go false = dup entry.content

-- the next event of a queue, if the binding takes it or not
taken_next : (binding : Arguments) (before : List Event) (e : Event) (takes : Bool)
    → matches binding (headers_of_event e) ≡ takes
    → taken_by binding (before ++ e ∷ []) ≡ taken_by binding before ++ cond takes (e ∷ []) []
taken_next binding before e takes is =
    filter-append (λ e. matches binding (headers_of_event e)) before (e ∷ []) ∙ case_of takes is
  where
    case_of : (takes : Bool) → matches binding (headers_of_event e) ≡ takes
        → taken_by binding before ++ taken_by binding (e ∷ []) ≡ taken_by binding before ++ cond takes (e ∷ []) []
    case_of true is = rw is refl
    case_of false is = rw is refl

next_given : (takes : Bool) (e : Event)
    → events_in (items_of (cond takes Applied PassedBy) (content.Event e)) ≡ cond takes (e ∷ []) []
next_given true e = refl
next_given false e = refl

next_seen : (takes : Bool) (state : FollowState) (previous : ℕ) (e : Event)
    → (state_by (cond takes Applied PassedBy) state (Some previous) (content.Event e)).seen ≡ e.timestamp
next_seen true state previous e = refl
next_seen false state previous e = refl

module _ (binding : Arguments) (queue : List Event) (rising : RiseFrom 0 queue) where
  -- prefixes of the queue with one last timestamp
  same_prefix : (one rest other more : List Event) → queue ≡ one ++ rest → queue ≡ other ++ more
      → last_timestamp one ≡ last_timestamp other → one ≡ other
  same_prefix one rest other more is also same =
      same_front 0 one rest other more (subst (RiseFrom 0) is rising) (sym is ∙ also) same

  -- what is to be shown of a state that came from one with this prefix, and was given these events
  abbrev pub Grows : List Event → List Event → FollowState → Type 0
  Grows before more state =
      (now : KeepsPrefix binding queue state) × (taken_by binding now.before ≡ taken_by binding before ++ more)

  -- nothing new was seen
  stays : (state next : FollowState) (keeps : KeepsPrefix binding queue state) (now : KeepsPrefix binding queue next)
      → next.seen ≡ state.seen → taken_by binding now.before ≡ taken_by binding keeps.before ++ []
  stays state next keeps now same =
      ap (taken_by binding) (same_prefix now.before now.after keeps.before keeps.after now.whole keeps.whole
      (sym now.seen ∙ same ∙ keeps.seen))
      ∙ sym (append-nil (taken_by binding keeps.before))

  -- the next event was seen
  goes : (state next : FollowState) (keeps : KeepsPrefix binding queue state) (now : KeepsPrefix binding queue next)
      (e : Event) (first last : List Event) → queue ≡ first ++ e ∷ last → last_timestamp first ≡ state.seen
      → next.seen ≡ e.timestamp
      → taken_by binding now.before
      ≡ taken_by binding keeps.before ++ cond (matches binding (headers_of_event e)) (e ∷ []) []
  goes state next keeps now e first last whole follows_it seen =
      let front : first ≡ keeps.before =
      same_prefix first (e ∷ last) keeps.before keeps.after whole keeps.whole (follows_it ∙ keeps.seen) in
      let longer : queue ≡ (first ++ e ∷ []) ++ last = whole ∙ sym (append_assoc first (e ∷ []) last) in
      let all : now.before ≡ first ++ e ∷ [] =
      same_prefix now.before now.after (first ++ e ∷ []) last now.whole longer
      (sym now.seen ∙ seen ∙ sym (last_timestamp_from-push 0 first e)) in
      ap (taken_by binding) all
      ∙ taken_next binding first e (matches binding (headers_of_event e)) refl
      ∙ ap (λ l. taken_by binding l ++ cond (matches binding (headers_of_event e)) (e ∷ []) []) front

  event_grows : (state : FollowState) (keeps : KeepsPrefix binding queue state) (e : Event) (first last : List Event)
      (late high next : Bool) → queue ≡ first ++ e ∷ last → nat_eq (last_timestamp first) state.seen ≡ next
      → (now : KeepsPrefix binding queue (state_by
      (cond late Duplicate (cond high OutOfRange (cond next (next_outcome binding e) Gap))) state
      (Some (last_timestamp first)) (content.Event e)))
      → taken_by binding now.before ≡ taken_by binding keeps.before
      ++ events_in (items_of (cond late Duplicate (cond high OutOfRange (cond next (next_outcome binding e) Gap)))
      (content.Event e))
  event_grows state keeps e first last true high next whole n now = stays state state keeps now refl
  event_grows state keeps e first last false true next whole n now = stays state state keeps now refl
  event_grows state keeps e first last false false false whole n now = stays state state keeps now refl
  event_grows state keeps e first last false false true whole n now =
      let takes = matches binding (headers_of_event e) in
      goes state (state_by (next_outcome binding e) state (Some (last_timestamp first)) (content.Event e)) keeps now e
      first last whole (eqb-true (last_timestamp first) state.seen n)
      (next_seen takes state (last_timestamp first) e)
      ∙ ap (λ (l : List Event). taken_by binding keeps.before ++ l) (sym (next_given takes e))

  end_grows : (state : FollowState) (keeps : KeepsPrefix binding queue state) (next : Bool)
      → (now : KeepsPrefix binding queue (state_by (cond next Ended Gap) state (Some (last_timestamp queue)) content.End))
      → taken_by binding now.before ≡ taken_by binding keeps.before
      ++ events_in (items_of (cond next Ended Gap) content.End)
  end_grows state keeps true now =
      stays state (state_by Ended state (Some (last_timestamp queue)) content.End) keeps now refl
  end_grows state keeps false now = stays state state keeps now refl

  content_grows : (state : FollowState) (keeps : KeepsPrefix binding queue state) (previous : Option ℕ) (c : Content)
      → IsContentOf queue previous c
      → (now : KeepsPrefix binding queue (state_by (content_outcome binding state.seen previous c) state previous c))
      → taken_by binding now.before ≡ taken_by binding keeps.before
      ++ events_in (items_of (content_outcome binding state.seen previous c) c)
  content_grows state keeps previous (content.Event e) among =
      subst (λ p. (now : KeepsPrefix binding queue (state_by (content_outcome binding state.seen p (content.Event e)) state p
      (content.Event e)))
      → taken_by binding now.before ≡ taken_by binding keeps.before
      ++ events_in (items_of (content_outcome binding state.seen p (content.Event e)) (content.Event e))) (sym among.3)
      (event_grows state keeps e among.0 among.1 (nat_le e.timestamp state.seen) (nat_lt TIMESTAMP e.timestamp)
      (nat_eq (last_timestamp among.0) state.seen) among.2 refl)
  content_grows state keeps previous content.End among =
      subst (λ p. (now : KeepsPrefix binding queue (state_by (content_outcome binding state.seen p content.End) state p
      content.End))
      → taken_by binding now.before ≡ taken_by binding keeps.before
      ++ events_in (items_of (content_outcome binding state.seen p content.End) content.End)) (sym among)
      (end_grows state keeps (nat_eq (last_timestamp queue) state.seen))

  open_given : (state : FollowState) (entry : Entry) → listens state.kept ≡ true
      → given binding state entry
      ≡ events_in (items_of (content_outcome binding state.seen entry.previous entry.content) entry.content)
  open_given state entry listening =
      ap (λ b. events_in (items_of (cond b (content_outcome binding state.seen entry.previous entry.content)
      (closed_outcome binding state entry)) entry.content)) listening

  one_grows : (state : FollowState) (keeps : KeepsPrefix binding queue state) (entry : Entry) → IsOfQueue queue entry
      → Grows keeps.before (given binding state entry) (next_follow binding state entry)
  one_grows state keeps entry among = (now, go (listens state.kept) refl)
    where
      now : KeepsPrefix binding queue (next_follow binding state entry)
      now = goes_on binding queue state (entry ∷ []) rising keeps (among, tt)

      go : (b : Bool) → listens state.kept ≡ b
          → taken_by binding now.before ≡ taken_by binding keeps.before ++ given binding state entry
      go false closed =
          stays state (next_follow binding state entry) keeps now
          (ap (λ (s : FollowState). s.seen) (next-closed binding state entry closed))
          ∙ ap (λ (l : List Event). taken_by binding keeps.before ++ l) (sym (closed_given binding state entry closed))
      go true listening =
          let is = next-open binding state entry listening in
          subst
          (λ s. (kept : KeepsPrefix binding queue s) → taken_by binding kept.before ≡ taken_by binding keeps.before
          ++ events_in (items_of (content_outcome binding state.seen entry.previous entry.content) entry.content))
          (sym is) (content_grows state keeps entry.previous entry.content among) now
          ∙ ap (λ (l : List Event). taken_by binding keeps.before ++ l) (sym (open_given state entry listening))

  -- entries of the queue
  pub all_grow : (state : FollowState) (keeps : KeepsPrefix binding queue state) (entries : List Entry)
      → AllByRecursion (IsOfQueue queue) entries
      → Grows keeps.before (events_in (items_by binding state entries)) (follow_all binding state entries)
  all_grow state keeps [] are = (keeps, sym (append-nil (taken_by binding keeps.before)))
  all_grow state keeps (entry ∷ entries) are =
      let first = one_grows state keeps entry are.0 in
      let next = next_follow binding state entry in
      let rest = all_grow next first.0 entries are.1 in
      let more = items_of (outcome_of binding state entry) entry.content in (
        rest.0,
        rest.1 ∙ ap (λ (l : List Event). l ++ events_in (items_by binding next entries)) first.1
            ∙ append_assoc (taken_by binding keeps.before) (events_in more) (events_in (items_by binding next entries))
            ∙ ap (λ (l : List Event). taken_by binding keeps.before ++ l)
            (sym (flat_map-append event_in more (items_by binding next entries))),
      )
