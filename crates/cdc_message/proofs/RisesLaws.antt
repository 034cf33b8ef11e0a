-- Laws of the events that rise: what one more event makes of them, and that they are the first ones of a replay.
use Rattle.std.proofs.Common.{◌≡◌, ◌⊎◌, ℕ, zero, suc, ◌+◌, ◌<◌, Bool, true, false, cond, List, [], ◌∷◌, ◌++◌, length, get_or, take, drop, refl, sym, ap, ◌∙◌, subst, inl, inr, arith, add-one}
use Rattle.std.specs.Prelude.{◌&&◌, All, Contains, nat_lt, fold, max}
use Rattle.std.specs.Bool.{Decides}
use Rattle.std.specs.List.{list_all}
use Rattle.std.proofs.lemmas.Bool.{cases_Bool, cases_lt}
use Rattle.std.proofs.lemmas.Bool.Decides.{Decides-and, Decides-by_and, Decides-ltb, nat_tests}
use Rattle.std.proofs.lemmas.List.{append-nil, append_assoc, get_or_append_left, get_or_at, length-append, take_all, take-append-drop, take_more}
use Rattle.std.proofs.lemmas.List.Elements.{All-contains, Contains-get_or, filter_map-append}
use Rattle.std.proofs.lemmas.List.Sums.{fold-append}
use Rattle.cdc_types.specs.declared.events.Event.{Event}
use Rattle.cdc_types.specs.Timestamps.{last_timestamp}
use Rattle.cdc_types.proofs.Rising.{last_timestamp_from-push}
use Rattle.cdc_message.specs.declared.items.Item.{Item}
use Rattle.cdc_message.specs.declared.items.Item.TheVariants.{Event as OfEvent, EndMark}
use Rattle.cdc_message.specs.Items.{item_event, events_of, same_item, is_newest, newest_after, rises, TimestampsRise}
use Rattle.cdc_message.specs.Replays.{HaveSame, IsReplay, HasNoneTwice, has_same, firsts}
use Rattle.cdc_message.proofs.ReplayLaws.{HasBegun, HasBegun-replay, firsts-push, Decides-has_same, is_new, next_is, take_next}
use Rattle.cdc_message.proofs.Same.{Decides-same_item}

-- ---- one more event

-- an element in front of both lists, or of none
behind : (x : Event) (some more end : List Event) (t : Bool) → more ≡ some ++ end
    → cond t (x ∷ more) more ≡ cond t (x ∷ some) some ++ end
behind x some more end true is = ap (λ ys. x ∷ ys) is
behind x some more end false is = is

-- one more event comes last of those that rise or not at all, and changes none before it
newest_after-push : (before es : List Event) (e : Event)
    → newest_after before (es ++ e ∷ []) ≡ newest_after before es ++ cond (is_newest (before ++ es) e) (e ∷ []) []
newest_after-push before [] e = rw (append-nil before) refl
newest_after-push before (x ∷ es) e =
    let some = newest_after (before ++ x ∷ []) es in
    let more = newest_after (before ++ x ∷ []) (es ++ e ∷ []) in
    let end = cond (is_newest (before ++ x ∷ es) e) (e ∷ []) [] in
    let rest : more ≡ some ++ end = rw append_assoc at (newest_after-push (before ++ x ∷ []) es e) in
    behind x some more end (is_newest before x) rest

-- an appended event joins the events that rise if and only if it is the newest
pub rises-is_newest : (es : List Event) (e : Event)
    → rises (es ++ e ∷ []) ≡ cond (is_newest es e) (rises es ++ e ∷ []) (rises es)
rises-is_newest es e =
    newest_after-push [] es e
    ∙ elim (is_newest es e) as (λ t. rises es ++ cond t (e ∷ []) [] ≡ cond t (rises es ++ e ∷ []) (rises es))
    [ true ↦ refl | false ↦ append-nil (rises es) ]

-- the greatest of these timestamps and t
latest_from : ℕ → List Event → ℕ
latest_from t es = fold (λ latest e. max latest e.timestamp) t es

-- a timestamp is later than two others if and only if it is later than the greater one
lt_max : (t b n : ℕ) → nat_lt (max t b) n ≡ (nat_lt t n && nat_lt b n)
lt_max t b n = grind (arith, nat_tests)

-- so that the tests of an event against each one before it can be taken in turn
and_assoc : (a b c : Bool) → (a && (b && c)) ≡ ((a && b) && c)
and_assoc true b c = refl
and_assoc false b c = refl

-- an event is later than each of these if and only if it is later than the latest
newest-latest_from : (t : ℕ) (es : List Event) (e : Event)
    → (nat_lt t e.timestamp && list_all (λ other. nat_lt other.timestamp e.timestamp) es)
    ≡ nat_lt (latest_from t es) e.timestamp
unfolding latest_from
newest-latest_from t [] e = elim (nat_lt t e.timestamp) as (λ b. (b && true) ≡ b) [ true ↦ refl | false ↦ refl ]
newest-latest_from t (x ∷ es) e =
    let rest = list_all (λ (other : Event). nat_lt other.timestamp e.timestamp) es in
    and_assoc (nat_lt t e.timestamp) (nat_lt x.timestamp e.timestamp) rest
    ∙ ap (λ b. b && rest) (sym (lt_max t x.timestamp e.timestamp))
    ∙ newest-latest_from (max t x.timestamp) es e

-- the latest timestamp after one more event is the greater of the two
latest_from-push : (t : ℕ) (es : List Event) (e : Event)
    → latest_from t (es ++ e ∷ []) ≡ max (latest_from t es) e.timestamp
unfolding latest_from
latest_from-push t es e = fold-append (λ latest (x : Event). max latest x.timestamp) t es (e ∷ [])

-- a later event has the latest timestamp from then on
max_later : (a b : ℕ) → nat_lt a b ≡ true → max a b ≡ b
max_later a b h = grind (arith, nat_tests)

-- an event that isn't later leaves it
max_earlier : (a b : ℕ) → nat_lt a b ≡ false → max a b ≡ a
max_earlier a b h = grind (arith, nat_tests)

-- so that a new event need only be held against the latest timestamp
is_newest-latest_from : (before : List Event) (e : Event) (t : Bool) → is_newest before e ≡ t
    → nat_lt (latest_from 0 before) e.timestamp ≡ t
is_newest-latest_from before e t h = sym (newest-latest_from 0 before e) ∙ h

-- the last of those that rise stays the latest of all
last-rises-push : (before : List Event) (e : Event) → last_timestamp (rises before) ≡ latest_from 0 before
    → last_timestamp (rises (before ++ e ∷ [])) ≡ latest_from 0 (before ++ e ∷ [])
last-rises-push before e so_far =
    elim (cases_Bool (is_newest before e)) [
      | inl newest ↦
          let joins : rises (before ++ e ∷ []) ≡ rises before ++ e ∷ [] = rw newest at (rises-is_newest before e) in
          ap last_timestamp joins
          ∙ last_timestamp_from-push 0 (rises before) e
          ∙ sym (max_later (latest_from 0 before) e.timestamp (is_newest-latest_from before e true newest))
          ∙ sym (latest_from-push 0 before e)
      | inr late ↦
          let stays : rises (before ++ e ∷ []) ≡ rises before = rw late at (rises-is_newest before e) in
          ap last_timestamp stays
          ∙ so_far
          ∙ sym (max_earlier (latest_from 0 before) e.timestamp (is_newest-latest_from before e false late))
          ∙ sym (latest_from-push 0 before e)
    ]

-- so it stays through any number of further events
last-rises_from : (before es : List Event) → last_timestamp (rises before) ≡ latest_from 0 before
    → last_timestamp (rises (before ++ es)) ≡ latest_from 0 (before ++ es)
last-rises_from before [] so_far = rw (append-nil before) so_far
last-rises_from before (e ∷ es) so_far =
    let further = last-rises_from (before ++ e ∷ []) es (last-rises-push before e so_far) in
    let whole : (before ++ e ∷ []) ++ es ≡ before ++ e ∷ es = append_assoc before (e ∷ []) es in
    let P : List Event → Type 0 = λ all. last_timestamp (rises all) ≡ latest_from 0 all in
    subst P whole further

-- an event is the newest if and only if it is later than the last of the events that rise
pub is_newest-last : (es : List Event) (e : Event) → is_newest es e ≡ nat_lt (last_timestamp (rises es)) e.timestamp
unfolding latest_from
is_newest-last es e =
    newest-latest_from 0 es e ∙ ap (λ t. nat_lt t e.timestamp) (sym (last-rises_from [] es refl))

-- so a subscriber needs only the last event that it applied to decide whether to apply one more
pub rises-push : (es : List Event) (e : Event)
    → rises (es ++ e ∷ []) ≡ cond (nat_lt (last_timestamp (rises es)) e.timestamp) (rises es ++ e ∷ []) (rises es)
rises-push es e = rw (is_newest-last es e) at (rises-is_newest es e)

-- the test decides what its comment states
pub Decides-is_newest : (es : List Event) (e : Event)
    → Decides (is_newest es e) ((0 < e.timestamp) × All (λ other. other.timestamp < e.timestamp) es)
Decides-is_newest es e =
    Decides-and (nat_lt 0 e.timestamp) (list_all (λ other. nat_lt other.timestamp e.timestamp) es)
    (Decides-ltb 0 e.timestamp)
    (
    Decides-by_and (λ (other : Event). nat_lt other.timestamp e.timestamp) (λ other. other.timestamp < e.timestamp)
    (list_all (λ other. nat_lt other.timestamp e.timestamp)) (λ other. Decides-ltb other.timestamp e.timestamp)
    refl (λ _ _. refl) es
    )

-- ---- the events of items

-- one more item adds its event, if it has one
events_of-push : (items : List Item) (item : Item)
    → events_of (items ++ item ∷ []) ≡ events_of items ++ events_of (item ∷ [])
events_of-push items item = filter_map-append item_event items (item ∷ [])

-- the message of an event adds the event
pub events_of-push_event : (items : List Item) (e : Event)
    → events_of (items ++ OfEvent e ∷ []) ≡ events_of items ++ e ∷ []
events_of-push_event items e = events_of-push items (OfEvent e)

-- the end mark adds no event
pub events_of-push_end : (items : List Item) → events_of (items ++ EndMark ∷ []) ≡ events_of items
events_of-push_end items = events_of-push items EndMark ∙ append-nil (events_of items)

-- of items sent in two turns the events are those of the first turn and then those of the second
pub events_of-append : (items more : List Item) → events_of (items ++ more) ≡ events_of items ++ events_of more
events_of-append items more = filter_map-append item_event items more

-- a list contains its first element
Contains_here : {X : Type 0} (x : X) (xs : List X) → Contains (x ∷ xs) x
Contains_here x xs = (0, omega arith, refl)

-- a list contains what its tail contains
Contains_there : {X : Type 0} (y : X) (xs : List X) (x : X) → Contains xs x → Contains (y ∷ xs) x
Contains_there y xs x (i, below, is) = (suc i, omega arith, is)

-- an element of a list is its first element or is in its tail
Contains_cases : {X : Type 0} (y : X) (xs : List X) (x : X) → Contains (y ∷ xs) x → (y ≡ x) ⊎ Contains xs x
Contains_cases y xs x (zero, below, is) = inl is
Contains_cases y xs x (suc i, below, is) = inr (i, omega arith, is)

-- the events of a list of items contain the event of each item
pub event_stands : (items : List Item) (e : Event) → Contains items (OfEvent e) → Contains (events_of items) e
event_stands [] e h = absurd (omega (arith, h.1))
event_stands (OfEvent a ∷ items) e h =
    elim (Contains_cases (OfEvent a) items (OfEvent e) h) [
      | inl is ↦
          let same : a ≡ e = cc in subst (Contains (a ∷ events_of items)) same (Contains_here a (events_of items))
      | inr later ↦ Contains_there a (events_of items) e (event_stands items e later)
    ]
event_stands (EndMark ∷ items) e h =
    elim (Contains_cases EndMark items (OfEvent e) h) [ inl is ↦ cc | inr later ↦ event_stands items e later ]

-- and each of these events is the event of an item
pub item_stands : (items : List Item) (e : Event) → Contains (events_of items) e → Contains items (OfEvent e)
item_stands [] e h = absurd (omega (arith, h.1))
item_stands (OfEvent a ∷ items) e h =
    elim (Contains_cases a (events_of items) e h) [
      | inl is ↦ subst (Contains (OfEvent a ∷ items)) (ap OfEvent is) (Contains_here (OfEvent a) items)
      | inr later ↦ Contains_there (OfEvent a) items (OfEvent e) (item_stands items e later)
    ]
item_stands (EndMark ∷ items) e h = Contains_there EndMark items (OfEvent e) (item_stands items e h)

-- ---- the first ones of a replay are those that rise

-- an event that came doesn't rise again
is_newest-old : (es : List Event) (e : Event) → Contains es e → is_newest es e ≡ false
is_newest-old es e there =
    elim (cases_Bool (is_newest es e)) [
      | inl newest ↦
          let all = ((Decides-is_newest es e).0 newest).1 in
          let later = All-contains (λ (other : Event). other.timestamp < e.timestamp) es e all there in
          absurd (omega (arith, later))
      | inr late ↦ late
    ]

-- an event is later than all before it in a list that rises
pub rises_after : (es : List Event) (e : Event) (more : List Event) → TimestampsRise (es ++ e ∷ more)
    → (0 < e.timestamp) × All (λ other. other.timestamp < e.timestamp) es
rises_after es e more rise =
    let within : length es < length (es ++ e ∷ more) = omega (arith, length-append es (e ∷ more)) in
    let here = λ (d : Event). get_or_at es e more d (length es) refl in (
      rw (here e) at (rise.above_zero (length es) e within),
      λ i d below.
          rw (get_or_append_left es (e ∷ more) d i below, here d) at (rise.rising i (length es) d below within),
    )

-- an event that comes next is later than all that came
is_newest-next : (v f : List Item) (e : Event) (m : ℕ) → TimestampsRise (events_of f) → HaveSame v (take m f)
    → m < length f
    → get_or f m (OfEvent e) ≡ OfEvent e → is_newest (events_of v) e ≡ true
is_newest-next v f e m rise same below here =
    let front : take (m + 1) f ≡ take m f ++ OfEvent e ∷ [] =
    take_more f m (OfEvent e) below ∙ ap (λ y. take m f ++ y ∷ []) here in
    let whole : (take m f ++ OfEvent e ∷ []) ++ drop (m + 1) f ≡ f =
    ap (λ ys. ys ++ drop (m + 1) f) (sym front) ∙ take-append-drop (m + 1) f in
    let parts : events_of f ≡ events_of (take m f) ++ e ∷ events_of (drop (m + 1) f) =
    ap events_of (sym whole)
    ∙ events_of-append (take m f ++ OfEvent e ∷ []) (drop (m + 1) f)
    ∙ ap (λ es. es ++ events_of (drop (m + 1) f)) (events_of-push_event (take m f) e)
    ∙ append_assoc (events_of (take m f)) (e ∷ []) (events_of (drop (m + 1) f)) in
    let after = rises_after (events_of (take m f)) e (events_of (drop (m + 1) f)) (subst TimestampsRise parts rise) in
    let P : Event → Type 0 = λ other. other.timestamp < e.timestamp in
    let all : All P (events_of v) =
    λ i d within.
    let other = get_or (events_of v) i d in
    let came = same.forth (OfEvent other) (item_stands v other (Contains-get_or (events_of v) i d within)) in
    All-contains P (events_of (take m f)) other after.1 (event_stands (take m f) other came) in
    (Decides-is_newest (events_of v) e).1 (after.0, all)

module _ (f : List Item) (apart : HasNoneTwice f) (rise : TimestampsRise (events_of f)) where
  -- what one more item makes of both
  rises-firsts_push : (v : List Item) (x : Item) (n : ℕ) → HasBegun same_item v f → HaveSame (v ++ x ∷ []) (take n f)
      → events_of (firsts same_item v) ≡ rises (events_of v)
      → events_of (firsts same_item (v ++ x ∷ [])) ≡ rises (events_of (v ++ x ∷ []))
  rises-firsts_push v EndMark n b after so_far =
      elim (cases_Bool (has_same same_item EndMark (firsts same_item v))) [
        | inl old ↦
            let first = rw old at (firsts-push same_item v EndMark) in
            ap events_of first ∙ so_far ∙ ap rises (sym (events_of-push_end v))
        | inr new ↦
            let first = rw new at (firsts-push same_item v EndMark) in
            ap events_of first ∙ events_of-push_end (firsts same_item v) ∙ so_far
            ∙ ap rises (sym (events_of-push_end v))
      ]
  rises-firsts_push v (OfEvent e) n b after so_far =
      let one_more : rises (events_of (v ++ OfEvent e ∷ []))
      ≡ cond (is_newest (events_of v) e) (rises (events_of v) ++ e ∷ []) (rises (events_of v)) =
      ap rises (events_of-push_event v e) ∙ rises-is_newest (events_of v) e in
      elim (cases_Bool (has_same same_item (OfEvent e) (firsts same_item v))) [
        | inl old ↦
            let first = rw old at (firsts-push same_item v (OfEvent e)) in
            let decides = Decides-has_same same_item Decides-same_item (OfEvent e) (firsts same_item v) in
            let among : Contains (take b.count f) (OfEvent e) = rw b.firsts_are at (decides.0 old) in
            let came = event_stands v e (b.elements.back (OfEvent e) among) in
            let late = is_newest-old (events_of v) e came in
            ap events_of first ∙ so_far ∙ sym (rw late at one_more)
        | inr new ↦
            let first = rw new at (firsts-push same_item v (OfEvent e)) in
            let not_yet = is_new same_item Decides-same_item v f (OfEvent e) b new in
            let next = next_is v f (OfEvent e) b.count n apart b.elements after not_yet in
            let newest = is_newest-next v f e b.count rise b.elements next.0 next.1 in
            ap events_of first ∙ events_of-push_event (firsts same_item v) e ∙ ap (λ es. es ++ e ∷ []) so_far
            ∙ sym (rw newest at one_more)
      ]

  -- so it is after each number of items
  rises-firsts_take : (w : List Item) → IsReplay w f → (k : ℕ)
      → events_of (firsts same_item (take k w)) ≡ rises (events_of (take k w))
  rises-firsts_take w replay zero = refl
  rises-firsts_take w replay (suc k) =
      let so_far = rises-firsts_take w replay k in
      elim (cases_lt k (length w)) [
        | inl below ↦
            let next = take_next k w below in
            let more : take (suc k) w ≡ take k w ++ next.0 ∷ [] = rw add-one at next.1 in
            let n = replay.prefixes (suc k) in
            let after : HaveSame (take k w ++ next.0 ∷ []) (take n.0 f) = rw more at n.1 in
            let b = HasBegun-replay same_item Decides-same_item w f apart replay k in
            rw more (rises-firsts_push (take k w) next.0 n.0 b after so_far)
        | inr past ↦
            let all : take (suc k) w ≡ take k w = take_all (suc k) w (omega arith) ∙ sym (take_all k w past) in
            rw all so_far
      ]

  -- the events of a replay without its duplicates are those that rise
  pub rises-firsts : (w : List Item) → IsReplay w f → events_of (firsts same_item w) ≡ rises (events_of w)
  rises-firsts w replay =
      let all : take (length w) w ≡ w = take_all (length w) w (omega arith) in
      rw all at (rises-firsts_take w replay (length w))
