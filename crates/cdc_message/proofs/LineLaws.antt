-- Laws of the items of events that rise, and of their replays.
use Rattle.std.proofs.Common.{◌≡◌, ◌≢◌, ℕ, ◌<◌, true, List, [], ◌∷◌, ◌++◌, length, get_or, map, refl, sym, ap, ◌∙◌, subst, arith}
use Rattle.std.proofs.lemmas.List.{append-nil, append_assoc, length-map, get_or-map}
use Rattle.std.proofs.lemmas.List.Quantifiers.{all_pairs_push}
use Rattle.cdc_types.specs.declared.events.Event.{Event}
use Rattle.cdc_message.specs.declared.items.Item.{Item}
use Rattle.cdc_message.specs.declared.items.Item.TheVariants.{Event as OfEvent, EndMark}
use Rattle.cdc_message.specs.Items.{events_of, is_newest, rises, TimestampsRise}
use Rattle.cdc_message.specs.Replays.{HasNoneTwice}
use Rattle.cdc_message.proofs.RisesLaws.{rises-is_newest, rises_after, Decides-is_newest}

-- ---- what a receiver of a replay takes for new

-- ---- the first ones of items and of their events

-- ---- timestamps that rise

-- if timestamps rise, each next event is newer than all before it
rising_from : (before es : List Event) → TimestampsRise (before ++ es) → rises before ≡ before
    → rises (before ++ es) ≡ before ++ es
rising_from before [] rise so_far = rw (append-nil before) so_far
rising_from before (e ∷ es) rise so_far =
    let whole : (before ++ e ∷ []) ++ es ≡ before ++ e ∷ es = append_assoc before (e ∷ []) es in
    let newest : is_newest before e ≡ true = (Decides-is_newest before e).1 (rises_after before e es rise) in
    let joins : rises (before ++ e ∷ []) ≡ rises before ++ e ∷ [] = rw newest at (rises-is_newest before e) in
    let P : List Event → Type 0 = λ all. rises all ≡ all in
    let rising : TimestampsRise ((before ++ e ∷ []) ++ es) = rw whole rise in
    subst P whole (rising_from (before ++ e ∷ []) es rising (joins ∙ ap (λ es. es ++ e ∷ []) so_far))

-- if all timestamps rise, no event is left out
pub rises-rising : (es : List Event) → TimestampsRise es → rises es ≡ es
rises-rising es rise = rising_from [] es rise refl

-- ---- the items of events

-- the events of a list of event items are the events that it was made from
pub events_of-map : (es : List Event) → events_of (map OfEvent es) ≡ es
events_of-map [] = refl
events_of-map (e ∷ es) = ap (λ more. e ∷ more) (events_of-map es)

-- each index of such a list has an event's message
event_at : (es : List Event) (i : ℕ) (d : Item) → i < length es
    → (e : Event) × (get_or (map OfEvent es) i d ≡ OfEvent e)
event_at [] i d below = absurd (omega arith)
event_at (e ∷ es) i d below = (get_or (e ∷ es) i e, get_or-map OfEvent (e ∷ es) i e d below)

-- events that rise are no two the same
pub HasNoneTwice-events : (es : List Event) → TimestampsRise es → HasNoneTwice (map OfEvent es)
HasNoneTwice-events [] rise i j d before below is = absurd (omega arith)
HasNoneTwice-events (x ∷ es) rise i j d before below is =
    let within : j < length (x ∷ es) = omega (arith, length-map (x ∷ es) OfEvent) in
    let early = get_or-map OfEvent (x ∷ es) i x d (omega arith) in
    let late = get_or-map OfEvent (x ∷ es) j x d within in
    let same : OfEvent (get_or (x ∷ es) i x) ≡ OfEvent (get_or (x ∷ es) j x) = sym early ∙ is ∙ late in
    let equal : get_or (x ∷ es) i x ≡ get_or (x ∷ es) j x = cc in
    let times = ap (λ (e : Event). e.timestamp) equal in
    absurd (omega (arith, times, rise.rising i j x before within))

-- none of them is the end mark
not_the_end : (es : List Event) (k : ℕ) (d : Item) → k < length (map OfEvent es) → get_or (map OfEvent es) k d ≢ EndMark
not_the_end es k d below is =
    let found = event_at es k d (omega (arith, length-map es OfEvent)) in
    let apart : OfEvent found.0 ≡ EndMark = sym found.1 ∙ is in
    cc

-- no two items are the same, even after the end mark is appended
pub HasNoneTwice-line : (es : List Event) → TimestampsRise es → HasNoneTwice (map OfEvent es ++ EndMark ∷ [])
HasNoneTwice-line es rise =
    all_pairs_push (λ (a b : Item). a ≢ b) (map OfEvent es) EndMark (HasNoneTwice-events es rise) (not_the_end es)
