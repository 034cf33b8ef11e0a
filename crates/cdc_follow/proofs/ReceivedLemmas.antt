-- A subscriber that receives events that rise, each once and in order, has applied just these.
use Rattle.std.proofs.Common.{◌≡◌, List, [], ◌∷◌, ◌++◌, Bool, true, false, cond, map, refl, sym, ap, ◌∙◌, subst}
use Rattle.std.proofs.Common.{append-nil, append_assoc, length, min}
use Rattle.std.specs.Prelude.{nat_lt}
use Rattle.std.specs.List.{list_any}
use Rattle.std.proofs.lemmas.Bool.{lt-ltb}
use Rattle.cdc_types.specs.declared.events.Event.{Event}
use Rattle.cdc_types.specs.Timestamps.{RiseFrom, last_timestamp}
use Rattle.cdc_types.specs.Widths.{max_64}
use Rattle.cdc_types.proofs.Rising.{last_timestamp_from-push}
use Rattle.cdc_message.specs.declared.items.Item.{Item}
use Rattle.cdc_message.specs.declared.items.Item.TheVariants as item
use Rattle.cdc_message.specs.Items.{events_of, rises}
use Rattle.cdc_message.proofs.RisesLaws.{rises-push}
use Rattle.cdc_subscriber.specs.Book.{book_of}
use Rattle.cdc_subscriber.specs.Reception.{is_end}
use Rattle.cdc_subscriber.specs.SubscriberState.{SubscriberState}
use Rattle.cdc_follow.specs.Laws.{ReceivedOnceIsApplied}

-- events that rise from the last one so far all rise
rises-on : (before es : List Event) → rises before ≡ before → RiseFrom (last_timestamp before) es
    → rises (before ++ es) ≡ before ++ es
rises-on before [] so_far rising =
    ap rises (append-nil before) ∙ so_far ∙ sym (append-nil before)
rises-on before (e ∷ es) so_far rising =
    subst (λ all. rises all ≡ all) (append_assoc before (e ∷ []) es)
    (rises-on (before ++ e ∷ []) es joins
    (subst (λ t. RiseFrom t es) (sym (last_timestamp_from-push 0 before e)) rising.1))
  where
    newer : nat_lt (last_timestamp (rises before)) e.timestamp ≡ true
    newer = ap (λ b. nat_lt (last_timestamp b) e.timestamp) so_far ∙ lt-ltb (last_timestamp before) e.timestamp rising.0

    joins : rises (before ++ e ∷ []) ≡ before ++ e ∷ []
    joins = rises-push before e ∙ ap (λ b. cond b (rises before ++ e ∷ []) (rises before)) newer
        ∙ ap (λ es. es ++ e ∷ []) so_far

-- the items after events
abbrev ending : Bool → List Item
ending ended = cond ended (item.EndMark ∷ []) []

-- the events among them
events_of-received : (events : List Event) (ended : Bool) → events_of (map item.Event events ++ ending ended) ≡ events
events_of-received [] true = refl
events_of-received [] false = refl
events_of-received (e ∷ events) ended = ap (λ es. e ∷ es) (events_of-received events ended)

-- and whether the end mark is
ended-received : (events : List Event) (ended : Bool) → list_any is_end (map item.Event events ++ ending ended) ≡ ended
ended-received [] true = refl
ended-received [] false = refl
ended-received (e ∷ events) ended = ended-received events ended

pub received_once : ReceivedOnceIsApplied
received_once events ended rising =
    ap (λ es. with_events es (list_any is_end (map item.Event events ++ ending ended)))
    (ap rises (events_of-received events ended) ∙ rises-on [] events refl rising)
    ∙ ap (with_events events) (ended-received events ended)
  where
    with_events : List Event → Bool → SubscriberState
    with_events es ended = record {
      book = book_of es;
      last = last_timestamp es;
      applied = min (length es) max_64;
      ended = ended;
      closed = false;
    }
