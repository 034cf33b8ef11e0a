-- The events of a page, one after another.
use Rattle.std.proofs.Common.{◌≡◌, ◌∙◌, ℕ, zero, suc, ◌+◌, ◌<◌, ◌≤◌, List, [], ◌∷◌, ◌++◌, Some, None, ap, append-nil, append_assoc, arith, drop, flat_map, length, refl, sym}
use Rattle.std.specs.List.{slice_get}
use Rattle.std.proofs.lemmas.List.{drop_all}
use Rattle.cdc_match.specs.Arguments.{Arguments}
use Rattle.cdc_page.specs.Events.{event_json, events_json}
use Rattle.cdc_types.specs.declared.events.Event.{Event}

-- what is left after the elements before one that was found: it, and what is left after it
drop_found : (xs : List Event) (i : ℕ) (x : Event) → slice_get xs i ≡ Some x → drop i xs ≡ x ∷ drop (i + 1) xs
drop_found [] i x h = cc
drop_found (y ∷ xs) zero x h = let same : y ≡ x = cc in ap (λ z. z ∷ xs) same
drop_found (y ∷ xs) (suc i) x h =
    drop_found xs i x h ∙ ap (λ n. x ∷ drop n (y ∷ xs)) (let e : suc (i + 1) ≡ suc i + 1 = omega arith in e)

-- a log has an event at each place
pub no_event : (events : List Event) (place : ℕ) → place < length events → slice_get events place ≡ None → ⊥
no_event [] place below h = omega arith
no_event (event ∷ events) zero below h = cc
no_event (event ∷ events) (suc place) below h = no_event events place (omega arith) h

-- an event adds what it makes of the text that is left
pub one_event : (bindings : List Arguments) (events : List Event) (place : ℕ) (event : Event) (old new whole : List ℕ)
    → slice_get events place ≡ Some event → new ≡ old ++ event_json bindings event
    → old ++ events_json bindings (drop place events) ≡ whole
    → new ++ events_json bindings (drop (place + 1) events) ≡ whole
one_event bindings events place event old new whole found adds before =
    let left = drop (place + 1) events in
    ap (λ (text : List ℕ). text ++ events_json bindings left) adds
    ∙ append_assoc old (event_json bindings event) (events_json bindings left)
    ∙ ap (λ (more : List Event). old ++ events_json bindings more) (sym (drop_found events place event found))
    ∙ before

-- after all events the text is whole
pub all_events : (bindings : List Arguments) (events : List Event) (place : ℕ) (old whole : List ℕ)
    → length events ≤ place → old ++ events_json bindings (drop place events) ≡ whole → old ≡ whole
all_events bindings events place old whole past before =
    sym (append-nil old)
    ∙ ap (λ (left : List Event). old ++ events_json bindings left) (sym (drop_all place events past))
    ∙ before
