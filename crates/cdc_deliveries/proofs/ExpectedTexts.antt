-- The lines of what is expected, one after another.
use Rattle.cdc_deliveries.proofs.Words.{Arrival, Event, List, Placed, Reception, Some, Taking, answer_line, answer_to, ap, append-nil, drop, drop_all, ended, expected_from, expected_line, item_of, kept_of, length, line_of, next_placed, next_reception, nothing, placed, slice_get, sym, ℕ, ◌++◌, ◌+◌, ◌∙◌, ◌≡◌, ◌≤◌}
use Rattle.cdc_subscriber.specs.SubscriberState.{SubscriberState}
use Rattle.cdc_deliveries.proofs.LineTexts.{line_added}
use Rattle.cdc_deliveries.proofs.Walks.{drop_found}

-- the first arrivals were taken, and their lines are in the text
pub record IsExpecting (fed : List Event) (arrived : List Arrival) (place : ℕ) (text : List ℕ) (kept : SubscriberState)
    : Type 0 where
  pub reception : Reception
  pub keeps : kept ≡ kept_of reception
  pub made : text ++ expected_from (place + 1) reception fed (drop place arrived) ≡ expected_from 1 nothing fed arrived

-- one arrival more
pub one_expected : (fed : List Event) (arrived : List Arrival) (place : ℕ) (arrival : Arrival) (old new : List ℕ)
    (kept after : SubscriberState) → slice_get arrived place ≡ Some arrival
    → ((reception : Reception) → kept ≡ kept_of reception
    → after ≡ kept_of (next_placed reception (placed fed arrival.item)))
    → ((reception : Reception) → kept ≡ kept_of reception
    → new ≡ old ++ line_of (answer_line (place + 1) reception) (placed fed arrival.item))
    → IsExpecting fed arrived place old kept → IsExpecting fed arrived (place + 1) new after
one_expected fed arrived place arrival old new kept after is stands adds before =
    let reception = before.reception in
    record {
      reception = next_placed reception (placed fed arrival.item);
      keeps = stands reception before.keeps;
      made = line_added old new (line_of (answer_line (place + 1) reception) (placed fed arrival.item))
          (expected_from (place + 1 + 1) (next_placed reception (placed fed arrival.item)) fed
          (drop (place + 1) arrived))
          (expected_from 1 nothing fed arrived) (adds reception before.keeps)
          (ap (λ (ys : List Arrival). old ++ expected_from (place + 1) reception fed ys)
          (sym (drop_found arrived place arrival is))
          ∙ before.made);
    }

-- an item that the subscriber takes, and its answer
pub line_taken : (number : ℕ) (found : Placed) (old new : List ℕ) (reception : Reception)
    (kept after : SubscriberState) (answer : Taking) → kept ≡ kept_of reception
    → answer ≡ answer_to kept (item_of found.event)
    → after ≡ kept_of (next_reception reception (item_of found.event))
    → new ≡ old ++ ended (expected_line number answer after found.event)
    → new ≡ old ++ ended (answer_line number reception found)
line_taken number found old new reception kept after answer keeps answers stands adds =
    adds ∙ ap (λ (given : Taking). old ++ ended (expected_line number given after found.event))
    (answers ∙ ap (λ (k : SubscriberState). answer_to k (item_of found.event)) keeps)
    ∙ ap (λ (k : SubscriberState). old
    ++ ended (expected_line number (answer_to (kept_of reception) (item_of found.event)) k found.event)) stands

-- no arrival is left
pub all_expected : (fed : List Event) (arrived : List Arrival) (place : ℕ) (text : List ℕ) (kept : SubscriberState)
    → length arrived ≤ place → IsExpecting fed arrived place text kept → text ≡ expected_from 1 nothing fed arrived
all_expected fed arrived place text kept past before =
    sym (append-nil text)
    ∙ ap (λ (ys : List Arrival). text ++ expected_from (place + 1) before.reception fed ys)
    (sym (drop_all place arrived past))
    ∙ before.made
