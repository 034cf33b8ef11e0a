-- What of a run is the same in whatever order its threads came.
use Rattle.std.specs.Prelude.{◌≡◌, ℕ, true, false, Option, Result, List, [], ◌∷◌, ◌++◌, All, fold, map}
use Rattle.cdc_broker_actors.specs.Subscriber.{is_asked}
use Rattle.cdc_laws.specs.Line.{line_after}
use Rattle.cdc_ledger.specs.declared.errors.BatchError.{BatchError}
use Rattle.cdc_ledger.specs.History.{History, empty_history}
use Rattle.cdc_ledger.specs.Submit.{history_or, submit}
use Rattle.cdc_match.specs.Arguments.{Arguments}
use Rattle.cdc_match.specs.Queue.{queue}
use Rattle.cdc_subscriber.specs.Reception.{kept_of, next, nothing}
use Rattle.cdc_subscriber.specs.SubscriberState.{SubscriberState}
use Rattle.cdc_traffic.specs.Answering.{answer_shown}
use Rattle.cdc_traffic.specs.Pasts.{history_of}
use Rattle.cdc_traffic.specs.declared.requests.Reply.{Reply}
use Rattle.cdc_types.specs.declared.batches.Batch.{Batch}
use Rattle.cdc_types.specs.declared.batches.BatchResults.{BatchResults}
use Rattle.cdc_run.specs.Books.{AreBooks}
use Rattle.cdc_run.specs.Made.{AreCloses}
use Rattle.cdc_run.specs.Reports.{AreSubscribed, IsSubscribed}

-- a ledger's answers to batches that come one after another, each on the history that those before it have left
abbrev pub answers_from : History → List Batch → List (Result BatchResults BatchError)
answers_from h [] = []
answers_from h (batch ∷ batches) = answer_shown h batch ∷ answers_from (history_or h (submit h batch)) batches

-- a client's replies have the answers that a new ledger gives to its batches alone, one after another, and the ledger
-- is what those batches make, with a close after the last of them
pub record IsServedAlone (ledger : History) (replies : List Reply) : Type 0 where
  pub ledger_is : ledger ≡ history_of (record { batches = map (λ r. r.batch) replies; closed = true })
  pub answers : map (λ r. r.answer) replies ≡ answers_from empty_history (map (λ r. r.batch) replies)

-- what a subscriber keeps that takes its queue of everything the ledger has after this start, each item once and in
-- order
abbrev pub kept_of_line : History → ℕ → Arguments → SubscriberState
kept_of_line h start binding = kept_of (fold next nothing (queue (line_after h start) binding))

-- clients that were replied nothing
abbrev pub HaveNone : List (List Reply) → Type 0
HaveNone replies = All (λ own. own ≡ []) replies

-- ---- laws

-- this holds of a client if those before and after it got no replies, whatever its number
abbrev pub LoneClientsAreServedAlone : Type 0
LoneClientsAreServedAlone = (order : List (ℕ × Batch)) (ledger : History) (before : List (List Reply))
    (replies : List Reply) (after : List (List Reply)) → HaveNone before → HaveNone after
    → AreBooks order ledger (before ++ replies ∷ after) → IsServedAlone ledger replies

-- a subscriber that wasn't asked to close keeps just that
abbrev pub UnaskedKeepTheLine : Type 0
UnaskedKeepTheLine = (h : History) (start : ℕ) (binding : Arguments) (close_after : Option ℕ)
    (subscriber : SubscriberState)
    → is_asked close_after ≡ false → IsSubscribed h start binding close_after subscriber
    → subscriber ≡ kept_of_line h start binding

-- so do all subscribers from a number on, if none of them was asked to close
abbrev pub AllKeepTheLine : Type 0
AllKeepTheLine = (number : ℕ) (h : History) (start : ℕ) (bindings : List Arguments) (closes : List (Option ℕ))
    (subscribers : List SubscriberState) → AreCloses number [] closes
    → AreSubscribed h start bindings closes subscribers
    → subscribers ≡ map (kept_of_line h start) bindings
