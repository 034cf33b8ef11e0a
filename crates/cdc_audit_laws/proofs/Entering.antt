-- A request for an event that is accepted, and stores a transfer, makes this event.
use Rattle.std.proofs.Common.{◌≡◌, ℕ, Bool, true, false, None, refl, sym, ap, ap₂, subst}
use Rattle.cdc_audit_laws.proofs.OfTypes.{Entry, Event, EventTransfer, NewTransfer, Transfer}
use Rattle.cdc_audit_laws.proofs.OfLedger.{as_asked, filled, Follows, History, settles, stores, entry_of, transfer_refused, Follows-accepted}
use Rattle.cdc_audit_laws.proofs.OfAudit.{asked_transfer}
use Rattle.cdc_audit_laws.proofs.Coming.{Comes, asks_kind, not_refused, on_stored}
use Rattle.cdc_audit_laws.proofs.Flags.{kind_is}
use Rattle.cdc_audit_laws.proofs.Made.{IsShownBy, entry_with}
use Rattle.cdc_audit_laws.proofs.Plain.{plain_filled, plain_passes}
use Rattle.cdc_audit_laws.proofs.Posting.{posting_filled, posting_passes}

module _ (h : History) (e : Event) (comes : Comes h e) (storing : stores e.kind ≡ true) where
  abbrev request : NewTransfer
  request = asked_transfer e

  -- no line refuses the request, and it is stored as it was asked for
  passes : (transfer_refused h request e.timestamp ≡ None)
      × (filled h request e.timestamp ≡ as_asked request e.timestamp)
  passes = by (settles e.kind) refl
    where
      by : (b : Bool) → settles e.kind ≡ b → (transfer_refused h request e.timestamp ≡ None)
          × (filled h request e.timestamp ≡ as_asked request e.timestamp)
      by true is = (
        not_refused h e comes storing (posting_passes h e comes storing is),
        posting_filled h e comes storing is,
      )
      by false is = (
        not_refused h e comes storing (plain_passes h e comes storing is),
        plain_filled h e comes storing is,
      )

  pub unrefused : transfer_refused h request e.timestamp ≡ None
  unrefused = passes.0

  -- its transfer, which the event shows
  abbrev pub own : Transfer
  own = as_asked request e.timestamp

  pub shows_own : IsShownBy e own
  shows_own =
      let at : ℕ → EventTransfer = λ t. record e.transfer { timestamp = t } in
      record {
        shown = ap at (sym (on_stored h e comes storing).dated);
        ledger = refl;
        debit = refl;
        credit = refl;
      }

  -- and its entry
  pub entry_is : entry_of h request e.timestamp ≡ entry_with e own
  entry_is =
      ap₂ (λ k x. let y : Entry = record { timestamp = e.timestamp; kind = k; transfer = x } in y)
      (kind_is e.kind request storing (asks_kind h e comes storing)) passes.1

  pub own_follows : Follows h (entry_with e own)
  own_follows = subst (Follows h) entry_is (Follows-accepted h request e.timestamp comes.sound comes.later unrefused)
