-- How the pending transfers of a list of entries ended (for private contracts and the laws).
use Rattle.std.specs.Prelude.{ℕ, ◌+◌, ◌-◌, ◌&&◌, ◌==◌, Bool, true, false, not, nat_le, List, [], ◌∷◌, ◌++◌, map, length, set, take, Option, Some, None, if◌then◌else◌}
use Rattle.std.specs.List.{list_any}
use Rattle.cdc_types.specs.declared.events.Entry.{Entry}
use Rattle.cdc_types.specs.declared.events.EventKind.{EventKind}
use Rattle.cdc_types.specs.declared.events.EventKind.TheVariants.{SinglePhase, TwoPhasePending, TwoPhasePosted, TwoPhaseVoided, TwoPhaseExpired}
use Rattle.cdc_types.specs.declared.results.TransferResult.{TransferResult}
use Rattle.cdc_types.specs.declared.results.TransferResult.TheVariants as transfer
use Rattle.cdc_types.specs.declared.transfers.Transfer.{Transfer}
use Rattle.cdc_ledger.specs.declared.endings.Ending.{Ending}
use Rattle.cdc_ledger.specs.declared.endings.Ending.TheVariants.{Open, Posted, Voided, Expired}
use Rattle.cdc_ledger.specs.declared.movements.Pending.{Pending}
use Rattle.cdc_ledger.specs.Filling.{expires_at}
use Rattle.cdc_ledger.specs.Kinds.{holds, posts, voids, expires}

-- how a transfer ended, by whether it was posted, voided, expired
abbrev pub ending_from : Bool → Bool → Bool → Ending
ending_from true voided expired = Posted
ending_from false true expired = Voided
ending_from false false true = Expired
ending_from false false false = Open

-- how the pending transfer p ended among these entries
abbrev pub ending_among : List Entry → Transfer → Ending
ending_among entries p =
    ending_from (list_any (λ x. posts x.kind x.transfer p) entries) (list_any (λ x. voids x.kind x.transfer p) entries)
    (list_any (λ x. expires x.kind x.transfer p) entries)

-- how the transfer of an entry ended, if it is pending, otherwise open
abbrev pub ending_of : List Entry → Entry → Ending
ending_of entries e = if holds e.kind then ending_among entries e.transfer else Open

-- how each one ended
abbrev pub endings_of : List Entry → List Ending
endings_of entries = map (ending_of entries) entries

-- the ending that an entry of this kind gives the pending transfer that it settles
abbrev pub ending_by : EventKind → Ending
ending_by SinglePhase = Open
ending_by TwoPhasePending = Open
ending_by TwoPhasePosted = Posted
ending_by TwoPhaseVoided = Voided
ending_by TwoPhaseExpired = Expired

-- the endings after an entry of this kind, which settles this pending transfer, if any
abbrev pub endings_after : Option Pending → EventKind → List Ending → List Ending
endings_after None kind endings = endings ++ Open ∷ []
endings_after (Some p) kind endings = set endings p.place (ending_by kind) ++ Open ∷ []

-- the endings before the last entry, which settled this pending transfer, if any
abbrev pub endings_before : Option Pending → List Ending → List Ending
endings_before None endings = take (length endings - 1) endings
endings_before (Some p) endings = set (take (length endings - 1) endings) p.place Open

-- why a pending transfer with this ending can't be settled at the timestamp t, if it can't; its timeout ends it too
abbrev pub ended_refusal : Ending → Transfer → ℕ → Option TransferResult
ended_refusal Posted p t = Some transfer.PendingTransferAlreadyPosted
ended_refusal Voided p t = Some transfer.PendingTransferAlreadyVoided
ended_refusal Expired p t = Some transfer.PendingTransferExpired
ended_refusal Open p t =
    if not (p.timeout == 0) && nat_le (expires_at p) t then Some transfer.PendingTransferExpired else None
