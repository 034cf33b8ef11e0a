-- What was missed of an account before any of its applied events moved nothing; so its applied movements are a prefix.
use Rattle.std.proofs.Common.{◌≡◌, true, List, [], length, subst}
use Rattle.std.specs.Prelude.{Contains}
use Rattle.std.specs.List.{AllByRecursion}
use Rattle.std.proofs.Math.Seq.{take-length}
use Rattle.cdc_types.specs.declared.events.Event.{Event}
use Rattle.cdc_ledger.specs.Events.{events}
use Rattle.cdc_ledger.specs.History.{History}
use Rattle.cdc_ledger.specs.Submit.{IsLegal}
use Rattle.cdc_audit.specs.Audits.{is_accepted}
use Rattle.cdc_audit_laws.proofs.Accepted.{ledgers_are_accepted}
use Rattle.cdc_checked.specs.Checked.{checked}
use Rattle.cdc_checked_laws.specs.Laws.{CheckedAccountsMissNothing}
use Rattle.cdc_checked_laws.proofs.Kept.{Holds, holds_all, holds-nil}
use Rattle.cdc_checked_laws.proofs.Members.{each_has, has_own}

-- a ledger's events are accepted
pub accepted_events : (h : History) → IsLegal h → is_accepted (events h) ≡ true
accepted_events h legal =
    subst (λ (es : List Event). is_accepted es ≡ true) (take-length (events h))
    (ledgers_are_accepted h (length (events h)) legal)

pub checked_holds : (h : History) (received : List Event) → IsLegal h → AllByRecursion (Contains (events h)) received
    → Holds (events h) (checked received)
checked_holds h received legal inside =
    holds_all (events h) [] received (accepted_events h legal) inside (holds-nil (events h))

pub checked_accounts_miss_nothing : CheckedAccountsMissNothing
checked_accounts_miss_nothing h received id e legal inside there named =
    let holds = checked_holds h received legal inside in
    holds.nothing e (each_has (Contains (events h)) (checked received) e holds.inside there)
    (has_own (checked received) e there) id named
