-- What the lines of a state that can be saved contain.
use Rattle.std.proofs.Common.{◌≡◌, ℕ, List, [], ◌∷◌, ◌++◌, append-nil, append_assoc, map, refl, sym, ap, ◌∙◌, subst}
use Rattle.std.specs.Prelude.{fold, nat_eq}
use Rattle.std.specs.List.{AllByRecursion}
use Rattle.indexmap.specs.IndexMap.{insert_entry}
use Rattle.cdc_types.specs.declared.accounts.Balances.{Balances}
use Rattle.cdc_types.specs.declared.events.Event.{Event}
use Rattle.cdc_audit_state.specs.Saveable.{AreDistinct, IsByItsId}
use Rattle.cdc_audit_state.proofs.PartLemmas.{inserted_last}
use Rattle.cdc_checked.specs.declared.checker.KnownAccount.{KnownAccount}
use Rattle.cdc_checked_follow.specs.Standing.{CheckedFollowerState}
use Rattle.cdc_checked_state.specs.declared.rows.Row.{Row}
use Rattle.cdc_checked_state.specs.Parts.{PartsState, no_parts, parts_of, with_row}
use Rattle.cdc_checked_state.specs.Saveable.{CanBeSaved}
use Rattle.cdc_checked_state.specs.States.{all_rows, book_rows, known_rows, open_rows}

-- what further lines contain
abbrev pub on : PartsState → List Row → PartsState
on parts rows = fold with_row parts rows

book_on : (left : List (ℕ × Balances)) (parts : PartsState) (more : List Row) → AreDistinct (parts.book ++ left)
    → on parts (book_rows left ++ more) ≡ on (record parts { book = parts.book ++ left }) more
book_on [] parts more distinct = ap (λ es. on (record parts { book = es }) more) (sym (append-nil parts.book))
book_on (e ∷ left) parts more distinct =
    let whole : (parts.book ++ e ∷ []) ++ left ≡ parts.book ++ e ∷ left = append_assoc parts.book (e ∷ []) left in
    ap (λ es. on (record parts { book = es }) (book_rows left ++ more)) (inserted_last e.0 e.1 parts.book left distinct)
    ∙ book_on left (record parts { book = parts.book ++ e ∷ [] }) more (subst AreDistinct (sym whole) distinct)
    ∙ ap (λ es. on (record parts { book = es }) more) whole

known_on : (left : List (ℕ × KnownAccount)) (parts : PartsState) (more : List Row)
    → AreDistinct (parts.accounts ++ left)
    → on parts (known_rows left ++ more) ≡ on (record parts { accounts = parts.accounts ++ left }) more
known_on [] parts more distinct =
    ap (λ es. on (record parts { accounts = es }) more) (sym (append-nil parts.accounts))
known_on (e ∷ left) parts more distinct =
    let whole : (parts.accounts ++ e ∷ []) ++ left ≡ parts.accounts ++ e ∷ left =
    append_assoc parts.accounts (e ∷ []) left in
    ap (λ es. on (record parts { accounts = es }) (known_rows left ++ more))
    (inserted_last e.0 e.1 parts.accounts left distinct)
    ∙ known_on left (record parts { accounts = parts.accounts ++ e ∷ [] }) more
    (subst AreDistinct (sym whole) distinct)
    ∙ ap (λ es. on (record parts { accounts = es }) more) whole

open_on : (left : List (ℕ × Event)) (parts : PartsState) → AreDistinct (parts.open_ones ++ left)
    → AllByRecursion IsByItsId left
    → on parts (open_rows left) ≡ record parts { open_ones = parts.open_ones ++ left }
open_on [] parts distinct all = ap (λ es. record parts { open_ones = es }) (sym (append-nil parts.open_ones))
open_on (e ∷ left) parts distinct all =
    let whole : (parts.open_ones ++ e ∷ []) ++ left ≡ parts.open_ones ++ e ∷ left =
    append_assoc parts.open_ones (e ∷ []) left in
    let grown : insert_entry nat_eq parts.open_ones e.1.transfer.id e.1 ≡ parts.open_ones ++ e ∷ [] =
    ap (λ id. insert_entry nat_eq parts.open_ones id e.1) (sym all.0)
    ∙ inserted_last e.0 e.1 parts.open_ones left distinct in
    ap (λ es. on (record parts { open_ones = es }) (open_rows left)) grown
    ∙ open_on left (record parts { open_ones = parts.open_ones ++ e ∷ [] }) (subst AreDistinct (sym whole) distinct)
    all.1
    ∙ ap (λ es. record parts { open_ones = es }) whole

-- all lines of a state
pub contained : (binding : List ℕ) (follower : CheckedFollowerState) → CanBeSaved binding follower
    → parts_of (all_rows follower) ≡ record {
      book = follower.book;
      accounts = follower.checker.accounts;
      open_ones = follower.checker.open_ones;
    }
contained binding follower can =
    let one : PartsState = record no_parts { book = follower.book } in
    let two : PartsState = record one { accounts = follower.checker.accounts } in
    book_on follower.book no_parts _ can.book ∙ known_on follower.checker.accounts one _ can.accounts
    ∙ open_on follower.checker.open_ones two can.open_ones can.by_ids
