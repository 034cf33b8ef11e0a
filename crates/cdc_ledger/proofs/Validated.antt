-- Which line refuses a request for a transfer, part by part of its table, and what the movement of an accepted one is.
use Rattle.cdc_ledger.proofs.Words.{[], ◌&&◌, ◌++◌, ◌<◌, ◌==◌, ◌||◌, ◌∙◌, ◌∷◌, ◌≡◌, ◌≤◌, Account, Bool, Entry, Follows, HasBoundedSums, History, IfSome, IsBounded, IsPlace, IsPlaced, IsSound, IsStoredAt, IsValidated, List, Movement, NewTransfer, None, Opened, Option, SinglePhase, Some, Transfer, TransferResult, TwoPhasePending, TwoPhasePosted, TwoPhaseVoided, account_now, account_place, account_with, accounts_now, ap, ap₂, arith, as_asked, balances, ended_refusal, ending_among, ending_from, entry_of, expires, expires_at, false, field_lines, filled, filled_by, filled_from, first_line, get_or, if◌then◌else◌, is_pending_request, is_plain_request, is_post_request, is_void_request, known_transfer_lines, lines_between, list_any, nat_le, not, opened, option_map, plain_lines, posts, refl, settled_by, settled_in, settled_transfer, settling_lines, some_by, stored, subst, sym, transfer_lines, transfer_number, transfer_refusal, transfer_shape_lines, true, voids, ℕ}
use Rattle.std.specs.Prelude.{IsSome}
use Rattle.std.proofs.lemmas.Bool.{le-leb, false≢true}
use Rattle.std.proofs.Math.Nat.{le_of_lt}
use Rattle.cdc_types.specs.declared.results.TransferResult.TheVariants as transfer
use Rattle.cdc_ledger.proofs.AcceptedLaws.{Follows-accepted}
use Rattle.cdc_ledger.proofs.BalanceLaws.{balances_later}
use Rattle.cdc_ledger.proofs.Changes.{IsUpTo}
use Rattle.cdc_ledger.proofs.Elements.{AllByRecursion-weaker, list_any_same}
use Rattle.cdc_ledger.proofs.Found.{find-accounts_now}
use Rattle.cdc_ledger.proofs.LineLaws.{first_line-append_none, first_line-append_some, test_fails}
use Rattle.cdc_ledger.proofs.OpenedLaws.{opened_id}
use Rattle.cdc_ledger.proofs.PlaceLaws.{find-no_place}
use Rattle.cdc_ledger.proofs.AccountPlaces.{place-find}

-- the lines on a request's own fields and on a known id don't apply: its own lines decide
module _ (h : History) (r : NewTransfer) (t : ℕ) (shape : transfer_refusal r ≡ None)
    (unknown : first_line (known_transfer_lines (stored h r.id) h r) ≡ None) where
  -- the lines that are left, by what the request asks for
  own_lines : Bool → List (Bool × TransferResult)
  own_lines plain =
      if plain then plain_lines (opened h r.debit_account_id) (opened h r.credit_account_id) h r t
      else settling_lines (stored h r.pending_id) h r t

  -- so the verdict is that of these lines
  decides : (plain : Bool) → is_plain_request r ≡ plain
      → first_line (transfer_lines h r t) ≡ first_line (own_lines plain)
  unfolding own_lines
  decides plain is =
      first_line-append_none (transfer_shape_lines r ++ known_transfer_lines (stored h r.id) h r) _
      (first_line-append_none (transfer_shape_lines r) (known_transfer_lines (stored h r.id) h r) shape ∙ unknown)
      ∙ ap (λ b. first_line (own_lines b)) is

  -- of a plain request those on its accounts
  pub first_line-plain : is_plain_request r ≡ true
      → first_line (transfer_lines h r t)
      ≡ first_line (plain_lines (opened h r.debit_account_id) (opened h r.credit_account_id) h r t)
  unfolding own_lines
  first_line-plain is = decides true is

  -- of a post or a void those on the transfer that it names
  first_line-settling : is_plain_request r ≡ false
      → first_line (transfer_lines h r t) ≡ first_line (settling_lines (stored h r.pending_id) h r t)
  unfolding own_lines
  first_line-settling is = decides false is

  -- if there is no such transfer, that is the refusal
  pub first_line-no_pending : is_plain_request r ≡ false → stored h r.pending_id ≡ None
      → first_line (transfer_lines h r t) ≡ Some transfer.PendingTransferNotFound
  first_line-no_pending is none =
      first_line-settling is ∙ ap (λ o. first_line (settling_lines o h r t)) none

-- if no account is shown, none was opened
none_from_option_map : {A B : Type 0} (f : A → B) (o : Option A) → None ≡ option_map f o → o ≡ None
none_from_option_map f None e = refl
none_from_option_map f (Some x) e = cc

-- an account that was opened, with its balances now
pub record IsOpened (h : History) (id : ℕ) (a : Account) : Type 0 where
  pub account : Opened
  pub found : opened h id ≡ Some account
  pub now : a ≡ account_now h account

-- if an account is shown, it was opened and is shown with its current balances
opened_from : (h : History) (id : ℕ) (a : Account) (o : Option Opened) → opened h id ≡ o
    → Some a ≡ option_map (account_now h) o → IsOpened h id a
opened_from h id a None is e = cc
opened_from h id a (Some o) is e = record { account = o; found = is; now = cc }

-- a search among the accounts with their current balances ends at the account of the id, or there is none
module _ (h : History) (id : ℕ) where
  -- the account at the place of an id is the one that was opened with it, so its running balances may decide
  pub IsOpened-place : (xs : List Account) → xs ≡ accounts_now h → (place : ℕ) (d : Account)
      → IsPlace (accounts_now h) id place → IsOpened h id (get_or xs place d)
  IsOpened-place xs same place d at =
      opened_from h id (get_or xs place d) (opened h id) refl
      (ap (λ ys. Some (get_or ys place d)) same ∙ sym (place-find (accounts_now h) id place d at)
      ∙ find-accounts_now h id)

  -- an id without a place was never opened, so that the line on a missing account applies
  pub unopened-no_place : account_place (accounts_now h) id ≡ None → opened h id ≡ None
  unopened-no_place at =
      none_from_option_map (account_now h) (opened h id)
      (sym (find-no_place (λ a. a.id == id) (accounts_now h) at) ∙ find-accounts_now h id)

  -- an account that is there has a place
  pub IsSome-place : (place : Option ℕ) → IsSome (opened h id) → place ≡ account_place (accounts_now h) id
      → IsSome place
  IsSome-place None has at = subst IsSome (unopened-no_place (sym at)) has
  IsSome-place (Some place) has at = refl

-- the sums of an account that is there fit
pub bounded-opened : (h : History) (id : ℕ) (a : Account) → IsOpened h id a → IsBounded h → HasBoundedSums a
bounded-opened h id a was bounded = subst HasBoundedSums (sym was.now) (bounded was.account.request.id)

-- both accounts are there: their balances now decide
pub first_line-between : (h : History) (r : NewTransfer) (t : ℕ) (debited credited : Account) → IsUpTo h.last h
    → h.last < t → IsOpened h r.debit_account_id debited → IsOpened h r.credit_account_id credited
    → first_line (plain_lines (opened h r.debit_account_id) (opened h r.credit_account_id) h r t)
    ≡ first_line (lines_between debited credited r t)
first_line-between h r t debited credited within later debit credit =
    let d = debit.account in
    let c = credit.account in
    let debit_balances = balances_later h r.debit_account_id h.last t within (le_of_lt later)
    ∙ ap (λ id. balances h id h.last) (sym (opened_id h d r.debit_account_id debit.found)) in
    let credit_balances = balances_later h r.credit_account_id h.last t within (le_of_lt later)
    ∙ ap (λ id. balances h id h.last) (sym (opened_id h c r.credit_account_id credit.found)) in
    ap (λ o. first_line (plain_lines o (opened h r.credit_account_id) h r t)) debit.found
    ∙ ap (λ o. first_line (plain_lines (Some d) o h r t)) credit.found
    ∙ ap (λ b. first_line (lines_between (account_with d b) (account_with c (balances h r.credit_account_id t)) r t))
    debit_balances
    ∙ ap (λ b. first_line (lines_between (account_now h d) (account_with c b) r t)) credit_balances
    ∙ ap₂ (λ (x y : Account). first_line (lines_between x y r t)) (sym debit.now) (sym credit.now)

-- an account is missing
pub first_line-no_debit : (h : History) (r : NewTransfer) (t : ℕ) → opened h r.debit_account_id ≡ None
    → first_line (plain_lines (opened h r.debit_account_id) (opened h r.credit_account_id) h r t)
    ≡ Some transfer.DebitAccountNotFound
first_line-no_debit h r t none = ap (λ o. first_line (plain_lines o (opened h r.credit_account_id) h r t)) none

-- the same for the credited account, if the debited one exists
pub first_line-no_credit : (h : History) (r : NewTransfer) (t : ℕ) (debited : Account)
    → IsOpened h r.debit_account_id debited → opened h r.credit_account_id ≡ None
    → first_line (plain_lines (opened h r.debit_account_id) (opened h r.credit_account_id) h r t)
    ≡ Some transfer.CreditAccountNotFound
first_line-no_credit h r t debited debit none =
    ap (λ o. first_line (plain_lines o (opened h r.credit_account_id) h r t)) debit.found
    ∙ ap (λ o. first_line (plain_lines (Some debit.account) o h r t)) none

-- no entry is later than the timestamp t
some_by-all : (h : History) (t : ℕ) (test : Entry → Bool) → IsUpTo t h → some_by h t test ≡ list_any test h.entries
some_by-all h t test within =
    list_any_same (λ e. nat_le e.timestamp t && test e) test h.entries
    (AllByRecursion-weaker (λ e. e.timestamp ≤ t) (λ e. (nat_le e.timestamp t && test e) ≡ test e)
    (λ e at. ap (λ b. b && test e) (le-leb e.timestamp t at)) h.entries within)

-- the lines on a pending transfer that was settled already, by these entries or by its timeout
abbrev end_lines_of : List Entry → Transfer → ℕ → List (Bool × TransferResult)
end_lines_of entries p t =
    (list_any (λ x. posts x.kind x.transfer p) entries, transfer.PendingTransferAlreadyPosted) ∷
    (list_any (λ x. voids x.kind x.transfer p) entries, transfer.PendingTransferAlreadyVoided) ∷ (
      list_any (λ x. expires x.kind x.transfer p) entries || (not (p.timeout == 0) && nat_le (expires_at p) t),
      transfer.PendingTransferExpired,
    ) ∷
    []

-- so its ending decides
end_lines-ending : (posted voided expired : Bool) (p : Transfer) (t : ℕ)
    → first_line ((posted, transfer.PendingTransferAlreadyPosted) ∷ (voided, transfer.PendingTransferAlreadyVoided)
    ∷ (expired || (not (p.timeout == 0) && nat_le (expires_at p) t), transfer.PendingTransferExpired) ∷ [])
    ≡ ended_refusal (ending_from posted voided expired) p t
end_lines-ending false false true p t = refl
end_lines-ending posted voided expired p t = refl

-- the lines on a post or a void whose pending transfer is there: by its fields, and then by what came before
module _ (h : History) (r : NewTransfer) (t : ℕ) (x : Entry) (shape : transfer_refusal r ≡ None)
    (unknown : first_line (known_transfer_lines (stored h r.id) h r) ≡ None) (settles : is_plain_request r ≡ false)
    (there : stored h r.pending_id ≡ Some x) (past : IsUpTo h.last h) (later : h.last < t) where
  -- no entry is later than the timestamp of the request
  within : IsUpTo t h
  within = AllByRecursion-weaker (λ e. e.timestamp ≤ h.last) (λ e. e.timestamp ≤ t) (λ e at. omega arith) h.entries past

  -- so what was posted, voided or expired may be asked of all entries
  by_parts : first_line (settling_lines (stored h r.pending_id) h r t)
      ≡ first_line (field_lines x r ++ end_lines_of h.entries x.transfer t)
  by_parts =
      let p : Transfer = x.transfer in
      ap (λ o. first_line (settling_lines o h r t)) there
      ∙ (let posted = some_by-all h t (λ e. posts e.kind e.transfer p) within in
      let voided = some_by-all h t (λ e. voids e.kind e.transfer p) within in
      let expired = some_by-all h t (λ e. expires e.kind e.transfer p) within in
      rw (posted, voided, expired) refl)

  -- a fault of its fields refuses it
  pub first_line-field : (refusal : TransferResult) → first_line (field_lines x r) ≡ Some refusal
      → first_line (transfer_lines h r t) ≡ Some refusal
  first_line-field refusal is =
      first_line-settling h r t shape unknown settles
      ∙ by_parts ∙ first_line-append_some (field_lines x r) (end_lines_of h.entries x.transfer t) refusal is

  -- if its fields are valid, the ending of the pending transfer decides
  pub first_line-end : first_line (field_lines x r) ≡ None
      → first_line (transfer_lines h r t) ≡ ended_refusal (ending_among h.entries x.transfer) x.transfer t
  first_line-end none =
      first_line-settling h r t shape unknown settles
      ∙ by_parts ∙ first_line-append_none (field_lines x r) (end_lines_of h.entries x.transfer t) none
      ∙ end_lines-ending (list_any (λ e. posts e.kind e.transfer x.transfer) h.entries)
      (list_any (λ e. voids e.kind e.transfer x.transfer) h.entries)
      (list_any (λ e. expires e.kind e.transfer x.transfer) h.entries) x.transfer t

-- what a request asks for, by its flags
plain_settles : (pending post void : Bool) (h : History) (x : Transfer) → not (post || void) ≡ true
    → settled_in
    (if pending then TwoPhasePending else if post then TwoPhasePosted else if void then TwoPhaseVoided else SinglePhase)
    h x ≡ None
plain_settles false true void h x plain = absurd (false≢true plain)
plain_settles false false true h x plain = absurd (false≢true plain)
plain_settles pending post void h x plain = refl

-- a post or a void settles the transfer that its pending id names
settling_settles : (pending post void : Bool) (h : History) (x : Transfer) → not (post || void) ≡ false
    → ((pending && post) || (pending && void) || (post && void)) ≡ false
    → settled_in
    (if pending then TwoPhasePending else if post then TwoPhasePosted else if void then TwoPhaseVoided else SinglePhase)
    h x
    ≡ option_map (λ e. e.transfer) (stored h x.pending_id)
settling_settles false true void h x plain one = refl
settling_settles false false true h x plain one = refl
settling_settles pending false false h x plain one = absurd (false≢true (sym plain))
settling_settles true post void h x plain one = absurd (false≢true (sym one))

-- a plain request is stored as it was asked for
pub filled-plain : (h : History) (r : NewTransfer) (t : ℕ) → is_plain_request r ≡ true → filled h r t ≡ as_asked r t
filled-plain h r t plain = ap (λ b. if b then as_asked r t else filled_by (stored h r.pending_id) r t) plain

-- a post or a void is stored as its pending transfer fills it in
pub filled-settling : (h : History) (r : NewTransfer) (t : ℕ) (x : Entry) → is_plain_request r ≡ false
    → stored h r.pending_id ≡ Some x
    → filled h r t ≡ filled_from x.transfer r t
filled-settling h r t x plain there =
    ap (λ b. if b then as_asked r t else filled_by (stored h r.pending_id) r t) plain ∙ ap (λ o. filled_by o r t) there

-- the movement of a plain request settles no pending transfer
pub settled-plain : (h : History) (r : NewTransfer) (t : ℕ) → is_plain_request r ≡ true
    → settled_by h (entry_of h r t) ≡ None
settled-plain h r t plain = plain_settles (is_pending_request r) (is_post_request r) (is_void_request r) h
    (filled h r t) plain

-- that of a post or a void settles the pending transfer that was found
pub settled-settling : (h : History) (r : NewTransfer) (t : ℕ) (x : Entry) → transfer_refusal r ≡ None
    → is_plain_request r ≡ false
    → stored h r.pending_id ≡ Some x → settled_by h (entry_of h r t) ≡ Some x.transfer
settled-settling h r t x shape plain there =
    settling_settles (is_pending_request r) (is_post_request r) (is_void_request r) h (filled h r t) plain
    (test_fails transfer_number transfer.FlagsAreMutuallyExclusive (transfer_shape_lines r) shape)
    ∙ ap (λ (y : Transfer). option_map (λ (e : Entry). e.transfer) (stored h y.pending_id))
    (filled-settling h r t x plain there)
    ∙ ap (option_map (λ (e : Entry). e.transfer)) there

-- the movement of a request that no line refuses: its entry may come next
pub IsValidated-from : (h : History) (r : NewTransfer) (n : ℕ) (m : Movement) → IsSound h → h.last < n
    → first_line (transfer_lines h r n) ≡ None → m.entry ≡ entry_of h r n → IsPlaced (accounts_now h) m
    → settled_transfer m ≡ settled_by h (entry_of h r n) → IfSome m.settled (λ p. IsStoredAt h p.transfer.id p.place)
    → IsValidated h r n m
IsValidated-from h r n m sound later unrefused entry placed settled found = record {
  unrefused = unrefused;
  entry = entry;
  movement = record { placed = placed; settled = settled ∙ sym (ap (settled_by h) entry); found = found };
  follows = subst (Follows h) (sym entry) (Follows-accepted h r n sound later unrefused);
}
