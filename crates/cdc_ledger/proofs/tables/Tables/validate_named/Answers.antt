use Rattle.cdc_ledger.proofs.Words.{◌<◌, ◌∙◌, ◌≡◌, ◌≤◌, Ending, Entry, EventKind, HasAccounts, History, IfSome, IsPlaced, IsSound, IsStoredAt, IsValidated, Movement, NewTransfer, None, Open, Option, Pending, Some, Stands, Transfer, TransferResult, accounts_now, ap, ap₂, arith, ended_refusal, ending_among, ending_of, entry_of, expires_at, false, field_lines, filled_from, first_line, holds, if◌then◌else◌, is_plain_request, kind_of, known_transfer_lines, max_timestamp, option_map, slice_get, stored, subst, sym, transfer_lines, transfer_number, transfer_refusal, true, ℕ}
use Rattle.std.specs.Prelude.{◌≢◌}
use Rattle.std.proofs.lemmas.Bool.{not-false}
use Rattle.std.proofs.lemmas.Option.{slice_get_within}
use Rattle.cdc_types.specs.declared.results.TransferResult.TheVariants as transfer
use Rattle.cdc_ledger.proofs.AcceptedLaws.{Follows-accepted}
use Rattle.cdc_ledger.proofs.LineLaws.{test_fails}
use Rattle.cdc_ledger.proofs.Pending.{IsStored-found}
use Rattle.cdc_ledger.proofs.StoredLaws.{stored_has}
use Rattle.cdc_ledger.proofs.Validated.{IsValidated-from, first_line-field, first_line-end, filled-settling, settled-settling}
use Rattle.cdc_ledger.proofs.tables.Tables.validate_named.Goals as goal

-- what the fields leave: the entry is pending
is_pending : (x : Entry) (r : NewTransfer) → first_line (field_lines x r) ≡ None → holds x.kind ≡ true
is_pending x r fields =
    not-false (holds x.kind) (test_fails transfer_number transfer.PendingTransferNotPending (field_lines x r) fields)

-- a request that names the entry x, which is at this place; no line on the fields applies
module _ (h : History) (r : NewTransfer) (n : ℕ) (x : Entry) (place : ℕ) (shape : transfer_refusal r ≡ None)
    (unknown : first_line (known_transfer_lines (stored h r.id) h r) ≡ None) (settles : is_plain_request r ≡ false)
    (sound : IsSound h) (later : h.last < n) (at : slice_get h.entries place ≡ Some x)
    (there : stored h r.pending_id ≡ Some x) (fields : first_line (field_lines x r) ≡ None) where
  -- its expiry time is in range
  timely : x.transfer.timeout ≢ 0 → expires_at x.transfer ≤ max_timestamp
  timely = (stored_has (Stands h) h r.pending_id x sound.standing there).timely (is_pending x r fields)

  -- the ending that is kept for it decides
  by_ending : (ending : Ending) (refusal : Option TransferResult)
      → option_map (ending_of h.entries) (slice_get h.entries place) ≡ Some ending
      → refusal ≡ ended_refusal ending x.transfer n → first_line (transfer_lines h r n) ≡ refusal
  by_ending ending refusal kept is =
      let both : Some (ending_of h.entries x) ≡ Some ending = sym (ap (option_map (ending_of h.entries)) at) ∙ kept in
      let own : ending_of h.entries x ≡ ending = cc in
      first_line-end h r n x shape unknown settles there sound.past later fields
      ∙ ap (λ e. ended_refusal e x.transfer n)
      (sym (ap (λ b. if b then ending_among h.entries x.transfer else Open) (is_pending x r fields)) ∙ own) ∙ sym is

  -- if it doesn't refuse the request, the movement that settles x is the request's
  module _ (ending : Ending) (kept : option_map (ending_of h.entries) (slice_get h.entries place) ≡ Some ending)
      (refusal : Option TransferResult) (is : refusal ≡ ended_refusal ending x.transfer n) (none : refusal ≡ None)
      (k : EventKind) (y : Transfer) (kind : k ≡ kind_of r) (filled_in : y ≡ filled_from x.transfer r n) where
    -- no line applies
    unrefused : first_line (transfer_lines h r n) ≡ None
    unrefused = by_ending ending refusal kept is ∙ none

    -- the entry is filled in from the pending one
    entry : ◌≡◌ {A = Entry} (record { timestamp = n; kind = k; transfer = y }) (entry_of h r n)
    entry = ap₂ (λ (l : EventKind) (z : Transfer). record { timestamp = n; kind = l; transfer = z }) kind
        (filled_in ∙ sym (filled-settling h r n x settles there))

    -- its accounts are there
    has_accounts : HasAccounts h (record { timestamp = n; kind = k; transfer = y })
    has_accounts = subst (HasAccounts h) (sym entry) (Follows-accepted h r n sound later unrefused).accounts

    -- so it may come next
    validated : (m : Movement) → m.entry ≡ record { timestamp = n; kind = k; transfer = y }
        → IsPlaced (accounts_now h) m → m.settled ≡ Some (record { transfer = x.transfer; place = place })
        → IsValidated h r n m
    validated m same placed settled =
        let own = (IsStored-found h r.pending_id x there).same_id in
        IsValidated-from h r n m sound later unrefused (same ∙ entry) placed
        (ap (option_map (λ (p : Pending). p.transfer)) settled ∙ sym (settled-settling h r n x shape settles there))
        (subst (λ (o : Option Pending). IfSome o (λ p. IsStoredAt h p.transfer.id p.place)) (sym settled)
        (x, at, ap (stored h) own ∙ there))

-- a line on the fields refuses the request
pub returns-in-Some : goal.returns-in-Some
returns-in-Some c =
    first_line-field c.args.self.now.history c.args.request.now c.args.timestamp c.args.entry.now c.requires.shape
    c.requires.unknown c.requires.settles c.requires.there c.requires.sound.past c.requires.later _
    (sym c.field_refusal.ensures ∙ c.in-Some.is)

pub ending-requires : goal.ending-requires
ending-requires c = slice_get_within c.args.self.now.history.entries c.args.place c.args.entry.now c.requires.at

-- the expiry time of a pending transfer is in range
pub end_refusal-requires : goal.end_refusal-requires
end_refusal-requires c some =
    let end = timely c.args.self.now.history c.args.request.now c.args.timestamp c.args.entry.now c.args.place
    c.requires.shape c.requires.unknown c.requires.settles c.requires.sound c.requires.later c.requires.at
    c.requires.there (sym c.field_refusal.ensures ∙ c.in_default.is) some in
    omega arith

-- what came before refuses the request
pub returns-in-Some-end_refusal : goal.returns-in-Some-end_refusal
returns-in-Some-end_refusal c =
    by_ending c.args.self.now.history c.args.request.now c.args.timestamp c.args.entry.now c.args.place
    c.requires.shape c.requires.unknown c.requires.settles c.requires.sound c.requires.later c.requires.at
    c.requires.there (sym c.field_refusal.ensures ∙ c.in_default.is) c.ending.result c.end_refusal.result
    c.ending.ensures c.end_refusal.ensures ∙ c.in-Some-end_refusal.is

-- no line refuses it: its entry may come next, so its accounts are there
pub settling-requires : goal.settling-requires
settling-requires c =
    has_accounts c.args.self.now.history c.args.request.now c.args.timestamp c.args.entry.now c.args.place
    c.requires.shape c.requires.unknown c.requires.settles c.requires.sound c.requires.later c.requires.at
    c.requires.there (sym c.field_refusal.ensures ∙ c.in_default.is) c.ending.result c.ending.ensures
    c.end_refusal.result c.end_refusal.ensures c.in_default-end_refusal.is c.kind_of.result c.filled_from.result
    c.kind_of.ensures c.filled_from.ensures

pub returns : goal.returns
returns c =
    validated c.args.self.now.history c.args.request.now c.args.timestamp c.args.entry.now c.args.place
    c.requires.shape c.requires.unknown c.requires.settles c.requires.sound c.requires.later c.requires.at
    c.requires.there (sym c.field_refusal.ensures ∙ c.in_default.is) c.ending.result c.ending.ensures
    c.end_refusal.result c.end_refusal.ensures c.in_default-end_refusal.is c.kind_of.result c.filled_from.result
    c.kind_of.ensures c.filled_from.ensures c.settling.result c.settling.ensures.entry c.settling.ensures.placed
    c.settling.ensures.settled
