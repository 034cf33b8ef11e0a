-- Audits go on.
use Rattle.cdc_audit_state.proofs.Words.{AccountFits, AllByRecursion, AuditedEventsFit, AuditsGoOn, Bool, Err, Event, EventAccount, EventFits, List, None, Ok, Option, PastFits, Result, Some, [], ap, arith, cond, eqb_tells, false, inl, inr, later_by, length, refl, stores, subst, sym, true, ℕ, ◌&&◌, ◌++◌, ◌+◌, ◌<◌, ◌==◌, ◌^◌, ◌∙◌, ◌∷◌, ◌≡◌}
use Rattle.std.proofs.lemmas.Nat.{and_le_l}
use Rattle.cdc_types.specs.declared.accounts.TheConstants.AccountFlags as account
use Rattle.cdc_types.specs.declared.transfers.TheConstants.TransferFlags as transfer
use Rattle.cdc_types.specs.Flags.{has_other_flag}
use Rattle.cdc_follow.specs.declared.entries.Content.{Content}
use Rattle.cdc_follow.specs.declared.entries.Content.TheVariants as content
use Rattle.cdc_follow.specs.declared.entries.Entry.{Entry}
use Rattle.cdc_follow.specs.declared.errors.LineError.{LineError}
use Rattle.cdc_follow.specs.Entries.{line_entry}
use Rattle.cdc_follow.specs.Lines.{join_first, lines_of}
use Rattle.cdc_follow.specs.Widths.{ContentFits}
use Rattle.cdc_follow.proofs.EntryWidths.{entries_fit}
use Rattle.cdc_audit.specs.declared.refusals.Refusal.{Refusal}
use Rattle.cdc_audit.specs.declared.streams.AuditStop.TheVariants as stop
use Rattle.cdc_audit.specs.Audits.{AuditState, Audited, entry_refusal, lines_audited, next_audit}
use Rattle.cdc_audit.specs.Foreign.{own_account, own_event}
use Rattle.cdc_audit.proofs.AuditLemmas.{bad_line, entry_line, no_lines, past_line}

-- ---- what is audited fits

own_account_fits : (a : EventAccount) → AccountFits a → AccountFits (own_account a)
own_account_fits a fits = record {
  id = fits.id;
  debits_pending = fits.debits_pending;
  debits_posted = fits.debits_posted;
  credits_pending = fits.credits_pending;
  credits_posted = fits.credits_posted;
  user_data_128 = fits.user_data_128;
  user_data_64 = fits.user_data_64;
  user_data_32 = fits.user_data_32;
  code = fits.code;
  flags = let less = and_le_l a.flags account.ACCEPTED in omega (arith, less, fits.flags);
  timestamp = fits.timestamp;
}

either : {X : Type 0} (P : X → Type 0) (b : Bool) (x y : X) → P x → P y → P (cond b x y)
either P true x y here there = here
either P false x y here there = there

own_event_fits : (e : Event) → EventFits e → EventFits (own_event e)
own_event_fits e fits = record {
  timestamp = fits.timestamp;
  ledger = fits.ledger;
  transfer = record {
    id = fits.transfer.id;
    amount = fits.transfer.amount;
    pending_id = fits.transfer.pending_id;
    user_data_128 = fits.transfer.user_data_128;
    user_data_64 = fits.transfer.user_data_64;
    user_data_32 = fits.transfer.user_data_32;
    timeout = fits.transfer.timeout;
    code = fits.transfer.code;
    flags = let less = and_le_l e.transfer.flags transfer.ACCEPTED in omega (arith, less, fits.transfer.flags);
    timestamp = either (λ (t : ℕ). t < 2 ^ 64) (stores e.kind && has_other_flag e.transfer.flags transfer.ACCEPTED)
        e.timestamp e.transfer.timestamp fits.timestamp fits.transfer.timestamp;
  };
  debit_account = own_account_fits e.debit_account fits.debit_account;
  credit_account = own_account_fits e.credit_account fits.credit_account;
}

all_push : (past : List Event) (e : Event) → AllByRecursion EventFits past → EventFits e
    → AllByRecursion EventFits (past ++ e ∷ [])
all_push [] e all fits = (fits, tt)
all_push (x ∷ past) e all fits = (all.0, all_push past e all.1 fits)

next_fits : (state : AuditState) (c : Content) → PastFits state → ContentFits c → PastFits (next_audit state c)
next_fits state (content.Event e) all fits =
    all_push state.past _ all (either EventFits state.foreign (own_event e) e (own_event_fits e fits) fits)
next_fits state content.End all fits = all

-- what an audit comes to fits
abbrev EndFits : Audited → Type 0
EndFits audited = PastFits audited.state

-- one line in front of others, by its entry
line_fits : (state : AuditState) (number : ℕ) (line : List ℕ) (rest : List (List ℕ))
    (read : Result (Option Entry) LineError) → line_entry false line ≡ read → PastFits state
    → ((state : AuditState) → PastFits state → EndFits (lines_audited state (number + 1) rest))
    → EndFits (lines_audited state number (line ∷ rest))
line_fits state number line rest (Ok None) is all later =
    subst EndFits (sym (past_line state number line rest is)) (later state all)
line_fits state number line rest (Err error) is all later =
    subst EndFits (sym (bad_line state number line rest error is)) all
line_fits state number line rest (Ok (Some entry)) is all later = by _ refl
  where
    by : (answer : Option Refusal) → entry_refusal state entry.content ≡ answer
        → EndFits (lines_audited state number (line ∷ rest))
    by None refusal =
        subst EndFits (sym (entry_line state number line rest entry None is refusal))
        (later (next_audit state entry.content)
        (next_fits state entry.content all (entries_fit false line entry is)))
    by (Some why) refusal = subst EndFits (sym (entry_line state number line rest entry (Some why) is refusal)) all

lines_fit : (state : AuditState) (number : ℕ) (lines : List (List ℕ)) → PastFits state
    → EndFits (lines_audited state number lines)
lines_fit state number [] all = subst EndFits (sym (no_lines state number)) all
lines_fit state number (line ∷ rest) all =
    line_fits state number line rest _ refl all (λ next fits. lines_fit next (number + 1) rest fits)

pub audited_fit : AuditedEventsFit
audited_fit state bytes all = lines_fit state 1 (lines_of bytes) all

-- ---- lines whose numbers are later

abbrev Renumbers : ℕ → AuditState → ℕ → List (List ℕ) → Type 0
Renumbers count state number lines =
    lines_audited state (number + count) lines ≡ later_by count (lines_audited state number lines)

renumber_line : (count : ℕ) (state : AuditState) (number : ℕ) (line : List ℕ) (rest : List (List ℕ))
    (read : Result (Option Entry) LineError) → line_entry false line ≡ read
    → ((state : AuditState) → Renumbers count state (number + 1) rest) → Renumbers count state number (line ∷ rest)
renumber_line count state number line rest (Ok None) is later =
    past_line state (number + count) line rest is ∙ ap (λ n. lines_audited state n rest) (omega arith)
    ∙ later state ∙ ap (later_by count) (sym (past_line state number line rest is))
renumber_line count state number line rest (Err error) is later =
    bad_line state (number + count) line rest error is
    ∙ ap (later_by count) (sym (bad_line state number line rest error is))
renumber_line count state number line rest (Ok (Some entry)) is later = by _ refl
  where
    by : (answer : Option Refusal) → entry_refusal state entry.content ≡ answer
        → Renumbers count state number (line ∷ rest)
    by None refusal =
        let next = next_audit state entry.content in
        entry_line state (number + count) line rest entry None is refusal
        ∙ ap (λ n. lines_audited next n rest) (omega arith) ∙ later next
        ∙ ap (later_by count) (sym (entry_line state number line rest entry None is refusal))
    by (Some why) refusal =
        entry_line state (number + count) line rest entry (Some why) is refusal
        ∙ ap (later_by count) (sym (entry_line state number line rest entry (Some why) is refusal))

renumbers : (count : ℕ) (state : AuditState) (number : ℕ) (lines : List (List ℕ)) → Renumbers count state number lines
renumbers count state number [] =
    no_lines state (number + count) ∙ ap (later_by count) (sym (no_lines state number))
renumbers count state number (line ∷ rest) =
    renumber_line count state number line rest _ refl (λ next. renumbers count next (number + 1) rest)

-- ---- lines after others

abbrev pub GoesOn : AuditState → ℕ → List (List ℕ) → List (List ℕ) → Type 0
GoesOn state number front rest =
    (lines_audited state number front).stop ≡ stop.AtEnd
    → lines_audited state number (front ++ rest)
    ≡ lines_audited (lines_audited state number front).state (number + length front) rest

go_on_line : (state : AuditState) (number : ℕ) (line : List ℕ) (front rest : List (List ℕ))
    (read : Result (Option Entry) LineError) → line_entry false line ≡ read
    → ((state : AuditState) → GoesOn state (number + 1) front rest) → GoesOn state number (line ∷ front) rest
go_on_line state number line front rest (Ok None) is later ends =
    let first = past_line state number line front is in
    let count : (number + 1) + length front ≡ number + length (line ∷ front) = omega arith in
    past_line state number line (front ++ rest) is
    ∙ later state (ap (λ (a : Audited). a.stop) (sym first) ∙ ends)
    ∙ ap (λ (a : Audited). lines_audited a.state ((number + 1) + length front) rest) (sym first)
    ∙ ap (λ n. lines_audited (lines_audited state number (line ∷ front)).state n rest) count
go_on_line state number line front rest (Err error) is later ends =
    let first = bad_line state number line front error is in
    let never : stop.BadLine number error ≡ stop.AtEnd = ap (λ (a : Audited). a.stop) (sym first) ∙ ends in
    absurd cc
go_on_line state number line front rest (Ok (Some entry)) is later ends = by _ refl
  where
    by : (answer : Option Refusal) → entry_refusal state entry.content ≡ answer
        → lines_audited state number (line ∷ (front ++ rest))
        ≡ lines_audited (lines_audited state number (line ∷ front)).state (number + length (line ∷ front)) rest
    by None refusal =
        let next = next_audit state entry.content in
        let first = entry_line state number line front entry None is refusal in
        let count : (number + 1) + length front ≡ number + length (line ∷ front) = omega arith in
        entry_line state number line (front ++ rest) entry None is refusal
        ∙ later next (ap (λ (a : Audited). a.stop) (sym first) ∙ ends)
        ∙ ap (λ (a : Audited). lines_audited a.state ((number + 1) + length front) rest) (sym first)
        ∙ ap (λ n. lines_audited (lines_audited state number (line ∷ front)).state n rest) count
    by (Some why) refusal =
        let first = entry_line state number line front entry (Some why) is refusal in
        let never : stop.Refused number why ≡ stop.AtEnd = ap (λ (a : Audited). a.stop) (sym first) ∙ ends in
        absurd cc

pub go_on : (state : AuditState) (number : ℕ) (front rest : List (List ℕ)) → GoesOn state number front rest
go_on state number [] rest ends =
    let same : (lines_audited state number []).state ≡ state = ap (λ (a : Audited). a.state) (no_lines state number) in
    let count : number ≡ number + 0 = omega arith in
    ap (λ s. lines_audited s number rest) (sym same)
    ∙ ap (λ n. lines_audited (lines_audited state number []).state n rest) count
go_on state number (line ∷ front) rest ends =
    go_on_line state number line front rest _ refl (λ next. go_on next (number + 1) front rest) ends

-- ---- bytes that are cut after a line feed

-- a byte that joins the first of some lines
joins : (byte : ℕ) (lines rest : List (List ℕ)) → 0 < length lines
    → join_first byte (lines ++ rest) ≡ join_first byte lines ++ rest
joins byte [] rest some = absurd (omega arith)
joins byte (line ∷ lines) rest some = refl

-- a line feed ends a line
some_lines : (front : List ℕ) → 0 < length (lines_of (front ++ 10 ∷ []))
unfolding lines_of
some_lines [] = omega arith
some_lines (byte ∷ front) =
    either (λ (lines : List (List ℕ)). 0 < length lines) (byte == 10) ([] ∷ lines_of (front ++ 10 ∷ [])) _ (omega arith)
    (joined byte (lines_of (front ++ 10 ∷ [])))
  where
    joined : (byte : ℕ) (lines : List (List ℕ)) → 0 < length (join_first byte lines)
    joined byte [] = omega arith
    joined byte (line ∷ lines) = omega arith

pub cut_lines : (front rest : List ℕ) → lines_of (front ++ 10 ∷ rest) ≡ lines_of (front ++ 10 ∷ []) ++ lines_of rest
unfolding lines_of
cut_lines [] rest = refl
cut_lines (byte ∷ front) rest =
    elim (eqb_tells byte 10) [
      | inl same ↦ rw same.0 (ap (λ lines. [] ∷ lines) (cut_lines front rest))
      | inr other ↦ rw other.0
          (ap (join_first byte) (cut_lines front rest)
          ∙ joins byte (lines_of (front ++ 10 ∷ [])) (lines_of rest) (some_lines front))
    ]

pub goes_on : AuditsGoOn
goes_on state front rest ends =
    let lines = lines_of (front ++ 10 ∷ []) in
    ap (lines_audited state 1) (cut_lines front rest) ∙ go_on state 1 lines (lines_of rest) ends
    ∙ renumbers (length lines) (lines_audited state 1 lines).state 1 (lines_of rest)
