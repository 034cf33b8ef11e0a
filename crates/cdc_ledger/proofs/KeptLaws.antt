-- A whole batch keeps what holds of every history, whatever the verdicts are.
use Rattle.cdc_ledger.proofs.Words.{[], ⊎_elim, ◌+◌, ◌-◌, ◌<◌, ◌∷◌, ◌≡◌, ◌≤◌, Batch, BatchError, BatchResults, BatchTooLarge, Bool, Err, History, IsLegal, IsSound, LedgerClosed, List, NewAccount, NewTransfer, None, Ok, Option, Result, Some, TimestampsExhausted, account_rules, accounts_from, after_batches, answered, arith, base, batch_error_number, due, empty_history, entry_of, false, history_or, is_past_the_end, is_too_large, items_of, length, max_timestamp, nat_lt, opened_by, refl, refusal_of, submit, subst, sym, taken, time, transfer_rules, transfers_from, ℕ}
use Rattle.std.proofs.Common.{◌||◌}
use Rattle.std.proofs.lemmas.Bool.{and_cases, ltb-false}
use Rattle.cdc_types.specs.declared.batches.Batch.TheVariants as batch
use Rattle.cdc_ledger.proofs.AcceptedLaws.{accepted_account, Follows-accepted}
use Rattle.cdc_ledger.proofs.ChainLaws.{items_from-keeps}
use Rattle.cdc_ledger.proofs.LineLaws.{test_fails}
use Rattle.cdc_ledger.proofs.PulseLaws.{IsSound-pulse}
use Rattle.cdc_ledger.proofs.SoundLaws.{IsSound-empty, IsSound-timed, IsSound-shut, IsSound-with_account, IsSound-pushed}

-- requests for accounts, of which the last comes no later than the greatest timestamp
pub IsSound-accounts_from : (h : History) (t : ℕ) (rs : List NewAccount) → IsSound h → h.last < t
    → (0 < length rs → t + length rs ≤ max_timestamp + 1)
    → IsSound (accounts_from h t rs).1
IsSound-accounts_from h t rs sound later fits =
    items_from-keeps account_rules IsSound (λ n. n ≤ max_timestamp)
    (λ g a n sound' later' within none.
    IsSound-with_account g (opened_by a n) sound' (accepted_account g a none).1 (omega arith) within)
    (λ g n sound' later' within. IsSound-timed g n sound' (omega arith) within)
    (λ g a n. refl) h t rs sound later
    (λ n from below. let whole : t + length rs ≤ max_timestamp + 1 = fits (omega arith) in omega arith)

-- the same of requests for transfers
pub IsSound-transfers_from : (h : History) (t : ℕ) (rs : List NewTransfer) → IsSound h → h.last < t
    → (0 < length rs → t + length rs ≤ max_timestamp + 1)
    → IsSound (transfers_from h t rs).1
IsSound-transfers_from h t rs sound later fits =
    items_from-keeps transfer_rules IsSound (λ n. n ≤ max_timestamp)
    (λ g r n sound' later' within none.
    IsSound-pushed g (entry_of g r n) sound' (Follows-accepted g r n sound' later' none) later' within)
    (λ g n sound' later' within. IsSound-timed g n sound' (omega arith) within)
    (λ g r n. refl) h t rs sound later
    (λ n from below. let whole : t + length rs ≤ max_timestamp + 1 = fits (omega arith) in omega arith)

-- a batch that isn't refused has room for its timestamps
pub within_end : (h : History) (now n : ℕ) → is_past_the_end h now n ≡ false → 0 < n
    → base h now + n ≤ max_timestamp + 1
within_end h now n not_past some =
    ⊎_elim
    (λ e. let no : n ≤ 0 = ltb-false 0 n e in absurd (omega arith))
    (λ e. let short : base h now + n - 1 ≤ max_timestamp = ltb-false max_timestamp
    (base h now + n - 1) e in omega arith)
    (and_cases (nat_lt 0 n) (nat_lt max_timestamp (base h now + n - 1)) not_past)

-- the first timestamp of a batch is later than any that the ledger gave out before, whatever the batch's own
-- timestamp
pub after_last : (h : History) (now : ℕ) → h.last < base h now
after_last h now = omega arith

-- a batch that is answered wasn't refused, and is answered by what its items do
answered_parts : (refusal : Option BatchError) (answer found : BatchResults × History)
    → answered refusal answer ≡ Ok found → (refusal ≡ None) × (answer ≡ found)
answered_parts None answer found e = (refl, cc)
answered_parts (Some error) answer found e = cc

-- no test of a refusal holds
pub submit_parts : (h : History) (b : Batch) (answer : BatchResults × History) → submit h b ≡ Ok answer
    → (is_past_the_end h (time b) (items_of h b) ≡ false) × (taken h b ≡ answer)
submit_parts h b answer e =
    let parts = answered_parts (refusal_of h b) (taken h b) answer e in
    let lines : List (Bool × BatchError) =
    (h.closed, LedgerClosed) ∷ (is_too_large b, BatchTooLarge) ∷
    (is_past_the_end h (time b) (items_of h b), TimestampsExhausted) ∷ [] in
    (test_fails batch_error_number TimestampsExhausted lines parts.0, parts.1)

-- a batch that is answered
pub IsSound-submit : (h : History) (b : Batch) (answer : BatchResults × History) → IsSound h → submit h b ≡ Ok answer
    → IsSound answer.1
IsSound-submit h (batch.Accounts now items) answer sound e =
    let parts = submit_parts h (batch.Accounts now items) answer e in
    subst (λ (a : BatchResults × History). IsSound a.1) parts.1
    (IsSound-accounts_from h (base h now) items sound (after_last h now) (within_end h now (length items) parts.0))
IsSound-submit h (batch.Transfers now items) answer sound e =
    let parts = submit_parts h (batch.Transfers now items) answer e in
    subst (λ (a : BatchResults × History). IsSound a.1) parts.1
    (IsSound-transfers_from h (base h now) items sound (after_last h now) (within_end h now (length items) parts.0))
IsSound-submit h (batch.Pulse now) answer sound e =
    let parts = submit_parts h (batch.Pulse now) answer e in
    subst (λ (a : BatchResults × History). IsSound a.1) parts.1
    (IsSound-pulse h now (base h now) sound (after_last h now) (within_end h now (length (due h now)) parts.0))

-- a batch leaves the history sound, answered or refused
sound_or : (h : History) (b : Batch) (r : Result (BatchResults × History) BatchError) → submit h b ≡ r → IsSound h
    → IsSound (history_or h r)
sound_or h b (Ok answer) e sound = IsSound-submit h b answer sound e
sound_or h b (Err error) e sound = sound

-- and so do any number of batches
pub IsSound-after_batches : (h : History) (bs : List Batch) → IsSound h → IsSound (after_batches h bs)
IsSound-after_batches h [] sound = sound
IsSound-after_batches h (b ∷ bs) sound =
    IsSound-after_batches (history_or h (submit h b)) bs (sound_or h b (submit h b) refl sound)

-- every history that batches make
pub IsSound-from_legal : (h : History) → IsLegal h → IsSound h
IsSound-from_legal h legal =
    let before : History = after_batches empty_history legal.batches in
    subst IsSound (sym legal.made)
    (IsSound-shut before (legal.close || before.closed)
    (IsSound-after_batches empty_history legal.batches IsSound-empty))
