-- What a pulse answers: a refusal, how many expired, or that memory ran out.
use Rattle.cdc_ledger.proofs.Words.{[], ◌<◌, ◌∙◌, ◌∷◌, ◌≡◌, Answers, BatchError, BatchResults, BatchTooLarge, Bool, Err, History, IsErrAnd, IsOk, IsSound, LedgerClosed, None, Ok, OutOfMemory, Pulse, Pulsed, Result, Some, TimestampsExhausted, Triples, answered, ap, ap₂, base, due, due_at, expiries_from, false, first_line, index_of, is_past_the_end, length, refl, refusal_at, submit, subst, sym, ℕ}
use Rattle.std.specs.FinSet as set
use Rattle.cdc_ledger.proofs.IndexKept.{due_count-index_of}

-- the count of an index that is kept is that of what is due
pub due_count-kept : (h : History) (s : Triples) (now count : ℕ) → IsSound h → s ≡ index_of h
    → count ≡ set.len (due_at s now)
    → count ≡ length (due h now)
due_count-kept h s now count sound kept counted =
    counted ∙ (ap (λ u. set.len (due_at u now)) kept ∙ due_count-index_of h now sound)

-- the checks of a whole batch never refuse it as out of memory
never_memory : (a b c : Bool)
    → first_line ((a, LedgerClosed) ∷ (b, BatchTooLarge) ∷ (c, TimestampsExhausted) ∷ []) ≡ Some OutOfMemory → ⊥
never_memory false false false wrong = cc
never_memory a b c wrong = cc

module _ (h : History) (now count : ℕ) (counted : count ≡ length (due h now)) where
  -- what the pulse does if nothing refuses it: all due transfers expire
  abbrev all_expire : BatchResults × History
  all_expire = (Pulsed (length (due h now)), expiries_from h (base h now) (due h now))

  -- the pulse is answered by the count of what is due, which the index gives
  by_refusal : submit h (Pulse now) ≡ answered (refusal_at h false now count) all_expire
  by_refusal = ap (λ n. answered (refusal_at h false now n) all_expire) (sym counted)

  -- a refusal that the count leads to is the answer, and the history stays
  pub pulse-refused : (e : BatchError) → refusal_at h false now count ≡ Some e → Answers Pulsed h (Pulse now) (Err e) h
  pulse-refused OutOfMemory refused = absurd (never_memory h.closed false (is_past_the_end h now count) refused)
  pulse-refused e refused = (by_refusal ∙ ap (λ r. answered r all_expire) refused, refl)

  -- if none of them refuses it, all due transfers expire
  taken : refusal_at h false now count ≡ None → submit h (Pulse now) ≡ Ok all_expire
  taken unrefused = by_refusal ∙ ap (λ r. answered r all_expire) unrefused

  -- so the count is the answer, once all of them have expired
  pub pulse-taken : (g : History) → refusal_at h false now count ≡ None → g ≡ expiries_from h (base h now) (due h now)
      → submit h (Pulse now) ≡ Ok (Pulsed count, g)
  pulse-taken g unrefused made = taken unrefused ∙ ap₂ (λ n after. Ok (Pulsed n, after)) (sym counted) (sym made)

  -- if some are due and memory runs out before that, the history stays the same
  pub pulse-unmade : (g : History) (result : Result ℕ BatchError) → refusal_at h false now count ≡ None → g ≡ h
      → 0 < count → IsErrAnd result (λ e. e ≡ OutOfMemory)
      → Answers Pulsed h (Pulse now) result g
  pulse-unmade g (Ok n) unrefused same some out = absurd out
  pulse-unmade g (Err e) unrefused same some out =
      subst (λ x. Answers Pulsed h (Pulse now) (Err x) g) (sym out)
      ((subst IsOk (sym (taken unrefused)) refl, subst (λ n. 0 < n) counted some), same)
