-- Histories that batches make.
use Rattle.cdc_ledger.proofs.Words.{[], ◌++◌, ◌||◌, ◌∙◌, ◌∷◌, ◌≡◌, Batch, BatchError, BatchFits, BatchResults, BatchTooLarge, Extends, History, IsLegal, LedgerClosed, List, None, Ok, Option, Some, TimestampsExhausted, after_batches, answered, ap, batch_error_number, closed_if, empty_history, false, history_or, is_past_the_end, is_too_large, items_of, refl, refusal_of, submit, sym, taken, time}
use Rattle.std.proofs.lemmas.Bool.{or_parts}
use Rattle.cdc_ledger.proofs.Elements.{AllByRecursion_push}
use Rattle.cdc_ledger.proofs.LineLaws.{test_fails}

-- every history is made of itself, by no batch at all
pub Extends_same : (h : History) → Extends h h
Extends_same h = record { batches = []; close = false; fit = tt; made = refl }

-- a batch that is answered wasn't refused
pub answered_ok : (refusal : Option BatchError) (answer found : BatchResults × History)
    → answered refusal answer ≡ Ok found → refusal ≡ None
answered_ok None answer found e = refl
answered_ok (Some error) answer found e = cc

-- a batch that is answered came to a ledger that wasn't closed
pub submit_open : (h : History) (b : Batch) (answer : BatchResults × History) → submit h b ≡ Ok answer
    → h.closed ≡ false
submit_open h b answer e =
    test_fails batch_error_number LedgerClosed
    ((h.closed, LedgerClosed) ∷ (is_too_large b, BatchTooLarge)
    ∷ (is_past_the_end h (time b) (items_of h b), TimestampsExhausted) ∷ [])
    (answered_ok (refusal_of h b) (taken h b) answer e)

-- the last of several batches comes upon the history that those before it left
pub after_batches_push : (h : History) (bs : List Batch) (b : Batch)
    → after_batches h (bs ++ b ∷ []) ≡ history_or (after_batches h bs) (submit (after_batches h bs) b)
after_batches_push h [] b = refl
after_batches_push h (x ∷ bs) b = after_batches_push (history_or h (submit h x)) bs b

-- a batch that is answered goes on from what the batches before it made
pub Extends-submit : (g h k : History) (b : Batch) (r : BatchResults) → BatchFits b → Extends g h
    → submit g b ≡ Ok (r, k) → Extends k h
Extends-submit g h k b r fits from e =
    let before : History = after_batches h from.batches in
    let shut : from.close || before.closed ≡ false = sym (ap (λ x. x.closed) from.made) ∙ submit_open g b (r, k) e in
    let same : g ≡ before = from.made ∙ ap (λ c. closed_if c before) (or_parts from.close before.closed shut).0 in
    let taken_now : submit before b ≡ Ok (r, k) = sym (ap (λ x. submit x b) same) ∙ e in
    record {
      batches = from.batches ++ b ∷ [];
      close = false;
      fit = AllByRecursion_push BatchFits from.batches b from.fit fits;
      made = sym (after_batches_push h from.batches b ∙ ap (history_or before) taken_now);
    }

-- the history of a new ledger is one that batches make
pub IsLegal-empty : IsLegal empty_history
IsLegal-empty = Extends_same empty_history

-- it stays one after a batch that is answered
pub IsLegal-submit : (h g : History) (b : Batch) (r : BatchResults) → BatchFits b → IsLegal h → submit h b ≡ Ok (r, g)
    → IsLegal g
IsLegal-submit h g b r fits legal e = Extends-submit h empty_history g b r fits legal e
