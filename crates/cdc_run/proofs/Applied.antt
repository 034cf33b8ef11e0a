-- What a subscriber keeps, from what it has applied.
use Rattle.cdc_run.proofs.Words.{Event, List, Reception, TimestampsRise, ap, applied, book_of, has_ended, kept_from, kept_of, last_timestamp, length, max_64, min, sym, ◌≡◌}
use Rattle.cdc_run.proofs.Firsts.{rises-of_firsts}

-- if the timestamps of that rise, as for a faithful one, it is what is kept by timestamps alone
pub kept_emitted : (reception : Reception) → TimestampsRise (applied reception)
    → kept_of reception ≡ kept_from reception
kept_emitted reception rise =
    ap (λ (es : List Event). record {
      book = book_of es;
      last = last_timestamp es;
      applied = min (length es) max_64;
      ended = has_ended reception;
      closed = reception.closed;
    }) (sym (rises-of_firsts reception.items rise))
