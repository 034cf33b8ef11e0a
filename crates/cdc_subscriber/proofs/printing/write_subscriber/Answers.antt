use Rattle.std.proofs.KnownBytes.{Appends-trans}
use Rattle.std.proofs.lemmas.Result.{on_ok_weaker}
use Rattle.cdc_subscriber.proofs.printing.write_subscriber.Goals as goal

pub returns : goal.returns
returns g c =
    let applied = rw c.applied_count.ensures at c.in_ok-write_named-2.ensures in
    let last = rw c.last.ensures at c.in_ok-write_named-3.ensures in
    let ended = rw c.ended.ensures at c.in_ok-write_flagged.ensures in
    let closed = rw c.closed.ensures at c.in_ok-write_flagged-2.ensures in
    on_ok_weaker c.write_text.result
    (λ end. Appends-trans _ _ _ _ _ c.in_ok-write_named.ensures
    (Appends-trans _ _ _ _ _ applied
    (Appends-trans _ _ _ _ _ last (Appends-trans _ _ _ _ _ ended (Appends-trans _ _ _ _ _ closed end)))))
    c.write_text.ensures
