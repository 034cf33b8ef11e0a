use Rattle.std.specs.Io.KnownBytes.{Appends}
use Rattle.std.proofs.KnownBytes.{Appends-trans}
use Rattle.std.proofs.lemmas.Result.{on_ok_weaker}
use Rattle.cdc_subscriber.specs.Lines.{subscriber_text}
use Rattle.cdc_follow.specs.Saved.{book_text}
use Rattle.cdc_follow.proofs.saved.write_book.Goals as goal

pub returns : goal.returns
unfolding book_text
returns g c =
    let first = rw c.seen.ensures at c.in_ok-write_heading.ensures in
    let others = rw c.subscriber.ensures at c.print.ensures in
    on_ok_weaker {
    P = Appends (g.W.Write.contents c.write_heading.new.writer) (g.W.Write.contents c.print.new.writer)
    (subscriber_text 1 c.args.follower.now.kept)
    }
    c.print.result (λ lines. Appends-trans _ _ _ _ _ first lines) others
