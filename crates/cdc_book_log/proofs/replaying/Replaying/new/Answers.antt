use Rattle.std.proofs.Common.{◌≡◌, ◌∙◌, [], ap}
use Rattle.cdc_subscriber.specs.Book.{entries_of}
use Rattle.cdc_book_log.specs.Places.{state_at}
use Rattle.cdc_book_log.specs.Replay.{put_all}
use Rattle.cdc_book_log.proofs.AccountLemmas.{put_all-none}
use Rattle.cdc_book_log.proofs.replaying.Replaying.new.Goals as goal

pub returns : goal.returns
returns c =
    let base = c.args.base.now in
    let book : c.book-book.result.now ≡ base.kept.book =
    c.book-book.ensures ∙ ap (λ k. k.book) c.subscriber-subscriber.ensures in
    let none : entries_of c.with_hasher-accounts.result.entries ≡ [] =
    ap entries_of c.with_hasher-accounts.ensures.empty in
    let entries = c.in_ok-put_accounts.ensures ∙ ap (put_all c.book-book.result.now) none
    ∙ put_all-none c.book-book.result.now c.len-count.ensures.distinct ∙ book in
    ap (λ b. state_at b c.of-place.result) entries ∙ ap (state_at base.kept.book) c.of-place.ensures
