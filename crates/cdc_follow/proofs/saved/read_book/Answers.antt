use Rattle.std.proofs.Common.{◌≡◌, ◌∙◌}
use Rattle.std.proofs.lemmas.Bool.{false≢true}
use Rattle.cdc_follow.specs.Saved.{book_text}
use Rattle.cdc_follow.proofs.SavedLemmas.{same_follower}
use Rattle.cdc_follow.proofs.saved.read_book.Goals as goal

pub returns-in_ok-binding-clause-all : goal.returns-in_ok-binding-clause-all
returns-in_ok-binding-clause-all c = λ chained binding state can is.
    let front = c.read_front-chained.ensures chained binding state can is in
    let book = c.in_ok-book.ensures state.kept.book can.book front.accounts in
    record {
      chained_is = front.chained_is;
      binding_is = c.in_ok-binding.ensures.items ∙ front.binding_is;
      follower_is = same_follower state c.read_front-chained.result c.in_ok-book.book _ _ front book c.resume.ensures
          c.new-follower.ensures;
    }

pub returns-else-branch-clause-all : goal.returns-else-branch-clause-all
returns-else-branch-clause-all c = λ chained binding state can is.
    let front = c.read_front-chained.ensures chained binding state can is in
    let book = c.in_ok-book.ensures state.kept.book can.book front.accounts in
    let follower = same_follower state c.read_front-chained.result c.in_ok-book.book _ _ front book c.resume.ensures
    c.new-follower.ensures in
    let text_is : c.args.text.now
    ≡ book_text c.read_front-chained.result.chained c.read_front-chained.result.binding.now c.new-follower.result =
    rw (front.chained_is, front.binding_is, follower) is in
    absurd (false≢true (rw c.if-branch.false at (c.in_ok-is_text_of.ensures.1 text_is)))
