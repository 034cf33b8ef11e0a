use Rattle.cdc_follow.proofs.SavedLemmas.{none_left, reads-all, reads-more, some_left}
use Rattle.cdc_follow.proofs.saved.read_accounts.Goals as goal

pub loop-rest-preserved : goal.loop-rest-preserved
loop-rest-preserved c =
    let some = some_left c.loop-rest.rest.now c.is_empty.result c.is_empty.ensures
    c.loop-rest-test.true in
    reads-more c.args.text.now c.loop-rest.book c.push.new.self c.loop-rest.rest.now c.read_account.result.1.now
    c.read_account.result.0 c.in_ok-_added._added c.loop-rest.invariant some c.read_account.ensures.reads
    c.in_ok-_added.ensures.added c.in_ok-_added.ensures.ok

pub returns : goal.returns
returns c =
    let none = none_left c.loop-rest.rest.now c.is_empty.result c.is_empty.ensures
    c.loop-rest-test.false in
    reads-all c.args.text.now c.loop-rest.book c.loop-rest.rest.now c.loop-rest.invariant none
