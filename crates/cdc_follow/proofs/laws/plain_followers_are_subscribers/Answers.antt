use Rattle.cdc_follow.proofs.PlainLemmas.{plain_followers}
use Rattle.cdc_follow.proofs.laws.plain_followers_are_subscribers.Goals as goal

pub returns : goal.returns
returns c = plain_followers
