use Rattle.cdc_message.specs.Items.{same_item}
use Rattle.cdc_message.proofs.ReplayLaws.{IsPrefix-firsts, IsReplay-trans}
use Rattle.cdc_message.proofs.RisesLaws.{rises-firsts}
use Rattle.cdc_message.proofs.Same.{Decides-same_item}
use Rattle.cdc_message.proofs.laws.replay_laws.Goals as goal

pub returns-clause-same : goal.returns-clause-same
returns-clause-same c = Decides-same_item

pub returns-clause-prefix : goal.returns-clause-prefix
returns-clause-prefix c = IsPrefix-firsts same_item Decides-same_item

pub returns-clause-rises : goal.returns-clause-rises
returns-clause-rises c = λ w f apart rise replay. rises-firsts f apart rise w replay

pub returns-clause-composes : goal.returns-clause-composes
returns-clause-composes c = IsReplay-trans
