use Rattle.cdc_world.proofs.ReachedWorlds.{IsReached-new, IsReached-next, IsReached-played, IsReached-played-past}
use Rattle.cdc_world.proofs.Reached.{faithful-reached}
use Rattle.cdc_world.proofs.ClosedSubscribers.{AllStay-next}
use Rattle.cdc_world.proofs.laws.world_laws.Goals as goal

pub returns-clause-faithful : goal.returns-clause-faithful
returns-clause-faithful c = λ w reached i s found. faithful-reached w i s reached found

pub returns-clause-fixed : goal.returns-clause-fixed
returns-clause-fixed c = AllStay-next

pub returns-clause-begins : goal.returns-clause-begins
returns-clause-begins c = IsReached-new

pub returns-clause-goes_on : goal.returns-clause-goes_on
returns-clause-goes_on c = IsReached-next

pub returns-clause-plays : goal.returns-clause-plays
returns-clause-plays c = IsReached-played

pub returns-clause-plays_past : goal.returns-clause-plays_past
returns-clause-plays_past c = IsReached-played-past
