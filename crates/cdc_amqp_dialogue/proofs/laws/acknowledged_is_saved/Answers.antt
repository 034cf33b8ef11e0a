use Rattle.cdc_amqp_dialogue.proofs.Sound.{runs_are_sound}
use Rattle.cdc_amqp_dialogue.proofs.laws.acknowledged_is_saved.Goals as goal

pub returns : goal.returns
returns g c = λ settings plan steps. runs_are_sound settings plan steps
