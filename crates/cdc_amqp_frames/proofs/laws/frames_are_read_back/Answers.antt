use Rattle.cdc_amqp_frames.proofs.FrameLaws.{frame_again}
use Rattle.cdc_amqp_frames.proofs.laws.frames_are_read_back.Goals as goal

pub returns : goal.returns
returns c = λ limit f rest bound fits. frame_again limit f rest fits bound
