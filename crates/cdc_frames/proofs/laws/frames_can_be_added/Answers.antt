use Rattle.cdc_frames.proofs.FrameLemmas.{frame_added}
use Rattle.cdc_frames.proofs.laws.frames_can_be_added.Goals as goal

pub returns : goal.returns
returns g c = frame_added g.C.Content.is_content
