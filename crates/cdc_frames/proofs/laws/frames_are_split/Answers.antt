use Rattle.cdc_frames.proofs.FrameLemmas.{frames_split}
use Rattle.cdc_frames.proofs.laws.frames_are_split.Goals as goal

pub returns : goal.returns
returns g c = frames_split g.C.Content.is_content
