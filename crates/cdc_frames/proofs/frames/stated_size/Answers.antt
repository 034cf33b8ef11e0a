use Rattle.cdc_frames.specs.FrameParts.{size_at}
use Rattle.cdc_frames.proofs.frames.stated_size.Goals as goal

pub returns : goal.returns
unfolding size_at
returns c = cc
