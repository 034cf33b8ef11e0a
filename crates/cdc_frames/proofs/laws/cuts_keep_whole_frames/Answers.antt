use Rattle.cdc_frames.proofs.FrameLemmas.{cuts}
use Rattle.cdc_frames.proofs.laws.cuts_keep_whole_frames.Goals as goal

pub returns : goal.returns
returns g c = cuts g.C.Content.is_content
