use Rattle.cdc_frames.proofs.FrameLemmas.{last_torn}
use Rattle.cdc_frames.proofs.laws.other_contents_are_torn.Goals as goal

pub returns : goal.returns
returns g c = last_torn g.C.Content.is_content
