use Rattle.cdc_frames.proofs.FrameLemmas.{split_unique}
use Rattle.cdc_frames.proofs.laws.splits_are_unique.Goals as goal

pub returns : goal.returns
returns g c = split_unique g.C.Content.is_content
