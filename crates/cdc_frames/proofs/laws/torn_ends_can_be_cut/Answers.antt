use Rattle.cdc_frames.proofs.FrameLemmas.{torn_cut}
use Rattle.cdc_frames.proofs.laws.torn_ends_can_be_cut.Goals as goal

pub returns : goal.returns
returns g c = torn_cut g.C.Content.is_content
