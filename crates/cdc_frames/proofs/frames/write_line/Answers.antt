use Rattle.std.proofs.KnownBytes.{Appends-trans}
use Rattle.std.proofs.lemmas.Result.{on_ok_weaker}
use Rattle.cdc_frames.specs.Frames.{frame_line}
use Rattle.cdc_frames.proofs.frames.write_line.Goals as goal

pub returns : goal.returns
unfolding frame_line
returns g c =
    on_ok_weaker c.write_text.result
    (λ end. Appends-trans _ _ _ _ _ c.in_ok-write_named.ensures
    (Appends-trans _ _ _ _ _ c.in_ok-write_named-2.ensures end))
    c.write_text.ensures
