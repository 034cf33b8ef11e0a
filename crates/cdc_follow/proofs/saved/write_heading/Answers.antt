use Rattle.std.proofs.KnownBytes.{Appends-trans}
use Rattle.std.proofs.lemmas.Result.{on_ok_weaker}
use Rattle.cdc_follow.specs.Saved.{heading}
use Rattle.cdc_follow.proofs.saved.write_heading.Goals as goal

pub returns : goal.returns
unfolding heading
returns g c =
    on_ok_weaker c.write_text-2.result
    (λ end. Appends-trans _ _ _ _ _ c.in_ok-write_flagged.ensures
    (Appends-trans _ _ _ _ _ c.in_ok-write_named.ensures
    (Appends-trans _ _ _ _ _ c.in_ok-write_text.ensures
    (Appends-trans _ _ _ _ _ c.in_ok-write_all.ensures.bytes end))))
    c.write_text-2.ensures
