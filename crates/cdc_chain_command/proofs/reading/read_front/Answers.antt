use Rattle.std.proofs.Common.{◌++◌, ◌∷◌, ◌∙◌, ap, codes, drop, refl}
use Rattle.cdc_codec.specs.Texts.{yes_or_no}
use Rattle.cdc_chain_command.proofs.ReadLemmas.{heading_parts}
use Rattle.cdc_chain_command.proofs.reading.read_front.Goals as goal

pub returns : goal.returns
returns c state rest last is =
    let t3 = 10 ∷ rest in
    let t2 = codes " ended" ++ (yes_or_no state.ended ++ t3) in
    let whole = is ∙ heading_parts state rest in
    let n = c.number_64-last.ensures.reads state.last 32 (drop 1 t2) last refl (c.skip.ensures.rest ∙ ap (drop 18)
    whole)
    in
    let f = c.flag-ended.ensures.reads state.ended t3 (c.skip-2.ensures.rest ∙ ap (drop 6) n.1) in
    (n.0, f.0, c.skip-3.ensures.rest ∙ ap (drop 1) f.1)
