use Rattle.std.proofs.Common.{◌++◌, ◌∷◌, ◌∙◌, ap, drop, refl}
use Rattle.cdc_chain_command.proofs.ReadLemmas.{row_parts}
use Rattle.cdc_chain_command.proofs.reading.read_row.Goals as goal

pub returns : goal.returns
returns c binding place rest fits in_line is =
    let whole = is ∙ row_parts binding place rest in
    let n = c.number_64-place.ensures.reads place 32 (binding ++ 10 ∷ rest) fits refl
    (c.skip.ensures.rest ∙ ap (drop 5) whole) in
    let l = c.line.ensures.reads binding rest in_line (c.skip-2.ensures.rest ∙ ap (drop 1) n.1) in
    (n.0, l.0, l.1)
