use Rattle.std.proofs.Common.{◌≡◌, ◌∙◌, ◌-◌, ap, arith, drop, length, length-drop, take}
use Rattle.std.proofs.lemmas.List.{take_all}
use Rattle.cdc_codec.specs.Parts.{line_at}
use Rattle.cdc_codec.proofs.PartLemmas.{reads_line}
use Rattle.cdc_codec.proofs.reading.line.Goals as goal

pub returns-clause-value : goal.returns-clause-value
unfolding line_at
returns-clause-value c = ap (λ k. take k c.args.text.now) c.line_length-length.ensures.count

pub returns-clause-rest : goal.returns-clause-rest
unfolding line_at
returns-clause-rest c =
    let text = c.args.text.now in
    let n = c.line_length-length.result in
    let whole : take (length text - n) (drop n text) ≡ drop n text =
    take_all (length text - n) (drop n text) (omega (arith, length-drop n text)) in
    c.skip.ensures.rest ∙ ap (drop 1) (whole ∙ ap (λ k. drop k text) c.line_length-length.ensures.count)

pub returns-clause-reads : goal.returns-clause-reads
returns-clause-reads c =
    reads_line c.args.text.now _ _ (returns-clause-value c) (returns-clause-rest c)
