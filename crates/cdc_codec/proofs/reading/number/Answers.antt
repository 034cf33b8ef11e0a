use Rattle.std.proofs.Common.{◌≡◌, ◌∙◌, ◌-◌, ap, arith, drop, length, length-drop, rules, take}
use Rattle.std.proofs.lemmas.List.{take_all}
use Rattle.std.specs.Char.{is_ascii_digit}
use Rattle.std.specs.List.{prefix_len}
use Rattle.cdc_codec.specs.Parts.{number_at}
use Rattle.cdc_codec.proofs.PartLemmas.{reads_number}
use Rattle.cdc_codec.proofs.reading.number.Goals as goal

pub returns-clause-value : goal.returns-clause-value
unfolding number_at
returns-clause-value c = search rules

pub returns-clause-rest : goal.returns-clause-rest
unfolding number_at
returns-clause-rest c =
    let text = c.skip-text.result.now in
    let n = c.count_digits-length.result in
    let whole : take (length text - n) (drop n text) ≡ drop n text =
    take_all (length text - n) (drop n text) (omega (arith, length-drop n text)) in
    whole ∙ ap (λ k. drop k text) c.count_digits-length.ensures
    ∙ ap (λ t. drop (prefix_len is_ascii_digit t) t) c.skip-text.ensures.rest

pub returns-clause-reads : goal.returns-clause-reads
returns-clause-reads c =
    reads_number _ c.args.text.now _ _ (omega arith) (returns-clause-value c) (returns-clause-rest c)
