use Rattle.cdc_script.proofs.WordLemmas.{lines_of_first, lines_of_one}
use Rattle.std.proofs.Common.{◌∙◌, sym}
use Rattle.cdc_script.proofs.words.next_line.Goals as goal

pub returns-in-Some-clause-line : goal.returns-in-Some-clause-line
returns-in-Some-clause-line c =
    lines_of_first c.args.text.start c.args.text.bytes.now c.in-Some.line.bytes.now c.in-Some.after.bytes.now
    c.without_return.result.start c.in-Some.after.start c.without_return.result.bytes.now c.in-Some.ensures.splits
    (c.without_return.ensures.start ∙ c.in-Some.ensures.first) c.in-Some.ensures.second c.without_return.ensures.bytes

pub returns-in-None-2-clause-line : goal.returns-in-None-2-clause-line
returns-in-None-2-clause-line c =
    lines_of_one c.args.text.start c.nothing_after.result.start c.args.text.bytes.now c.nothing_after.result.bytes.now
    c.in-None-2.ensures.splits (sym c.is_empty.ensures ∙ c.if-is_empty.false) c.nothing_after.ensures
