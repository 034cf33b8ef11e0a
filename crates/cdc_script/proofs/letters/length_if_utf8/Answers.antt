use Rattle.cdc_script.proofs.LetterLemmas.{length_of_text, length_of_none}
use Rattle.cdc_script.proofs.letters.length_if_utf8.Goals as goal

pub returns-in-Ok : goal.returns-in-Ok
returns-in-Ok c = length_of_text c.args.letter.now c.in-Ok.ensures.cases.1

pub returns-in-Err : goal.returns-in-Err
returns-in-Err c = length_of_none c.args.letter.now c.in-Err.ensures.cases.0
