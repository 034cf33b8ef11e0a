use Rattle.std.proofs.Common.{◌∙◌, arith, subst, sym}
use Rattle.std.proofs.lemmas.Bool.{false≢true}
use Rattle.cdc_progress.specs.Records.{IsTextOf}
use Rattle.cdc_progress.proofs.TextLemmas.{numbers_read, same_record}
use Rattle.cdc_progress.proofs.texts.parse.Goals as goal

pub returns-then-start-timestamp-clause-record : goal.returns-then-start-timestamp-clause-record
returns-then-start-timestamp-clause-record c saved fits is =
    let numbers = numbers_read saved c.args.bytes.now _ _ _ _ _ _ _ fits is c.skip.ensures.rest
    c.number_64-session.ensures.reads c.number_64-timestamp.ensures.reads c.number_64-start.ensures.reads
    c.number_64-start.ensures.value in
    omega (arith, numbers.1, numbers.2, fits.start, c.if-start-timestamp.true)

pub returns-else-is_text_of-clause-record : goal.returns-else-is_text_of-clause-record
returns-else-is_text_of-clause-record c saved fits is =
    let numbers = numbers_read saved c.args.bytes.now _ _ _ _ _ _ _ fits is c.skip.ensures.rest
    c.number_64-session.ensures.reads c.number_64-timestamp.ensures.reads c.number_64-start.ensures.reads
    c.number_64-start.ensures.value in
    let same = c.new-progress.ensures ∙ same_record saved numbers in
    false≢true (rw c.if-is_text_of.false at (c.is_text_of.ensures.1
    (subst (λ of. IsTextOf of c.args.bytes.now) (sym same) is)))
