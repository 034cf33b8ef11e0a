use Rattle.cdc_commands.proofs.Terms.{Err, Ok, PrintsScript}
use Rattle.cdc_commands.proofs.HeldLaws.{all_balances, whole_feeds}
use Rattle.cdc_commands.proofs.OutputLemmas.{none_parsed, parsed_printed, writes_made}
use Rattle.cdc_commands.proofs.books.books.Goals as goal

pub returns-in-Ok-clause-writes : goal.returns-in-Ok-clause-writes
returns-in-Ok-clause-writes g c =
    writes_made (PrintsScript g.F.Form.prints_books g.F.Form.prints_fault (g.R.Read.remaining c.args.reader.now))
    g.F.Form.prints_fault _ _ (Ok c.in-Ok.field-0.output) _ c.print_output.ensures.text tt c.in-Ok.ensures.output tt

pub returns-in-Ok-clause-parsed : goal.returns-in-Ok-clause-parsed
returns-in-Ok-clause-parsed g c =
    parsed_printed _ _ _ _ _ c.in-Ok.field-0.parsed c.print_output.ensures.text c.in-Ok.ensures.parsed

pub returns-in-Err-clause-writes : goal.returns-in-Err-clause-writes
returns-in-Err-clause-writes g c =
    writes_made (PrintsScript g.F.Form.prints_books g.F.Form.prints_fault (g.R.Read.remaining c.args.reader.now))
    g.F.Form.prints_fault _ _ (Err c.in-Err.fault) _ tt c.print_output-in-Err.ensures.fault tt
    (λ line stated. (c.in-Err.ensures.fault, stated))

pub returns-in-Err-clause-parsed : goal.returns-in-Err-clause-parsed
returns-in-Err-clause-parsed g c =
    none_parsed (g.R.Read.remaining c.args.reader.now) _ _ g.F.Form.prints_fault c.in-Err.fault _
    c.print_output-in-Err.ensures.fault

pub returns-in-Ok-clause-whole : goal.returns-in-Ok-clause-whole
returns-in-Ok-clause-whole g c = whole_feeds

pub returns-in-Ok-clause-holds : goal.returns-in-Ok-clause-holds
returns-in-Ok-clause-holds g c = all_balances

pub returns-in-Err-clause-whole : goal.returns-in-Err-clause-whole
returns-in-Err-clause-whole g c = whole_feeds

pub returns-in-Err-clause-holds : goal.returns-in-Err-clause-holds
returns-in-Err-clause-holds g c = all_balances
