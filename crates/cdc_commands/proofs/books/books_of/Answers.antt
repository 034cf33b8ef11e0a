use Rattle.cdc_commands.proofs.OutputLemmas.{parsed_of_script}
use Rattle.cdc_commands.proofs.books.books_of.Goals as goal

pub returns-in-Ok-clause-parsed : goal.returns-in-Ok-clause-parsed
returns-in-Ok-clause-parsed g c =
    parsed_of_script c.args.bytes.now c.in-Ok.script c.script_books.result c.in-Ok.ensures c.script_books.ensures.parsed
