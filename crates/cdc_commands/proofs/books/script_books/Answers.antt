use Rattle.cdc_commands.proofs.books.script_books.Goals as goal

pub returns-clause-prints : goal.returns-clause-prints
returns-clause-prints g c =
    c.in_ok-text.ensures c.args.script
    record { answers = c.in_ok-report.ensures.answers; subscribers = c.in_ok-report.ensures.subscribers }
