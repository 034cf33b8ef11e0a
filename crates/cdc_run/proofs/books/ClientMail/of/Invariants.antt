use Rattle.cdc_run.specs.ClientMail.{HasAllOf}
use Rattle.cdc_run.proofs.books.ClientMail.of.Given as goal

-- those so far
abbrev pub invariant-loop-parts : goal.invariant-loop-parts
invariant-loop-parts l = HasAllOf l.yielded l.mail
