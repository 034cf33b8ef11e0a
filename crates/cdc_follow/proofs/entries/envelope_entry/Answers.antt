use Rattle.std.proofs.Common.{◌∙◌, Option, Ok, Some, ap, arith, sym}
use Rattle.cdc_follow.specs.declared.entries.Content.TheVariants as content
use Rattle.cdc_follow.proofs.EntryLemmas.{line-envelope}
use Rattle.cdc_follow.proofs.entries.envelope_entry.Goals as goal

pub returns : goal.returns
returns c =
    let read = c.in_ok-read.read in
    let is = c.in_ok-read.ensures.envelope in
    line-envelope c.args.chained c.args.line.now read.event read.previous is (omega (arith, is.predecessor_fits))
    ∙ ap (λ previous. Ok (Some (record { content = content.Event read.event; previous = previous })))
    (sym c.previous_if-previous.ensures)
