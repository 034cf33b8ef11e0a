use Rattle.std.proofs.Common.{◌∙◌, arith, inl, subst, sym, Option, Result}
use Rattle.cdc_follow.specs.declared.entries.Entry.{Entry}
use Rattle.cdc_follow.specs.declared.errors.LineError.{LineError}
use Rattle.cdc_follow.specs.Entries.{value_entry}
use Rattle.cdc_follow.specs.LineErrors.{GivesUnlessMemory}
use Rattle.cdc_message.specs.Reading.{value_of}
use Rattle.cdc_follow.proofs.EntryLemmas.{line-nothing, line-value}
use Rattle.cdc_follow.proofs.StopLemmas.{long_entry}
use Rattle.cdc_follow.proofs.entries.read_entry.Goals as goal

pub returns-then-line-gt-LONGEST_LINE : goal.returns-then-line-gt-LONGEST_LINE
returns-then-line-gt-LONGEST_LINE c = inl (sym (long_entry c.args.chained c.args.line.now (omega arith)))

pub returns-then-is_ignored : goal.returns-then-is_ignored
returns-then-is_ignored c =
    inl (sym (line-nothing c.args.chained c.args.line.now (omega arith) (sym c.if-is_ignored.ensures)))

pub returns-in-Some : goal.returns-in-Some
returns-in-Some c =
    inl (sym (line-value c.args.chained c.args.line.now (omega arith) (sym c.if-is_ignored.ensures)
    ∙ c.in-Some.ensures))

pub returns : goal.returns
returns c =
    subst (λ (given : Result (Option Entry) LineError). GivesUnlessMemory c.value_entry.result given)
    (sym (line-value c.args.chained c.args.line.now (omega arith) (sym c.if-is_ignored.ensures)))
    c.value_entry.ensures
