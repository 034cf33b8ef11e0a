use Rattle.std.proofs.Common.{subst, sym}
use Rattle.cdc_audit_command.proofs.KeptLemmas.{line_audited, line_skipped, line_stops}
use Rattle.cdc_audit_command.proofs.StoredLemmas.{goes_on_one, stays}
use Rattle.cdc_audit_command.specs.Auditing.{audit_of}
use Rattle.cdc_audit_command.specs.Private.Kept.{GoesOn}
use Rattle.cdc_audit_command.proofs.auditors.StreamAuditorConsumer.take_line.Goals as goal

pub returns-in-Ok-Audited-clause-leads : goal.returns-in-Ok-Audited-clause-leads
returns-in-Ok-Audited-clause-leads g c =
    rw c.keep_line.ensures.auditor (rw c.keep_line.ensures.duplicates (line_audited c.args.setup.now
    (audit_of c.args.self.now) c.args.number c.take_turn.new.auditor (g.B.Read.remaining c.args.reader.now)
    (g.B.Read.remaining c.take_turn.new.reader) (rw c.in-Ok-Audited.field-0-is at c.in-Ok-Audited.ensures.leads)))

pub returns-in-Ok-Audited-clause-moves : goal.returns-in-Ok-Audited-clause-moves
returns-in-Ok-Audited-clause-moves g c =
    let it = c.args.self.now in
    let taken = rw c.in-Ok-Audited.field-0-is at c.in-Ok-Audited.ensures.keeps in
    rw c.keep_line.ensures.auditor (goes_on_one it.lines c.keep_line.new.self.lines
    c.take_turn.new.line.items it.auditor c.take_turn.new.auditor it.duplicates it.duplicates taken.0 taken.1
    (rw c.as_slice.ensures.value at c.keep_line.ensures.lines))

pub returns-in-Ok-Duplicate-clause-leads : goal.returns-in-Ok-Duplicate-clause-leads
returns-in-Ok-Duplicate-clause-leads g c =
    line_skipped c.args.setup.now (audit_of c.args.self.now) c.args.number c.saturating_add-self.result
    c.take_turn.new.auditor (g.B.Read.remaining c.args.reader.now) (g.B.Read.remaining c.take_turn.new.reader)
    c.ranges.number.fits c.saturating_add-self.ensures
    (rw c.in-Ok-Duplicate.field-0-is at c.in-Ok-Duplicate.ensures.leads)

pub returns-in-Ok-Duplicate-clause-moves : goal.returns-in-Ok-Duplicate-clause-moves
returns-in-Ok-Duplicate-clause-moves g c =
    let it = c.args.self.now in
    let same = rw c.in-Ok-Duplicate.field-0-is at c.in-Ok-Duplicate.ensures.keeps in
    subst (λ auditor. GoesOn it (record it { auditor = auditor })) (sym same) (stays it)

pub returns-in-Ok-Stops-clause-leads : goal.returns-in-Ok-Stops-clause-leads
returns-in-Ok-Stops-clause-leads g c =
    line_stops c.args.setup.now (audit_of c.args.self.now) c.args.number c.take_turn.new.auditor
    c.in-Ok-Stops.stop (g.B.Read.remaining c.args.reader.now) (g.B.Read.remaining c.take_turn.new.reader)
    (rw c.in-Ok-Stops.field-0-is at c.in-Ok-Stops.ensures.leads)

pub returns-in-Ok-Stops-clause-moves : goal.returns-in-Ok-Stops-clause-moves
returns-in-Ok-Stops-clause-moves g c =
    let it = c.args.self.now in
    let same = rw c.in-Ok-Stops.field-0-is at c.in-Ok-Stops.ensures.keeps in
    subst (λ auditor. GoesOn it (record it { auditor = auditor })) (sym same) (stays it)
