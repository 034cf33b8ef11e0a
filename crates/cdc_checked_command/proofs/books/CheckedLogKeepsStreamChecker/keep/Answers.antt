use Rattle.std.proofs.Common.{subst, sym, ◌∙◌}
use Rattle.cdc_streams.proofs.KeepingLemmas.{ok_map, ok_map_two}
use Rattle.cdc_checked_command.specs.Private.Kept.{Fits}
use Rattle.cdc_checked_command.proofs.StoredLemmas.{fits_base, fits_record, keeps_base, keeps_record}
use Rattle.cdc_checked_command.proofs.books.CheckedLogKeepsStreamChecker.keep.Goals as goal

pub returns-in-Some-Some-clause-kept : goal.returns-in-Some-Some-clause-kept
returns-in-Some-Some-clause-kept g c = λ fits.
    let old = g.L.LogStore.texts c.args.self.now.log.store in
    let new = g.L.LogStore.texts c.save_record.new.self.log.store in
    let known = subst (λ kept. Fits old c.args.self.now.log.records kept c.args.consumer.now.bound)
    (sym c.lines.ensures ∙ c.in-Some-Some.is-0) fits in
    ok_map c.save_record.result (λ saved first states kept.
    keeps_record (g.L.LogStore.texts first.log.store) old new states c.args.self.now.log.records
    c.in-Some-Some.number c.in-Some-Some.lines c.args.consumer.now.bound known c.in-Some-Some.ensures
    saved kept) (rw c.as_slice.ensures.value at c.save_record.ensures.saved)

pub returns-in-Some-Some-clause-fits : goal.returns-in-Some-Some-clause-fits
returns-in-Some-Some-clause-fits g c = λ fits.
    let old = g.L.LogStore.texts c.args.self.now.log.store in
    let new = g.L.LogStore.texts c.save_record.new.self.log.store in
    let known = subst (λ kept. Fits old c.args.self.now.log.records kept c.args.consumer.now.bound)
    (sym c.lines.ensures ∙ c.in-Some-Some.is-0) fits in
    ok_map_two c.save_record.result (λ saved records next since.
    fits_record old new c.args.self.now.log.records c.save_record.new.self.log.records c.in-Some-Some.number
    c.in-Some-Some.lines c.args.consumer.now.bound next.lines next.bound known c.in-Some-Some.ensures records
    saved since) (rw c.as_slice.ensures.value at c.save_record.ensures.saved) c.save_record.ensures.records

pub returns-in_default-clause-kept : goal.returns-in_default-clause-kept
returns-in_default-clause-kept g c = λ fits.
    ok_map c.save_base.result (λ saved first states kept.
    keeps_base (g.L.LogStore.texts first.log.store) (g.L.LogStore.texts c.args.self.now.log.store)
    (g.L.LogStore.texts c.save_base.new.self.log.store) states c.args.consumer.now.bound saved kept)
    (rw c.bound.ensures at c.save_base.ensures.saved)

pub returns-in_default-clause-fits : goal.returns-in_default-clause-fits
returns-in_default-clause-fits g c = λ fits.
    ok_map_two c.save_base.result (λ saved records next since.
    fits_base (g.L.LogStore.texts c.args.self.now.log.store) (g.L.LogStore.texts c.save_base.new.self.log.store)
    c.save_base.new.self.log.records c.args.consumer.now.bound next.lines next.bound saved records since)
    (rw c.bound.ensures at c.save_base.ensures.saved) c.save_base.ensures.records
