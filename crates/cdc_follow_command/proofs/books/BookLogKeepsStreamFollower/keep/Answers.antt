use Rattle.std.proofs.Common.{subst, sym, ◌∙◌}
use Rattle.cdc_streams.proofs.KeepingLemmas.{ok_map, ok_map_two}
use Rattle.cdc_follow_command.specs.Following.{followed_of}
use Rattle.cdc_follow_command.specs.Private.Logged.{Fits}
use Rattle.cdc_follow_command.proofs.LogLemmas.{fits_base, fits_record, keeps_base, keeps_record}
use Rattle.cdc_follow_command.proofs.books.BookLogKeepsStreamFollower.keep.Goals as goal

pub returns-in-Some-Some-clause-kept : goal.returns-in-Some-Some-clause-kept
returns-in-Some-Some-clause-kept g c = λ fits.
    let old = g.L.LogStore.texts c.args.self.now.log.store in
    let new = g.L.LogStore.texts c.save_record.new.self.log.store in
    let known = subst (λ changes. Fits c.args.setup.now old c.args.self.now.log.records changes
    c.args.consumer.now.tracked.follower) (sym c.changes.ensures ∙ c.in-Some-Some.is-0) fits in
    ok_map c.save_record.result (λ saved first states kept.
    keeps_record c.args.setup.now (g.L.LogStore.texts first.log.store) old new states c.args.self.now.log.records
    c.in-Some-Some.number c.in-Some-Some.change (followed_of c.args.consumer.now) known c.in-Some-Some.ensures
    saved kept) c.save_record.ensures.saved

pub returns-in-Some-Some-clause-fits : goal.returns-in-Some-Some-clause-fits
returns-in-Some-Some-clause-fits g c = λ fits.
    let old = g.L.LogStore.texts c.args.self.now.log.store in
    let new = g.L.LogStore.texts c.save_record.new.self.log.store in
    let known = subst (λ changes. Fits c.args.setup.now old c.args.self.now.log.records changes
    c.args.consumer.now.tracked.follower) (sym c.changes.ensures ∙ c.in-Some-Some.is-0) fits in
    ok_map_two c.save_record.result (λ saved records next since.
    fits_record c.args.setup.now old new c.args.self.now.log.records c.save_record.new.self.log.records
    c.in-Some-Some.number c.in-Some-Some.change c.args.consumer.now.tracked.follower next.tracked.changes
    next.tracked.follower known c.in-Some-Some.ensures records saved since.changes)
    c.save_record.ensures.saved c.save_record.ensures.records

pub returns-in_default-clause-kept : goal.returns-in_default-clause-kept
returns-in_default-clause-kept g c = λ fits.
    ok_map c.save_base.result (λ saved first states kept.
    keeps_base c.args.setup.now (g.L.LogStore.texts first.log.store) (g.L.LogStore.texts c.args.self.now.log.store)
    (g.L.LogStore.texts c.save_base.new.self.log.store) states (followed_of c.args.consumer.now) saved kept)
    (rw c.follower.ensures at c.save_base.ensures.saved)

pub returns-in_default-clause-fits : goal.returns-in_default-clause-fits
returns-in_default-clause-fits g c = λ fits.
    ok_map_two c.save_base.result (λ saved records next since.
    fits_base c.args.setup.now (g.L.LogStore.texts c.args.self.now.log.store)
    (g.L.LogStore.texts c.save_base.new.self.log.store) c.save_base.new.self.log.records
    c.args.consumer.now.tracked.follower next.tracked.changes next.tracked.follower saved records since.changes)
    (rw c.follower.ensures at c.save_base.ensures.saved) c.save_base.ensures.records
