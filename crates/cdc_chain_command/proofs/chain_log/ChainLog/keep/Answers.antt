use Rattle.std.proofs.Common.{map}
use Rattle.cdc_streams.proofs.KeepingLemmas.{ok_map, ok_map_two}
use Rattle.cdc_chain_command.proofs.LogLemmas.{fits_base, fits_record, keeps_base, keeps_record}
use Rattle.cdc_chain_command.proofs.chain_log.ChainLog.keep.Goals as goal

pub returns-in-Some-clause-kept : goal.returns-in-Some-clause-kept
returns-in-Some-clause-kept g c = λ fits.
    ok_map c.append.result (λ saved. keeps_record (map (λ t. t.items) c.args.setup.now.texts.items) c.args.chain.now
    c.in_ok-text.text.items c.in_ok-text.ensures (g.L.LogStore.texts c.args.self.now.log.store)
    (g.L.LogStore.texts c.append.new.self.log.store) c.args.self.now.log.records c.in-Some.number
    (fits c.in-Some.ensures.0) c.in-Some.ensures.1 saved) (rw c.as_slice-state.ensures.value at c.append.ensures.saved)

pub returns-in-Some-clause-fits : goal.returns-in-Some-clause-fits
returns-in-Some-clause-fits g c = λ fits.
    ok_map_two c.append.result (λ saved records. fits_record (map (λ t. t.items) c.args.setup.now.texts.items)
    c.args.chain.now c.in_ok-text.text.items c.in_ok-text.ensures (g.L.LogStore.texts c.args.self.now.log.store)
    (g.L.LogStore.texts c.append.new.self.log.store) c.append.new.self.has_begun c.args.self.now.log.records
    c.in-Some.number c.append.new.self.log.records (fits c.in-Some.ensures.0) c.in-Some.ensures.1 records saved)
    (rw c.as_slice-state.ensures.value at c.append.ensures.saved) c.append.ensures.records

pub returns-clause-kept : goal.returns-clause-kept
returns-clause-kept g c = λ fits.
    ok_map c.begin.result (λ saved. keeps_base (map (λ t. t.items) c.args.setup.now.texts.items) c.args.chain.now
    c.in_ok-text.text.items c.in_ok-text.ensures (g.L.LogStore.texts c.args.self.now.log.store)
    (g.L.LogStore.texts c.begin.new.self.log.store) saved) (rw c.as_slice-state.ensures.value at c.begin.ensures.saved)

pub returns-clause-fits : goal.returns-clause-fits
returns-clause-fits g c = λ fits.
    ok_map_two c.begin.result (λ saved records. fits_base (map (λ t. t.items) c.args.setup.now.texts.items)
    c.args.chain.now c.in_ok-text.text.items c.in_ok-text.ensures (g.L.LogStore.texts c.args.self.now.log.store)
    (g.L.LogStore.texts c.begin.new.self.log.store) c.begin.new.self.has_begun c.begin.new.self.log.records saved
    records) (rw c.as_slice-state.ensures.value at c.begin.ensures.saved) c.begin.ensures.records
