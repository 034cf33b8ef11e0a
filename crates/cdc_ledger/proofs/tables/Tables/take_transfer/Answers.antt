use Rattle.cdc_ledger.proofs.Words.{◌∙◌, Contents, Entry, History, IsEmitted, List, TransferResult, ap, arith, pushed, subst, sym, transfer_rules}
use Rattle.std.proofs.Math.Nat.{le_of_lt}
use Rattle.std.specs.Prelude.{Option}
use Rattle.cdc_ledger.proofs.BatchLaws.{after_accepted_alone, after_refused_alone, alone_accepted, alone_refused}
use Rattle.cdc_ledger.proofs.EmittedLaws.{IsEmitted-timed}
use Rattle.cdc_ledger.proofs.tables.Tables.take_transfer.Goals as goal

pub returns-in-Err-clause-emitted : goal.returns-in-Err-clause-emitted
returns-in-Err-clause-emitted c =
    subst (λ (v : Contents). IsEmitted v.history c.args.emitted.now) (sym c.take_timestamp.ensures)
    (IsEmitted-timed c.args.self.now.history c.args.emitted.now c.args.timestamp c.accounts-before.ensures.sound
    (le_of_lt c.requires.later) c.requires.emitted)

pub take-requires : goal.take-requires
take-requires c =
    let at = ap (λ (e : Entry). e.timestamp) c.in-Ok.ensures.entry in
    record {
      emitted = c.requires.emitted;
      later = omega (arith, at, c.requires.later);
      within = omega (arith, at, c.requires.within);
      follows = c.in-Ok.ensures.follows;
      movement = c.in-Ok.ensures.movement;
      room = c.requires.room;
      place_room = λ stored. c.requires.place_room;
      log_room = c.requires.log_room;
      end_room = λ opening. c.requires.end_room;
    }

pub returns-in-Err-clause-played : goal.returns-in-Err-clause-played
returns-in-Err-clause-played c =
    ap (λ (q : List TransferResult × Option History). q.0)
    (alone_refused transfer_rules c.args.self.now.history c.args.timestamp c.args.request c.in-Err.refusal
    c.requires.unlinked c.in-Err.ensures)

pub returns-in-Err-clause-history : goal.returns-in-Err-clause-history
returns-in-Err-clause-history c =
    after_refused_alone transfer_rules c.args.self.now.history c.args.timestamp c.args.request c.in-Err.refusal
    c.take_timestamp.new.self.history c.requires.unlinked c.in-Err.ensures
    (ap (λ (v : Contents). v.history) c.take_timestamp.ensures)

pub returns-in-Ok : goal.returns-in-Ok
returns-in-Ok c = record {
  played = ap (λ (q : List TransferResult × Option History). q.0)
      (alone_accepted transfer_rules c.args.self.now.history c.args.timestamp c.args.request c.requires.unlinked
      c.in-Ok.ensures.unrefused);
  history = after_accepted_alone transfer_rules c.args.self.now.history c.args.timestamp c.args.request
      c.take.new.self.history c.requires.unlinked c.in-Ok.ensures.unrefused
      (c.take.ensures.history ∙ ap (pushed c.args.self.now.history) c.in-Ok.ensures.entry);
  fits = record {
    id = omega arith;
    debit_account_id = omega arith;
    credit_account_id = omega arith;
    amount = omega arith;
    pending_id = omega arith;
    user_data_128 = omega arith;
    user_data_64 = omega arith;
    user_data_32 = omega arith;
    timeout = omega arith;
    ledger = omega arith;
    code = omega arith;
    flags = omega arith;
  };
  emitted = c.take.ensures.emitted;
  room = omega (arith, c.take.ensures.room);
  place_room = c.take.ensures.place_room;
  log_room = omega (arith, c.take.ensures.log_room);
  end_room = c.take.ensures.end_room;
}
