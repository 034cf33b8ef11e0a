use Rattle.std.proofs.Common.{◌≡◌, ◌++◌, ◌∙◌, arith, append_assoc, map, subst}
use Rattle.std.specs.Prelude.{IfOk, IsSomeAnd}
use Rattle.cdc_frames.specs.Frames.{frame, frames}
use Rattle.cdc_frames.proofs.RecordLemmas.{first_record}
use Rattle.cdc_chain_command.specs.Logs.{Saved, last_saved, log_name, saved_text}
use Rattle.cdc_chain_command.specs.Private.Reads.{saved_of}
use Rattle.cdc_chain_command.proofs.LogLemmas.{read_whole, reads_as}
use Rattle.cdc_chain_command.proofs.logs.read_log.Goals as goal

pub returns-in_default-clause-all : goal.returns-in_default-clause-all
returns-in_default-clause-all c = λ first later torn fit fits split.
    let others = frames log_name 1 (map saved_text later) in
    c.in_ok-found.ensures.torn c.in_default.is (saved_text first) (others ++ torn)
    (split.whole ∙ append_assoc (frame log_name 0 (saved_text first)) others torn)

pub returns-in_default-2-clause-all : goal.returns-in_default-2-clause-all
returns-in_default-2-clause-all c = λ first later torn fit fits split.
    let is = rw c.in-Some.is at c.in_ok-found.ensures.whole in
    let read = first_record log_name saved_text 0 c.args.text.now c.in-Some.found.content.now
    c.in-Some.found.rest.now torn first later (omega arith) (omega arith) is split in
    rw c.in_default-2.is at
    (reads_as c.args.count c.in-Some.found.content.now _ c.in_ok-first.ensures.all first fit read.0)

pub returns-clause-exact : goal.returns-clause-exact
returns-clause-exact c =
    let is = rw c.in-Some.is at c.in_ok-found.ensures.whole in
    let exact = rw c.in-Some-2.is at c.in_ok-first.ensures.exact in
    read_whole c.args.count c.args.text.now c.in-Some.found.content.now c.in-Some.found.rest.now c.in-Some-2.first
    c.read_later.result is exact.0 c.read_later.ensures.exact

pub returns-clause-all : goal.returns-clause-all
returns-clause-all c = λ first later torn fit fits split.
    let is = rw c.in-Some.is at c.in_ok-found.ensures.whole in
    let read = first_record log_name saved_text 0 c.args.text.now c.in-Some.found.content.now
    c.in-Some.found.rest.now torn first later (omega arith) (omega arith) is split in
    let same = rw c.in-Some-2.is at
    (reads_as c.args.count c.in-Some.found.content.now _ c.in_ok-first.ensures.all first fit read.0) in
    subst (λ (s : Saved). IfOk c.read_later.result (λ found. IsSomeAnd found (λ last. saved_of last ≡ last_saved s later)))
    same (c.read_later.ensures.all later torn fits read.1)
