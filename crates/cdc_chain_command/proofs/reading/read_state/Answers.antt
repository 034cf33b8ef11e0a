use Rattle.std.proofs.Common.{◌∙◌, map}
use Rattle.std.proofs.lemmas.Bool.{false≢true}
use Rattle.cdc_chain_command.proofs.ReadLemmas.{reads_state, same_text}
use Rattle.cdc_chain_command.proofs.reading.read_state.Goals as goal

pub returns-then-branch-clause-all : goal.returns-then-branch-clause-all
returns-then-branch-clause-all c saved state can many is =
    let read = reads_state c.args.text.now c.args.count c.read_front-front.result c.in_ok-rows.rows saved state
    c.read_front-front.ensures c.in_ok-rows.ensures.reads can many is in
    (c.in_ok-chain.ensures ∙ read.0, read.1)

pub returns-else-branch-clause-all : goal.returns-else-branch-clause-all
returns-else-branch-clause-all c saved state can many is =
    let read = reads_state c.args.text.now c.args.count c.read_front-front.result c.in_ok-rows.rows saved state
    c.read_front-front.ensures c.in_ok-rows.ensures.reads can many is in
    let same = same_text c.args.text.now c.in_ok-chain.chain (map (λ t. t.items) c.in_ok-rows.rows.texts.items) saved
    state
    (c.in_ok-chain.ensures ∙ read.0) read.1 is in
    let decides = rw c.as_slice.ensures.value at c.in_ok-is_text_of.ensures in
    false≢true (rw c.if-branch.false at (decides.1 same))
