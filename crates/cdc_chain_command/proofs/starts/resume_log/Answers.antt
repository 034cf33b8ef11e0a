use Rattle.std.proofs.Common.{Some, ◌∙◌, ap, map, sym}
use Rattle.std.proofs.lemmas.Bool.{false≢true}
use Rattle.cdc_chain_command.specs.Logs.{Saved}
use Rattle.cdc_chain_command.specs.States.{are_of}
use Rattle.cdc_chain_command.proofs.starts.resume_log.Goals as goal

pub returns-in_default-clause-all : goal.returns-in_default-clause-all
returns-in_default-clause-all c = λ first later torn fit fits are split.
    absurd (rw c.in_default.is at (c.in_ok-saved.ensures.all first later torn fit fits split))

pub returns-then-branch-clause-all : goal.returns-then-branch-clause-all
returns-then-branch-clause-all c = λ first later torn fit fits are split.
    let same = rw c.in-Some.is at (c.in_ok-saved.ensures.all first later torn fit fits split) in
    ap (λ (s : Saved). Some s.state) same

pub returns-else-branch-clause-all : goal.returns-else-branch-clause-all
returns-else-branch-clause-all c = λ first later torn fit fits are split.
    let same = rw c.in-Some.is at (c.in_ok-saved.ensures.all first later torn fit fits split) in
    absurd (false≢true (sym c.if-branch.false ∙ c.in_ok-are_of.ensures
    ∙ ap (λ texts. are_of c.args.bindings.now (map (λ t. t.items) texts)) c.as_slice.ensures.value
    ∙ ap (λ (s : Saved). are_of c.args.bindings.now s.names) same ∙ are))
