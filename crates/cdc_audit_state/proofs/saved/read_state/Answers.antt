use Rattle.cdc_audit_state.proofs.Words.{GivesParts, ap, false≢true, state_text, subst, sym, ◌∙◌}
use Rattle.cdc_audit_state.proofs.SavedLemmas.{reads_some, reads_state}
use Rattle.cdc_audit_state.proofs.saved.read_state.Goals as goal

pub returns-in_default-clause-all : goal.returns-in_default-clause-all
returns-in_default-clause-all c = λ state can is.
    reads_some c.args.text.now c.read_front-front.result state c.read_front-front.ensures
    (subst (GivesParts c.read_front-front.result.lines.now) c.in_default.is c.in_ok-parts.ensures) can is

pub returns-then-branch-clause-all : goal.returns-then-branch-clause-all
returns-then-branch-clause-all c = λ state can is.
    c.in_ok-auditor.ensures
    ∙ reads_state c.args.text.now c.read_front-front.result c.in-Some.parts state c.read_front-front.ensures
    (subst (GivesParts c.read_front-front.result.lines.now) c.in-Some.is c.in_ok-parts.ensures) can is

pub returns-else-branch-clause-all : goal.returns-else-branch-clause-all
returns-else-branch-clause-all c = λ state can is.
    let same = c.in_ok-auditor.ensures
    ∙ reads_state c.args.text.now c.read_front-front.result c.in-Some.parts state c.read_front-front.ensures
    (subst (GivesParts c.read_front-front.result.lines.now) c.in-Some.is c.in_ok-parts.ensures) can is in
    let text_is = is ∙ sym (ap state_text same) in
    absurd (false≢true (rw c.if-branch.false at (c.in_ok-is_text_of.ensures.1 text_is)))
