use Rattle.std.proofs.Common.{◌∙◌, ap, ap₂, subst, sym}
use Rattle.std.proofs.lemmas.Bool.{false≢true}
use Rattle.cdc_checked_state.specs.Parts.{GivesParts}
use Rattle.cdc_checked_state.specs.States.{state_text}
use Rattle.cdc_checked_state.proofs.SavedLemmas.{reads_front, reads_some, reads_state}
use Rattle.cdc_checked_state.proofs.saved.read_state.Goals as goal

pub returns-in_default-clause-all : goal.returns-in_default-clause-all
returns-in_default-clause-all c = λ binding state can is.
    reads_some c.args.text.now c.read_front-front.result binding state c.read_front-front.ensures
    (subst (GivesParts c.read_front-front.result.lines.now) c.in_default.is c.in_ok-parts.ensures) can is

pub returns-in_ok-binding-clause-all : goal.returns-in_ok-binding-clause-all
returns-in_ok-binding-clause-all c = λ binding state can is.
    let front = reads_front c.args.text.now c.read_front-front.result binding state c.read_front-front.ensures can is
    in
    record {
      binding_is = c.in_ok-binding.ensures.items ∙ front.binding_is;
      follower_is = c.follower_of-follower.ensures
          ∙ reads_state c.args.text.now c.read_front-front.result c.in-Some.parts binding state
          c.read_front-front.ensures
          (subst (GivesParts c.read_front-front.result.lines.now) c.in-Some.is c.in_ok-parts.ensures) can is;
    }

pub returns-else-branch-clause-all : goal.returns-else-branch-clause-all
returns-else-branch-clause-all c = λ binding state can is.
    let front = reads_front c.args.text.now c.read_front-front.result binding state c.read_front-front.ensures can is
    in
    let same = c.follower_of-follower.ensures
    ∙ reads_state c.args.text.now c.read_front-front.result c.in-Some.parts binding state c.read_front-front.ensures
    (subst (GivesParts c.read_front-front.result.lines.now) c.in-Some.is c.in_ok-parts.ensures) can is in
    let text_is = is ∙ sym (ap₂ state_text front.binding_is same) in
    absurd (false≢true (rw c.if-branch.false at (c.in_ok-is_text_of.ensures.1 text_is)))
