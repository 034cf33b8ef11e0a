use Rattle.std.proofs.Common.{◌∙◌, ap, inr, map, refl, sym}
use Rattle.std.proofs.lemmas.Bool.{false≢true}
use Rattle.cdc_chain_command.specs.States.{are_of}
use Rattle.cdc_chain_command.proofs.ReadLemmas.{many_of}
use Rattle.cdc_chain_command.proofs.starts.resume_text.Goals as goal

pub returns-in_default-clause-refused : goal.returns-in_default-clause-refused
returns-in_default-clause-refused c = inr (
  refl,
  λ saved state can are is.
      rw c.in_default.is at (c.in_ok-saved.ensures.all saved state can (many_of c.args.bindings.now saved are) is),
)

pub returns-else-branch-clause-refused : goal.returns-else-branch-clause-refused
returns-else-branch-clause-refused c = inr (
  refl,
  λ saved state can are is.
      let read = rw c.in-Some.is at (c.in_ok-saved.ensures.all saved state can (many_of c.args.bindings.now saved are)
      is) in
      false≢true (sym c.if-branch.false ∙ c.in_ok-are_of.ensures
      ∙ ap (λ texts. are_of c.args.bindings.now (map (λ t. t.items) texts)) c.as_slice.ensures.value
      ∙ ap (are_of c.args.bindings.now) read.1 ∙ are),
)
