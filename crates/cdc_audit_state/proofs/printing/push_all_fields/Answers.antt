use Rattle.std.proofs.Common.{ap, sym, ◌∙◌, ◌++◌}
use Rattle.cdc_audit_state.proofs.PrintingLemmas.{pushed_all, pushed_more, all_fields_text, fields_text}
use Rattle.cdc_audit_state.proofs.printing.push_all_fields.Goals as goal

pub loop-id-preserved : goal.loop-id-preserved
loop-id-preserved c =
    pushed_more fields_text c.args.fields.now.entries c.args.text.now.items c.loop-id.id-iterator c.next.new.self _
    c.loop-id.text.items c.push_fields.new.text.items c.loop-id.invariant c.in-Some.ensures.steps
    c.in_ok-push_fields.ensures

pub returns : goal.returns
returns c =
    pushed_all fields_text c.args.fields.now.entries c.args.text.now.items c.loop-id.id-iterator c.loop-id.text.items
    c.loop-id.invariant c.in-None.ensures.steps.0
    ∙ ap (λ text. c.args.text.now.items ++ text) (sym (all_fields_text c.args.fields.now.entries))
