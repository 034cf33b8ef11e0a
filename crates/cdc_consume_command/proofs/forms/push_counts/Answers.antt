use Rattle.std.specs.Prelude.{◌++◌, codes, decimal}
use Rattle.cdc_output.proofs.TextLemmas.{pieces}
use Rattle.cdc_consume_command.proofs.forms.push_counts.Goals as goal

pub returns : goal.returns
returns c =
    pieces _ c.push_named.new.text.items _ (codes "applied " ++ decimal c.args.counts.applied) _ c.in_ok-push_named.ensures
    (pieces _ c.push_named-2.new.text.items _ (codes "\nduplicates " ++ decimal c.args.counts.duplicates) _
    c.in_ok-push_named-2.ensures
    (pieces _ c.push_named-3.new.text.items _ (codes "\npassed " ++ decimal c.args.counts.passed) _
    c.in_ok-push_named-3.ensures
    (pieces _ c.push_named-4.new.text.items _ (codes "\ngaps_skipped " ++ decimal c.args.counts.gaps) _
    c.in_ok-push_named-4.ensures c.in_ok-push.ensures)))
