use Rattle.cdc_run_command.proofs.Words.{AreMerged, List, Reply, SubscriberState, ap, ap₂, json_lines, json_lines-append, kept_values, map, numbered_values, replies_of, reply_values, subst, sym, ℕ, ◌++◌, ◌∙◌, ◌≡◌}
use Rattle.cdc_run_command.proofs.ObjectLemmas.{values_numbered}
use Rattle.cdc_run_command.proofs.run_objects.print_run_objects.Goals as goal

pub returns : goal.returns
returns c =
    let ran = c.args.ran.now in
    let found = c.in_ok-replies.ensures in
    let shares : map (λ v. v.items) c.as_slice-replies.result.now ≡ replies_of ran.report =
    ap (map (λ v. v.items)) c.as_slice-replies.ensures.value in
    let merged : AreMerged ran.owners.items (replies_of ran.report) found.0 =
    subst (λ (of : List (List Reply)). AreMerged ran.owners.items of found.0) shares
    (subst (λ (order : List ℕ). AreMerged order (map (λ v. v.items) c.as_slice-replies.result.now) found.0)
    c.as_slice-order.ensures.value found.1.0) in
    let emitted : c.push_replies.new.lines.text.items ≡ json_lines (reply_values 1 found.0) =
    c.in_ok-push_replies.ensures
    ∙ ap₂ (λ (text : List ℕ) (replies : List Reply). text ++ json_lines (numbered_values 1 replies))
    c.new-lines.ensures (ap (map (λ r. r.now)) c.as_slice.ensures.value ∙ found.1.1)
    ∙ ap json_lines (values_numbered 1 found.0) in
    record {
      replies = found.0;
      merged = merged;
      prints = c.into_text.ensures ∙ c.in_ok-push_kept.ensures
          ∙ ap₂ (λ (text : List ℕ) (kept : List SubscriberState). text ++ json_lines (kept_values 1 kept)) emitted
          c.as_slice-2.ensures.value
          ∙ sym (json_lines-append (reply_values 1 found.0) (kept_values 1 ran.report.subscribers.items));
    }
