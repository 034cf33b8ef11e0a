use Rattle.cdc_run_command.proofs.Words.{AreMerged, List, Reply, SubscriberState, ap, ap₂, kept_text, map, numbered_lines, replies_of, reply_lines, subst, ℕ, ◌++◌, ◌∙◌, ◌≡◌}
use Rattle.cdc_run_command.proofs.ReplyLemmas.{lines_numbered}
use Rattle.cdc_run_command.proofs.run_report.print_run.Goals as goal

pub returns : goal.returns
returns c =
    let ran = c.args.ran.now in
    let found = c.in_ok-replies.ensures in
    let shares : map (λ v. v.items) c.as_slice-replies.result.now ≡ replies_of ran.report =
    ap (map (λ v. v.items)) c.as_slice-replies.ensures.value in
    let merged : AreMerged ran.owners.items (replies_of ran.report) found.0 =
    subst (λ (of : List (List Reply)). AreMerged ran.owners.items of found.0) shares
    (subst (λ (order : List ℕ). AreMerged order (map (λ v. v.items) c.as_slice-replies.result.now) found.0)
    c.as_slice-order.ensures.value found.1.0) in
    let lines : c.into_bytes-text.result.items ≡ reply_lines 1 found.0 =
    ap (λ v. v.items) c.into_bytes-text.ensures.value ∙ c.in_ok-reply_text.ensures
    ∙ ap (λ rs. numbered_lines 1 (map (λ r. r.now) rs)) c.as_slice.ensures.value
    ∙ ap (numbered_lines 1) found.1.1 ∙ lines_numbered 1 found.0 in
    record {
      replies = found.0;
      merged = merged;
      prints = c.in_ok-push_kept.ensures
          ∙ ap₂ (λ (text : List ℕ) (kept : List SubscriberState). text ++ kept_text 1 kept) lines
          c.as_slice-2.ensures.value;
    }
