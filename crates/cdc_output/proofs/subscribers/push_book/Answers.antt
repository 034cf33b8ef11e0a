use Rattle.std.proofs.Common.{arith, ap, ◌∙◌}
use Rattle.std.specs.List.{slice_get}
use Rattle.cdc_output.proofs.FoundElements.{found_within}
use Rattle.cdc_output.specs.Lines.{account_value}
use Rattle.cdc_output.specs.declared.lines.Lines.{Lines}
use Rattle.cdc_output.proofs.LineLemmas.{entry_there, lines_more, none_there}
use Rattle.cdc_output.proofs.subscribers.push_book.Goals as goal
use Rattle.cdc_output.proofs.subscribers.push_book.Goals.{in-Some+in_ok-push_account, in_default}

pub loop-place-preserved : goal.loop-place-preserved
loop-place-preserved c =
    let book = c.args.book.now in
    let place = c.loop-place.place in
    elim c.match-at_place.branch [
      | in-Some+in_ok-push_account w ↦
          lines_more (account_value c.args.number) book place _ _ _ _ c.loop-place.invariant
          (entry_there (slice_get book place) _ _ w.in-Some.ensures)
          (ap (λ (now : Lines). now.text.items) w.lines-is ∙ w.in_ok-push_account.ensures)
      | in_default w ↦
          absurd (found_within book place (omega (arith, c.len-place-end.ensures))
          (none_there (slice_get book place) w.in_default.ensures))
    ]
