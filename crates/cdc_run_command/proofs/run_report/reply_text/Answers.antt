use Rattle.cdc_run_command.proofs.Words.{List, Reply, Some, ap, append-nil, append_assoc, arith, batch_line, drop, drop_all, drop_found, length-map, map, numbered_lines, option_map, refl, slice_get, slice_get-map, slice_get_read, string_bytes, sym, ℕ, ◌++◌, ◌+◌, ◌∙◌, ◌≡◌}
use Rattle.cdc_run_command.proofs.run_report.reply_text.Goals as goal

pub loop-place-preserved : goal.loop-place-preserved
loop-place-preserved c =
    let all : List Reply = map (λ r. r.now) c.args.replies.now in
    let place = c.loop-place.place in
    let reply : Reply = c.index-replies-place.result.now in
    let there : slice_get all place ≡ Some reply =
    slice_get-map (λ r. r.now) c.args.replies.now place
    ∙ ap (option_map (λ r. r.now))
    (slice_get_read c.args.replies.now _ place c.index-replies-place.result refl c.loop-place-test.true
    c.index-replies-place.is) in
    let lines = string_bytes c.loop-place.lines in
    let rest = numbered_lines (place + 1 + 1) (drop (place + 1) all) in
    ap (λ (text : List ℕ). text ++ rest) c.in_ok-push_batch.ensures
    ∙ append_assoc lines (batch_line (place + 1) reply.answer) rest
    ∙ sym (ap (λ (left : List Reply). lines ++ numbered_lines (place + 1) left) (drop_found all place reply there))
    ∙ c.loop-place.invariant

pub returns : goal.returns
returns c =
    let all : List Reply = map (λ r. r.now) c.args.replies.now in
    let place = c.loop-place.place in
    let lines = string_bytes c.loop-place.lines in
    let none = drop_all place all
    (omega (arith, length-map c.args.replies.now (λ r. r.now), c.loop-place-test.false)) in
    sym (append-nil lines)
    ∙ ap (λ (left : List Reply). lines ++ numbered_lines (place + 1) left) (sym none)
    ∙ c.loop-place.invariant ∙ ap (λ (text : List ℕ). text ++ numbered_lines 1 all) c.new-lines.ensures.bytes
