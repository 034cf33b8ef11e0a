use Rattle.cdc_diagnostics.proofs.Words.{Seen, [], ap, arith, diagram_line, diagram_text, if_asked, length, length-append, sym, taken_after, taken_with, trace_line, trace_text, ℕ, ◌++◌, ◌+◌, ◌∙◌, ◌∷◌, ◌≡◌}
use Rattle.cdc_diagnostics.proofs.OneMoreStep.{diagram_text-more, if_asked-more, taken_after-more, taken_after-most, trace_after-more}
use Rattle.cdc_diagnostics.proofs.recordings.Recording.see.Goals as goal

-- a step more is a line more of each text that is asked for
pub returns-clause-seen : goal.returns-clause-seen
returns-clause-seen c seen has few =
    let now : Seen = record {
      step = c.args.step.now;
      did = c.args.did.now;
      moved = c.args.moved;
      history = c.args.ledger.now;
    } in
    let one_more : length (seen ++ now ∷ []) ≡ length seen + 1 = length-append seen (now ∷ []) in
    let old = has (omega arith) in
    let n : ℕ = taken_after 0 seen in
    let taken : c.taken_with-batches.result ≡ taken_with n now.step =
    c.taken_with-batches.ensures (omega (arith, old.batches, taken_after-most 0 seen))
    ∙ ap (λ (k : ℕ). taken_with k now.step) old.batches in
    let trace : trace_text (seen ++ now ∷ []) ≡ trace_text seen ++ trace_line c.taken_with-batches.result now =
    trace_after-more 0 seen now ∙ ap (λ (k : ℕ). trace_text seen ++ trace_line k now) (sym taken) in
    let subscribers : ℕ = c.args.self.now.subscribers in
    let diagram : diagram_text subscribers (seen ++ now ∷ [])
    ≡ diagram_text subscribers seen ++ diagram_line c.taken_with-batches.result now =
    diagram_text-more subscribers seen now
    ∙ ap (λ (k : ℕ). diagram_text subscribers seen ++ diagram_line k now) (sym taken) in
    record {
      batches = taken ∙ sym (taken_after-more 0 seen now);
      trace = λ kept.
          c.push_trace.ensures (if_asked c.args.self.now.asked.trace (trace_text seen)) old.trace kept
          ∙ if_asked-more c.args.self.now.asked.trace (trace_text seen) (trace_line c.taken_with-batches.result now)
          (trace_text (seen ++ now ∷ [])) trace;
      diagram = λ kept.
          c.push_diagram.ensures (if_asked c.args.self.now.asked.diagram (diagram_text subscribers seen))
          old.diagram kept
          ∙ if_asked-more c.args.self.now.asked.diagram (diagram_text subscribers seen)
          (diagram_line c.taken_with-batches.result now) (diagram_text subscribers (seen ++ now ∷ [])) diagram;
    }
