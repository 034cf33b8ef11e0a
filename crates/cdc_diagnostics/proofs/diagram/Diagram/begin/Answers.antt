use Rattle.cdc_diagnostics.proofs.Words.{List, add-one, ap, append_assoc, codes, diagram_head, participant, participants, sym, ℕ, ◌++◌, ◌+◌, ◌∙◌, ◌≡◌}
use Rattle.cdc_diagnostics.proofs.diagram.Diagram.begin.Goals as goal

-- one more subscriber
one_more : (i : ℕ) → diagram_head (i + 1) ≡ diagram_head i ++ participant (i + 1)
one_more i =
    ap diagram_head (add-one i)
    ∙ sym (append_assoc (diagram_head 0) (participants i) (participant (i + 1)))

pub loop-place-init : goal.loop-place-init
loop-place-init c bytes held kept =
    let one : List ℕ = bytes ++ codes "sequenceDiagram\n" in
    let two : List ℕ = one ++ codes "    participant L as ledger\n" in
    let three : List ℕ = two ++ codes "    participant C as connector\n" in
    simp append_assoc at (c.push-4.ensures.holds three (c.push-3.ensures.holds two (c.push-2.ensures.holds one
    (c.push.ensures.holds bytes held))) kept)

pub loop-place-preserved : goal.loop-place-preserved
loop-place-preserved c bytes held kept =
    let head : List ℕ = diagram_head c.loop-place.place in
    let next : List ℕ = participant (c.loop-place.place + 1) in
    let all = rw c.participant.ensures at (c.push_sentence.ensures (bytes ++ head)
    (c.loop-place.invariant bytes held) kept) in
    all ∙ (append_assoc bytes head next ∙ ap (λ (more : List ℕ). bytes ++ more) (sym (one_more c.loop-place.place)))
