use Rattle.cdc_run_command.proofs.Words.{Batch, List, [], ap, ap₂, arith, map, map-append, own_of, shares_from, sym, ◌++◌, ◌+◌, ◌∙◌, ◌∷◌, ◌≡◌}
use Rattle.cdc_run_command.proofs.ShareLemmas.{own_of-others, shares_from-more}
use Rattle.cdc_run_command.proofs.shares.part_entries.Goals as goal

pub loop-place-preserved : goal.loop-place-preserved
loop-place-preserved c =
    let place = c.loop-place.place in
    let entries = c.args.entries.items in
    let own : c.in_ok-own.field-0.own.items ≡ own_of (1 + place) entries =
    c.in_ok-own.ensures.own ∙ c.loop-place.invariant.stays (place + 1) (omega arith)
    ∙ ap (λ n. own_of n entries) (let e : place + 1 ≡ 1 + place = omega arith in e) in
    record {
      parted = ap (map (λ s. s.items)) c.in_ok-push.ensures.items
          ∙ map-append (λ s. s.items) c.loop-place.scripts.items _
          ∙ ap₂ (λ (scripts : List (List Batch)) (script : List Batch). scripts ++ script ∷ [])
          c.loop-place.invariant.parted own
          ∙ sym (shares_from-more 1 place entries);
      stays = λ client above.
          ap (own_of client) c.in_ok-own.ensures.others
          ∙ own_of-others client (place + 1) c.loop-place.left.items (λ same. omega (arith, same, above))
          ∙ c.loop-place.invariant.stays client (omega (arith, above));
    }

pub returns : goal.returns
returns c =
    c.loop-place.invariant.parted
    ∙ ap (λ n. shares_from 1 n c.args.entries.items)
    (let e : c.loop-place.place ≡ c.args.clients =
    omega (arith, c.loop-place-test.false, c.loop-place.auto.place-end) in e)
