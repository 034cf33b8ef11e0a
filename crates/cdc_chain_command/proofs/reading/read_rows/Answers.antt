use Rattle.std.proofs.Common.{◌≡◌, ◌+◌, ◌∙◌, ◌++◌, ◌∷◌, [], List, ℕ, ap, map, subst, sym}
use Rattle.std.proofs.lemmas.List.{map-append}
use Rattle.std.specs.declared.alloc.Global.{Global}
use Rattle.std.specs.declared.vec.Vec.{Vec}
use Rattle.cdc_chain_command.proofs.ReadLemmas.{ReadTo, read_more}
use Rattle.cdc_chain_command.proofs.reading.read_rows.Goals as goal

-- the bytes of a text
abbrev bytes : Vec ℕ Global → List ℕ
bytes t = t.items

pub loop-queue-preserved : goal.loop-queue-preserved
loop-queue-preserved c =
    let l = c.loop-queue in
    let it = c.read_row-row.result in
    let texts = map bytes l.texts.items in
    let more : map bytes c.push-in-loop-queue.new.self.items
    ≡ map bytes c.loop-queue.texts.items ++ c.read_row-row.result.binding.now ∷ [] =
    ap (map bytes) c.in_ok-push-2.ensures.items ∙ map-append bytes l.texts.items (c.in_ok-binding.binding ∷ [])
    ∙ ap (λ (one : List ℕ). texts ++ one ∷ []) c.in_ok-binding.ensures.items in
    subst (λ (places : List ℕ). ReadTo c.args.text.now c.args.count (l.queue + 1) it.rest.now places
    (map bytes c.push-in-loop-queue.new.self.items)) (sym c.in_ok-push.ensures.items)
    (subst (λ (all : List (List ℕ)). ReadTo c.args.text.now c.args.count (l.queue + 1) it.rest.now
    (l.places.items ++ it.place ∷ []) all) (sym more)
    (read_more c.args.text.now c.args.count l.queue l.rest.now l.places.items texts it c.loop-queue-test.true
    l.invariant
    c.read_row-row.ensures))
