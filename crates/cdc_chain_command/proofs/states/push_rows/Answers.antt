use Rattle.std.proofs.Common.{◌≡◌, ◌<◌, ◌∙◌, ◌++◌, List, ℕ, ap, arith, get_or, length, map, sym}
use Rattle.std.specs.declared.alloc.Global.{Global}
use Rattle.std.specs.declared.vec.Vec.{Vec}
use Rattle.cdc_chain_command.specs.States.{row, rows}
use Rattle.cdc_chain_command.proofs.ReadLemmas.{length_map, map_at, min_past, rows_done, rows_more}
use Rattle.cdc_chain_command.proofs.states.push_rows.Goals as goal

-- the bytes of a text
abbrev bytes : Vec ℕ Global → List ℕ
bytes t = t.items

pub loop-place-preserved : goal.loop-place-preserved
loop-place-preserved c =
    let texts = map bytes c.args.texts.now in
    let place = c.loop-place.place in
    let text = c.index-texts-place.result in
    let many = length_map bytes c.args.texts.now in
    let some : c.loop-place.place < length (map bytes c.args.texts.now) =
    omega (arith, c.loop-place-test.true, c.min-count.ensures, many) in
    let within : c.loop-place.place < length c.args.texts.now = omega (arith, some, many) in
    let also : c.loop-place.place < length c.args.places.now =
    omega (arith, c.loop-place-test.true, c.min-count.ensures) in
    let this = map_at bytes c.args.texts.now place text within ∙ ap bytes (sym c.index-texts-place.is) in
    rows_more texts c.args.places.now place text.items 0 c.loop-place.text.items c.push_row.new.text.items
    (c.args.text.now.items ++ rows texts c.args.places.now) some also c.loop-place.invariant
    (c.in_ok-push_row.ensures ∙ ap (λ (t : List ℕ). c.loop-place.text.items ++ row t (get_or c.args.places.now place 0))
    (c.as_slice.ensures.value ∙ sym this))

pub returns : goal.returns
returns c =
    let texts = map bytes c.args.texts.now in
    rows_done texts c.args.places.now c.loop-place.place c.loop-place.text.items
    (c.args.text.now.items ++ rows texts c.args.places.now)
    (min_past (length texts) (length c.args.places.now) c.loop-place.place c.min-count.result
    (let same : c.min-count.result ≡ _ = c.min-count.ensures in rw (length_map bytes c.args.texts.now) same)
    c.loop-place-test.false) c.loop-place.invariant
