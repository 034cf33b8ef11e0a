use Rattle.std.proofs.Common.{◌<◌, ◌∙◌, List, ℕ, ap, ap₂, arith, length, map, sym}
use Rattle.std.specs.declared.alloc.Global.{Global}
use Rattle.std.specs.declared.vec.Vec.{Vec}
use Rattle.cdc_bindings.specs.Bindings.{is_of}
use Rattle.cdc_chain_command.specs.States.{are_of}
use Rattle.cdc_chain_command.proofs.ReadLemmas.{length_map, map_at, one_other, one_same, other_number}
use Rattle.cdc_chain_command.proofs.starts.are_of.Goals as goal

-- the bytes of a text
abbrev bytes : Vec ℕ Global → List ℕ
bytes t = t.items

pub returns-then-bindings-texts : goal.returns-then-bindings-texts
returns-then-bindings-texts c =
    sym (other_number c.args.bindings.now (map bytes c.args.texts.now)
    (λ same. c.if-bindings-texts.true (same ∙ length_map bytes c.args.texts.now)))

pub returns-then-not-branch : goal.returns-then-not-branch
returns-then-not-branch c =
    let place = c.loop-place.place in
    let binding = c.index-bindings-place.result in
    let text = c.index-texts-place.result in
    let some : c.loop-place.place < length c.args.bindings.now = c.loop-place-test.true in
    let within : c.loop-place.place < length c.args.texts.now = omega (arith, some, c.if-bindings-texts.false) in
    let also : c.loop-place.place < length (map bytes c.args.texts.now) =
    omega (arith, within, length_map bytes c.args.texts.now) in
    let this = map_at bytes c.args.texts.now place text within ∙ ap bytes (sym c.index-texts-place.is) in
    let same = ap₂ is_of (sym c.index-bindings-place.is) (this ∙ sym c.as_slice.ensures.value) in
    one_other c.args.bindings.now (map bytes c.args.texts.now) place binding text.items
    (are_of c.args.bindings.now (map bytes c.args.texts.now)) some also
    (same ∙ sym c.in_ok-is_of.ensures ∙ c.if-not-branch.true) c.loop-place.invariant

pub loop-place-preserved : goal.loop-place-preserved
loop-place-preserved c =
    let place = c.loop-place.place in
    let binding = c.index-bindings-place.result in
    let text = c.index-texts-place.result in
    let some : c.loop-place.place < length c.args.bindings.now = c.loop-place-test.true in
    let within : c.loop-place.place < length c.args.texts.now = omega (arith, some, c.if-bindings-texts.false) in
    let also : c.loop-place.place < length (map bytes c.args.texts.now) =
    omega (arith, within, length_map bytes c.args.texts.now) in
    let this = map_at bytes c.args.texts.now place text within ∙ ap bytes (sym c.index-texts-place.is) in
    let same = ap₂ is_of (sym c.index-bindings-place.is) (this ∙ sym c.as_slice.ensures.value) in
    one_same c.args.bindings.now (map bytes c.args.texts.now) place binding text.items
    (are_of c.args.bindings.now (map bytes c.args.texts.now)) some also
    (same ∙ sym c.in_ok-is_of.ensures ∙ c.if-not-branch.false) c.loop-place.invariant
