use Rattle.std.proofs.Common.{◌≡◌, ◌∙◌, ◌++◌, ap, arith, drop, length, sym, refl}
use Rattle.std.proofs.lemmas.List.{append_cancel_left, length-append, take-append-drop}
use Rattle.std.proofs.Math.Seq.{drop-append_seam}
use Rattle.cdc_frames.specs.Frames.{closing, opening}
use Rattle.cdc_frames.proofs.FrameLemmas.{frame_of, parts_of}
use Rattle.cdc_frames.proofs.frames.read_frame.Goals as goal

pub returns-in_default-clause-torn : goal.returns-in_default-clause-torn
returns-in_default-clause-torn c = λ none content rest is.
    let name = c.args.name.now in
    let number = c.args.number in
    let size = c.stated_size-size.result in
    let parts = parts_of name number size c.args.text.now content rest c.ranges.number.fits (omega arith)
    c.stated_size-size.ensures is in
    let first = c.as_slice.ensures.value ∙ c.in_ok-first.ensures in
    c.in_default.ensures.none refl (content ++ (closing number size ++ rest))
    (parts.text_is ∙ ap (λ l. l ++ (content ++ (closing number size ++ rest))) (sym first))

pub returns-then-size-content-clause-torn : goal.returns-then-size-content-clause-torn
returns-then-size-content-clause-torn c = λ none content rest is.
    let name = c.args.name.now in
    let number = c.args.number in
    let size = c.stated_size-size.result in
    let parts = parts_of name number size c.args.text.now content rest c.ranges.number.fits (omega arith)
    c.stated_size-size.ensures is in
    let first = c.as_slice.ensures.value ∙ c.in_ok-first.ensures in
    let text : c.args.text.now ≡ opening name number size ++ c.in-Some.content.now =
    c.in-Some.ensures.begins ∙ ap (λ l. l ++ c.in-Some.content.now) first in
    let left = append_cancel_left (opening name number size) _ _ (sym text ∙ parts.text_is) in
    let long : length c.in-Some.content.now ≡ length (content ++ (closing number size ++ rest)) = ap length left in
    let all = length-append content (closing number size ++ rest) in
    let size_is = parts.size_is in
    absurd (omega (arith, c.if-size-content.true, long, all, size_is))

pub returns-in_default-after-clause-torn : goal.returns-in_default-after-clause-torn
returns-in_default-after-clause-torn c = λ none content rest is.
    let name = c.args.name.now in
    let number = c.args.number in
    let size = c.stated_size-size.result in
    let parts = parts_of name number size c.args.text.now content rest c.ranges.number.fits (omega arith)
    c.stated_size-size.ensures is in
    let first = c.as_slice.ensures.value ∙ c.in_ok-first.ensures in
    let last = c.as_slice-2.ensures.value ∙ c.in_ok-last.ensures in
    let text : c.args.text.now ≡ opening name number size ++ c.in-Some.content.now =
    c.in-Some.ensures.begins ∙ ap (λ l. l ++ c.in-Some.content.now) first in
    let left = append_cancel_left (opening name number size) _ _ (sym text ∙ parts.text_is) in
    let back = c.split_at.ensures.back ∙ ap (λ l. drop size l) left
    ∙ ap (λ n. drop n (content ++ (closing number size ++ rest))) parts.size_is
    ∙ drop-append_seam content (closing number size ++ rest) in
    c.in_default-after.ensures.none refl rest (back ∙ ap (λ l. l ++ rest) (sym last))

pub returns-clause-whole : goal.returns-clause-whole
returns-clause-whole c =
    let name = c.args.name.now in
    let number = c.args.number in
    let size = c.stated_size-size.result in
    let front = c.split_at.result.0.now in
    let rest = c.in-Some-after.rest.now in
    let first = c.as_slice.ensures.value ∙ c.in_ok-first.ensures in
    let last = c.as_slice-2.ensures.value ∙ c.in_ok-last.ensures in
    let text : c.args.text.now ≡ opening name number size ++ c.in-Some.content.now =
    c.in-Some.ensures.begins ∙ ap (λ l. l ++ c.in-Some.content.now) first in
    let back : c.split_at.result.1.now ≡ closing number size ++ rest =
    c.in-Some-after.ensures.begins ∙ ap (λ l. l ++ rest) last in
    let content : c.in-Some.content.now ≡ front ++ c.split_at.result.1.now =
    sym (take-append-drop size c.in-Some.content.now)
    ∙ ap (λ l. l ++ drop size c.in-Some.content.now) (sym c.split_at.ensures.front)
    ∙ ap (λ l. front ++ l) (sym c.split_at.ensures.back) in
    frame_of name number size c.args.text.now front rest c.split_at.ensures.front_len
    (text ∙ ap (λ l. opening name number size ++ l) (content ∙ ap (λ l. front ++ l) back))
