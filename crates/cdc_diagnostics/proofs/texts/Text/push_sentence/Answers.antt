use Rattle.std.proofs.Common.{◌++◌, List, ℕ, append_assoc, decimal}
use Rattle.cdc_diagnostics.proofs.texts.Text.push_sentence.Goals as goal

pub returns-in-Two : goal.returns-in-Two
returns-in-Two c bytes held kept =
    let one : List ℕ = bytes ++ c.in-Two.a.now in
    let two : List ℕ = one ++ decimal c.in-Two.first ++ c.in-Two.b.now in
    rw c.in-Two.is (simp append_assoc (simp append_assoc at
    (c.push_with-in-Two-2.ensures two (c.push_with-in-Two.ensures one (c.push-in-Two.ensures.holds bytes held)) kept)))

pub returns-in-Three : goal.returns-in-Three
returns-in-Three c bytes held kept =
    let one : List ℕ = bytes ++ c.in-Three.a.now in
    let two : List ℕ = one ++ decimal c.in-Three.first ++ c.in-Three.b.now in
    let three : List ℕ = two ++ decimal c.in-Three.second ++ c.in-Three.c.now in
    rw c.in-Three.is (simp append_assoc (simp append_assoc at
    (c.push_with-in-Three-3.ensures three (c.push_with-in-Three-2.ensures two (c.push_with-in-Three.ensures one
    (c.push-in-Three.ensures.holds bytes held))) kept)))

pub returns-in-Four : goal.returns-in-Four
returns-in-Four c bytes held kept =
    let one : List ℕ = bytes ++ c.in-Four.a.now in
    let two : List ℕ = one ++ decimal c.in-Four.first ++ c.in-Four.b.now in
    let three : List ℕ = two ++ decimal c.in-Four.second ++ c.in-Four.c.now in
    let four : List ℕ = three ++ decimal c.in-Four.third ++ c.in-Four.d.now in
    rw c.in-Four.is (simp append_assoc (simp append_assoc at
    (c.push_number.ensures four (c.push_with-in-Four-3.ensures three (c.push_with-in-Four-2.ensures two
    (c.push_with-in-Four.ensures one (c.push-in-Four.ensures.holds bytes held)))) kept)))
