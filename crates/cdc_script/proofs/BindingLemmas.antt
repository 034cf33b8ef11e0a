-- The binding of a subscriber line, read from its leading printable words.
use Rattle.std.proofs.Common.{◌≡◌, ℕ, true, false, List, [], ◌∷◌, ◌++◌, map, Bor, Some, Option, refl, append_assoc}
use Rattle.std.specs.List.{take_while}
use Rattle.std.specs.Result.{is_ok}
use Rattle.std.proofs.lemmas.List.{map-append}
use Rattle.std.proofs.lemmas.List.Sums.{take_while-cons}
use Rattle.cdc_match.specs.Parsing.{arguments_of}
use Rattle.cdc_script.specs.Statements.{refused_word}
use Rattle.cdc_script.specs.Words.{Placed, is_clear}

-- a printable word leads those after it
leads : (word : Placed) (rest : List Placed) → is_clear word ≡ true
    → take_while is_clear (word ∷ rest) ≡ word ∷ take_while is_clear rest
leads word rest clear = rw (take_while-cons is_clear word rest, clear) refl

-- a printable word joins those before it
pub one_more : (texts : List (Bor (List ℕ))) (text : Bor (List ℕ)) (word : Placed) (rest : List Placed)
    (wanted : List (List ℕ))
    → map (λ t. t.now) texts ++ map (λ w. w.bytes) (take_while is_clear (word ∷ rest)) ≡ wanted
    → is_clear word ≡ true → text.now ≡ word.bytes
    → map (λ t. t.now) (texts ++ text ∷ []) ++ map (λ w. w.bytes) (take_while is_clear rest) ≡ wanted
one_more texts text word rest wanted before clear same =
    let known = rw (leads word rest clear) at before in
    rw (map-append, append_assoc, same) known

-- the words up to this one are a binding
pub refused_later : (texts : List (Bor (List ℕ))) (text : Bor (List ℕ)) (word : Placed) (rest : List Placed)
    (wanted : Option Placed) → refused_word (map (λ t. t.now) texts) (take_while is_clear (word ∷ rest)) ≡ wanted
    → is_clear word ≡ true → text.now ≡ word.bytes
    → is_ok (arguments_of (map (λ t. t.now) (texts ++ text ∷ []))) ≡ true
    → refused_word (map (λ t. t.now) (texts ++ text ∷ [])) (take_while is_clear rest) ≡ wanted
refused_later texts text word rest wanted before clear same fine =
    let joined : map (λ t. t.now) (texts ++ text ∷ []) ≡ map (λ t. t.now) texts ++ word.bytes ∷ []
    = rw (map-append, same) refl in
    let known = rw (leads word rest clear) at before in
    let fine' = rw joined at fine in
    rw joined (rw fine' at known)

-- they are none
pub refused_here : (texts : List (Bor (List ℕ))) (text : Bor (List ℕ)) (word : Placed) (rest : List Placed)
    (wanted : Option Placed) → refused_word (map (λ t. t.now) texts) (take_while is_clear (word ∷ rest)) ≡ wanted
    → is_clear word ≡ true → text.now ≡ word.bytes
    → is_ok (arguments_of (map (λ t. t.now) (texts ++ text ∷ []))) ≡ false → Some word ≡ wanted
refused_here texts text word rest wanted before clear same bad =
    let joined : map (λ t. t.now) (texts ++ text ∷ []) ≡ map (λ t. t.now) texts ++ word.bytes ∷ []
    = rw (map-append, same) refl in
    let known = rw (leads word rest clear) at before in
    let bad' = rw joined at bad in
    rw bad' at known
