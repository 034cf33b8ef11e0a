-- Texts of which the first eight bytes and the last eight are the same.
use Rattle.std.proofs.Common.{◌≡◌, ◌≤◌, ◌+◌, ◌-◌, ◌++◌, ◌∙◌, ℕ, List, length, take, drop, ap, sym, arith}
use Rattle.std.proofs.lemmas.List.{take-append-drop, drop-drop}
use Rattle.std.proofs.lemmas.List.Folds.{drop_split}
use Rattle.std.specs.List.{slice_range}

-- up to 16 bytes, what is behind the first eight is among the last eight
behind : (l : List ℕ) → 8 ≤ length l → length l ≤ 16 → drop (16 - length l) (drop (length l - 8) l) ≡ drop 8 l
behind l enough few =
    let all : length l - 8 + (16 - length l) ≡ 8 = omega (arith, enough, few) in
    drop-drop (16 - length l) (length l - 8) l ∙ ap (λ n. drop n l) all

-- texts of which the first eight bytes are the same, and all behind them
joined : (a b : List ℕ) → take 8 a ≡ take 8 b → drop 8 a ≡ drop 8 b → a ≡ b
joined a b first rest =
    sym (take-append-drop 8 a) ∙ ap (λ l. l ++ drop 8 a) first ∙ ap (λ l. take 8 b ++ l) rest ∙ take-append-drop 8 b

-- up to 16 bytes, the first eight and the last eight are all
pub meet : (a b : List ℕ) → length a ≡ length b → 8 ≤ length a → length a ≤ 16 → take 8 a ≡ take 8 b
    → drop (length a - 8) a ≡ drop (length b - 8) b → a ≡ b
meet a b same enough few first last =
    joined a b first
    (sym (behind a enough few) ∙ ap (drop (16 - length a)) last
    ∙ ap (λ n. drop (16 - n) (drop (length b - 8) b)) same
    ∙ behind b (omega (arith, enough, same)) (omega (arith, few, same)))

-- from 16 bytes up, all is the first eight, the last eight, and what is between them
pub are_one : (a b : List ℕ) → length a ≡ length b → 16 ≤ length a → take 8 a ≡ take 8 b
    → drop (length a - 8) a ≡ drop (length b - 8) b
    → slice_range a 8 (length a - 8) ≡ slice_range b 8 (length b - 8) → a ≡ b
are_one a b same many first last between =
    joined a b first
    (drop_split a 8 (length a - 8) (omega (arith, many))
    ∙ ap (λ l. l ++ drop (length a - 8) a) between
    ∙ ap (λ l. slice_range b 8 (length b - 8) ++ l) last
    ∙ sym (drop_split b 8 (length b - 8) (omega (arith, many, same))))
