use Rattle.std.proofs.Common.{◌≡◌, ◌<◌, ℕ, List, [], map, length, get_or, Bor, Err, inl, sym, ◌∙◌, ap, arith}
use Rattle.std.proofs.lemmas.List.{get_or-map, length-map}
use Rattle.std.proofs.lemmas.Result.{err_from_is_err_and}
use Rattle.cdc_types.specs.declared.bounds.TheConstants.Limits.{BINDING_PAIRS}
use Rattle.cdc_match.specs.declared.errors.BindError.{BindError}
use Rattle.cdc_match.specs.declared.pairs.Pair.{Pair}
use Rattle.cdc_match.specs.Parsing.{Read, pair_of}
use Rattle.cdc_match.proofs.PairLemmas.{pairs_more, pairs_fault, pairs_begin, spares-pair_of}
use Rattle.cdc_match.proofs.binding.pairs_of.Goals as goal

-- the texts of the words
abbrev texts : List (Bor (List ℕ)) → List (List ℕ)
texts words = map (λ word. word.now) words

-- the pair of a word that the loop reads, by its text
pair_at : (words : List (Bor (List ℕ))) (i : ℕ) (other : Bor (List ℕ)) (answer : Read Pair) → i < length words
    → answer ≡ pair_of (get_or words i other).now → pair_of (get_or (texts words) i []) ≡ answer
pair_at words i other answer below h = ap pair_of (get_or-map (λ word. word.now) words i other [] below) ∙ sym h

-- the texts are as many as the words
within : (words : List (Bor (List ℕ))) (i : ℕ) → i < length words → i < length (texts words)
within words i below = rw (length-map words (λ word. word.now)) below

-- an answer has one fault
one_fault : {A : Type 0} (answer : Read A) (one two : BindError) → answer ≡ Err one → answer ≡ Err two → one ≡ two
one_fault answer one two h k = cc

pub returns-in_err-pair-clause-pairs : goal.returns-in_err-pair-clause-pairs
returns-in_err-pair-clause-pairs c =
    let p = err_from_is_err_and c.from_residual.result c.from_residual.ensures.1 in
    let below = c.loop-word-test.true in
    let before = c.loop-word.invariant in
    let few : c.loop-word.word-index < BINDING_PAIRS =
    omega (arith, before.few, before.counted, c.len.ensures, c.if-len-eq-BINDING_PAIRS.false) in
    let fault = pair_at c.args.words.now c.loop-word.word-index _ _ below c.in_err-pair.ensures in
    rw (p.1, p.2) (inl (pairs_fault (texts c.args.words.now) c.loop-word.word-index c.loop-word.pairs.items _
    (within _ _ below) few before.found fault))

pub returns-in_err-pair-clause-memory : goal.returns-in_err-pair-clause-memory
returns-in_err-pair-clause-memory c h =
    let p = err_from_is_err_and c.from_residual.result c.from_residual.ensures.1 in
    let memory = one_fault c.from_residual.result _ _ p.1 h in
    let fault = pair_at c.args.words.now c.loop-word.word-index _ _ c.loop-word-test.true c.in_err-pair.ensures in
    absurd (spares-pair_of (get_or (texts c.args.words.now) c.loop-word.word-index [])
    (fault ∙ ap (λ e. Err e) (sym p.2 ∙ memory)))

pub returns-in_err-push-clause-memory : goal.returns-in_err-push-clause-memory
returns-in_err-push-clause-memory c h =
    let below = c.loop-word-test.true in
    let pair = pair_at c.args.words.now c.loop-word.word-index _ _ below c.in_ok-pair.ensures in
    pairs_begin (texts c.args.words.now) c.loop-word.word-index _ (within _ _ below)
    (pairs_more (texts c.args.words.now) c.loop-word.word-index c.loop-word.pairs.items c.in_ok-pair.pair
    (within _ _ below) c.loop-word.invariant.found pair)

pub loop-word-preserved : goal.loop-word-preserved
loop-word-preserved c =
    let below = c.loop-word-test.true in
    let before = c.loop-word.invariant in
    let pair = pair_at c.args.words.now c.loop-word.word-index _ _ below c.in_ok-pair.ensures in
    record {
      found = rw c.in_ok-push.ensures.items
          (pairs_more (texts c.args.words.now) c.loop-word.word-index c.loop-word.pairs.items c.in_ok-pair.pair
          (within _ _ below) before.found pair);
      counted = grind (arith, c.in_ok-push.ensures.items, before.counted);
      few = omega (arith, before.few, before.counted, c.len.ensures, c.if-len-eq-BINDING_PAIRS.false);
    }
