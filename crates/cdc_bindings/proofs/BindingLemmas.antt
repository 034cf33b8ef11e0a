-- Bindings that mean the same take the same messages.
use Rattle.std.proofs.Common.{◌≡◌, ℕ, zero, suc, ◌+◌, ◌-◌, ◌<◌, ◌≤◌, List, [], ◌∷◌, ◌++◌, Some, None}
use Rattle.std.proofs.Common.{Bor, map, Bool, true, false, refl, ap, ◌∙◌, sym, arith, append_assoc, eqb-true}
use Rattle.std.proofs.Common.{IsUtf8, Err, inl, subst}
use Rattle.std.specs.Prelude.{◌&&◌, ◌||◌}
use Rattle.std.specs.List.{list_all, list_any}
use Rattle.std.proofs.lemmas.Bool.{false≢true}
use Rattle.std.proofs.lemmas.Str.{IsUtf8-from_is_utf8}
use Rattle.std.specs.Str.{is_utf8}
use Rattle.cdc_types.specs.declared.events.EventKind.{EventKind}
use Rattle.cdc_types.specs.declared.events.EventKind.TheVariants.{SinglePhase, TwoPhasePending, TwoPhasePosted}
use Rattle.cdc_types.specs.declared.events.EventKind.TheVariants.{TwoPhaseVoided, TwoPhaseExpired}
use Rattle.cdc_match.specs.declared.pairs.Mode.{Mode}
use Rattle.cdc_match.specs.declared.pairs.Mode.TheVariants.{All, Any}
use Rattle.cdc_match.specs.declared.pairs.Pair.{Pair}
use Rattle.cdc_match.specs.declared.pairs.Pair.TheVariants.{EventType, Ledger, TransferCode}
use Rattle.cdc_match.specs.declared.pairs.Pair.TheVariants.{DebitAccountCode, CreditAccountCode}
use Rattle.cdc_match.specs.declared.errors.BindError.TheVariants.{BadMode}
use Rattle.cdc_match.specs.Arguments.{Arguments}
use Rattle.cdc_match.specs.Errors.{GivesUnlessMemory}
use Rattle.cdc_match.specs.Parsing.{Read, arguments_of}
use Rattle.cdc_match.specs.Matching.{equals_header, pass, same_kind}
use Rattle.cdc_match.specs.Parts.{parted}
use Rattle.cdc_bindings.specs.Bindings.{SameBindingsTakeSame, are_among, is_among, same_mode, same_pair}
use Rattle.cdc_bindings.specs.Bindings.{binding_of, word_first, words}

-- ---- one and the same

same_kind_is : (one other : EventKind) → same_kind one other ≡ true → one ≡ other
same_kind_is SinglePhase SinglePhase is = refl
same_kind_is SinglePhase TwoPhasePending is = absurd (false≢true is)
same_kind_is SinglePhase TwoPhasePosted is = absurd (false≢true is)
same_kind_is SinglePhase TwoPhaseVoided is = absurd (false≢true is)
same_kind_is SinglePhase TwoPhaseExpired is = absurd (false≢true is)
same_kind_is TwoPhasePending SinglePhase is = absurd (false≢true is)
same_kind_is TwoPhasePending TwoPhasePending is = refl
same_kind_is TwoPhasePending TwoPhasePosted is = absurd (false≢true is)
same_kind_is TwoPhasePending TwoPhaseVoided is = absurd (false≢true is)
same_kind_is TwoPhasePending TwoPhaseExpired is = absurd (false≢true is)
same_kind_is TwoPhasePosted SinglePhase is = absurd (false≢true is)
same_kind_is TwoPhasePosted TwoPhasePending is = absurd (false≢true is)
same_kind_is TwoPhasePosted TwoPhasePosted is = refl
same_kind_is TwoPhasePosted TwoPhaseVoided is = absurd (false≢true is)
same_kind_is TwoPhasePosted TwoPhaseExpired is = absurd (false≢true is)
same_kind_is TwoPhaseVoided SinglePhase is = absurd (false≢true is)
same_kind_is TwoPhaseVoided TwoPhasePending is = absurd (false≢true is)
same_kind_is TwoPhaseVoided TwoPhasePosted is = absurd (false≢true is)
same_kind_is TwoPhaseVoided TwoPhaseVoided is = refl
same_kind_is TwoPhaseVoided TwoPhaseExpired is = absurd (false≢true is)
same_kind_is TwoPhaseExpired SinglePhase is = absurd (false≢true is)
same_kind_is TwoPhaseExpired TwoPhasePending is = absurd (false≢true is)
same_kind_is TwoPhaseExpired TwoPhasePosted is = absurd (false≢true is)
same_kind_is TwoPhaseExpired TwoPhaseVoided is = absurd (false≢true is)
same_kind_is TwoPhaseExpired TwoPhaseExpired is = refl

same_mode_is : (one other : Mode) → same_mode one other ≡ true → one ≡ other
same_mode_is All All is = refl
same_mode_is All Any is = absurd (false≢true is)
same_mode_is Any All is = absurd (false≢true is)
same_mode_is Any Any is = refl

same_pair_is : (one other : Pair) → same_pair one other ≡ true → one ≡ other
same_pair_is (EventType x) (EventType y) is = ap EventType (same_kind_is x y is)
same_pair_is (EventType x) (Ledger y) is = absurd (false≢true is)
same_pair_is (EventType x) (TransferCode y) is = absurd (false≢true is)
same_pair_is (EventType x) (DebitAccountCode y) is = absurd (false≢true is)
same_pair_is (EventType x) (CreditAccountCode y) is = absurd (false≢true is)
same_pair_is (Ledger x) (EventType y) is = absurd (false≢true is)
same_pair_is (Ledger x) (Ledger y) is = ap Ledger (eqb-true x y is)
same_pair_is (Ledger x) (TransferCode y) is = absurd (false≢true is)
same_pair_is (Ledger x) (DebitAccountCode y) is = absurd (false≢true is)
same_pair_is (Ledger x) (CreditAccountCode y) is = absurd (false≢true is)
same_pair_is (TransferCode x) (EventType y) is = absurd (false≢true is)
same_pair_is (TransferCode x) (Ledger y) is = absurd (false≢true is)
same_pair_is (TransferCode x) (TransferCode y) is = ap TransferCode (eqb-true x y is)
same_pair_is (TransferCode x) (DebitAccountCode y) is = absurd (false≢true is)
same_pair_is (TransferCode x) (CreditAccountCode y) is = absurd (false≢true is)
same_pair_is (DebitAccountCode x) (EventType y) is = absurd (false≢true is)
same_pair_is (DebitAccountCode x) (Ledger y) is = absurd (false≢true is)
same_pair_is (DebitAccountCode x) (TransferCode y) is = absurd (false≢true is)
same_pair_is (DebitAccountCode x) (DebitAccountCode y) is = ap DebitAccountCode (eqb-true x y is)
same_pair_is (DebitAccountCode x) (CreditAccountCode y) is = absurd (false≢true is)
same_pair_is (CreditAccountCode x) (EventType y) is = absurd (false≢true is)
same_pair_is (CreditAccountCode x) (Ledger y) is = absurd (false≢true is)
same_pair_is (CreditAccountCode x) (TransferCode y) is = absurd (false≢true is)
same_pair_is (CreditAccountCode x) (DebitAccountCode y) is = absurd (false≢true is)
same_pair_is (CreditAccountCode x) (CreditAccountCode y) is = ap CreditAccountCode (eqb-true x y is)

-- ---- pairs that are among others

-- both of two
and_both : (a b : Bool) → (a && b) ≡ true → (a ≡ true) × (b ≡ true)
and_both true b is = (refl, is)
and_both false b is = absurd (false≢true is)

-- the second of two, or the first
or_second : (a : Bool) → (a || true) ≡ true
or_second true = refl
or_second false = refl

-- two that imply each other are one
one_is_other : (a b : Bool) → (a ≡ true → b ≡ true) → (b ≡ true → a ≡ true) → a ≡ b
one_is_other true b there back = sym (there refl)
one_is_other false true there back = back refl
one_is_other false false there back = refl

module _ (test : Pair → Bool) where
  -- the first of others is this pair, or a later one is
  any_first : (pair x : Pair) (those : List Pair) (same : Bool) → same_pair pair x ≡ same → test pair ≡ true
      → (same ≡ false → list_any test those ≡ true) → (test x || list_any test those) ≡ true
  any_first pair x those true is passes later =
      ap (λ (b : Bool). b || list_any test those) (ap test (sym (same_pair_is pair x is)) ∙ passes)
  any_first pair x those false is passes later =
      ap (λ (b : Bool). test x || b) (later refl) ∙ or_second (test x)

  -- a pair that is none of the first ones is among the others
  among_later : (pair x : Pair) (those : List Pair) (same : Bool) → same_pair pair x ≡ same
      → is_among (x ∷ those) pair ≡ true → same ≡ false → is_among those pair ≡ true
  among_later pair x those same is among other =
      ap (λ (b : Bool). b || is_among those pair) (sym (is ∙ other)) ∙ among

  -- a pair that passes a test is among others, so one of these passes it
  any_of : (pair : Pair) (those : List Pair) → is_among those pair ≡ true → test pair ≡ true
      → list_any test those ≡ true
  any_of pair [] among passes = absurd (false≢true among)
  any_of pair (x ∷ those) among passes =
      any_first pair x those (same_pair pair x) refl passes
      (λ other. any_of pair those (among_later pair x those (same_pair pair x) refl among other) passes)

  -- the same of pairs, one of which passes it
  any_there : (those these : List Pair) → are_among those these ≡ true → list_any test these ≡ true
      → list_any test those ≡ true
  any_there those [] among passes = absurd (false≢true passes)
  any_there those (pair ∷ these) among passes = by_first (test pair) refl passes
      (any_there those these (and_both (is_among those pair) (are_among those these) among).1)
    where
      by_first : (first : Bool) → test pair ≡ first → (first || list_any test these) ≡ true
          → (list_any test these ≡ true → list_any test those ≡ true) → list_any test those ≡ true
      by_first true is _ later =
          any_of pair those (and_both (is_among those pair) (are_among those these) among).0 is
      by_first false is rest later = later rest

  -- the first of others is this pair, which passes a test with them, or a later one is
  all_first : (pair x : Pair) (those : List Pair) (same : Bool) → same_pair pair x ≡ same
      → list_all test (x ∷ those) ≡ true → (same ≡ false → list_all test those ≡ true → test pair ≡ true)
      → test pair ≡ true
  all_first pair x those true is all later =
      ap test (same_pair_is pair x is) ∙ (and_both (test x) (list_all test those) all).0
  all_first pair x those false is all later = later refl (and_both (test x) (list_all test those) all).1

  -- a pair is among others that pass a test, so it passes it
  all_of : (pair : Pair) (those : List Pair) → is_among those pair ≡ true → list_all test those ≡ true
      → test pair ≡ true
  all_of pair [] among all = absurd (false≢true among)
  all_of pair (x ∷ those) among all =
      all_first pair x those (same_pair pair x) refl all
      (λ other rest. all_of pair those (among_later pair x those (same_pair pair x) refl among other) rest)

  -- the same of pairs
  all_there : (those these : List Pair) → are_among those these ≡ true → list_all test those ≡ true
      → list_all test these ≡ true
  all_there those [] among all = refl
  all_there those (pair ∷ these) among all =
      let both = and_both (is_among those pair) (are_among those these) among in
      ap (λ (b : Bool). b && list_all test these) (all_of pair those both.0 all)
      ∙ all_there those these both.1 all

  -- lists of the same pairs pass alike
  same_pass : (mode : Mode) (one other : List Pair) → are_among other one ≡ true → are_among one other ≡ true
      → pass mode test one ≡ pass mode test other
  same_pass All one other there back =
      one_is_other (list_all test one) (list_all test other) (all_there one other back) (all_there other one there)
  same_pass Any one other there back =
      one_is_other (list_any test one) (list_any test other) (any_there other one there) (any_there one other back)

pub same_take : SameBindingsTakeSame
same_take one other headers is =
    let modes = and_both (same_mode one.mode other.mode)
    (are_among other.pairs one.pairs && are_among one.pairs other.pairs) is in
    let pairs = and_both (are_among other.pairs one.pairs) (are_among one.pairs other.pairs) modes.1 in
    ap (λ (mode : Mode). pass mode (equals_header headers) one.pairs) (same_mode_is one.mode other.mode modes.0)
    ∙ same_pass (equals_header headers) other.mode one.pairs other.pairs pairs.0 pairs.1

-- ---- the words of a text

-- a text with a space has a first word
words_more : (left : ℕ) (text : List ℕ) (parts : List ℕ × List ℕ) → parted 32 text ≡ Some parts
    → words (suc left) text ≡ parts.0 ∷ words left parts.1
unfolding words
words_more left text parts is = ap (word_first (words left) text) is

-- a text without one is a word
words_end : (left : ℕ) (text : List ℕ) → parted 32 text ≡ None → words left text ≡ text ∷ []
unfolding words
words_end zero text none = refl
words_end (suc left) text none = ap (word_first (words left) text) none

-- the texts of words
abbrev pub texts : List (Bor (List ℕ)) → List (List ℕ)
texts found = map (λ word. word.now) found

-- one more word
pub texts_more : (found : List (Bor (List ℕ))) (word : Bor (List ℕ))
    → texts (found ++ word ∷ []) ≡ texts found ++ word.now ∷ []
texts_more [] word = refl
texts_more (first ∷ found) word = ap (λ (ts : List (List ℕ)). first.now ∷ ts) (texts_more found word)

-- the words so far, and the next one
pub words_on : (n : ℕ) (front : List (List ℕ)) (text : List ℕ) (parts : List ℕ × List ℕ) (all : List (List ℕ)) → n < 11
    → parted 32 text ≡ Some parts → front ++ words (11 - n) text ≡ all
    → (front ++ parts.0 ∷ []) ++ words (11 - (n + 1)) parts.1 ≡ all
words_on n front text parts all below is whole =
    let more : 11 - n ≡ suc (11 - (n + 1)) = omega (arith, below) in
    append_assoc front (parts.0 ∷ []) (words (11 - (n + 1)) parts.1)
    ∙ ap (λ (others : List (List ℕ)). front ++ others) (sym (words_more (11 - (n + 1)) text parts is))
    ∙ ap (λ (left : ℕ). front ++ words left text) (sym more) ∙ whole

-- the words so far, and the last one
pub words_done : (n : ℕ) (front : List (List ℕ)) (text : List ℕ) (all : List (List ℕ)) → parted 32 text ≡ None
    → front ++ words (11 - n) text ≡ all → front ++ text ∷ [] ≡ all
words_done n front text all none whole =
    ap (λ (others : List (List ℕ)). front ++ others) (sym (words_end (11 - n) text none)) ∙ whole

-- the words so far, and what is left after the last space that counts
pub words_over : (n : ℕ) (front : List (List ℕ)) (text : List ℕ) (all : List (List ℕ)) → 11 ≤ n
    → front ++ words (11 - n) text ≡ all → front ++ text ∷ [] ≡ all
unfolding words
words_over n front text all over whole =
    let none : 11 - n ≡ 0 = omega (arith, over) in
    ap (λ (left : ℕ). front ++ words left text) (sym none) ∙ whole

-- ---- the binding of a text

-- what parsing its words gives is the binding of a text
pub gives_binding : (answer : Read Arguments) (found : List (List ℕ)) (text : List ℕ) → is_utf8 text ≡ true
    → found ≡ words 11 text → GivesUnlessMemory answer (arguments_of found)
    → GivesUnlessMemory answer (binding_of text)
gives_binding answer found text utf8 is gives =
    rw utf8 (subst (λ (ws : List (List ℕ)). GivesUnlessMemory answer (arguments_of ws)) is gives)

-- bytes that aren't UTF-8 are none
pub gives_none : (text : List ℕ) → ¬ IsUtf8 text → GivesUnlessMemory {T = Arguments} (Err BadMode) (binding_of text)
gives_none text other = by_utf8 (is_utf8 text) refl
  where
    by_utf8 : (utf8 : Bool) → is_utf8 text ≡ utf8 → GivesUnlessMemory {T = Arguments} (Err BadMode) (binding_of text)
    by_utf8 true is = absurd (other (IsUtf8-from_is_utf8 text is))
    by_utf8 false is = rw is (inl refl)
