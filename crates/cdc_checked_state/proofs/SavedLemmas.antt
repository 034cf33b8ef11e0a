-- A state's text, part by part.
use Rattle.std.proofs.Common.{◌≡◌, ℕ, List, ◌∷◌, ◌++◌, Some, None, append_assoc, ap, ◌∙◌}
use Rattle.std.specs.Prelude.{codes}
use Rattle.cdc_codec.specs.Texts.{spaced, yes_or_no}
use Rattle.cdc_checked_follow.specs.Standing.{CheckedFollowerState}
use Rattle.cdc_checked_state.specs.declared.saved.Front.{Front}
use Rattle.cdc_checked_state.specs.Parts.{GivesParts, PartsState}
use Rattle.cdc_checked_state.specs.Rows.{IsFront, ReadsFront}
use Rattle.cdc_checked_state.specs.Saveable.{CanBeSaved}
use Rattle.cdc_checked_state.specs.States.{all_rows, heading, rows_text, state_text}
use Rattle.cdc_checked_state.proofs.PartLemmas.{contained}

regroup : (a b c d e f g h k l y rest : List ℕ)
    → ((a ++ b) ++ ((c ++ d) ++ ((e ++ f) ++ ((g ++ h) ++ (k ++ (l ++ y)))))) ++ rest
    ≡ a ++ (b ++ (c ++ (d ++ (e ++ (f ++ (g ++ (h ++ (k ++ (l ++ (y ++ rest))))))))))
regroup a b c d e f g h k l y rest = simp append_assoc

-- what precedes the lines, number by number
pub front_text : (binding : List ℕ) (follower : CheckedFollowerState) (lines : List ℕ)
    → heading binding follower ++ lines
    ≡ codes "checked-book 1 applied" ++ (spaced follower.applied ++ (codes " last" ++ (spaced follower.last
    ++ (codes " ended" ++ (yes_or_no follower.ended ++ (codes " baseline" ++ (yes_or_no follower.baseline
    ++ (codes "\nbinding " ++ (binding ++ 10 ∷ lines)))))))))
front_text binding follower lines =
    regroup (codes "checked-book 1 applied") (spaced follower.applied) (codes " last") (spaced follower.last)
    (codes " ended") (yes_or_no follower.ended) (codes " baseline") (yes_or_no follower.baseline) (codes "\nbinding ")
    binding (codes "\n") lines

-- a follower put together of what was read
abbrev pub follower_of : Front → PartsState → CheckedFollowerState
follower_of front parts = record {
  checker = record { accounts = parts.accounts; open_ones = parts.open_ones };
  book = parts.book;
  applied = front.applied;
  last = front.last;
  ended = front.ended;
  baseline = front.baseline;
}

same_follower : (front : Front) (binding : List ℕ) (state : CheckedFollowerState) (lines : List ℕ)
    → IsFront front binding state lines
    → follower_of front (record {
      book = state.book;
      accounts = state.checker.accounts;
      open_ones = state.checker.open_ones;
    })
    ≡ state
same_follower front binding state lines is = λ i. record {
  checker = record { accounts = state.checker.accounts; open_ones = state.checker.open_ones };
  book = state.book;
  applied = is.applied i;
  last = is.last i;
  ended = is.ended i;
  baseline = is.baseline i;
}

-- what was read of a state's text is the state
pub reads_front : (text : List ℕ) (front : Front) (binding : List ℕ) (state : CheckedFollowerState)
    → ReadsFront text front → CanBeSaved binding state → text ≡ state_text binding state
    → IsFront front binding state (rows_text (all_rows state))
unfolding state_text
reads_front text front binding state reads can is =
    reads binding state (rows_text (all_rows state)) can.line can.applied can.last is

pub reads_state : (text : List ℕ) (front : Front) (parts : PartsState) (binding : List ℕ)
    (state : CheckedFollowerState) → ReadsFront text front → GivesParts front.lines.now (Some parts)
    → CanBeSaved binding state → text ≡ state_text binding state
    → follower_of front parts ≡ state
reads_state text front parts binding state reads gives can is =
    let it = reads_front text front binding state reads can is in
    ap (follower_of front) (gives (all_rows state) can.rows it.lines_are ∙ contained binding state can)
    ∙ same_follower front binding state (rows_text (all_rows state)) it

-- and there are lines
pub reads_some : (text : List ℕ) (front : Front) (binding : List ℕ) (state : CheckedFollowerState)
    → ReadsFront text front → GivesParts front.lines.now None → CanBeSaved binding state
    → text ≡ state_text binding state → ⊥
reads_some text front binding state reads gives can is =
    gives (all_rows state) can.rows (reads_front text front binding state reads can is).lines_are
