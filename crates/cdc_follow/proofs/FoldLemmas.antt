-- Going through entries is a fold of those before the one at which following stops.
use Rattle.std.proofs.Common.{List, [], ◌∷◌, ◌++◌, Bool, true, false, cond, Some, refl, sym, ap, subst}
use Rattle.std.specs.List.{AllByRecursion}
use Rattle.cdc_types.specs.declared.events.Event.{Event}
use Rattle.cdc_match.specs.Arguments.{Arguments}
use Rattle.cdc_follow.specs.Following.{FollowState, Followed, follow, next_follow}
use Rattle.cdc_follow.specs.Laws.{FoldsTo, FollowedQueuesKeepAPrefix, FollowingFolds, IsOfQueue, KeepsPrefix}
use Rattle.cdc_follow.specs.Laws.{entries_in}
use Rattle.cdc_follow.specs.Streams.{NumberedEntry}
use Rattle.cdc_follow.proofs.QueueLemmas.{goes_on}
use Rattle.cdc_follow.proofs.StopLemmas.{follow-first, follow-none}

-- one entry in front of others
folds-first : (binding : Arguments) (state : FollowState) (numbered : NumberedEntry) (rest : List NumberedEntry)
    (others : Followed) (stops : Bool) → FoldsTo binding (next_follow binding state numbered.entry) rest others
    → FoldsTo binding state (numbered ∷ rest) (cond stops (record { state = state; at = Some numbered }) others)
folds-first binding state numbered rest others true folds =
    record { before = []; after = numbered ∷ rest; whole = refl; folds = refl; left = (rest, refl) }
folds-first binding state numbered rest others false folds = record {
  before = numbered ∷ folds.before;
  after = folds.after;
  whole = ap (λ ns. numbered ∷ ns) folds.whole;
  folds = folds.folds;
  left = folds.left;
}

pub folds : FollowingFolds
folds binding skips state [] =
    subst (FoldsTo binding state []) (sym (follow-none binding skips state))
    (record { before = []; after = []; whole = refl; folds = refl; left = refl })
folds binding skips state (numbered ∷ rest) =
    subst (FoldsTo binding state (numbered ∷ rest)) (sym (follow-first binding skips state numbered rest _ refl))
    (folds-first binding state numbered rest (follow binding skips (next_follow binding state numbered.entry) rest) _
    (folds binding skips (next_follow binding state numbered.entry) rest))

-- what holds of all entries holds of the first ones
all_first : (queue : List Event) (before after : List NumberedEntry)
    → AllByRecursion (IsOfQueue queue) (entries_in (before ++ after))
    → AllByRecursion (IsOfQueue queue) (entries_in before)
all_first queue [] after are = tt
all_first queue (numbered ∷ before) after are = (are.0, all_first queue before after are.1)

pub followed_keep_a_prefix : FollowedQueuesKeepAPrefix
followed_keep_a_prefix binding skips queue state numbered rising keeps are =
    let done = folds binding skips state numbered in
    subst (KeepsPrefix binding queue) (sym done.folds)
    (goes_on binding queue state (entries_in done.before) rising keeps
    (all_first queue done.before done.after
    (subst (λ all. AllByRecursion (IsOfQueue queue) (entries_in all)) done.whole are)))
