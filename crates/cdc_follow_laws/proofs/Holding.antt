-- The books of followers of a ledger's events.
use Rattle.std.proofs.Common.{◌≡◌, Bool, cond, List, [], ◌∷◌, ◌++◌, refl, sym, ap, ◌∙◌, subst}
use Rattle.cdc_types.specs.declared.events.Event.{Event}
use Rattle.cdc_ledger.specs.Events.{events}
use Rattle.cdc_ledger.proofs.KeptLaws.{IsSound-from_legal}
use Rattle.cdc_match.specs.Arguments.{Arguments}
use Rattle.cdc_laws.proofs.Books.{holds-balances}
use Rattle.cdc_laws.proofs.Rising.{events_rise}
use Rattle.cdc_follow.specs.Following.{follow_all}
use Rattle.cdc_follow.specs.Laws.{begins, kept_after, taken_by}
use Rattle.cdc_follow.proofs.QueueLemmas.{keeps_a_prefix}
use Rattle.cdc_queue_laws.proofs.QueueLemmas.{whatever_arrives}
use Rattle.cdc_follow_laws.specs.Laws.{FollowersHoldBalances, HasBalances, LedgerEventsRise, LedgerQueuesArriveAsPrefixes, PrefixesHoldBalances, TakesAll}

-- a binding that takes all events takes the first ones
takes_front : (binding : Arguments) (before after : List Event) → TakesAll binding (before ++ after)
    → TakesAll binding before
takes_front binding [] after all = tt
takes_front binding (e ∷ before) after all = (all.0, takes_front binding before after all.1)

-- and what it takes of these is all of them
all_taken : (binding : Arguments) (es : List Event) → TakesAll binding es → taken_by binding es ≡ es
all_taken binding [] all = refl
all_taken binding (e ∷ es) all =
    ap (λ (b : Bool). cond b (e ∷ taken_by binding es) (taken_by binding es)) all.0
    ∙ ap (λ (rest : List Event). e ∷ rest) (all_taken binding es all.1)

-- the events of a ledger rise
pub ledger_events_rise : LedgerEventsRise
ledger_events_rise h legal = events_rise h (IsSound-from_legal h legal)

-- a prefix of a ledger's events has the ledger's balances in its book
pub prefixes_hold : PrefixesHoldBalances
prefixes_hold h binding state legal all keeps =
    let front : TakesAll binding keeps.before =
    takes_front binding keeps.before keeps.after (subst (TakesAll binding) keeps.whole all) in
    let kept : state.kept ≡ kept_after keeps.before state.kept.ended =
    keeps.kept ∙ ap (λ (es : List Event). kept_after es state.kept.ended) (all_taken binding keeps.before front) in
    subst (HasBalances h) (sym kept)
    (holds-balances h keeps.before (IsSound-from_legal h legal)
    (record { rest = keeps.after; whole = sym keeps.whole }))

-- and a follower that begins keeps one
pub followers_hold : FollowersHoldBalances
followers_hold h binding entries legal all listed =
    prefixes_hold h binding (follow_all binding begins entries) legal all
    (keeps_a_prefix binding (events h) entries (ledger_events_rise h legal) listed)

-- whatever lines of a ledger's queue arrive
pub queues_arrive : LedgerQueuesArriveAsPrefixes
queues_arrive h binding own rules bytes legal fit within chains =
    whatever_arrives binding own (events h) rules bytes (record { rising = ledger_events_rise h legal; fit = fit })
    within chains
