-- The chain that a follower sees, of streams with entries that don't fit.
use Rattle.std.specs.Prelude.{ℕ, ◌≡◌, true, false, [], ◌∷◌, List, Some}
use Rattle.std.proofs.Common.{refl}
use Rattle.cdc_types.specs.declared.events.Event.{Event}
use Rattle.cdc_types.specs.declared.events.EventAccount.{EventAccount}
use Rattle.cdc_types.specs.declared.events.EventKind.TheVariants.{SinglePhase}
use Rattle.cdc_match.specs.Arguments.{Arguments}
use Rattle.cdc_match.specs.declared.pairs.Mode.TheVariants.{All}
use Rattle.cdc_match.specs.declared.pairs.Pair.TheVariants.{Ledger}
use Rattle.cdc_follow.specs.declared.entries.Content.TheVariants as content
use Rattle.cdc_follow.specs.declared.entries.Entry.{Entry}
use Rattle.cdc_follow.specs.Following.{FollowState, follow_all}
use Rattle.cdc_follow.specs.Laws.{begins}
use Rattle.cdc_follow_laws.specs.Chains.{chain_from, seen_among}

-- an account as an event shows it
abbrev side : ℕ → EventAccount
side id = record {
  id = id;
  debits_pending = 0;
  debits_posted = 1;
  credits_pending = 0;
  credits_posted = 1;
  user_data_128 = 0;
  user_data_64 = 0;
  user_data_32 = 0;
  code = 10;
  flags = 0;
  timestamp = 5;
}

-- an event of a ledger
abbrev event : ℕ → ℕ → Event
event ledger timestamp = record {
  timestamp = timestamp;
  kind = SinglePhase;
  ledger = ledger;
  transfer = record {
    id = timestamp;
    amount = 1;
    pending_id = 0;
    user_data_128 = 0;
    user_data_64 = 0;
    user_data_32 = 0;
    timeout = 0;
    code = 1;
    flags = 0;
    timestamp = timestamp;
  };
  debit_account = side 1;
  credit_account = side 2;
}

-- an entry with this event that names that timestamp
abbrev entry : ℕ → ℕ → ℕ → Entry
entry previous ledger timestamp =
    record { content = content.Event (event ledger timestamp); previous = Some previous }

-- the end that names that timestamp
abbrev end : ℕ → Entry
end previous = record { content = content.End; previous = Some previous }

-- the events of ledger 700
abbrev of_700 : Arguments
of_700 = record { mode = All; pairs = Ledger 700 ∷ [] }

-- 10 of ledger 700; a foreign 20 that names nothing before it; 30 of ledger 800 that names 10; 10 again; an end that
-- names 10; 40 that names 20; the end that names 30; and an event after it
abbrev arrives : List Entry
arrives = entry 0 700 10 ∷ entry 0 700 20 ∷ entry 10 800 30 ∷ entry 0 700 10 ∷ end 10 ∷ entry 20 700 40 ∷ end 30
    ∷ entry 30 700 50 ∷ []

-- the first, the third and the end that names it are the chain, by hand
sees_these : seen_among of_700 begins arrives ≡ entry 0 700 10 ∷ entry 10 800 30 ∷ end 30 ∷ []
sees_these = refl

-- which is the chain of these events and the end, of which the binding takes the first
is_their_chain : (seen_among of_700 begins arrives ≡ chain_from 0 (event 700 10 ∷ event 800 30 ∷ []) true)
    × ((follow_all of_700 begins arrives).seen ≡ 30) × ((follow_all of_700 begins arrives).kept.applied ≡ 1)
    × ((follow_all of_700 begins arrives).kept.last ≡ 10) × ((follow_all of_700 begins arrives).kept.ended ≡ true)
is_their_chain = (refl, refl, refl, refl, refl)

-- a follower that resumes at 30, and has not the end
abbrev resumes : FollowState
resumes = record begins { seen = 30 }

-- it sees 40, which names 30, and 50, which names 40, and neither 35, which is earlier then, nor 60, which names 35
sees_later : seen_among of_700 resumes
    (entry 30 700 40 ∷ entry 30 700 35 ∷ entry 35 700 60 ∷ entry 40 700 50 ∷ end 40 ∷ [])
    ≡ chain_from 30 (event 700 40 ∷ event 700 50 ∷ []) false
sees_later = refl

-- a chain of no events is empty, or an end that names where it begins
no_events : (chain_from 30 [] false ≡ []) × (chain_from 30 [] true ≡ end 30 ∷ [])
no_events = (refl, refl)
