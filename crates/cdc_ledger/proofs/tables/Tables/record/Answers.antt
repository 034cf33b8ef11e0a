use Rattle.cdc_ledger.proofs.Words.{◌<◌, ◌∙◌, ◌≡◌, Contents, Inside, IsSound, account_after, accounts_after, ap, arith, contents_of, effect_of_movement, event_of, history_of, pushed, refl, subst, sym, with_items}
use Rattle.cdc_ledger.proofs.EndingLaws.{settled_within}
use Rattle.cdc_ledger.proofs.Recorded.{CanTake-from, All-Takes, AreApart-kept, IsPlaced-changed, IsPlaced-kept, history-recorded, items-with_items, IsKept-recorded, event_of-recorded}
use Rattle.cdc_ledger.proofs.tables.Tables.record.Goals as goal

pub keep_place-requires : goal.keep_place-requires
keep_place-requires c storing =
    let room : 0 < (contents_of c.self.inside).place_room =
    subst (λ (v : Contents). 0 < v.place_room) (sym c.self.view_is) (c.requires.place_room storing) in
    omega (arith, room)

pub follow_ending-requires-clause-there : goal.follow_ending-requires-clause-there
follow_ending-requires-clause-there c =
    let m = c.args.movement.now in
    let can = CanTake-from c.self.inside c.args.self.now m c.self.view_is c.self.invariant c.requires.follows
    c.requires.later c.requires.movement in
    settled_within (history_of c.self.inside) m.settled c.self.inside.endings.items c.self.invariant.ended
    can.movement.found

pub apply-requires : goal.apply-requires
apply-requires c =
    let t = c.self.inside in
    let m = c.args.movement.now in
    let can = CanTake-from t c.args.self.now m c.self.view_is c.self.invariant c.requires.follows c.requires.later
    c.requires.movement in
    record {
      placed = rw c.as_mut_slice.ensures.value (IsPlaced-kept t m can);
      apart = c.requires.follows.apart;
      unique = rw c.as_mut_slice.ensures.value (AreApart-kept t c.self.invariant);
      fits = rw c.as_mut_slice.ensures.value (All-Takes t m can);
    }

pub event-event-requires : goal.event-event-requires
event-event-requires c =
    let t = c.self.inside in
    let m = c.args.movement.now in
    let can = CanTake-from t c.args.self.now m c.self.view_is c.self.invariant c.requires.follows
    c.requires.later c.requires.movement in
    IsPlaced-changed m t.accounts.items c.as_slice.result.now
    (c.as_slice.ensures.value
    ∙ items-with_items t.accounts
    (account_after (effect_of_movement m) m.entry.transfer.debit_account_id m.entry.transfer.credit_account_id)
    c.apply.new.accounts c.as_mut_slice.result.now c.apply.ensures c.as_mut_slice.ensures.value)
    (IsPlaced-kept t m can)

-- the tables after the call
abbrev after : goal.After-self-2-1 → Inside
after c = record c.self.inside {
  accounts = with_items c.self.inside.accounts c.apply.new.accounts;
  entries = c.push_reserved.new.self;
  transfer_places = c.keep_place.new.places;
  endings = c.follow_ending.new.endings;
  last = c.args.movement.now.entry.timestamp;
}

-- their accounts are those after the movement
accounts_then : (c : goal.After-self-2-1)
    → (after c).accounts.items ≡ accounts_after c.args.movement.now c.self.inside.accounts.items
accounts_then c =
    let m = c.args.movement.now in
    items-with_items c.self.inside.accounts
    (account_after (effect_of_movement m) m.entry.transfer.debit_account_id m.entry.transfer.credit_account_id)
    c.apply.new.accounts c.as_mut_slice.result.now c.apply.ensures c.as_mut_slice.ensures.value

pub invariant_of-self : goal.invariant_of-self
invariant_of-self c =
    let t = c.self.inside in
    let m = c.args.movement.now in
    let can = CanTake-from t c.args.self.now m c.self.view_is c.self.invariant c.requires.follows c.requires.later
    c.requires.movement in
    IsKept-recorded t (after c) m c.len-place.result can c.requires.within (omega arith) (accounts_then c) refl
    c.keep_place.ensures.places c.follow_ending.ensures.endings
    (history-recorded m t (after c) (accounts_then c) c.push_reserved.ensures.items refl refl)

pub returns-clause-history : goal.returns-clause-history
returns-clause-history c =
    let m = c.args.movement.now in
    history-recorded m c.self.inside (after c) (accounts_then c) c.push_reserved.ensures.items refl refl
    ∙ ap (λ (v : Contents). pushed v.history m.entry) c.self.view_is

pub returns-clause-sound : goal.returns-clause-sound
returns-clause-sound c = subst (λ (v : Contents). IsSound v.history) c.self.view_is c.self.invariant.sound

pub returns-clause-event : goal.returns-clause-event
returns-clause-event c =
    let m = c.args.movement.now in
    let can = CanTake-from c.self.inside c.args.self.now m c.self.view_is c.self.invariant c.requires.follows
    c.requires.later c.requires.movement in
    c.event-event.ensures
    ∙ event_of-recorded c.self.inside m c.as_slice.result.now can (c.as_slice.ensures.value ∙ accounts_then c)
    ∙ ap (λ (v : Contents). event_of (pushed v.history m.entry) m.entry) c.self.view_is
