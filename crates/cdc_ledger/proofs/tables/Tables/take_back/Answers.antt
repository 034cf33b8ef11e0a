use Rattle.cdc_ledger.proofs.Words.{IsKept, pushed, ◌-◌, ◌∙◌, ◌≡◌, Contents, History, Inside, IsLastRecorded, accounts_now, ap, endings_of, history_of, refl, sym, take, with_items, without_entry}
use Rattle.cdc_ledger.proofs.RecordedLaws.{IsKept-back, credit_inside, debit_inside, items-with_sets, settled_inside, without_entry-pushed}
use Rattle.cdc_ledger.proofs.tables.Tables.take_back.Goals as goal

pub forget_ending-requires : goal.forget_ending-requires
forget_ending-requires c =
    settled_inside c.requires.before c.args.recorded.now c.requires.recorded c.self.inside.endings.items
    (c.self.invariant.ended
    ∙ ap (λ (v : Contents). endings_of v.history.entries) c.self.view_is
    ∙ ap (λ (h : History). endings_of h.entries) c.requires.made)

-- the accounts before the call are those after the entry
accounts_then : (c : goal.After-as_mut_slice)
    → c.as_mut_slice.result.now ≡ accounts_now (pushed c.requires.before c.args.recorded.now.movement.entry)
accounts_then c =
    c.as_mut_slice.ensures.value ∙ c.self.invariant.balanced
    ∙ ap (λ (v : Contents). accounts_now v.history) c.self.view_is ∙ ap accounts_now c.requires.made

pub restore-requires : goal.restore-requires
restore-requires c = record {
  debit = rw (accounts_then c) (debit_inside c.requires.before c.args.recorded.now c.requires.recorded);
  credit = rw (accounts_then c) (credit_inside c.requires.before c.args.recorded.now c.requires.recorded);
}

-- the tables after the call
abbrev after : goal.After-self-2-1 → Inside
after c = record c.self.inside {
  accounts = with_items c.self.inside.accounts c.restore.new.accounts;
  entries = c.pop-entry.new.self;
  transfer_places = c.forget_place.new.places;
  endings = c.forget_ending.new.endings;
  last = c.args.recorded.now.last;
}

-- hold the history before the entry
taken : (c : goal.After-self-2-1) → IsKept (after c) × (history_of (after c) ≡ c.requires.before)
taken c =
    let t = c.self.inside in
    let r = c.args.recorded.now in
    let last : IsLastRecorded (history_of t) r = record {
      before = c.requires.before;
      made = ap (λ (v : Contents). v.history) c.self.view_is ∙ c.requires.made;
      recorded = c.requires.recorded;
    } in
    IsKept-back t (after c) r last c.self.invariant
    (items-with_sets t.accounts c.restore.new.accounts c.as_mut_slice.result.now r.movement.debit r.movement.credit
    r.debit r.credit c.restore.ensures c.as_mut_slice.ensures.value)
    (c.pop-entry.ensures.rest ∙ ap (λ n. take (n - 1) t.entries.items) t.entries.ok.0)
    c.forget_ending.ensures.endings refl c.forget_place.ensures.places refl refl

pub invariant_of-self : goal.invariant_of-self
invariant_of-self c = (taken c).0

pub returns-clause-history : goal.returns-clause-history
returns-clause-history c =
    (taken c).1
    ∙ sym (ap (λ (h : History). without_entry h c.args.recorded.now.last) c.requires.made
    ∙ without_entry-pushed c.requires.before c.args.recorded.now.movement.entry c.args.recorded.now.last
    c.requires.recorded.last)
