use Rattle.cdc_ledger.proofs.Words.{[], ◌++◌, ◌∙◌, ◌∷◌, ◌≡◌, Account, Contents, History, Inside, IsLastOpened, Option, ap, history_of, opened_by, option_to_list, refl, sym, without_account}
use Rattle.cdc_ledger.proofs.RecordedLaws.{IsKept-shut, without_account-opened}
use Rattle.cdc_ledger.proofs.tables.Tables.take_account_back.Goals as goal

pub invariant_of-self : goal.invariant_of-self
invariant_of-self c =
    let t = c.self.inside in
    let last : IsLastOpened (history_of t) c.args.last = record {
      before = c.requires.before;
      request = c.requires.request;
      time = c.requires.time;
      made = ap (λ (v : Contents). v.history) c.self.view_is ∙ c.requires.made;
      sound = c.requires.sound;
      free = c.requires.free;
      dated = c.requires.dated;
      later = c.requires.later;
    } in
    let t' : Inside =
    record t { accounts = c.pop.new.self; account_places = c.remove.new.self; last = c.args.last } in
    let popped : t.accounts.items ≡ t'.accounts.items ++ c.unwrap-account.result ∷ [] =
    c.pop.ensures.items
    ∙ ap (λ (o : Option Account). t'.accounts.items ++ option_to_list o) c.unwrap-account.ensures in
    (IsKept-shut t t' c.unwrap-account.result c.args.last last c.self.invariant popped c.remove.ensures.places refl refl
    refl refl refl).0

pub returns-clause-history : goal.returns-clause-history
returns-clause-history c =
    let t = c.self.inside in
    let last : IsLastOpened (history_of t) c.args.last = record {
      before = c.requires.before;
      request = c.requires.request;
      time = c.requires.time;
      made = ap (λ (v : Contents). v.history) c.self.view_is ∙ c.requires.made;
      sound = c.requires.sound;
      free = c.requires.free;
      dated = c.requires.dated;
      later = c.requires.later;
    } in
    let t' : Inside =
    record t { accounts = c.pop.new.self; account_places = c.remove.new.self; last = c.args.last } in
    let popped : t.accounts.items ≡ t'.accounts.items ++ c.unwrap-account.result ∷ [] =
    c.pop.ensures.items
    ∙ ap (λ (o : Option Account). t'.accounts.items ++ option_to_list o) c.unwrap-account.ensures in
    (IsKept-shut t t' c.unwrap-account.result c.args.last last c.self.invariant popped c.remove.ensures.places refl refl
    refl refl refl).1
    ∙ sym (ap (λ (h : History). without_account h c.args.last) c.requires.made
    ∙ without_account-opened c.requires.before (opened_by c.requires.request c.requires.time) c.args.last
    c.requires.dated)
