use Rattle.std.proofs.Common.{◌≡◌, ◌∙◌, Result, Ok, Err, false, refl, sym, true}
use Rattle.std.specs.Prelude.{OnErr}
use Rattle.cdc_subscriber.specs.Book.{ids_of, is_among}
use Rattle.cdc_subscriber.proofs.PushLemmas.{lookup-is_among, put-absent}
use Rattle.cdc_subscriber.proofs.book.Book.push.Goals as goal

pub returns-then-contains_key-clause-added : goal.returns-then-contains_key-clause-added
returns-then-contains_key-clause-added c =
    let there : is_among c.args.entry.id (ids_of c.args.self.now) ≡ true =
    rw (← c.self.view_is) (sym (lookup-is_among c.self.inside.accounts.entries c.args.entry.id)
    ∙ sym c.contains_key.ensures ∙ c.if-contains_key.true) in
    rw there refl

pub returns-clause-added : goal.returns-clause-added
returns-clause-added c =
    let absent : is_among c.args.entry.id (ids_of c.args.self.now) ≡ false =
    rw (← c.self.view_is) (sym (lookup-is_among c.self.inside.accounts.entries c.args.entry.id)
    ∙ sym c.contains_key.ensures ∙ c.if-contains_key.false) in
    rw absent refl

pub returns-clause-ok : goal.returns-clause-ok
returns-clause-ok c =
    let absent : is_among c.args.entry.id (ids_of c.args.self.now) ≡ false =
    rw (← c.self.view_is) (sym (lookup-is_among c.self.inside.accounts.entries c.args.entry.id)
    ∙ sym c.contains_key.ensures ∙ c.if-contains_key.false) in
    rw (c.put.ensures.entries, c.in_ok-reserve.ensures.entries, c.self.view_is)
    (put-absent c.args.entry c.args.self.now absent)

-- what holds anyway holds after an error
on_err : {A E : Type 0} (P : Type 0) (r : Result A E) → P → OnErr r P
on_err P (Ok x) holds = tt
on_err P (Err e) holds = holds

pub returns-in_err-reserve-clause-memory : goal.returns-in_err-reserve-clause-memory
returns-in_err-reserve-clause-memory c =
    let absent : is_among c.args.entry.id (ids_of c.args.self.now) ≡ false =
    rw (← c.self.view_is) (sym (lookup-is_among c.self.inside.accounts.entries c.args.entry.id)
    ∙ sym c.contains_key.ensures ∙ c.if-contains_key.false) in
    on_err _ c.from_residual.result absent
