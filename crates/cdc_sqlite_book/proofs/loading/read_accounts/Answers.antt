use Rattle.std.proofs.Common.{◌≡◌, ◌+◌, ◌-◌, length, length-append, [], ◌∷◌, sym, ap, subst, ◌∙◌, arith}
use Rattle.sqlite.specs.Held.{state}
use Rattle.sqlite.specs.Effect.{Database}
use Rattle.sqlite.specs.State.{HasCleanDisk}
use Rattle.cdc_sqlite_book.specs.Loading.{IsDetailed}
use Rattle.cdc_sqlite_book.proofs.FindLemmas.{found_is, none_stray}
use Rattle.cdc_sqlite_book.proofs.ReadLemmas.{StaysDetailed, add_read, survives_more}
use Rattle.cdc_sqlite_book.proofs.loading.read_accounts.Goals as goal

pub returns-in_err-row-clause-survives : goal.returns-in_err-row-clause-survives
returns-in_err-row-clause-survives g c =
    let old = state g.S.Store c.args.conn.now in
    let mid = state g.S.Store c.places.conn in
    let next = state g.S.Store c.find_account.new.conn in
    let detailed = c.has_details-detailed.result in
    survives_more detailed old mid next c.places.invariant.1 c.find_account.ensures.survives
    (λ clean has. let it = c.places.invariant.2 clean has in (it.0, it.1))

pub returns-in_err-add-clause-survives : goal.returns-in_err-add-clause-survives
returns-in_err-add-clause-survives g c =
    let old = state g.S.Store c.args.conn.now in
    let mid = state g.S.Store c.places.conn in
    let next = state g.S.Store c.find_account.new.conn in
    let detailed = c.has_details-detailed.result in
    survives_more detailed old mid next c.places.invariant.1 c.find_account.ensures.survives
    (λ clean has. let it = c.places.invariant.2 clean has in (it.0, it.1))

pub returns-in_err-is_stray-clause-survives : goal.returns-in_err-is_stray-clause-survives
returns-in_err-is_stray-clause-survives g c =
    let old = state g.S.Store c.args.conn.now in
    let mid = state g.S.Store c.places.conn in
    let next = state g.S.Store c.find_account.new.conn in
    let detailed = c.has_details-detailed.result in
    let last = state g.S.Store c.has_stray.new.conn in
    let stays : StaysDetailed detailed old next = λ clean has.
    let before = c.places.invariant.2 (omega (arith, c.find_account.ensures.survives.clean)) has in
    let is = subst (λ (d : Database). IsDetailed detailed d.schema) (sym before.0) before.1 in
    (c.in_ok-row.ensures.same clean is ∙ before.0, before.1) in
    survives_more detailed old next last
    (survives_more detailed old mid next c.places.invariant.1 c.find_account.ensures.survives
    (λ clean has. let it = c.places.invariant.2 clean has in (it.0, it.1)))
    c.has_stray.ensures.survives stays

pub returns-then-is_stray-clause-survives : goal.returns-then-is_stray-clause-survives
returns-then-is_stray-clause-survives g c =
    let old = state g.S.Store c.args.conn.now in
    let mid = state g.S.Store c.places.conn in
    let next = state g.S.Store c.find_account.new.conn in
    let detailed = c.has_details-detailed.result in
    let last = state g.S.Store c.has_stray.new.conn in
    let stays : StaysDetailed detailed old next = λ clean has.
    let before = c.places.invariant.2 (omega (arith, c.find_account.ensures.survives.clean)) has in
    let is = subst (λ (d : Database). IsDetailed detailed d.schema) (sym before.0) before.1 in
    (c.in_ok-row.ensures.same clean is ∙ before.0, before.1) in
    survives_more detailed old next last
    (survives_more detailed old mid next c.places.invariant.1 c.find_account.ensures.survives
    (λ clean has. let it = c.places.invariant.2 clean has in (it.0, it.1)))
    c.has_stray.ensures.survives stays

pub returns-else-is_stray-clause-survives : goal.returns-else-is_stray-clause-survives
returns-else-is_stray-clause-survives g c =
    let old = state g.S.Store c.args.conn.now in
    let mid = state g.S.Store c.places.conn in
    let next = state g.S.Store c.find_account.new.conn in
    let detailed = c.has_details-detailed.result in
    let last = state g.S.Store c.has_stray.new.conn in
    let stays : StaysDetailed detailed old next = λ clean has.
    let before = c.places.invariant.2 (omega (arith, c.find_account.ensures.survives.clean)) has in
    let is = subst (λ (d : Database). IsDetailed detailed d.schema) (sym before.0) before.1 in
    (c.in_ok-row.ensures.same clean is ∙ before.0, before.1) in
    survives_more detailed old next last
    (survives_more detailed old mid next c.places.invariant.1 c.find_account.ensures.survives
    (λ clean has. let it = c.places.invariant.2 clean has in (it.0, it.1)))
    c.has_stray.ensures.survives stays

pub returns-else-is_stray-clause-read : goal.returns-else-is_stray-clause-read
returns-else-is_stray-clause-read g c clean has =
    let old = state g.S.Store c.args.conn.now in
    let mid = state g.S.Store c.places.conn in
    let next = state g.S.Store c.find_account.new.conn in
    let detailed = c.has_details-detailed.result in
    let stays : StaysDetailed detailed old next = λ clean has.
    let before = c.places.invariant.2 (omega (arith, c.find_account.ensures.survives.clean)) has in
    let is = subst (λ (d : Database). IsDetailed detailed d.schema) (sym before.0) before.1 in
    (c.in_ok-row.ensures.same clean is ∙ before.0, before.1) in
    let next_clean : HasCleanDisk next = omega (arith, c.has_stray.ensures.survives.clean) in
    let mid_clean : HasCleanDisk mid = omega (arith, c.find_account.ensures.survives.clean) in
    let before = c.places.invariant.2 mid_clean has in
    let same = stays next_clean has in
    let is = subst (λ (d : Database). IsDetailed detailed d.schema) (sym same.0) same.1 in
    let count : c.places.place - 1 ≡ length c.places.accounts.book = omega (arith, before.3) in (
      detailed,
      before.1,
      record {
        read = before.2;
        all = none_stray (c.places.place - 1) _ (next.now.trees 1) (old.now.trees 1) c.in_ok-is_stray.is_stray
            (c.in_ok-is_stray.ensures.found clean is) c.if-is_stray.false count (ap (λ (d : Database). d.trees 1) same.0);
      },
    )

pub places-preserved : goal.places-preserved
places-preserved g c =
    let old = state g.S.Store c.args.conn.now in
    let mid = state g.S.Store c.places.conn in
    let next = state g.S.Store c.find_account.new.conn in
    let detailed = c.has_details-detailed.result in (
      λ none. c.find_account.ensures.mode (c.places.invariant.0 none),
      survives_more detailed old mid next c.places.invariant.1 c.find_account.ensures.survives
          (λ clean has. let it = c.places.invariant.2 clean has in (it.0, it.1)),
      λ clean has.
          let before = c.places.invariant.2 (omega (arith, c.find_account.ensures.survives.clean)) has in
          let is = subst (λ (d : Database). IsDetailed detailed d.schema) (sym before.0) before.1 in
          let added = c.in_ok-add.ensures.adds in
          let rows = ap (λ (d : Database). d.trees 1) before.0 in
          let found = found_is detailed c.places.place (1 + length c.places.accounts.book) (mid.now.trees 1)
          (old.now.trees 1) c.in_ok-row.field-0 c.in-Some.row (c.in_ok-row.ensures.found clean is) c.in-Some.is
          (omega (arith, before.3)) rows in
          let count : length c.add.new.self.book ≡ length c.places.accounts.book + 1 =
          ap length added.book_is ∙ length-append c.places.accounts.book (added.entry ∷ []) in (
            c.in_ok-row.ensures.same clean is ∙ before.0,
            before.1,
            add_read detailed (old.now.trees 1) _ _ _ _ c.in-Some.row before.2 found added,
            omega (arith, count, before.3),
          ),
    )
