use Rattle.cdc_ledger.proofs.Words.{◌<◌, ◌∙◌, ◌≡◌, Contents, Some, ap, arith, ending_of, history_of, length, option_map, slice_get, subst, sym}
use Rattle.cdc_ledger.proofs.EndingLaws.{ending_within, ending_read}
use Rattle.cdc_ledger.proofs.tables.Tables.ending.Goals as goal

pub index-requires : goal.index-requires
index-requires c =
    let there : c.args.place < length (history_of c.self.inside).entries =
    subst (λ (v : Contents). c.args.place < length v.history.entries) (sym c.self.view_is) c.requires in
    let within = ending_within (history_of c.self.inside) c.self.inside.endings.items c.args.place
    c.self.invariant.ended there in
    omega (arith, within)

pub returns : goal.returns
returns c =
    let there : c.args.place < length (history_of c.self.inside).entries =
    subst (λ (v : Contents). c.args.place < length v.history.entries) (sym c.self.view_is) c.requires in
    subst (λ (v : Contents). option_map (ending_of v.history.entries) (slice_get v.history.entries c.args.place)
    ≡ Some c.index.result.now) c.self.view_is
    (ending_read (history_of c.self.inside) c.self.inside.endings.items c.args.place c.index.result.now
    c.self.invariant.ended there ∙ ap Some (sym c.index.ensures))
