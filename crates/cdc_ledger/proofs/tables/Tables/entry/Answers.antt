use Rattle.cdc_ledger.proofs.Words.{◌&&◌, ◌==◌, ◌∙◌, Contents, Some, ap, get_or, option_copied, stores, sym}
use Rattle.cdc_ledger.proofs.PlaceLaws.{find-place, find-no_place}
use Rattle.cdc_ledger.proofs.tables.Tables.entry.Goals as goal

pub returns-in_err-place : goal.returns-in_err-place
returns-in_err-place c =
    ap option_copied c.from_residual.ensures
    ∙ sym (find-no_place (λ e. stores e.kind && (e.transfer.id == c.args.id)) c.args.self.now.history.entries
    (sym c.entry_place.ensures ∙ c.in_err-place.was))

pub returns : goal.returns
returns c =
    let place = c.in_ok-place.place in
    let e = c.index.result.now in
    ap Some (c.index.ensures ∙ ap (λ (v : Contents). get_or v.history.entries place e) c.self.view_is)
    ∙ sym (find-place (λ x. stores x.kind && (x.transfer.id == c.args.id)) c.args.self.now.history.entries place e
    (sym c.entry_place.ensures ∙ c.in_ok-place.was))
