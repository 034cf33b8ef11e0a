use Rattle.std.proofs.Common.{subst, sym}
use Rattle.cdc_checked_command.proofs.StoredLemmas.{none_kept}
use Rattle.cdc_checked_command.specs.Private.Kept.{Leads}
use Rattle.cdc_checked_command.proofs.checkers.StreamCheckerSaved.begin_changes.Goals as goal

pub returns-clause-since : goal.returns-clause-since
returns-clause-since c =
    let it = c.args.self.now.bound in
    subst (λ lines. Leads it lines it) (sym c.new.ensures.items) (none_kept it)
