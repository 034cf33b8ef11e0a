use Rattle.std.proofs.Common.{subst}
use Rattle.cdc_follow_command.specs.Following.{followed_of}
use Rattle.cdc_app_streams.specs.KeptBooks.{HoldsBook, HoldsFollower}
use Rattle.cdc_app_streams.specs.Private.Rows.{Fits}
use Rattle.cdc_app_streams.proofs.KeptLemmas.{after_err, after_ok, of_last, same_books}
use Rattle.cdc_app_streams.proofs.kept_book.RowBookKeepsStreamFollower.keep.Goals as goal

pub returns-in-Some-shown-clause-kept : goal.returns-in-Some-shown-clause-kept
returns-in-Some-shown-clause-kept c = λ fits.
    let setup = c.args.setup.now in
    let new = c.save_changes.new.self in
    let follower = c.args.consumer.now.tracked.follower in
    let known = subst (λ changes. Fits setup c.args.self.now changes follower) c.in-Some.ensures fits in
    after_ok c.save_changes.result _ _ (λ saved first states kept.
    of_last (HoldsBook setup new) states (followed_of c.args.consumer.now)
    (subst (HoldsFollower setup new) known.2.1 (saved known.0 known.1))) c.save_changes.ensures.saved

pub returns-in-Some-shown-clause-refused : goal.returns-in-Some-shown-clause-refused
returns-in-Some-shown-clause-refused c =
    after_err c.save_changes.result _ _ (λ same first states kept.
    same_books c.args.setup.now c.args.self.now c.save_changes.new.self states same kept)
    c.save_changes.ensures.refused

pub returns-in-None-shown-clause-kept : goal.returns-in-None-shown-clause-kept
returns-in-None-shown-clause-kept c = λ fits.
    let setup = c.args.setup.now in
    let new = c.save_whole.new.self in
    after_ok c.save_whole.result _ _ (λ saved first states kept.
    of_last (HoldsBook setup new) states (followed_of c.args.consumer.now)
    (subst (HoldsFollower setup new) c.follower.ensures saved)) c.save_whole.ensures.saved

pub returns-in-None-shown-clause-refused : goal.returns-in-None-shown-clause-refused
returns-in-None-shown-clause-refused c =
    after_err c.save_whole.result _ _ (λ same first states kept.
    same_books c.args.setup.now c.args.self.now c.save_whole.new.self states same kept)
    c.save_whole.ensures.refused

pub returns-in-None-clause-kept : goal.returns-in-None-clause-kept
returns-in-None-clause-kept c = λ fits.
    let setup = c.args.setup.now in
    let new = c.save_whole-in-None.new.self in
    after_ok c.save_whole-in-None.result _ _ (λ saved first states kept.
    of_last (HoldsBook setup new) states (followed_of c.args.consumer.now)
    (subst (HoldsFollower setup new) c.follower-in-None.ensures saved)) c.save_whole-in-None.ensures.saved

pub returns-in-None-clause-refused : goal.returns-in-None-clause-refused
returns-in-None-clause-refused c =
    after_err c.save_whole-in-None.result _ _ (λ same first states kept.
    same_books c.args.setup.now c.args.self.now c.save_whole-in-None.new.self states same kept)
    c.save_whole-in-None.ensures.refused
