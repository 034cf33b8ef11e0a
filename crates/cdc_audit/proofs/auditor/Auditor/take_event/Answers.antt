use Rattle.cdc_audit.proofs.Words.{AuditorState, Facts, IsLinkIndex, IsTimeIndex, None, [], and_parts, ap, expiry_or, fields_under, first_line, is_some, lines, next_chain, next_state, released, subst, sym, with_accounts, with_held, with_own, with_settled, without_settled, ◌++◌, ◌≡◌, ◌∙◌, ◌∷◌}
use Rattle.cdc_message.specs.declared.items.Item.TheVariants as item
use Rattle.cdc_audit.proofs.StandLemmas.{accepts, answers, auditor_same, if_error, known_stay, times_ordered, unless_error}
use Rattle.cdc_audit.proofs.auditor.Auditor.take_event.Goals as goal

pub returns-in-Some-clause-answer : goal.returns-in-Some-clause-answer
returns-in-Some-clause-answer c = λ state stands.
    answers c.args.self.now state _ c.args.event.now _
    (sym (ap (λ (a : AuditorState). a.kept.ended) c.self.view_is) ∙ (sym c.ended.ensures ∙ c.if-ended.false))
    (sym c.in-Some.is ∙ c.refusal_by.ensures
    ∙ ap (λ (facts : Facts). first_line (lines facts c.args.event.now))
    (c.facts-facts.ensures.facts (times_ordered c.args.self.now state stands)))
    c.facts-facts.ensures.first stands

pub returns-clause-answer : goal.returns-clause-answer
returns-clause-answer c = λ state stands.
    answers c.args.self.now state _ c.args.event.now None
    (sym (ap (λ (a : AuditorState). a.kept.ended) c.self.view_is) ∙ (sym c.ended.ensures ∙ c.if-ended.false))
    (sym c.in_default.is ∙ c.refusal_by.ensures
    ∙ ap (λ (facts : Facts). first_line (lines facts c.args.event.now))
    (c.facts-facts.ensures.facts (times_ordered c.args.self.now state stands)))
    c.facts-facts.ensures.first stands

pub returns-clause-accepted : goal.returns-clause-accepted
returns-clause-accepted c = λ state stands _.
    let e = c.args.event.now in
    let facts_are = c.facts-facts.ensures.facts (times_ordered c.args.self.now state stands) in
    accepts c.args.self.now (record {
      foreign = c.self.inside.foreign;
      kept = c.take_event.new.self;
      transfers = c.keep.new.transfers.entries;
      open_ones = c.remove_settled.new.open_ones;
      fields = c.keep_accounts.new.fields.entries;
      times = c.keep_time.new.times.items;
      chain = c.next_chain-self-inside.result;
      expired = c.expiry_or-self-inside.result;
    }) state _ e
    (sym (ap (λ (a : AuditorState). a.kept.ended) c.self.view_is) ∙ (sym c.ended.ensures ∙ c.if-ended.false))
    (sym (ap (λ (facts : Facts). first_line (lines facts e)) facts_are) ∙ sym c.refusal_by.ensures
    ∙ c.in_default.is)
    (unless_error c.take_event.result _ (sym c.is_err.ensures.value ∙ c.if-is_err.false) c.take_event.ensures.state
    ∙ ap (λ (a : AuditorState). next_state a.kept (item.Event e)) c.self.view_is)
    (c.keep.ensures
    ∙ ap (λ ts. with_settled (with_own ts e) e c.released.result)
    (c.in_ok-reserve.ensures.entries ∙ ap (λ (a : AuditorState). a.transfers) c.self.view_is)
    ∙ ap (with_settled (with_own c.args.self.now.transfers e) e)
    (c.released.ensures ∙ ap (λ (facts : Facts). released facts e) facts_are))
    (λ id. c.remove_settled.ensures id
    ∙ ap (λ es. without_settled es e id)
    (c.in_ok-added.ensures.events
    ∙ ap (λ (a : AuditorState). with_held a.open_ones e) c.self.view_is))
    (c.keep_accounts.ensures.fields
    ∙ ap (λ fs. with_accounts fs e)
    (c.in_ok-reserve-2.ensures.entries ∙ ap (λ (a : AuditorState). a.fields) c.self.view_is))
    (c.keep_time.ensures
    ∙ ap (λ ts. ts ++ e.timestamp ∷ [])
    (c.in_ok-reserve-5.ensures.items ∙ ap (λ (a : AuditorState). a.times) c.self.view_is))
    (c.next_chain-self-inside.ensures ∙ ap (λ (a : AuditorState). next_chain a.chain e) c.self.view_is)
    (c.expiry_or-self-inside.ensures ∙ ap (λ (a : AuditorState). expiry_or a.expired e) c.self.view_is)
    (ap (λ (a : AuditorState). a.foreign) c.self.view_is) stands

-- both accounts are known
pub keep_accounts-requires-clause-known : goal.keep_accounts-requires-clause-known
keep_accounts-requires-clause-known c = λ known.
    let e = c.args.event.now in
    let facts = c.facts-facts.result in
    let both = and_parts (is_some facts.debit_fields) (is_some facts.credit_fields) (sym c.shows_both.ensures ∙ known) in
    let kept : c.reserve-2.new.self.entries ≡ c.args.self.now.fields =
    c.in_ok-reserve-2.ensures.entries ∙ ap (λ (a : AuditorState). a.fields) c.self.view_is in
    known_stay c.reserve-2.new.self.entries e
    (ap (λ fs. is_some (fields_under fs e.debit_account.id)) kept
    ∙ sym (ap is_some c.facts-facts.ensures.debit) ∙ both.0)
    (ap (λ fs. is_some (fields_under fs e.credit_account.id)) kept
    ∙ sym (ap is_some c.facts-facts.ensures.credit) ∙ both.1)

pub invariant_of-self-2 : goal.invariant_of-self-2
invariant_of-self-2 c = (
  c.keep_accounts.ensures.index (subst (λ index. IsTimeIndex index c.reserve-2.new.self.entries)
      (sym c.in_ok-reserve-3.ensures.entries)
      (subst (IsTimeIndex c.self.inside.created.entries) (sym c.in_ok-reserve-2.ensures.entries) c.self.invariant.0)),
  c.keep_accounts.ensures.linked (subst (λ index. IsLinkIndex index c.reserve-2.new.self.entries)
      (sym c.in_ok-reserve-4.ensures.entries)
      (subst (IsLinkIndex c.self.inside.links.entries) (sym c.in_ok-reserve-2.ensures.entries) c.self.invariant.1)),
)

pub returns-then-is_err-clause-err : goal.returns-then-is_err-clause-err
returns-then-is_err-clause-err c =
    auditor_same c.self.inside.foreign _ _ _ _ _ _ _ _ _ _ c.self.inside.chain c.self.inside.expired
    (if_error c.take_event.result _ (sym c.is_err.ensures.value ∙ c.if-is_err.true) c.take_event.ensures.err)
    c.in_ok-reserve.ensures.entries
    (c.take_back.ensures c.self.inside.open_ones c.args.event.now c.in_ok-added.ensures.again)
    c.in_ok-reserve-2.ensures.entries c.in_ok-reserve-5.ensures.items
    ∙ c.self.view_is
