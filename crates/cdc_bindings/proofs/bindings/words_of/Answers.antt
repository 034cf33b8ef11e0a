use Rattle.std.proofs.Common.{◌≡◌, ◌+◌, ◌-◌, ◌++◌, List, ℕ, arith, ap, sym, ◌∙◌, rules, Some, None}
use Rattle.cdc_match.specs.Parts.{parted}
use Rattle.cdc_bindings.specs.Bindings.{words}
use Rattle.cdc_bindings.proofs.BindingLemmas.{texts, texts_more, words_done, words_on, words_over}
use Rattle.cdc_bindings.proofs.bindings.words_of.Goals as goal

pub returns-in-None : goal.returns-in-None
returns-in-None c =
    let l = c.loop-spaces in
    let none : parted 32 l.rest.now ≡ None = sym c.in-None.ensures in
    ap texts c.in_ok-push-in-None.ensures.items ∙ texts_more l.words.items l.rest
    ∙ words_done l.spaces (texts l.words.items) l.rest.now (words 11 c.args.text.now) none l.invariant.whole

pub loop-spaces-preserved : goal.loop-spaces-preserved
loop-spaces-preserved c =
    let l = c.loop-spaces in
    let some : parted 32 l.rest.now ≡ Some (c.in-Some.word.now, c.in-Some.after.now) = sym c.in-Some.ensures in
    record {
      rest_is_text = search rules;
      few = omega (arith, c.loop-spaces-test.true);
      whole = ap (λ (front : List (List ℕ)). front ++ words (11 - (l.spaces + 1)) c.in-Some.after.now)
          (ap texts c.in_ok-push-in-Some.ensures.items ∙ texts_more l.words.items c.in-Some.word)
          ∙ words_on l.spaces (texts l.words.items) l.rest.now _ (words 11 c.args.text.now) c.loop-spaces-test.true some
          l.invariant.whole;
    }

pub returns : goal.returns
returns c =
    let l = c.loop-spaces in
    ap texts c.in_ok-push.ensures.items ∙ texts_more l.words.items l.rest
    ∙ words_over l.spaces (texts l.words.items) l.rest.now (words 11 c.args.text.now)
    (omega (arith, c.loop-spaces-test.false)) l.invariant.whole
