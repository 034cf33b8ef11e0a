use Rattle.std.proofs.Common.{◌≡◌, ◌∙◌, ◌∷◌, ◌+◌, Ok, Some, ap, arith, refl, subst, sym}
use Rattle.std.specs.Prelude.{length}
use Rattle.cdc_script.specs.declared.statements.Context.{Context}
use Rattle.cdc_script.specs.Private.Drafts.{context_of}
use Rattle.cdc_script.specs.Private.Parts.{lines_of, seen}
use Rattle.cdc_script.specs.Scripts.{BeginsSubscriber, StateSomething, at_top}
use Rattle.cdc_script.specs.Statements.{line_states}
use Rattle.cdc_script.specs.Words.{lines, spoken}
use Rattle.cdc_script.proofs.KeepLemmas.{StateSomething-subscriber}
use Rattle.cdc_script.proofs.LineLemmas.{line_taken, lines_begun, states_some}
use Rattle.cdc_script.proofs.scripts.read_lines.Goals as goal

-- the line is a subscriber line, and none above it has a fault
pub returns-in-Err-OutOfMemory-clause-script : goal.returns-in-Err-OutOfMemory-clause-script
returns-in-Err-OutOfMemory-clause-script c =
    let line = seen c.in-Some.line in
    let rest = lines_of c.in-Some.after in
    let context = context_of c.loop-line.draft in
    let begins : BeginsSubscriber (spoken line) = c.in-Err-OutOfMemory.ensures.memory (cc) in
    let parted : lines_of c.loop-line.rest ≡ line ∷ rest = cc (c.in-Some.ensures.line) in
    c.loop-line.invariant.keeps
    (subst (StateSomething context) (sym parted) (StateSomething-subscriber context line rest begins))

pub loop-line-init : goal.loop-line-init
loop-line-init c =
    let all : lines_of c.whole-rest.result ≡ lines c.args.text.now
    = rw (c.whole-rest.ensures.start, c.whole-rest.ensures.bytes) refl in
    let draft = c.new-draft.result in
    let context = c.new-draft.ensures.context in
    let none : length draft.bindings.items ≡ 0 = ap (λ (given : Context). given.subscribers) context in
    record {
      same = rw all (lines_begun draft (lines c.args.text.now) c.new-draft.ensures.context c.new-draft.ensures.batches
          c.new-draft.ensures.bindings c.new-draft.ensures.lines);
      keeps = λ some. rw all at (rw context at some);
      stated = λ some. let no : ⊥ = omega (arith, some, none) in absurd no;
      count = let length_is = ap length c.whole-rest.ensures.bytes in omega (arith, length_is);
    }

pub loop-line-preserved : goal.loop-line-preserved
loop-line-preserved c =
    let line = seen c.in-Some.line in
    let rest = lines_of c.in-Some.after in
    let old = c.loop-line.draft in
    let stated = c.in-Ok-Some.statement in
    let parted : lines_of c.loop-line.rest ≡ line ∷ rest = cc (c.in-Some.ensures.line) in
    let states : line_states (context_of old) line ≡ Ok (Some stated)
    = rw c.context.ensures at (rw c.in-Ok-Some.field-0-is at c.in-Ok-Some.ensures.states) in
    let keeps : StateSomething at_top (lines c.args.text.now) = c.loop-line.invariant.keeps
    (subst (StateSomething (context_of old)) (sym parted) (states_some (context_of old) line rest stated states)) in
    record {
      same = line_taken (c.loop-line.number + 1) line rest old c.add.new.self stated states
          (rw c.in-Ok-Some.field-0-is at c.in_ok-add-in-Ok-Some.ensures)
          ∙ (rw parted at c.loop-line.invariant.same);
      keeps = λ some. keeps;
      stated = λ some. keeps;
      count = omega (arith, c.in-Some.ensures.shorter, c.loop-line.invariant.count);
    }
