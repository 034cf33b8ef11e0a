use Rattle.cdc_commands.proofs.Terms.{IsUtf8, [], subst, sym, ℕ, ◌∷◌}
use Rattle.cdc_commands.proofs.ShownWords.{shown_utf8}
use Rattle.cdc_commands.proofs.words.push_byte.Goals as goal

pub unreachable-requires : goal.unreachable-requires
unreachable-requires c =
    c.in-Err.ensures.cases.0 (subst (λ (b : ℕ). IsUtf8 (b ∷ [])) (sym c.shown_byte.ensures) (shown_utf8 c.args.byte))
