-- The terms of std and of specifications that the proofs of this crate share.
pub use Rattle.cdc_commands.specs.Seen.{Seen}
pub use Rattle.cdc_diagnostics.specs.Diagrams.{diagram_after, diagram_head, diagram_line, diagram_text, participant, participants}
pub use Rattle.cdc_diagnostics.specs.Movements.{after_comma, event_at, kind_text, movement_of, movement_text}
pub use Rattle.cdc_diagnostics.specs.Recordings.{if_asked, taken_after}
pub use Rattle.cdc_diagnostics.specs.Sentences.{sentence_text}
pub use Rattle.cdc_diagnostics.specs.Traces.{begin_text, event_moved, left_out, lost_text, money_at, money_text, saved_text, seen_of, start_text, taken_with, trace_after, trace_line, trace_text}
pub use Rattle.cdc_ledger.specs.Events.{events}
pub use Rattle.cdc_log.specs.Log.{events_after}
pub use Rattle.cdc_types.specs.declared.events.Event.{Event}
pub use Rattle.cdc_types.specs.declared.steps.Step.{Step}
pub use Rattle.cdc_types.specs.declared.steps.Step.TheVariants.{Answer, Arrive, Publish, Send, StartAt, Submit, Take}
pub use Rattle.cdc_world.specs.declared.moved.Moved.{Moved}
pub use Rattle.std.proofs.Common.{Bool, List, [], add-one, ap, append_assoc, arith, codes, cond, decimal, drop, eq-eqb, false, inl, inr, length, length-append, length-drop, nat_eq, nat_le, nat_lt, not, refl, subst, suc, sym, true, zero, ℕ, ◌++◌, ◌+◌, ◌-◌, ◌<◌, ◌∙◌, ◌∷◌, ◌≡◌, ◌≤◌, ◌⊎◌}
pub use Rattle.std.proofs.lemmas.Bool.{ne_eqb}
pub use Rattle.std.proofs.lemmas.List.{append-nil}
pub use Rattle.std.specs.Prelude.{None, Option, Some, option_map, slice_get}
