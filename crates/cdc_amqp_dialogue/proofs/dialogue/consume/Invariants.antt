use Rattle.cdc_amqp_dialogue.proofs.Runs.{Goes}
use Rattle.cdc_amqp_dialogue.proofs.dialogue.consume.Given as goal

-- from whatever the follower stood for, some steps led here; and the follower may be given to the store
abbrev pub invariant-loop : goal.invariant-loop
invariant-loop g l = record {
  goes : (start : g.K.Keeper.State) → g.K.Keeper.stands l.setup l.fn.keeper start → Goes l.settings
      (record { rules = g.K.Keeper.rules l.setup; parks = l.pace.parks; start = start }) l.pace.every
      (g.K.Keeper.has_kept l.setup) l.fn.keeper (g.K.Keeper.stands l.setup) (g.R.FrameReader.has_answered l.fn.reader)
      (g.R.Read.remaining l.fn.reader) (g.W.Write.contents l.fn.writer)
      (record {
        left = g.R.Read.remaining l.reader;
        reader = l.reader;
        written = g.W.Write.contents l.writer;
        state = l.consumer;
        stop = l.stop;
        taken = l.taken;
        saved = l.saved;
        keeper = l.keeper;
      });
  fits : g.K.Keeper.fits l.setup l.keeper;
}
