use Rattle.cdc_laws.proofs.Brokers.{HasArrived-acknowledged, HasArrived-confirmed, HasArrived-delivered, HasArrived-nil, HasArrived-passed, HasArrived-rewound, HasArrived-taken}
use Rattle.cdc_laws.proofs.steps.broker_laws.Goals as goal

pub returns-clause-begins : goal.returns-clause-begins
returns-clause-begins c = HasArrived-nil

pub returns-clause-takes : goal.returns-clause-takes
returns-clause-takes c = λ b arrived confirms packet has takes. HasArrived-taken b arrived confirms has packet takes

pub returns-clause-passes : goal.returns-clause-passes
returns-clause-passes c = λ b arrived confirms packet has passes.
    HasArrived-passed b arrived confirms has packet passes

pub returns-clause-confirms : goal.returns-clause-confirms
returns-clause-confirms c = λ b arrived confirms session tag item has taken.
    HasArrived-confirmed b arrived confirms has session tag item taken

pub returns-clause-moves : goal.returns-clause-moves
returns-clause-moves c = λ b arrived confirms i delivery position has inside. (
  HasArrived-delivered b arrived confirms has i delivery inside,
  HasArrived-acknowledged b arrived confirms has i position inside,
  HasArrived-rewound b arrived confirms has i inside,
)
