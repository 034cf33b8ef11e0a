-- How a session of a connector starts.
use Rattle.cdc_connector_actor.proofs.Words.{◌≡◌, Bool, ConnectorCore, Course, HasStarted, IsBegun, IsTrue, None, Option, Risks, Saved, SessionStands, SessionState, Some, new_course, unwrap_or, ℕ}

-- what holds of the work inside a connector holds of the connector
pub begun_entry : (inside now new : ConnectorCore) → inside ≡ now → IsBegun inside new → IsBegun now new
begun_entry inside now new same begun = rw same at begun

-- a session has started: the number after the one that was loaded is held, and no later session is given a start
pub begun_so : (old : ConnectorCore) (kept : SessionState) (held : Option Saved) (honest : Bool) (risks : Risks)
    (base failed failed' : ℕ)
    → HasStarted (record {
      honest = old.honest;
      before = old.held;
      after = held;
      failed_before = failed;
      failed_after = failed';
    }) old.start old.window kept → IsTrue old.honest → honest ≡ old.honest → risks ≡ old.risks
    → ((course : Course) → SessionStands (Some kept) (Some course) → base ≡ unwrap_or old.first course.base)
    → IsBegun old (record old {
      start = None;
      first = Some base;
      held = held;
      honest = honest;
      risks = risks;
      session = Some kept;
      asked = 0;
      poll = None;
    })
begun_so old kept held honest risks base failed failed' has gives same same_risks is_base =
    let based : base ≡ unwrap_or old.first has.saved.timestamp = is_base (new_course has.saved old.window) has.stands in
    record {
      loaded = has.loaded;
      saved = has.saved;
      honest = gives;
      given = has.given;
      begins = has.begins;
      stands = has.stands;
      after = λ i. record old {
        start = None;
        first = Some (based i);
        held = has.held i;
        honest = same i;
        risks = same_risks i;
        session = Some kept;
        asked = 0;
        poll = None;
      };
    }
