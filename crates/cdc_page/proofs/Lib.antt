mod EventLemmas
mod OneMoreStep
mod Joined
mod RecordingLemmas
