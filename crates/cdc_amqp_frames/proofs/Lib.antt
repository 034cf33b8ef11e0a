pub mod FaultLemmas
pub mod FieldLaws
pub mod FrameLaws
