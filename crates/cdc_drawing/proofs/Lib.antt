mod Joined
mod OneMoreStep
mod RowLemmas
