pub mod BindingLemmas
