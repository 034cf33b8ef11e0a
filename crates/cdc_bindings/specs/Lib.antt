pub mod Bindings
