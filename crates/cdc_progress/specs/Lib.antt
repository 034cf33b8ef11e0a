pub mod Memory
pub mod Records
pub mod Stores
pub use Rattle.cdc_files.specs.declared.errors.StoreError
