-- definitions that contracts cite, and those of identifiers
pub use Rattle.uuid.specs.Text
pub mod Values
