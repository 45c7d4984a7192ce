-- definitions that contracts cite, and those of what is built
pub use Rattle.image_specs.specs.Identifiers
pub use Rattle.image_specs.specs.IsSpec
pub use Rattle.image_specs.specs.Specs
pub mod Children
pub mod Clashes
pub mod Graph
pub mod IsGraph
