-- definitions that contracts cite
pub use Rattle.image_layout.specs.IsLayout
pub use Rattle.image_specs.specs.IsSpec
pub use Rattle.placement.specs.Layouts
pub use Rattle.placement.specs.Said
pub mod Apart
