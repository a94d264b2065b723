-- Laws of the plant.
pub mod PlantLaws
pub mod Formed
pub mod Unique
