-- Laws of what a session sees.
pub mod Laws
pub mod SeenLaws
