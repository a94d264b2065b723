-- Laws of the places that a map names.
pub mod PlacesLaws
