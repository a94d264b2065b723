-- Laws of the walk from the newest change back.
pub mod WalkLaws
