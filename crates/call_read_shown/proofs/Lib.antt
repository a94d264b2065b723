-- Laws of what a read shows and caches.
pub mod MarkedLaws
pub mod Kept
