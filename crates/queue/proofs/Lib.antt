pub mod Finds
pub mod Gaps
pub mod Levels
pub mod Looks
pub mod Openings
pub mod Pigeons
pub mod RowPlaces
pub mod Views
