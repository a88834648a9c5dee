pub mod Sound
pub mod Make
pub mod Leave
