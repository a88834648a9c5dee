pub mod Laws
pub mod Costs
pub mod Zones
pub mod Pairs
pub mod Limits
pub mod LawProofs
