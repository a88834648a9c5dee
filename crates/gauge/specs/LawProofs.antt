-- The proofs of the five laws. A gauge in src/ names them, and of this crate's own modules src/ may cite only those in specs/.
-- No contract rests on anything here.
pub mod Numbers
pub mod Zones
pub mod Pairing
