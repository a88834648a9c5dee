pub mod Map
pub mod Order
pub mod InRow
pub mod InHeap
pub mod Sifting
pub mod Within
