pub mod Meaning
pub mod Trace
pub mod Agreement
pub mod Traced
pub mod KindByKind
pub mod ReadBack
pub mod Numbered
pub mod Demand3
