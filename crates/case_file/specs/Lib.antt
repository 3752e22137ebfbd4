pub mod Records
pub mod Present
pub mod FirstItems
