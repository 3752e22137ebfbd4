pub mod BlockValues
pub mod Run
