pub mod HeaderPassed
