pub mod Asking
pub mod LineRows
pub mod Reading
pub mod Breaking
pub mod ThreadWalk
pub mod AllWalk
