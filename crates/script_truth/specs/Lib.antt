pub mod Agreement
pub mod Filed
