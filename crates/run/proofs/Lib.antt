pub mod Found
pub mod ItemsPut
pub mod Runs
pub mod Starts
pub mod Ends
pub mod Looks
pub mod Unrun
