pub mod CaseCounts
pub mod LineReads
pub mod SeenReads
