pub mod LinkNumbers
pub mod ReachCounts
pub mod ChainWalks
