pub mod LowestFailing
