pub mod RecordLines
pub mod Noted
pub mod RowLines
pub mod TableRows
