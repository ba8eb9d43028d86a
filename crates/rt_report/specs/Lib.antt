-- The definitions of this crate.
pub mod Rows
pub mod JobLines
pub mod JobText
pub mod RowsOfLines
pub mod ReportText
pub mod NameText
pub mod WideRows
pub mod WideText
pub mod CsvText
pub mod JobDetails
pub mod DetailText
pub mod Failures
pub mod Standing
pub mod Working
