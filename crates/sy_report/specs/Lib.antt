pub mod Printing
pub mod RefusalText
pub mod ReportText
