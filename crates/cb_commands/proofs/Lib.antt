pub mod Reporting
pub mod Requests
pub mod SimLines
pub mod SimRead
pub mod SimReportLemmas
pub mod SimRunLemmas
