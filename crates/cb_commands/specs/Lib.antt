pub mod Printed
pub mod Report
pub mod SimInput
pub mod SimLine
pub mod SimReport
pub mod SimRun
