pub mod Schedules
pub mod Lines
pub mod Reports
pub mod Traces
pub mod Runs
pub mod Statuses
