pub mod File
pub mod Lines
pub mod Verdict
pub mod TextLines
pub mod PlanText
pub mod PlanReading
pub mod PlanParts
