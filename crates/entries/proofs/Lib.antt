pub mod Left
pub mod RuleCounts
pub mod Spans
