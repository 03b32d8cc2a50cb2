pub mod Common
pub mod HandleLemmas
pub mod DirectiveLemmas
pub mod TagLemmas
pub mod IndexLemmas
pub mod EscapingLemmas
