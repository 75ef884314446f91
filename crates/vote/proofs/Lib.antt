pub mod Vote
pub mod Agreement
pub mod StrictVote
pub mod TableVote
pub mod TableExamples
pub mod Examples
pub mod Readings
