pub mod RestOfText
pub mod LoopInvariant
pub mod StatementRuns
pub mod OneStatement
pub mod BlockHeaders
