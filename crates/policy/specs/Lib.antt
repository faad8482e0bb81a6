-- In layers, as README.md says. Every definition but those of the last layer has to be believed.
-- ---- what the statements answer
pub mod Basics
pub mod Statements
pub mod Meaning
pub mod Deciding
pub mod Answer
-- ---- which texts are read, and which are refused
pub mod Words
pub mod Maxima
pub mod Grammar
pub mod Names
pub mod Scopes
pub mod Reading
pub mod Faults
-- ---- the table's bytes
pub mod Rows
pub mod Image
pub mod Encode
pub mod Sound
pub mod Questions
pub mod Outcome
pub mod Roll
-- ---- the answers of src/
pub mod Answers
-- ---- nobody has to believe these: what an accepted policy is like, examples that compute, mistakes of the past
pub mod Accepted
pub mod Computing
pub mod Worked
pub mod Slips
pub mod Objects
pub mod Lines
pub mod Blocks
pub mod Relabels
