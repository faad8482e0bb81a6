pub mod Answers
pub mod Class
pub mod Forms
pub mod Scan
pub mod Spell
pub mod Token
pub mod Worked
