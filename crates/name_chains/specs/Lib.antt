pub mod Compared
pub mod Chains
pub mod Entered
pub mod Worked
