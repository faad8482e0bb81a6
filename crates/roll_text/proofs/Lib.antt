pub mod Outcomes
pub mod Printed
