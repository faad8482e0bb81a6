pub mod Numbers
pub mod UnitLaws
