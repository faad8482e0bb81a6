pub mod TallyLaws
pub mod WordLaws
