pub mod ShownPart
pub mod RecordWidths
pub mod GivenBack
