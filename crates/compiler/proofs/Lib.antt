pub mod ParserOutput
pub mod OutcomeLaws
