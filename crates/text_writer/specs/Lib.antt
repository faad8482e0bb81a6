pub mod WrittenText
