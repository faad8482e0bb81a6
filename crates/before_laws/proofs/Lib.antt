pub mod Dotless
pub mod PlainWords
pub mod ReadBefore
pub mod ResolvedAlike
pub mod ScanBefore
pub mod TokensBefore
pub mod WrittenNames
