pub mod FinalLaws
