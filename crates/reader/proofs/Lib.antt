pub mod ReaderLaws
