pub mod FieldIs
