mod FieldPartLaws
mod HandLaws
