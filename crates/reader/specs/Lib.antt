pub mod FieldRead
