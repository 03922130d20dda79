pub mod CutLines
pub mod KeptFields
