pub mod WalkProgress
