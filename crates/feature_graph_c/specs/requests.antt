pub mod Requests
pub mod Choices
pub mod Contents
pub mod Written
pub mod Answers
