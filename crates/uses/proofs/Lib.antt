mod Named
mod Selected
mod Tests
mod Linted
mod Counting
