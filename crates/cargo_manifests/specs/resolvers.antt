pub mod Resolvers
