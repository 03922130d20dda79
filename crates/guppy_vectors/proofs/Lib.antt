pub mod ListedWays
