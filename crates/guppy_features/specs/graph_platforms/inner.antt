pub mod TextSets
