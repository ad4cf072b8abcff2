-- The laws of entries: how long their words are, where one more goes, and that the ranking is the one document 01 asks for.
mod UnitStores
mod Places
pub mod EntryWords
pub mod FullSum
pub mod Insertion
pub mod Ranks
pub mod RankUnique
pub mod RankedLength
mod RankExamples
