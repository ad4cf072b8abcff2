-- The definitions of this layer. Tables says what the tables of a stage hold, and Made what each entry is made
-- of; the others say what the parts hold that they are made of.
pub mod Edges
pub mod Tables
pub mod Kept
pub mod Places
pub mod Filler
pub mod Ranges
pub mod Search
pub mod Parts
pub mod Made
