-- Document 01's sample phrase.
pub mod Sample
