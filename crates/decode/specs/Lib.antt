-- What the code's contracts speak of beside what decoding promises: the lookups of a phrase, what its candidates are decoded with, and units and
-- entries as the code holds them.
pub mod Places
pub mod Calls
pub mod Plans
pub mod Decoders
pub mod Scored
