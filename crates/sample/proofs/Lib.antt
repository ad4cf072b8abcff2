-- What the rules and the meaning of a record make of the sample phrase.
pub mod SamplePhrase
