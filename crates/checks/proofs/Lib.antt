-- Laws for this crate's code: what the rules of the trailer and of the contents find.
mod Trailer
mod Contents
