-- What readers of words answer.
pub mod Words
