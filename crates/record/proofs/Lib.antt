-- Laws for those above: what a check answers (Answers) and under which conditions (Given), what its rules leave (Sizes, Entries), what every
-- accepted record has (Accepted) and where its sections stand (Reading), tests at the numbers below a count (Below), numbers that are read
-- where they stand (Numbers), written and read back (ReadBack). The others are steps on the way.
pub mod Sizes
pub mod Below
pub mod Entries
mod Passed
mod Fits
pub mod Accepted
pub mod Answers
pub mod Given
pub mod Reading
pub mod Numbers
pub mod ReadBack
mod ReadBackExamples
