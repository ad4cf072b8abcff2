-- From what the code's arrays hold to what decoding promises.
mod Placing
mod Reporting
mod Plans
mod Said
mod Tried
mod Scoring
mod InTurn
mod Cleared
