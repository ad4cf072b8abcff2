-- Steps of the proofs of these tests.
mod Ranges
mod Tables
