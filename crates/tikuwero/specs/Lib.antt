-- The definitions of the C interface: the number that an outcome is returned as, and what each call promises.
pub mod Status
pub mod Calls
