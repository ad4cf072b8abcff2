-- Laws of the listing.
mod Turns
mod EntryLines
mod Decoded
mod SampleListing
mod LongInput
