-- Decoding at work on examples: those of document 01, the wrong decoders that the sample phrase shuts out, and a phrase written another
-- way.
mod Group
mod ShutOut
mod AlikeExamples
mod FullSums
mod SampleUnits
mod SampleDistance
