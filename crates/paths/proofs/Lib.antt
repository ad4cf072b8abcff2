-- What is proved of layered systems in general, of paths and the cell rule, and of the problems of a phrase.
pub mod Cells
pub mod Tables
pub mod BestRoutes
pub mod NotedRoutes
mod ListPlaces
pub mod AllRoutes
mod WaysBelow
pub mod PathWays
pub mod PathRoutes
pub mod Rows
pub mod Chosen
pub mod Optimal
pub mod Keeping
pub mod Marks
pub mod PathUnits
pub mod Examples
pub mod Frames
mod Select
pub mod Anchors
pub mod Rising
pub mod LookAhead
pub mod Ranges
pub mod Reached
pub mod Counts
pub mod Demanded
pub mod Finite
pub mod PhraseFigures
pub mod Answers
pub mod PhraseExamples
pub mod FrameExamples
pub mod AgreeingProblems
pub mod Alike
