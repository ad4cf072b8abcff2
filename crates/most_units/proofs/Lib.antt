-- What is proved of the most units: that there is one such count (Largest), what it goes by and what decoding says
-- beside it (StageAlone), and that there is one answer on every call (OneAnswer); the others are steps on the way, and examples.
pub mod Largest
pub mod StageAlone
mod Words
pub mod OneAnswer
mod Examples
