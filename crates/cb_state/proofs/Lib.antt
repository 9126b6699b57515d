pub mod AskedFor
pub mod Carried
pub mod FirstBlock
pub mod Fits
pub mod Growing
pub mod Mined
pub mod MinedLaws
mod OnBest
pub mod OnceEach
pub mod OneAnswer
mod Pages
pub mod Parted
pub mod PutOff
pub mod Takings
pub mod TipHeight
