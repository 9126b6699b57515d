mod Counting
pub mod CrewLaws
mod Crews
pub mod Desks
pub mod DesksLaws
mod Finishing
pub mod InboxLemmas
pub mod LettingGo
pub mod LineLaws
pub mod Moves
pub mod NewCrews
pub mod PartsLaws
pub mod RingCalls
pub mod RingEnds
pub mod RingLessons
pub mod RingMoves
pub mod RingSums
pub mod Seats
mod Settling
mod Sorting
pub mod SystemLemmas
pub mod Ticks
mod Turns
pub mod Works
