-- What follows from demand 3, specs/Follows.antt: what an event does to the history, which records open shows, which of them stay, which
-- answers never come, what a state in hand says, how a life begins, recovery, reading.
pub mod Histories
pub mod Shown
pub mod Stays
pub mod Fine
pub mod Agrees
pub mod Begins
pub mod Recovers
pub mod Reading
