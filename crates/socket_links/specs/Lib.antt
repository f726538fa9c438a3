pub mod Accepting
pub mod Answers
pub mod Emptied
pub mod Events
pub mod EventsInside
pub mod GivingWay
