-- The words of the protocol.
pub mod Bells
pub mod Waiting
pub mod OwnSteps
pub mod Steps
-- What is proved of it.
pub mod WaitLaws
