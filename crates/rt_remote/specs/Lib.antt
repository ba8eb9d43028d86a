-- The definitions of this crate.
pub mod Remote
pub mod Chosen
pub mod Said
pub mod Monitors
pub mod Runs
pub mod Selects
pub mod Shows
pub mod Places
pub mod LetsGo
pub mod Paced
pub mod Executes
pub mod Talk
pub mod Working
pub mod stops
