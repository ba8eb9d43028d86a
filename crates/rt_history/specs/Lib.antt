-- The definitions of this crate.
pub mod Admitted
pub mod Program
pub mod Calls
pub mod Serving
pub mod OwnPart
pub mod Named
pub mod MachineState
pub mod Reservations
pub mod Legal
pub mod Entries
pub mod Plain
pub mod Fit
pub mod Safe
pub mod Busy
pub mod Job
pub mod Working
pub mod ring
