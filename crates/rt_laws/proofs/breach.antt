pub mod Budgets
pub mod Skips
pub mod Firsts
pub mod Rooms
pub mod FirstBreach
pub mod PlainServers
