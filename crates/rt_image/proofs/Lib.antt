pub mod Common
pub mod Fields
pub mod Objects
pub mod SymbolLoop
pub mod LabelTests
pub mod Pushes
pub mod Systems
pub mod TaskLoop
