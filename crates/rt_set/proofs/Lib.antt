pub mod Texts
pub mod LineLemmas
pub mod PackLoop
pub mod SetLaws
pub mod PackLaws
pub mod FaultLaws
pub mod SaidLemmas
pub mod MisfitLaws
