pub mod LookedLemmas
pub mod EventLemmas
pub mod PointLemmas
pub mod OwnLemmas
pub mod OnwardLemmas
pub mod BackwardLemmas
pub mod OneBackLemmas
