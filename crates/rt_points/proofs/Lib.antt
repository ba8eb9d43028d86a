pub mod MarkLemmas
pub mod PointLemmas
pub mod MetLemmas
pub mod AccessLemmas
pub mod TouchLemmas
