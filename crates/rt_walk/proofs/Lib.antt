pub mod Common
pub mod JobLemmas
pub mod GoingLemmas
pub mod CheckpointLemmas
pub mod KeptLemmas
pub mod SeekLemmas
pub mod BackLemmas
pub mod EventLemmas
