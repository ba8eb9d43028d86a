pub mod Common
pub mod HearLemmas
pub mod PayloadLemmas
pub mod DigitLemmas
pub mod PacketLemmas
pub mod TrackLemmas
