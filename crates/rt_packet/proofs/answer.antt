pub mod DigitLemmas
pub mod PairLemmas
pub mod TaskLemmas
pub mod PlainLemmas
pub mod AnswerLemmas
