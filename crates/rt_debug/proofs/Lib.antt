pub mod AnswerLemmas
pub mod TalkLemmas
pub mod MarkLemmas
pub mod WatchLemmas
pub mod NamedLemmas
