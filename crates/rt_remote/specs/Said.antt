-- What is said to a request.
use Rattle.std.specs.Prelude.{ℕ, List, [], Option, Some, None}
use Rattle.rt_packet.specs.answer.Replies.{reply_text}
use Rattle.rt_packet.specs.declared.answer.replies.Refused.{Refused as Refusal}
use Rattle.rt_packet.specs.declared.answer.replies.Reply.{Reply}
use Rattle.rt_packet.specs.declared.answer.replies.Reply.TheVariants.{Done, Refused}

-- a text on gdb's console, which may be empty, and then the answer; without an answer the session ends
pub record Said : Type 0 where
  pub console : List ℕ
  pub answer : Option (List ℕ)

abbrev pub says : List ℕ → Said
says text = record { console = []; answer = Some text }

abbrev pub says_reply : Reply → Said
says_reply reply = says (reply_text reply)

abbrev pub refuses : Refusal → Said
refuses refused = says_reply (Refused refused)

-- this answer, or a refusal where there is none
abbrev pub says_or : Refusal → Option (List ℕ) → Said
says_or refused (Some text) = says text
says_or refused None = refuses refused

-- a text on the console, and then `OK`
abbrev pub prints : List ℕ → Said
prints text = record { console = text; answer = Some (reply_text Done) }
