-- The actions of `vCont`: how tasks are to go on.
use Rattle.std.specs.Prelude.{ℕ, ◌==◌, ◌&&◌, Bool, List, [], ◌∷◌, Option, Some, None, if◌then◌else◌}
use Rattle.std.specs.Char.{is_digit}
use Rattle.std.specs.List.{list_all, filter_map, find, slice_split}
use Rattle.std.specs.Option.{option_map, is_some}
use Rattle.std.specs.Str.{byte}
use Rattle.rt_words.specs.Found.{◌>>=◌, when}
use Rattle.rt_packet.specs.declared.request.actions.Action.{Action}
use Rattle.rt_packet.specs.declared.request.actions.Action.TheVariants.{Continue, Step}
use Rattle.rt_packet.specs.declared.request.ids.Tasks.{Tasks}
use Rattle.rt_packet.specs.declared.request.ids.Tasks.TheVariants.{All}
use Rattle.rt_packet.specs.request.Numbers.{is_mark, cut_at}
use Rattle.rt_packet.specs.request.Ids.{tasks_of, names}

-- "c" or "s"
abbrev pub plain_action : ℕ → Option Action
plain_action b = if b == byte "c" then Some Continue else (if b == byte "s" then Some Step else None)

-- 'C' or 'S', behind which a signal stands
abbrev pub signalled_action : ℕ → Option Action
signalled_action b = if b == byte "C" then Some Continue else (if b == byte "S" then Some Step else None)

-- an action; a signal is two hexadecimal digits, and is dropped
abbrev pub action_text : List ℕ → Option Action
action_text (b ∷ []) = plain_action b
action_text (b ∷ high ∷ low ∷ []) = if is_digit high 16 && is_digit low 16 then signalled_action b else None
action_text _ = None

-- "ACTION:ID"
abbrev pub with_id : List ℕ × List ℕ → Option (Action × Tasks)
with_id parts = do
  action ← action_text parts.0
  tasks ← tasks_of parts.1
  Some (action, tasks)

-- "ACTION", which is for every task
abbrev pub for_all : List ℕ → Option (Action × Tasks)
for_all text = do
  action ← action_text text
  Some (action, All)

abbrev pub with_or_without : List ℕ → Option (List ℕ × List ℕ) → Option (Action × Tasks)
with_or_without text (Some parts) = with_id parts
with_or_without text None = for_all text

-- an action with its tasks
abbrev pub part_of : List ℕ → Option (Action × Tasks)
part_of text = with_or_without text (cut_at (byte ":") text)

-- the parts of a text that semicolons separate
abbrev pub parts : List ℕ → List (List ℕ)
parts text = slice_split (is_mark (byte ";")) text

abbrev pub are_actions : List ℕ → Bool
are_actions text = list_all (λ part. is_some (part_of part)) (parts text)

abbrev pub actions_of : List ℕ → List (Action × Tasks)
actions_of text = filter_map part_of (parts text)

-- the actions of a text, each part of which is one
abbrev pub resumed : List ℕ → Option (List (Action × Tasks))
resumed text = when (are_actions text) (actions_of text)

-- the first action that is for a task
abbrev pub action_of : List (Action × Tasks) → ℕ → Option Action
action_of actions task = option_map (λ part. part.0) (find (λ part. names part.1 task) actions)
