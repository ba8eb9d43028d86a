-- The numbers and names of refusals.
use Rattle.std.specs.Prelude.{ℕ, List, codes}
use Rattle.rt_command.specs.declared.refusal.Refusal.{Refusal}
use Rattle.rt_command.specs.declared.refusal.Refusal.TheVariants.{NoMemory, UnknownCommand, UnknownTask, UnknownSymbol, BadAddress, BeforeStart, NoSuchStop, TooManyStops}

-- 0 is want of memory
abbrev pub refusal_number : Refusal → ℕ
refusal_number NoMemory = 0
refusal_number UnknownCommand = 1
refusal_number UnknownTask = 2
refusal_number UnknownSymbol = 3
refusal_number BadAddress = 4
refusal_number BeforeStart = 5
refusal_number NoSuchStop = 6
refusal_number TooManyStops = 7

-- as replies have it
abbrev pub refusal_name : Refusal → List ℕ
refusal_name NoMemory = codes "NoMemory"
refusal_name UnknownCommand = codes "UnknownCommand"
refusal_name UnknownTask = codes "UnknownTask"
refusal_name UnknownSymbol = codes "UnknownSymbol"
refusal_name BadAddress = codes "BadAddress"
refusal_name BeforeStart = codes "BeforeStart"
refusal_name NoSuchStop = codes "NoSuchStop"
refusal_name TooManyStops = codes "TooManyStops"
