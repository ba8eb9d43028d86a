-- What the options of a command ask for, by the words that clap found for them.
use Rattle.std.specs.Prelude.{◌&&◌, not, Bool, true, false, ℕ, List, [], ◌∷◌, ◌++◌, Option, find, fold, option_and_then, unwrap_or, if◌then◌else◌}
use Rattle.std.specs.List.{list_any}
use Rattle.std.specs.Option.{option_map_or}
use Rattle.std.specs.Str.{bytes_eq}
use denote.Enum.Bare.{sameb}
use Rattle.clap.specs.Words.{all_of, one_of, subcommand_rows_of}
use Rattle.clap.specs.declared.parser.matches.ArgMatches.{ArgMatches}
use Rattle.rt_report.specs.declared.failing.Failing.{Failing}
use Rattle.rt_report.specs.contracts.failing.Failing.{the_type}
use Rattle.rt_report.specs.declared.failing.Failing.TheVariants.{Fault, Over, Soft, Refused, Few, Lost}
use Rattle.rt_accounts.specs.FailureText.{failing_word}
use Rattle.rt_arguments.specs.Words.{data_symbol, data_path}

-- the words of an option of the command, in their order; none where it isn't given
abbrev pub option_words : List ℕ → ArgMatches → List (List ℕ)
option_words option m = unwrap_or (option_and_then (λ p. all_of option p.1) (subcommand_rows_of m)) []

-- the word that a flag of the command has
abbrev pub flag_word : List ℕ → ArgMatches → Option (List ℕ)
flag_word flag m = option_and_then (λ p. one_of flag p.1) (subcommand_rows_of m)

-- the failure that a word of `--fail-on` asks for
abbrev pub failing_of : List ℕ → Option Failing
failing_of word = find (λ f. bytes_eq (failing_word f) word) (Fault ∷ Over ∷ Soft ∷ Refused ∷ Few ∷ Lost ∷ [])

-- a failure behind others, if it isn't among them
abbrev pub with_failing : List Failing → Failing → List Failing
with_failing fs f = if list_any (λ g. sameb the_type g f) fs then fs else fs ++ f ∷ []

-- these failures, and behind them that of a word, if it asks for another one
abbrev pub with_word : List Failing → List ℕ → List Failing
with_word fs word = option_map_or (with_failing fs) (failing_of word) fs

-- the failures that words ask for, each once, in their order
abbrev pub failings_of : List (List ℕ) → List Failing
failings_of words = fold with_word [] words

abbrev pub is_empty : List ℕ → Bool
is_empty [] = true
is_empty (b ∷ bs) = false

-- whether a word of `--data` names a symbol and a file
abbrev pub lays_any : List ℕ → Bool
lays_any word = not (is_empty (data_symbol word)) && not (is_empty (data_path word))
