-- What clap's getters read of a subcommand, by its rows.
use Rattle.std.proofs.Common.{◌≡◌, List, [], Option, Some, None, sym, ap, ◌∙◌}
use Rattle.std.specs.Prelude.{option_map, option_and_then, unwrap_or}
use Rattle.std.proofs.lemmas.Option.{none-some}
use Rattle.clap.specs.Words.{Row, Text, all_of, one_of, one_text, found_of, matched_of, raw_values, rows_of, subcommand_rows_of}
use Rattle.clap.specs.declared.parser.matches.ArgMatches.{ArgMatches}
use Rattle.clap.proofs.WalkLemmas.{one_text-rows, raw_values-rows}
use Rattle.rt_arguments.specs.Options.{flag_word, option_words}

-- of the rows of a subcommand that there is
behind : {X : Type 0} (f : List Row → Option X) (o : Option (Text × List Row)) (rows : List Row) → Some rows ≡ option_map (λ p. p.1) o
    → option_and_then (λ p. f p.1) o ≡ f rows
behind f None rows is = absurd (none-some rows (sym is))
behind f (Some p) rows is = ap (option_and_then f) (sym is)

pub flag-is : (flag : Text) (m own : ArgMatches) → Some (rows_of (found_of own)) ≡ option_map (λ p. p.1) (subcommand_rows_of m)
    → flag_word flag m ≡ one_text (found_of own) flag
flag-is flag m own is = behind (one_of flag) (subcommand_rows_of m) (rows_of (found_of own)) is ∙ sym (one_text-rows (found_of own) flag)

pub words-are : (option : Text) (m own : ArgMatches) → Some (rows_of (found_of own)) ≡ option_map (λ p. p.1) (subcommand_rows_of m)
    → option_words option m ≡ unwrap_or (option_map raw_values (matched_of (found_of own) option)) []
words-are option m own is =
    ap (λ (o : Option (List Text)). unwrap_or o []) (behind (all_of option) (subcommand_rows_of m) (rows_of (found_of own)) is ∙ sym (raw_values-rows (found_of own) option))
