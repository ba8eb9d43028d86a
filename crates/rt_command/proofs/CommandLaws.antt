-- A line that is read as a command is written as it, and what is written for a command is read as it.
use Rattle.std.proofs.Common.{◌≡◌, ◌↔◌, ◌⊎◌, ℕ, ◌^◌, ◌<◌, ◌≤◌, Bool, true, false, cond, leb, List, [], ◌∷◌, length, Option, Some, None, Result, Ok, refl, sym, ap, subst, ◌∙◌, inl, inr, arith, decimal, lt-ltb, le-leb}
use Rattle.std.specs.Prelude.{codes}
use Rattle.std.specs.Option.{option_map}
use Rattle.std.specs.List.{AllByRecursion}
use Rattle.std.specs.Map.{lookup}
use Rattle.std.specs.Str.{bytes_eq}
use Rattle.std.proofs.lemmas.Bool.{leb-true, le-ltb, cases_lt, cases_Bool}
use Rattle.std.proofs.lemmas.List.Splits.{join_with_byte-slice_split}
use Rattle.std.proofs.lemmas.Slice.Eq.{bytes_eq-Decides}
use Rattle.rt_words.specs.Found.{◌>>=◌, when}
use Rattle.rt_words.specs.Limits.{line_limit, tick_limit}
use Rattle.rt_words.proofs.Founds.{bind_some, when_some, some_is}
use Rattle.rt_token.specs.Word.{is_word}
use Rattle.rt_token.specs.SpacedWords.{decimal_up_to}
use Rattle.rt_token.proofs.SpacedWordLaws.{decimal_takes, decimal_again}
use Rattle.rt_points.specs.declared.events.Event.{Event}
use Rattle.rt_points.specs.declared.events.Event.TheVariants.{Wake, Dispatch, Postponed, Finish, Over, Fault}
use Rattle.rt_points.specs.Events.{name_of as event_name, event_named}
use Rattle.rt_command.specs.declared.verb.Verb.{Verb}
use Rattle.rt_command.specs.declared.verb.Verb.TheVariants as verb
use Rattle.rt_command.specs.declared.command.Place.{Place}
use Rattle.rt_command.specs.declared.command.Place.TheVariants.{Address, Symbol}
use Rattle.rt_command.specs.declared.command.Whose.{Whose}
use Rattle.rt_command.specs.declared.command.Whose.TheVariants.{Every, Number, Named}
use Rattle.rt_command.specs.declared.command.Command.{Command}
use Rattle.rt_command.specs.declared.command.Command.TheVariants.{Step, Back, Continue, Shown, Regs, Server, Mem, List as Listed, Out, Trace, Break, Delete, Events, Quit}
use Rattle.rt_command.specs.declared.refusal.Refusal.{Refusal}
use Rattle.rt_command.specs.Verbs.{verbs, verb_of}
use Rattle.rt_command.specs.Commands.{number_limit, address_of, spaced, IsCounted, IsNumbered, IsSpan, IsPlace, asking, IsEvent, IsCommand}
use Rattle.rt_command.specs.CommandLine.{words, numbered, counted, place_of, whose_of, of_every, of_one, alone, with_one, breaks, with_two, spans, with_three, after_verb, in_words, or_unknown, command_of}
use Rattle.rt_command.proofs.SpacelessLemmas.{IsSpaceless, magnitude_spaceless, word_spaceless, decimal_spaceless, decimal_no_word, words_again}

-- ---- numbers and places

mapped_some : {A B : Type 0} (f : A → B) (r : Option A) (y : B) → option_map f r ≡ Some y
    → (x : A) × (r ≡ Some x) × (f x ≡ y)
mapped_some f (Some x) y e = (x, refl, some_is (f x) y e)
mapped_some f None y e = absurd cc

counted_takes : (limit : ℕ) (text : List ℕ) (n : ℕ) → limit < 2 ^ 64 → counted limit text ≡ Some n
    → (text ≡ decimal n) × (1 ≤ n) × (n ≤ limit)
counted_takes limit text n small e =
    let count = bind_some (decimal_up_to limit text) (λ count. when (leb 1 count) count) n e in
    let kept = when_some (leb 1 count.0) count.0 n count.2 in
    let is = decimal_takes limit text count.0 small count.1 in
    let least : 1 ≤ count.0 = leb-true _ _ kept.0 in
    (is.0 ∙ ap decimal kept.1, omega (arith, kept.1), omega (arith, is.1, kept.1))

counted_again : (limit n : ℕ) → limit < 2 ^ 64 → 1 ≤ n → n ≤ limit → counted limit (decimal n) ≡ Some n
counted_again limit n small least fits = rw (decimal_again limit n small fits, le-leb 1 n least) refl

place_found : (text : List ℕ) (place : Place) (b : Bool) → is_word text ≡ b
    → cond b (Some (Symbol text)) (option_map Address (address_of text)) ≡ Some place → IsPlace text place
place_found text place true is e = subst (IsPlace text) (some_is (Symbol text) place e) (refl, is)
place_found text place false is e =
    let found = mapped_some Address (address_of text) place e in subst (IsPlace text) found.2 (is, found.1)

place_takes : (text : List ℕ) (place : Place) → place_of text ≡ Some place → IsPlace text place
place_takes text place e = place_found text place (is_word text) refl e

place_again : (text : List ℕ) (place : Place) → IsPlace text place → place_of text ≡ Some place
place_again text (Symbol name) h = rw h.1 (ap (λ (w : List ℕ). Some (Symbol w)) h.0)
place_again text (Address a) h = rw h.0 (ap (option_map Address) h.1)

place_spaceless : (text : List ℕ) (place : Place) → IsPlace text place → IsSpaceless text
place_spaceless text (Symbol name) h = word_spaceless text h.1
place_spaceless text (Address a) h = magnitude_spaceless number_limit a text h.1

-- a text means this task
abbrev IsWhose : List ℕ → Whose → Type 0
IsWhose text Every = ⊥
IsWhose text (Number i) = (text ≡ decimal i) × (i ≤ number_limit)
IsWhose text (Named name) = (text ≡ name) × (is_word name ≡ true)

whose_found : (text : List ℕ) (whose : Whose) (b : Bool) → is_word text ≡ b
    → cond b (Some (Named text)) (option_map Number (numbered text)) ≡ Some whose → IsWhose text whose
whose_found text whose true is e = subst (IsWhose text) (some_is (Named text) whose e) (refl, is)
whose_found text whose false is e =
    let found = mapped_some Number (numbered text) whose e in
    let number = decimal_takes number_limit text found.0 (omega arith) found.1 in
    subst (IsWhose text) found.2 (number.0, number.1)

whose_takes : (text : List ℕ) (whose : Whose) → whose_of text ≡ Some whose → IsWhose text whose
whose_takes text whose e = whose_found text whose (is_word text) refl e

number_is : (i : ℕ) → i ≤ number_limit → whose_of (decimal i) ≡ Some (Number i)
number_is i fits = rw (decimal_no_word i (omega (arith, fits))) (ap (option_map Number) (decimal_again number_limit i (omega arith) fits))

-- ---- verbs

abbrev name_of : Verb → List ℕ
name_of verb.Step = codes "step"
name_of verb.Back = codes "back"
name_of verb.Continue = codes "continue"
name_of verb.Where = codes "where"
name_of verb.Regs = codes "regs"
name_of verb.Server = codes "server"
name_of verb.Mem = codes "mem"
name_of verb.List = codes "list"
name_of verb.Out = codes "out"
name_of verb.Trace = codes "trace"
name_of verb.Break = codes "break"
name_of verb.Delete = codes "delete"
name_of verb.Stop = codes "stop"
name_of verb.Unstop = codes "unstop"
name_of verb.Quit = codes "quit"

-- each verb of a table stands beside its name
abbrev AreNamed : List (List ℕ × Verb) → Type 0
AreNamed [] = Unit {0}
AreNamed (row ∷ rows) = (row.0 ≡ name_of row.1) × AreNamed rows

row_takes : (rows : List (List ℕ × Verb)) (name : List ℕ) (v : Verb) → AreNamed rows
    → lookup (bytes_eq name) rows ≡ Some v → name ≡ name_of v
row_takes [] name v named e = absurd cc
row_takes (row ∷ rows) name v named e = elim (cases_Bool (bytes_eq name row.0)) [
  | inl same ↦
      let is : Some row.1 ≡ Some v = rw same at e in
      (bytes_eq-Decides name row.0).0 same ∙ named.0 ∙ ap name_of (some_is row.1 v is)
  | inr other ↦
      let rest : lookup (bytes_eq name) rows ≡ Some v = rw other at e in
      row_takes rows name v named.1 rest
]

verb_takes : (name : List ℕ) (v : Verb) → verb_of name ≡ Some v → name ≡ name_of v
unfolding verbs
verb_takes name v e =
    let named : AreNamed verbs =
    (refl, (refl, (refl, (refl, (refl, (refl, (refl, (refl, (refl, (refl, (refl, (refl, (refl, (refl, (refl, tt))))))))))))))) in
    row_takes verbs name v named e

-- ---- a line that is read

count_takes : (name : List ℕ) (usual : ℕ) (text : List ℕ) (n : ℕ) → counted tick_limit text ≡ Some n
    → IsCounted name usual (spaced (name ∷ text ∷ [])) n
count_takes name usual text n e =
    let is = counted_takes tick_limit text n (omega arith) e in
    inr (ap (λ (t : List ℕ). spaced (name ∷ t ∷ [])) is.0, is.1, is.2)

number_takes : (name text : List ℕ) (i : ℕ) → numbered text ≡ Some i → IsNumbered name (spaced (name ∷ text ∷ [])) i
number_takes name text i e =
    let is = decimal_takes number_limit text i (omega arith) e in
    (ap (λ (t : List ℕ). spaced (name ∷ t ∷ [])) is.0, is.1)

span_takes : (name : List ℕ) (command : ℕ → Place → ℕ → Command) (limit : ℕ) (task text count : List ℕ) (c : Command)
    → limit < 2 ^ 64 → spans command limit task text count ≡ Some c
    → (i : ℕ) × (place : Place) × (n : ℕ) × (command i place n ≡ c)
    × IsSpan name limit (spaced (name ∷ task ∷ text ∷ count ∷ [])) i place n
span_takes name command limit task text count c small e =
    let one = bind_some (numbered task)
    (λ i. place_of text >>= (λ place. counted limit count >>= (λ n. Some (command i place n)))) c e in
    let two = bind_some (place_of text) (λ place. counted limit count >>= (λ n. Some (command one.0 place n))) c one.2 in
    let three = bind_some (counted limit count) (λ n. Some (command one.0 two.0 n)) c two.2 in
    let first = decimal_takes number_limit task one.0 (omega arith) one.1 in
    let last = counted_takes limit count three.0 small three.1 in
    let line : spaced (name ∷ task ∷ text ∷ count ∷ [])
    ≡ spaced (name ∷ decimal one.0 ∷ text ∷ decimal three.0 ∷ []) =
    λ k. spaced (name ∷ first.0 k ∷ text ∷ last.0 k ∷ []) in
    let is = some_is (command one.0 two.0 three.0) c three.2 in
    (one.0, two.0, three.0, is, (text, line, first.1, place_takes text two.0 two.1, last.1, last.2))

break_takes : (task text : List ℕ) (c : Command) → breaks task text ≡ Some c
    → IsCommand (spaced (codes "break" ∷ task ∷ text ∷ [])) c
break_takes task text c e =
    let one = bind_some (numbered task) (λ i. place_of text >>= (λ place. Some (Break i place))) c e in
    let two = bind_some (place_of text) (λ place. Some (Break one.0 place)) c one.2 in
    let first = decimal_takes number_limit task one.0 (omega arith) one.1 in
    let line : spaced (codes "break" ∷ task ∷ text ∷ []) ≡ spaced (codes "break" ∷ decimal one.0 ∷ text ∷ []) =
    ap (λ (t : List ℕ). spaced (codes "break" ∷ t ∷ text ∷ [])) first.0 in
    subst (IsCommand (spaced (codes "break" ∷ task ∷ text ∷ []))) (some_is (Break one.0 two.0) c two.2)
    (text, line, first.1, place_takes text two.0 two.1)

either_named : (word name : List ℕ) (event found : Event) (others : Option Event) → cond (bytes_eq word name) (Some event) others ≡ Some found
    → ((word ≡ name) × (event ≡ found)) ⊎ (others ≡ Some found)
either_named word name event found others e = elim (cases_Bool (bytes_eq word name)) [
  | inl same ↦ let is : Some event ≡ Some found = rw same at e in inl ((bytes_eq-Decides word name).0 same, some_is event found is)
  | inr other ↦ let is : others ≡ Some found = rw other at e in inr is
]

event_takes : (word : List ℕ) (event : Event) → event_named word ≡ Some event → word ≡ event_name event
event_takes word event e = elim (either_named word (codes "wake") Wake event _ e) [
  | inl is ↦ is.0 ∙ ap event_name is.1
  | inr e ↦ elim (either_named word (codes "dispatch") Dispatch event _ e) [
    | inl is ↦ is.0 ∙ ap event_name is.1
    | inr e ↦ elim (either_named word (codes "postponed") Postponed event _ e) [
      | inl is ↦ is.0 ∙ ap event_name is.1
      | inr e ↦ elim (either_named word (codes "finish") Finish event _ e) [
        | inl is ↦ is.0 ∙ ap event_name is.1
        | inr e ↦ elim (either_named word (codes "over") Over event _ e) [
          | inl is ↦ is.0 ∙ ap event_name is.1
          | inr e ↦ elim (either_named word (codes "fault") Fault event None e) [
            | inl is ↦ is.0 ∙ ap event_name is.1
            | inr none ↦ absurd cc
          ]
        ]
      ]
    ]
  ]
]

every_takes : (is_asked : Bool) (word : List ℕ) (c : Command) → of_every is_asked word ≡ Some c → IsCommand (spaced (asking is_asked ∷ word ∷ [])) c
every_takes is_asked word c e =
    let found = mapped_some (λ event. Events event Every is_asked) (event_named word) c e in
    subst (IsCommand (spaced (asking is_asked ∷ word ∷ []))) found.2 (ap (λ (w : List ℕ). spaced (asking is_asked ∷ w ∷ [])) (event_takes word found.0 found.1))

event_is : (is_asked : Bool) (word task : List ℕ) (event : Event) (whose : Whose) → word ≡ event_name event → IsWhose task whose
    → IsEvent (spaced (asking is_asked ∷ word ∷ task ∷ [])) event whose is_asked
event_is is_asked word task event Every named is = absurd is
event_is is_asked word task event (Number i) named is = (λ k. spaced (asking is_asked ∷ named k ∷ is.0 k ∷ []), is.1)
event_is is_asked word task event (Named name) named is = (λ k. spaced (asking is_asked ∷ named k ∷ is.0 k ∷ []), is.1)

of_one_takes : (is_asked : Bool) (word task : List ℕ) (c : Command) → of_one is_asked word task ≡ Some c → IsCommand (spaced (asking is_asked ∷ word ∷ task ∷ [])) c
of_one_takes is_asked word task c e =
    let one = bind_some (event_named word) (λ event. whose_of task >>= (λ whose. Some (Events event whose is_asked))) c e in
    let two = bind_some (whose_of task) (λ whose. Some (Events one.0 whose is_asked)) c one.2 in
    subst (IsCommand (spaced (asking is_asked ∷ word ∷ task ∷ []))) (some_is (Events one.0 two.0 is_asked) c two.2)
    (event_is is_asked word task one.0 two.0 (event_takes word one.0 one.1) (whose_takes task two.0 two.1))

alone_takes : (v : Verb) (c : Command) → alone v ≡ Some c → IsCommand (name_of v) c
alone_takes verb.Step c e = subst (IsCommand (codes "step")) (some_is (Step 1) c e) (inl (refl, refl))
alone_takes verb.Back c e = subst (IsCommand (codes "back")) (some_is (Back 1) c e) (inl (refl, refl))
alone_takes verb.Continue c e =
    subst (IsCommand (codes "continue")) (some_is (Continue 1000000) c e) (inl (refl, refl))
alone_takes verb.Where c e = subst (IsCommand (codes "where")) (some_is Shown c e) refl
alone_takes verb.Quit c e = subst (IsCommand (codes "quit")) (some_is Quit c e) refl
alone_takes _ c e = absurd cc

one_takes : (v : Verb) (text : List ℕ) (c : Command) → with_one v text ≡ Some c
    → IsCommand (spaced (name_of v ∷ text ∷ [])) c
one_takes verb.Step text c e =
    let found = mapped_some Step (counted tick_limit text) c e in
    subst (IsCommand (spaced (codes "step" ∷ text ∷ []))) found.2 (count_takes (codes "step") 1 text found.0 found.1)
one_takes verb.Back text c e =
    let found = mapped_some Back (counted tick_limit text) c e in
    subst (IsCommand (spaced (codes "back" ∷ text ∷ []))) found.2 (count_takes (codes "back") 1 text found.0 found.1)
one_takes verb.Continue text c e =
    let found = mapped_some Continue (counted tick_limit text) c e in
    subst (IsCommand (spaced (codes "continue" ∷ text ∷ []))) found.2
    (count_takes (codes "continue") 1000000 text found.0 found.1)
one_takes verb.Regs text c e =
    let found = mapped_some Regs (numbered text) c e in
    subst (IsCommand (spaced (codes "regs" ∷ text ∷ []))) found.2 (number_takes (codes "regs") text found.0 found.1)
one_takes verb.Server text c e =
    let found = mapped_some Server (numbered text) c e in
    subst (IsCommand (spaced (codes "server" ∷ text ∷ []))) found.2 (number_takes (codes "server") text found.0 found.1)
one_takes verb.Out text c e =
    let found = mapped_some Out (numbered text) c e in
    subst (IsCommand (spaced (codes "out" ∷ text ∷ []))) found.2 (number_takes (codes "out") text found.0 found.1)
one_takes verb.Trace text c e =
    let found = mapped_some Trace (counted 256 text) c e in
    let is = counted_takes 256 text found.0 (omega arith) found.1 in
    subst (IsCommand (spaced (codes "trace" ∷ text ∷ []))) found.2
    (ap (λ (t : List ℕ). spaced (codes "trace" ∷ t ∷ [])) is.0, is.1, is.2)
one_takes verb.Delete text c e =
    let found = mapped_some Delete (numbered text) c e in
    subst (IsCommand (spaced (codes "delete" ∷ text ∷ []))) found.2 (number_takes (codes "delete") text found.0 found.1)
one_takes verb.Stop text c e = every_takes true text c e
one_takes verb.Unstop text c e = every_takes false text c e
one_takes _ text c e = absurd cc

two_takes : (v : Verb) (task text : List ℕ) (c : Command) → with_two v task text ≡ Some c
    → IsCommand (spaced (name_of v ∷ task ∷ text ∷ [])) c
two_takes verb.Break task text c e = break_takes task text c e
two_takes verb.Stop word task c e = of_one_takes true word task c e
two_takes verb.Unstop word task c e = of_one_takes false word task c e
two_takes _ first second c e = absurd cc

three_takes : (v : Verb) (task address count : List ℕ) (c : Command) → with_three v task address count ≡ Some c
    → IsCommand (spaced (name_of v ∷ task ∷ address ∷ count ∷ [])) c
three_takes verb.Mem task address count c e =
    let found = span_takes (codes "mem") Mem 256 task address count c (omega arith) e in
    subst (IsCommand (spaced (codes "mem" ∷ task ∷ address ∷ count ∷ []))) found.3 found.4
three_takes verb.List task address count c e =
    let found = span_takes (codes "list") Listed 64 task address count c (omega arith) e in
    subst (IsCommand (spaced (codes "list" ∷ task ∷ address ∷ count ∷ []))) found.3 found.4
three_takes _ task address count c e = absurd cc

after_takes : (v : Verb) (others : List (List ℕ)) (c : Command) → after_verb v others ≡ Some c
    → IsCommand (spaced (name_of v ∷ others)) c
after_takes v [] c e = alone_takes v c e
after_takes v (x ∷ []) c e = one_takes v x c e
after_takes v (x ∷ y ∷ []) c e = two_takes v x y c e
after_takes v (x ∷ y ∷ z ∷ []) c e = three_takes v x y z c e
after_takes v (x ∷ y ∷ z ∷ w ∷ more) c e = absurd cc

words_take : (ws : List (List ℕ)) (c : Command) → in_words ws ≡ Some c → IsCommand (spaced ws) c
words_take [] c e = absurd cc
words_take (name ∷ others) c e =
    let found = bind_some (verb_of name) (λ v. after_verb v others) c e in
    let is : name ≡ name_of found.0 = verb_takes name found.0 found.1 in
    subst (λ (w : List ℕ). IsCommand (spaced (w ∷ others)) c) (sym is) (after_takes found.0 others c found.2)

-- ---- what is written

count_again : (name : List ℕ) (command : ℕ → Command) (usual : ℕ) (line : List ℕ) (n : ℕ) → is_word name ≡ true
    → in_words (name ∷ []) ≡ Some (command usual)
    → ((text : List ℕ) → in_words (name ∷ text ∷ []) ≡ option_map command (counted tick_limit text))
    → IsCounted name usual line n → in_words (words line) ≡ Some (command n)
count_again name command usual line n word one two (inl h) =
    let again = words_again name [] (word_spaceless name word) tt in
    ap (λ (l : List ℕ). in_words (words l)) h.0 ∙ ap in_words again ∙ one ∙ ap (λ (m : ℕ). Some (command m)) (sym h.1)
count_again name command usual line n word one two (inr h) =
    let again =
    words_again name (decimal n ∷ []) (word_spaceless name word) (decimal_spaceless n (omega (arith, h.2)), tt) in
    ap (λ (l : List ℕ). in_words (words l)) h.0 ∙ ap in_words again ∙ two (decimal n)
    ∙ ap (option_map command) (counted_again tick_limit n (omega arith) h.1 h.2)

number_again : (name : List ℕ) (command : ℕ → Command) (line : List ℕ) (i : ℕ) → is_word name ≡ true
    → ((text : List ℕ) → in_words (name ∷ text ∷ []) ≡ option_map command (numbered text))
    → IsNumbered name line i → in_words (words line) ≡ Some (command i)
number_again name command line i word two h =
    let again =
    words_again name (decimal i ∷ []) (word_spaceless name word) (decimal_spaceless i (omega (arith, h.1)), tt) in
    ap (λ (l : List ℕ). in_words (words l)) h.0 ∙ ap in_words again ∙ two (decimal i)
    ∙ ap (option_map command) (decimal_again number_limit i (omega arith) h.1)

trace_again : (line : List ℕ) (n : ℕ) → line ≡ spaced (codes "trace" ∷ decimal n ∷ []) → 1 ≤ n → n ≤ 256
    → in_words (words line) ≡ Some (Trace n)
unfolding verbs
trace_again line n is least fits =
    let digits = decimal_spaceless n (omega arith) in
    let again = words_again (codes "trace") (decimal n ∷ []) (word_spaceless (codes "trace") refl) (digits, tt) in
    ap (λ (l : List ℕ). in_words (words l)) is ∙ ap in_words again
    ∙ ap (option_map Trace) (counted_again 256 n (omega arith) least fits)

span_again : (name : List ℕ) (command : ℕ → Place → ℕ → Command) (limit : ℕ) (line : List ℕ) (i : ℕ) (place : Place) (n : ℕ)
    → is_word name ≡ true → limit ≤ 256
    → ((task text count : List ℕ)
    → in_words (name ∷ task ∷ text ∷ count ∷ []) ≡ spans command limit task text count)
    → IsSpan name limit line i place n → in_words (words line) ≡ Some (command i place n)
span_again name command limit line i place n word small four h =
    let others : AllByRecursion IsSpaceless (decimal i ∷ h.0 ∷ decimal n ∷ []) = (
      decimal_spaceless i (omega (arith, h.2)),
      (place_spaceless h.0 place h.3, (decimal_spaceless n (omega (arith, h.5)), tt)),
    ) in
    let again = words_again name (decimal i ∷ h.0 ∷ decimal n ∷ []) (word_spaceless name word) others in
    let task = decimal_again number_limit i (omega arith) h.2 in
    let found = place_again h.0 place h.3 in
    let count = counted_again limit n (omega arith) h.4 h.5 in
    ap (λ (l : List ℕ). in_words (words l)) h.1 ∙ ap in_words again ∙ four (decimal i) h.0 (decimal n)
    ∙ ap (λ (r : Option ℕ). r >>= (λ i. place_of h.0 >>= (λ place. counted limit (decimal n) >>= (λ n. Some (command i place n))))) task
    ∙ ap (λ (r : Option Place). r >>= (λ place. counted limit (decimal n) >>= (λ n. Some (command i place n)))) found
    ∙ ap (λ (r : Option ℕ). r >>= (λ n. Some (command i place n))) count

break_again : (line : List ℕ) (i : ℕ) (place : Place) (text : List ℕ)
    → line ≡ spaced (codes "break" ∷ decimal i ∷ text ∷ []) → i ≤ number_limit → IsPlace text place
    → in_words (words line) ≡ Some (Break i place)
unfolding verbs
break_again line i place text is fits at =
    let others : AllByRecursion IsSpaceless (decimal i ∷ text ∷ []) =
    (decimal_spaceless i (omega (arith, fits)), (place_spaceless text place at, tt)) in
    let again = words_again (codes "break") (decimal i ∷ text ∷ []) (word_spaceless (codes "break") refl) others in
    let task = decimal_again number_limit i (omega arith) fits in
    let found = place_again text place at in
    ap (λ (l : List ℕ). in_words (words l)) is ∙ ap in_words again
    ∙ ap (λ (r : Option ℕ). r >>= (λ i. place_of text >>= (λ place. Some (Break i place)))) task
    ∙ ap (λ (r : Option Place). r >>= (λ place. Some (Break i place))) found

asking_word : (is_asked : Bool) → is_word (asking is_asked) ≡ true
asking_word true = refl
asking_word false = refl

event_word : (event : Event) → is_word (event_name event) ≡ true
event_word Wake = refl
event_word Dispatch = refl
event_word Postponed = refl
event_word Finish = refl
event_word Over = refl
event_word Fault = refl

named_again : (event : Event) → event_named (event_name event) ≡ Some event
named_again Wake = refl
named_again Dispatch = refl
named_again Postponed = refl
named_again Finish = refl
named_again Over = refl
named_again Fault = refl

every_again : (is_asked : Bool) (word : List ℕ) → in_words (asking is_asked ∷ word ∷ []) ≡ of_every is_asked word
unfolding verbs
every_again true word = refl
every_again false word = refl

of_one_again : (is_asked : Bool) (word task : List ℕ) → in_words (asking is_asked ∷ word ∷ task ∷ []) ≡ of_one is_asked word task
unfolding verbs
of_one_again true word task = refl
of_one_again false word task = refl

task_again : (line : List ℕ) (event : Event) (task : List ℕ) (whose : Whose) (is_asked : Bool) → line ≡ spaced (asking is_asked ∷ event_name event ∷ task ∷ []) → IsSpaceless task
    → whose_of task ≡ Some whose → in_words (words line) ≡ Some (Events event whose is_asked)
task_again line event task whose is_asked is spaceless found =
    let others : AllByRecursion IsSpaceless (event_name event ∷ task ∷ []) = (word_spaceless (event_name event) (event_word event), (spaceless, tt)) in
    let again = words_again (asking is_asked) (event_name event ∷ task ∷ []) (word_spaceless (asking is_asked) (asking_word is_asked)) others in
    ap (λ (l : List ℕ). in_words (words l)) is ∙ ap in_words again ∙ of_one_again is_asked (event_name event) task
    ∙ ap (λ (r : Option Event). r >>= (λ event. whose_of task >>= (λ whose. Some (Events event whose is_asked)))) (named_again event)
    ∙ ap (λ (r : Option Whose). r >>= (λ whose. Some (Events event whose is_asked))) found

event_again : (line : List ℕ) (event : Event) (whose : Whose) (is_asked : Bool) → IsEvent line event whose is_asked → in_words (words line) ≡ Some (Events event whose is_asked)
event_again line event Every is_asked is =
    let spaceless = word_spaceless (event_name event) (event_word event) in
    let again = words_again (asking is_asked) (event_name event ∷ []) (word_spaceless (asking is_asked) (asking_word is_asked)) (spaceless, tt) in
    ap (λ (l : List ℕ). in_words (words l)) is ∙ ap in_words again ∙ every_again is_asked (event_name event)
    ∙ ap (option_map (λ event. Events event Every is_asked)) (named_again event)
event_again line event (Number i) is_asked is = task_again line event (decimal i) (Number i) is_asked is.0 (decimal_spaceless i (omega (arith, is.1))) (number_is i is.1)
event_again line event (Named name) is_asked is = task_again line event name (Named name) is_asked is.0 (word_spaceless name is.1) (rw is.1 refl)

line_again : (line : List ℕ) (c : Command) → IsCommand line c → in_words (words line) ≡ Some c
unfolding verbs
line_again line (Step n) h = count_again (codes "step") Step 1 line n refl refl (λ text. refl) h
line_again line (Back n) h = count_again (codes "back") Back 1 line n refl refl (λ text. refl) h
line_again line (Continue n) h = count_again (codes "continue") Continue 1000000 line n refl refl (λ text. refl) h
line_again line Shown h = ap (λ (l : List ℕ). in_words (words l)) h
line_again line (Regs i) h = number_again (codes "regs") Regs line i refl (λ text. refl) h
line_again line (Server i) h = number_again (codes "server") Server line i refl (λ text. refl) h
line_again line (Mem i place n) h =
    span_again (codes "mem") Mem 256 line i place n refl (omega arith) (λ task text count. refl) h
line_again line (Listed i place n) h =
    span_again (codes "list") Listed 64 line i place n refl (omega arith) (λ task text count. refl) h
line_again line (Out i) h = number_again (codes "out") Out line i refl (λ text. refl) h
line_again line (Trace n) h = trace_again line n h.0 h.1 h.2
line_again line (Break i place) h = break_again line i place h.0 h.1 h.2 h.3
line_again line (Delete k) h = number_again (codes "delete") Delete line k refl (λ text. refl) h
line_again line (Events event whose is_asked) h = event_again line event whose is_asked h
line_again line Quit h = ap (λ (l : List ℕ). in_words (words l)) h

-- ---- the two directions

known_some : (r : Option Command) (c : Command) → or_unknown r ≡ Ok c → r ≡ Some c
known_some (Some x) c e = cc
known_some None c e = absurd cc

-- what is read is written as the command
pub command_takes : (line : List ℕ) (c : Command) → command_of line ≡ Ok c
    → (length line ≤ line_limit) × IsCommand line c
command_takes line c e = elim (cases_lt line_limit (length line)) [
  | inl long ↦ absurd (let no = rw (lt-ltb line_limit (length line) long) at e in cc)
  | inr fits ↦
      let read : or_unknown (in_words (words line)) ≡ Ok c = rw (le-ltb line_limit (length line) fits) at e in
      let written : IsCommand (spaced (words line)) c =
      words_take (words line) c (known_some (in_words (words line)) c read) in
      (fits, subst (λ (l : List ℕ). IsCommand l c) (join_with_byte-slice_split 32 line) written)
]

-- and what is written is read as it
pub command_again : (line : List ℕ) (c : Command) → length line ≤ line_limit → IsCommand line c
    → command_of line ≡ Ok c
command_again line c fits h = rw (le-ltb line_limit (length line) fits) (ap or_unknown (line_again line c h))

-- so a reading that answers as the parser does answers by the grammar
pub grammar_from : (line : List ℕ) (r : Result Command Refusal) → r ≡ command_of line → (c : Command)
    → (r ≡ Ok c) ↔ ((length line ≤ line_limit) × IsCommand line c)
grammar_from line r read c = (λ e. command_takes line c (sym read ∙ e), λ h. read ∙ command_again line c h.0 h.1)
