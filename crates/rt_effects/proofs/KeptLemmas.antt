-- Lines of which most is kept.
use Rattle.rt_effects.proofs.Common.{append_assoc, ◌≡◌, ℕ, zero, suc, ◌-◌, ◌<◌, nat_lt, slice_get, take, drop, ap, arith, length, ◌==◌, Bool, not, true, false, decimal, List, [], ◌∷◌, ◌++◌, Option, Some, None, IfSome, refl, sym, ◌∙◌, is_some, option_map, hex, Ins, accessed, plain_attempt, source, did, TaskWords, middle_text, name_text}
use Rattle.std.proofs.Common.{drop_at, if◌then◌else◌, codes, slice_index}
use Rattle.std.specs.List.{filter_map}
use Rattle.std.proofs.lemmas.List.{take_all, length-drop}
use Rattle.rt_isa.specs.Table.{ins}
use Rattle.rt_effects.specs.Did.{register_text, written, access_text, carried_out, joined}
use Rattle.rt_effects.specs.declared.kept.Kept.{Kept}
use Rattle.rt_effects.specs.declared.kept.Reach.{Reach}
use Rattle.rt_effects.specs.Working.Pieces.{piece_text}
use Rattle.rt_effects.specs.Working.Kept.{number_of, value_text, reached, IsSound, IsKept}

-- ---- what an instruction did

-- the name of a register and its value, unless it isn't written
named : (b : Bool) (name value : List ℕ) → (if b then [] else name) ++ (if b then [] else value) ≡ piece_text false (if b then None else Some (name ++ value))
named true name value = refl
named false name value = refl

pub written-whole : (t : Option ℕ) (x : List ℕ) → name_text (number_of t) ++ value_text (number_of t) x ≡ piece_text false (written t x)
written-whole None x = refl
written-whole (Some r) x = named (r == 0) (codes "x" ++ decimal r ++ codes "=") (hex 8 (slice_index x r))

is_named : (b : Bool) (text : List ℕ) → not b ≡ is_some (if b then None else Some text)
is_named true text = refl
is_named false text = refl

pub written-begun : (t : Option ℕ) (x : List ℕ) → not (number_of t == 0) ≡ is_some (written t x)
written-begun None x = refl
written-begun (Some r) x = is_named (r == 0) (register_text r x)

-- a load or a store, by what it reaches
pub access-whole : (x : List ℕ) (i : Ins) (r : Option Reach) → accessed x i ≡ option_map (λ r. reached r x) r → IfSome r (λ r. r.source ≡ source i)
    → option_map (λ r. access_text (reached r x) (slice_index x r.source)) r ≡ option_map (λ a. access_text a (slice_index x (source i))) (accessed x i)
access-whole x i None is from = rw is refl
access-whole x i (Some r) is from = rw (is, from) refl

pub access-begun : (x : List ℕ) (i : Ins) (r : Option Reach) (value : ℕ) → accessed x i ≡ option_map (λ r. reached r x) r
    → is_some r ≡ is_some (option_map (λ a. access_text a value) (accessed x i))
access-begun x i None value is = rw is refl
access-begun x i (Some r) value is = rw is refl

pub same-instruction : (word : ℕ) (i j : Ins) → ins word ≡ Some i → ins word ≡ Some j → i ≡ j
same-instruction word i j is other = let both : Some i ≡ Some j = sym is ∙ other in cc

pub did-plain : (n pc word next : ℕ) (i : Ins) (x y : List ℕ) → ins word ≡ Some i
    → did x (record { pc = next; x = y }) (plain_attempt n pc word) ≡ joined (filter_map (λ p. p) (carried_out x (record { pc = next; x = y }) pc i))
did-plain n pc word next i x y is = rw is refl

-- ---- parts of a line

-- the middle of a line
abbrev pub middle_of : List ℕ → List ℕ → List ℕ → List ℕ → List ℕ
middle_of task pc place word = (((((((9 ∷ [] ++ task) ++ 9 ∷ []) ++ pc) ++ 9 ∷ []) ++ place) ++ 9 ∷ []) ++ word) ++ 9 ∷ []

-- the line of a tick, by its middle
pub line-parts : (tick task pc place word what : List ℕ)
    → (tick ++ middle_of task pc place word) ++ what
    ≡ (((((((((tick ++ 9 ∷ []) ++ task) ++ 9 ∷ []) ++ pc) ++ 9 ∷ []) ++ place) ++ 9 ∷ []) ++ word) ++ 9 ∷ []) ++ what
line-parts tick task pc place word what = simp append_assoc

-- a middle behind a line
pub middle-parts : (line task pc place word : List ℕ)
    → ((((((((line ++ 9 ∷ []) ++ task) ++ 9 ∷ []) ++ pc) ++ 9 ∷ []) ++ place) ++ 9 ∷ []) ++ word) ++ 9 ∷ [] ≡ line ++ middle_of task pc place word
middle-parts line task pc place word = simp append_assoc

-- what stands behind the front of a line
pub sliced : (line front middle : List ℕ) (from : ℕ) → line ≡ front ++ middle → from ≡ length front → take (length line - from) (drop from line) ≡ middle
sliced line front middle from is at =
    take_all (length line - from) (drop from line) (omega (arith, length-drop from line)) ∙ ap (drop from) is ∙ drop_at front middle from (sym at)

-- ---- what is kept

pub words-there : (ws : List TaskWords) (i : ℕ) → i < length ws → (w : TaskWords) × (slice_get ws i ≡ Some w)
words-there [] i less = absurd (omega (arith, less))
words-there (w ∷ ws) zero less = (w, refl)
words-there (w ∷ ws) (suc i) less = words-there ws i (omega (arith, less))

pub kept-new : (ws : List TaskWords) (number pc word : ℕ) (middle : List ℕ) (k : Option Kept) → IfSome k IsSound
    → IfSome k (λ kept. (kept.task ≡ number) × (kept.pc ≡ pc) × (kept.word ≡ word)) → IfSome k (λ kept. take kept.len kept.text ≡ middle ++ name_text kept.written)
    → ((w : TaskWords) → slice_get ws number ≡ Some w → middle ≡ middle_text (nat_lt 1 (length ws)) w number pc (Some word)) → IfSome k (IsKept ws)
kept-new ws number pc word middle None sound of text is = tt
kept-new ws number pc word middle (Some kept) sound of text is = record {
  sound = sound;
  told = λ w there.
      let several = nat_lt 1 (length ws) in
      let name = name_text kept.written in
      let at : slice_get ws number ≡ Some w = ap (λ (n : ℕ). slice_get ws n) (sym of.0) ∙ there in
      text ∙ ap (λ (m : List ℕ). m ++ name) (is w at) ∙ ap (λ (n : ℕ). middle_text several w n pc (Some word) ++ name) (sym of.0)
      ∙ ap (λ (n : ℕ). middle_text several w kept.task n (Some word) ++ name) (sym of.1)
      ∙ ap (λ (n : ℕ). middle_text several w kept.task kept.pc (Some n) ++ name) (sym of.2);
}
