-- A spelling is of bytes, and with one more it is none.
use Rattle.rt_perform.proofs.Common.{◌≡◌, ℕ, suc, ◌<◌, Bool, true, List, [], ◌∷◌, ◌++◌, length, refl, sym, ap, subst, ◌∙◌, arith, TaskSet}
use Rattle.std.proofs.Common.{zero, nat_lt, All, codes}
use Rattle.std.specs.Int.{byte_at, bytes_low_first}
use Rattle.std.specs.List.{list_all, flat_map}
use Rattle.std.proofs.lemmas.Bool.{and_parts, ltb-true}
use Rattle.std.proofs.lemmas.Bool.Decides.{nat_tests}
use Rattle.std.proofs.lemmas.List.{length-append}
use Rattle.std.proofs.lemmas.List.Concat.{flat_map-cons}
use Rattle.std.proofs.lemmas.List.Elements.{All-nil, All-cons, All-append}
use Rattle.rt_token.specs.Word.{is_word_start, is_word_part, is_word}
use Rattle.rt_image.specs.declared.system.Version.{Version}
use Rattle.rt_image.specs.declared.system.Version.TheVariants.{One, Two}
use Rattle.rt_image.specs.ObjectFile.{Label, ObjectValue, IsObject, is_label, are_labels, label_spelling, spelling}
use Rattle.rt_image.specs.ObjectReading.{spelled_object}
use Rattle.rt_image.specs.SystemFile.{SetTask, AreTasks, IsSystem, magic, flags, flags_spelling, task_spelling, system_spelling}
use Rattle.rt_image.specs.SystemReading.{system_of}
use Rattle.rt_image.proofs.Fields.{IsBytes-all}
use Rattle.rt_image.proofs.LabelTests.{label_facts}
use Rattle.rt_image.proofs.Objects.{image_takes, image_again}
use Rattle.rt_image.proofs.Systems.{system_takes, system_again}
use Rattle.rt_opening.specs.Alone.{Spells}
use Rattle.rt_opening.specs.Sets.{SpellsSet}

record AreBytes (bytes : List ℕ) : Type 0 where
  all : All (λ b. b < 256) bytes

none : AreBytes []
none = record { all = All-nil (λ b. b < 256) }

more : {bytes : List ℕ} (b : ℕ) → b < 256 → AreBytes bytes → AreBytes (b ∷ bytes)
more {bytes = bytes} b fits rest = record { all = All-cons (λ b. b < 256) b bytes fits rest.all }

both : {a b : List ℕ} → AreBytes a → AreBytes b → AreBytes (a ++ b)
both {a = a} {b = b} first second = record { all = All-append (λ b. b < 256) a b first.all second.all }

byte : (i n : ℕ) → byte_at i n < 256
byte zero n = omega arith
byte (suc i) n = omega arith

number : (i k n : ℕ) → AreBytes (bytes_low_first i k n)
number i zero n = none
number i (suc k) n = more (byte_at i n) (byte i n) (number (suc i) k n)

passing : (test : ℕ → Bool) → ((b : ℕ) → test b ≡ true → b < 256) → (bytes : List ℕ) → list_all test bytes ≡ true → AreBytes bytes
passing test fits [] are = none
passing test fits (b ∷ bs) are = let parts = and_parts (test b) (list_all test bs) are in more b (fits b parts.0) (passing test fits bs parts.1)

letters : (text : List ℕ) → list_all (λ b. nat_lt b 256) text ≡ true → AreBytes text
letters text = passing (λ b. nat_lt b 256) (λ b. ltb-true b 256) text

word_part : (b : ℕ) → is_word_part b ≡ true → b < 256
word_part b is = grind (arith, nat_tests, is)

word : (text : List ℕ) → is_word text ≡ true → AreBytes text
word [] is = none
word (b ∷ bs) is =
    let parts = and_parts (is_word_start b) (list_all is_word_part bs) is in
    let first : is_word_part b ≡ true = rw parts.0 refl in more b (word_part b first) (passing is_word_part word_part bs parts.1)

labels : (n : ℕ) (before : List ℕ) (ls : List Label) → are_labels n before ls ≡ true → AreBytes (flat_map label_spelling ls)
labels n before [] are = none
labels n before (l ∷ ls) are =
    let parts = and_parts (is_label n before l) (are_labels n l.name ls) are in
    let first = both (both (number 0 2 (length l.name)) (word l.name (label_facts n before l parts.0).word)) (number 0 4 l.address) in
    rw flat_map-cons (both first (labels n l.name ls parts.1))

object : (o : ObjectValue) → IsObject o → AreBytes (spelling o)
object o fits =
    let header = both (both (both (letters (codes "RTI1") refl) (number 0 4 o.entry)) (number 0 4 (length o.bytes))) (number 0 4 (length o.labels)) in
    both (both header (record { all = fits.bytes_fit })) (labels (length o.bytes) [] o.labels fits.labels_fit)

flag : (version : Version) (split : Bool) → AreBytes (flags_spelling version split)
flag One split = none
flag Two split = number 0 4 (flags split)

tasks : (version : Version) (ts : List SetTask) → AreTasks version ts → AreBytes (flat_map (task_spelling version) ts)
unfolding task_spelling
tasks version [] fit = none
tasks version (t ∷ ts) fit =
    let times = both (both (number 0 4 t.budget) (number 0 4 t.period)) (number 0 4 t.start) in
    let front = both (both (both times (flag version t.split)) (number 0 4 t.ram)) (number 0 4 (length (spelling t.object))) in
    rw flat_map-cons (both (both front (object t.object fit.0.object_fits)) (tasks version ts fit.1))

begins : (version : Version) → AreBytes (magic version)
begins One = letters (codes "RTS1") refl
begins Two = letters (codes "RTS2") refl

system : (s : TaskSet) → IsSystem s → AreBytes (system_spelling s)
system s fits = both (both (both (begins s.version) (number 0 4 s.hyper)) (number 0 4 (length s.tasks))) (tasks s.version s.tasks fits.tasks_fit)

-- with a byte more the file would be read as the same value, which has one spelling
pub object_ends : (file : List ℕ) (o : ObjectValue) → Spells file o → spelled_object (file ++ 0 ∷ []) ≡ spelled_object file → ⊥
object_ends file o is same =
    let longer = both (subst AreBytes (sym is.bytes) (object o is.valid)) (more 0 (omega arith) none) in
    let again = image_takes (file ++ 0 ∷ []) o (IsBytes-all (file ++ 0 ∷ []) longer.all) (same ∙ ap spelled_object is.bytes ∙ image_again o is.valid) in
    omega (arith, ap length (again.1 ∙ sym is.bytes), length-append file (0 ∷ []))

pub system_ends : (file : List ℕ) (s : TaskSet) → SpellsSet file s → system_of (file ++ 0 ∷ []) ≡ system_of file → ⊥
system_ends file s is same =
    let longer = both (subst AreBytes (sym is.bytes) (system s is.valid)) (more 0 (omega arith) none) in
    let again = system_takes (file ++ 0 ∷ []) s (IsBytes-all (file ++ 0 ∷ []) longer.all) (same ∙ ap system_of is.bytes ∙ system_again s is.valid) in
    omega (arith, ap length (again.1 ∙ sym is.bytes), length-append file (0 ∷ []))
