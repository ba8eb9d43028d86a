-- Which name a path gives to the entry of an object.
use Rattle.rt_elf.proofs.Common.{◌≡◌, ℕ, ◌≤◌, ◌==◌, not, arith, drop, get_or, Bool, true, false, true≢false, List, length, take, Option, Some, None, Ok, Err, refl, sym, ap, ◌∙◌, is_word, nat_le}
use Rattle.std.proofs.Common.{◌↔◌, ◌<◌, ◌+◌, ◌-◌, ◌≢◌}
use Rattle.std.proofs.lemmas.Bool.{le-leb, leb-true, ne_eqb}
use Rattle.std.proofs.lemmas.List.{get_or-drop, length-drop}
use Rattle.std.proofs.lemmas.List.Sums.{suffix_len_is}
use Rattle.std.proofs.lemmas.Str.Pattern.{NoCharPasses-char, drop_at_char}
use Rattle.std.specs.Borrow.{Bor}
use Rattle.std.specs.List.{after_last}
use Rattle.std.specs.Prelude.{IfSome, IsSome, MatchOption}
use Rattle.std.specs.Str.Pattern.{RFindsChar}
use Rattle.std.specs.Global.{Vec}
use Rattle.std.specs.Option.{is_some, is_none, option_map}
use Rattle.rt_image.specs.ObjectFile.{ObjectValue, IsObject, spelling}
use Rattle.rt_image.specs.ObjectReading.{spelled_object}
use Rattle.rt_image.proofs.Objects.{image_again}
use Rattle.rt_names.specs.TaskName.{own_namer}
use Rattle.rt_elf.specs.declared.naming.entry_name.EntryName.{EntryName}
use Rattle.rt_elf.specs.declared.naming.fault.NameFault.{NameFault}
use Rattle.rt_elf.specs.declared.naming.fault.NameFault.TheVariants.{Object, Memory}
use Rattle.rt_elf.specs.naming.NamedEntry.{named, NamesFile}
use Rattle.rt_elf.specs.naming.PathName.{begins_with_letter, is_device, stem, stem_name, NamesByPath}

-- ---- what stands behind the last slash

behind : (text : List ℕ) (j : ℕ) → j ≤ length text → ((k : ℕ) → j ≤ k → k < length text → get_or text k 0 ≢ 47) → (0 < j → get_or text (j - 1) 0 ≡ 47) → after_last (λ b. b == 47) text ≡ drop j text
behind text j within later at =
    let size = suffix_len_is (λ b. not (b == 47)) text j 0 within (λ k low high. ap not (ne_eqb (get_or text k 0) 47 (later k low high))) (λ some. ap (λ b. not (b == 47)) (at some)) in
    let place : length text - (length text - j) ≡ j = omega (arith, within) in
    rw (size, place) refl

pub last_slash : (text : List ℕ) (r : Option (Bor (List ℕ) × Bor (List ℕ)))
    → MatchOption r (RFindsChar 47 text None) (λ x. (i : ℕ) × (j : ℕ) × RFindsChar 47 text (Some (i, j)) × (x.0.now ≡ take i text) × (x.1.now ≡ drop j text) × (i ≤ j) × (length x.0.now ≡ i) × (length x.1.now + j ≡ length text))
    → MatchOption r (after_last (λ b. b == 47) text ≡ text) (λ x. x.1.now ≡ after_last (λ b. b == 47) text)
last_slash text None none = behind text 0 (omega arith) (λ k low high. NoCharPasses-char 47 text k none (omega arith) high) (λ some. absurd (omega (arith, some)))
last_slash text (Some x) h =
    let i = h.0 in
    let j = h.1 in
    let begins = drop_at_char 47 text i j h.2.1 (omega arith) in
    let next : j ≡ i + 1 = omega (arith, ap length begins, length-drop i text, length-drop j text, h.5, h.7) in
    let later : (k : ℕ) → j ≤ k → k < length text → get_or text k 0 ≢ 47 = λ k low high e.
    let back : j + (k - j) ≡ k = omega (arith, low) in
    NoCharPasses-char 47 (drop j text) (k - j) h.2.0 (omega arith) (omega (arith, low, high, length-drop j text)) (get_or-drop j text (k - j) 0 ∙ ap (λ (n : ℕ). get_or text n 0) back ∙ e) in
    let before : j - 1 ≡ i = omega (arith, next) in
    h.4 ∙ sym (behind text j (omega (arith, h.7)) later (λ some. ap (λ (n : ℕ). get_or text n 0) before ∙ h.2.1.byte (omega arith)))

-- ---- what a path says

-- no name is made of a word that may be none
pub word_of : (r : Option EntryName) (path : List ℕ) → is_device path ≡ false → begins_with_letter (stem path) ≡ true
    → IsSome r ↔ ((is_word (stem path) ≡ true) × (length (stem path) ≤ 64)) → IfSome r (λ name. name.word.now ≡ stem path)
    → stem_name path ≡ option_map (λ (name : EntryName). name.word.now) r
word_of (Some name) path file letter fits is =
    let parts = fits.0 refl in
    let short : nat_le (length (stem path)) 64 ≡ true = le-leb (length (stem path)) 64 parts.1 in
    rw (file, letter, parts.0, short) (ap Some (sym is))
word_of None path file letter fits is =
    by (is_word (stem path)) (nat_le (length (stem path)) 64) refl refl
  where
    by : (word short : Bool) → is_word (stem path) ≡ word → nat_le (length (stem path)) 64 ≡ short → stem_name path ≡ None
    by true true word short = absurd (true≢false (sym (fits.1 (word, leb-true (length (stem path)) 64 short))))
    by true false word short = rw (file, letter, word, short) refl
    by false short word long = rw (file, letter, word) refl

pub none_of_device : (path : List ℕ) → is_device path ≡ true → stem_name path ≡ None
none_of_device path device = rw device refl

pub none_of_other : (path : List ℕ) → begins_with_letter (stem path) ≡ false → stem_name path ≡ None
none_of_other path other = by (is_device path) refl
  where
    by : (device : Bool) → is_device path ≡ device → stem_name path ≡ None
    by true device = rw device refl
    by false file = rw (file, other) refl

pub is_lacking : {X Y : Type 0} (f : X → Y) (x : Option X) (y : Option Y) (lacks : Bool) → option_map f x ≡ y → is_some x ≡ not lacks → lacks ≡ is_none y
is_lacking f None y true same is = ap is_none same
is_lacking f None y false same is = absurd (true≢false (sym is))
is_lacking f (Some x) y true same is = absurd (true≢false is)
is_lacking f (Some x) y false same is = ap is_none same

-- a file that spells an object is read as it
pub read_again : (file : List ℕ) → ((o : ObjectValue) × IsObject o × (file ≡ spelling o)) → (o : ObjectValue) × (spelled_object file ≡ Ok o)
read_again file (o, valid, is) = (o, ap spelled_object is ∙ image_again o valid)

-- ---- what a file comes to

module _ (path : List ℕ) (file : List ℕ) (bytes : Vec ℕ) where
  pub nameless : (o : ObjectValue) → spelled_object file ≡ Ok o → stem_name path ≡ None → bytes.items ≡ file → NamesByPath path file bytes
  nameless o read none same = (o, read, rw none same)

  -- a symbol names the task
  pub had_name : (name : List ℕ) (o : ObjectValue) → spelled_object file ≡ Ok o → stem_name path ≡ Some name → is_none (own_namer o) ≡ false → bytes.items ≡ file → NamesByPath path file bytes
  had_name name o read is has same = (o, read, rw (is, has) same)

  -- the object can't have the name
  unnamed : (name : List ℕ) (o : ObjectValue) (fault : NameFault) → spelled_object file ≡ Ok o → stem_name path ≡ Some name → is_none (own_namer o) ≡ true → named name o ≡ Err fault → bytes.items ≡ file
      → NamesByPath path file bytes
  unnamed name o fault read is none refused same = (o, read, rw (is, none, refused) same)

  pub can_not : (name : List ℕ) (o : ObjectValue) (fault : NameFault) → ¬ (fault ≡ Memory) → spelled_object file ≡ Ok o → stem_name path ≡ Some name → is_none (own_namer o) ≡ true
      → NamesFile file name (Err fault) → bytes.items ≡ file → NamesByPath path file bytes
  can_not name o Memory some read is none means same = absurd (some refl)
  can_not name o (Object fault) some read is none means same = let no : Ok o ≡ Err fault = sym read ∙ means in absurd cc
  can_not name o fault some read is none means same =
      let one : means.0 ≡ o = (let both : Ok means.0 ≡ Ok o = sym means.1 ∙ read in cc) in
      unnamed name o fault read is none (ap (named name) (sym one) ∙ means.2) same

  pub has_name : (name : List ℕ) (o : ObjectValue) → spelled_object file ≡ Ok o → stem_name path ≡ Some name → is_none (own_namer o) ≡ true → NamesFile file name (Ok bytes) → NamesByPath path file bytes
  has_name name o read is none means =
      let one : means.0 ≡ o = (let both : Ok means.0 ≡ Ok o = sym means.2 ∙ read in cc) in
      let can : named name o ≡ Ok means.1 = ap (named name) (sym one) ∙ means.3 in
      (o, read, rw (is, none, can) means)
