-- The entries of a history that goes on, and the last of them.
use Rattle.rt_history.proofs.Common.{◌≡◌, ℕ, zero, suc, ◌+◌, ◌≤◌, ◌==◌, true, false, Bool, cond, List, [], ◌∷◌, ◌++◌, length, take, replicate, Option, Some, None, refl, sym, ap, subst, ◌∙◌, arith, add-one, add-zero, nat_tests, Attempt, Record, Entry}
use Rattle.std.proofs.Common.{◌-◌, inl, inr, length-drop, drop}
use Rattle.std.proofs.lemmas.Bool.{cases_lt}
use Rattle.std.proofs.lemmas.List.{drop-drop}
use Rattle.circular_buffer.specs.Buffer.{Buffer, buffer, last_item, keep_last}
use Rattle.rt_history.specs.declared.record.Record.TheVariants as records
use Rattle.rt_history.specs.declared.record.Entry.TheVariants.{Busy, Idle}
use Rattle.rt_history.specs.Entries.{start_of, ticks_of, records_of, idle_before, entries_from}
use Rattle.rt_history.proofs.EntryLaws.{StartsAt, starts, entries-alone, entries-none}
use Rattle.rt_history.specs.ring.Pushed.{joined, joined_to, or_both, pushed}

-- ---- what the two ways of a push leave

last-behind : {A : Type 0} (x y : A) (xs : List A) → last_item (x ∷ y ∷ xs) ≡ last_item (y ∷ xs)
last-behind x y xs =
    let long : suc (suc (length xs)) - 1 ≡ suc (length xs) = omega arith in
    let short : suc (length xs) - 1 ≡ length xs = omega arith in
    rw (long, short) refl

pub pushed-joined : (xs : List Entry) (e stretch : Entry) → joined_to (last_item xs) e ≡ Some stretch → take (length xs - 1) xs ++ (stretch ∷ []) ≡ pushed xs e
pushed-joined [] e stretch found = absurd cc
pushed-joined (x ∷ []) e stretch found = let is : joined x e ≡ Some stretch = found in rw is refl
pushed-joined (x ∷ y ∷ xs) e stretch found =
    let long : suc (suc (length xs)) - 1 ≡ suc (length xs) = omega arith in
    let short : suc (length xs) - 1 ≡ length xs = omega arith in
    let later : take (suc (length xs) - 1) (y ∷ xs) ++ (stretch ∷ []) ≡ pushed (y ∷ xs) e = pushed-joined (y ∷ xs) e stretch (rw (sym (last-behind x y xs)) found) in
    rw long (ap (λ (zs : List Entry). x ∷ zs) (rw short at later))

pub pushed-apart : (xs : List Entry) (e : Entry) → joined_to (last_item xs) e ≡ None → xs ++ (e ∷ []) ≡ pushed xs e
pushed-apart [] e found = refl
pushed-apart (x ∷ []) e found = let is : joined x e ≡ None = found in rw is refl
pushed-apart (x ∷ y ∷ xs) e found = ap (λ (zs : List Entry). x ∷ zs) (pushed-apart (y ∷ xs) e (rw (sym (last-behind x y xs)) found))

-- an attempt is joined to nothing
pub pushed-busy : (xs : List Entry) (t : ℕ) (rec : Attempt) → xs ++ (Busy t rec ∷ []) ≡ pushed xs (Busy t rec)
pushed-busy [] t rec = refl
pushed-busy (Busy u before ∷ []) t rec = refl
pushed-busy (Idle u n ∷ []) t rec = refl
pushed-busy (x ∷ y ∷ xs) t rec = ap (λ (zs : List Entry). x ∷ zs) (pushed-busy (y ∷ xs) t rec)

-- ---- the last entries

or_both-some : (x e : Entry) (o : Option Entry) → 1 ≤ length (or_both x e o)
or_both-some x e None = omega arith
or_both-some x e (Some stretch) = omega arith

longest : (xs : List Entry) (e : Entry) → length xs ≤ length (pushed xs e)
longest [] e = omega arith
longest (x ∷ []) e = or_both-some x e (joined x e)
longest (x ∷ y ∷ xs) e = omega (arith, longest (y ∷ xs) e)

-- one item before as many as are kept
keep-behind : {A : Type 0} (n : ℕ) (x : A) (xs : List A) → n ≤ length xs → keep_last n (x ∷ xs) ≡ keep_last n xs
keep-behind n x xs enough =
    let more : suc (length xs) - n ≡ suc (length xs - n) = omega arith in
    rw more refl

keep-all : {A : Type 0} (n : ℕ) (xs : List A) → length xs ≤ n → keep_last n xs ≡ xs
keep-all n xs few = let none : length xs - n ≡ 0 = omega arith in rw none refl

kept-behind : (n : ℕ) (x : Entry) (xs : List Entry) (e : Entry) → 1 ≤ n → n ≤ length xs → keep_last n (pushed (keep_last n xs) e) ≡ keep_last n (pushed xs e)
    → keep_last n (pushed (keep_last n (x ∷ xs)) e) ≡ keep_last n (pushed (x ∷ xs) e)
kept-behind n x [] e some enough same = absurd (omega (arith, some, enough))
kept-behind n x (y ∷ xs) e some enough same =
    rw (keep-behind n x (y ∷ xs) enough) (same ∙ sym (keep-behind n x (pushed (y ∷ xs) e) (omega (arith, enough, longest (y ∷ xs) e))))

-- what is kept of the last entries is what is kept of all
pub kept-pushed : (n : ℕ) (xs : List Entry) (e : Entry) → 1 ≤ n → keep_last n (pushed (keep_last n xs) e) ≡ keep_last n (pushed xs e)
kept-pushed n [] e some = rw (keep-all {A = Entry} n [] (omega arith)) refl
kept-pushed n (x ∷ xs) e some = elim (cases_lt (length xs) n) [
  | inl few ↦ rw (keep-all n (x ∷ xs) (omega (arith, few))) refl
  | inr enough ↦ kept-behind n x xs e some enough (kept-pushed n xs e some)
]

-- the last of the last ones
keep-keep : {A : Type 0} (n m : ℕ) (xs : List A) → n ≤ m → keep_last n (keep_last m xs) ≡ keep_last n xs
keep-keep n m xs within =
    let left = length xs - m in
    let size : length (drop left xs) ≡ length xs - left = length-drop left xs in
    let all : left + (length (drop left xs) - n) ≡ length xs - n = omega (arith, size, within) in
    drop-drop (length (drop left xs) - n) left xs ∙ ap (λ (k : ℕ). drop k xs) all

-- what is held of entries is what is held of the last ones
pub held : (n : ℕ) (xs ys : List Entry) (e : Entry) (old : Buffer Entry) → 1 ≤ n → buffer (keep_last n xs) n ≡ old → ys ≡ pushed xs e
    → buffer (keep_last n ys) n ≡ buffer (keep_last old.capacity (pushed old.items e)) old.capacity
held n xs ys e old some is same =
    subst (λ (o : Buffer Entry). buffer (keep_last n ys) n ≡ buffer (keep_last o.capacity (pushed o.items e)) o.capacity) is
    (ap (λ (zs : List Entry). buffer zs n) (ap (keep_last n) same ∙ sym (kept-pushed n xs e some)))

-- and so where there is room for more
pub held-with-room : (n m : ℕ) (xs ys : List Entry) (e : Entry) (old : Buffer Entry) → 1 ≤ n → n ≤ m → buffer (keep_last n xs) n ≡ old → ys ≡ pushed xs e
    → buffer (keep_last n (keep_last m ys)) n ≡ buffer (keep_last old.capacity (pushed old.items e)) old.capacity
held-with-room n m xs ys e old some within is same = rw (keep-keep n m ys within) (held n xs ys e old some is same)

-- the last of the last ones are held as they were
pub held-twice : {A : Type 0} (n : ℕ) (xs : List A) (old : Buffer A) → buffer (keep_last n xs) n ≡ old → buffer (keep_last n (keep_last n xs)) n ≡ old
held-twice n xs old is = rw (keep-keep n n xs (omega arith)) is

-- ---- the entries of a longer history

-- an idle tick before the first entry, and one entry more behind the last
idle-pushed : (u : ℕ) (xs : List Entry) (e : Entry) → StartsAt (u + 1) xs → (xs ≡ [] → start_of e ≡ u + 1) → idle_before u (pushed xs e) ≡ pushed (idle_before u xs) e
idle-pushed u [] (Busy t rec) at alone = refl
idle-pushed u [] (Idle t n) at alone =
    let begins : t ≡ u + 1 = alone refl in
    let next : (u + 1 == t) ≡ true = grind (arith, nat_tests) in
    let long : n + 1 ≡ 1 + n = omega arith in
    rw (next, long) refl
idle-pushed u (Busy t rec ∷ []) e at alone = refl
idle-pushed u (Idle t n ∷ []) (Busy v rec) at alone = refl
idle-pushed u (Idle t n ∷ []) (Idle v m) at alone =
    let ends : t + n ≡ u + (n + 1) = omega (arith, at) in
    let long : (n + m) + 1 ≡ (n + 1) + m = omega arith in
    rw ends (elim (u + (n + 1) == v) as (λ (b : Bool). idle_before u (or_both (Idle t n) (Idle v m) (cond b (Some (Idle t (n + m))) None)) ≡ or_both (Idle u (n + 1)) (Idle v m) (cond b (Some (Idle u ((n + 1) + m))) None)) [
      | true ↦ rw long refl
      | false ↦ refl
    ])
idle-pushed u (Busy t rec ∷ y ∷ xs) e at alone = refl
idle-pushed u (Idle t n ∷ y ∷ xs) e at alone = refl

busy-pushed : (u : ℕ) (rec : Attempt) (xs : List Entry) (e : Entry) → Busy u rec ∷ pushed xs e ≡ pushed (Busy u rec ∷ xs) e
busy-pushed u rec [] e = refl
busy-pushed u rec (x ∷ xs) e = refl

pub grown : (u : ℕ) (rs : List Record) (e : Entry) → start_of e ≡ u + length rs → 1 ≤ ticks_of e → entries_from u (rs ++ records_of e) ≡ pushed (entries_from u rs) e
grown u [] e at some = entries-alone u e (at ∙ add-zero u) some
grown u (records.Busy rec ∷ rs) e at some =
    rw (grown (u + 1) rs e (at ∙ omega arith) some) (busy-pushed u rec (entries_from (u + 1) rs) e)
grown u (records.Idle ∷ rs) e at some =
    rw (grown (u + 1) rs e (at ∙ omega arith) some)
    (idle-pushed u (entries_from (u + 1) rs) e (starts (u + 1) rs) (λ none. at ∙ ap (λ (qs : List Record). u + suc (length qs)) (entries-none (u + 1) rs none)))

pub follows : (n : ℕ) (xs : List Entry) (e : Entry) (u : ℕ) (rs : List Record) → 1 ≤ n → xs ≡ keep_last n (entries_from u rs) → start_of e ≡ u + length rs → 1 ≤ ticks_of e
    → keep_last n (pushed xs e) ≡ keep_last n (entries_from u (rs ++ records_of e))
follows n xs e u rs some is at ticks = rw (is, kept-pushed n (entries_from u rs) e some, grown u rs e at ticks) refl
