-- How calls of a disk follow one another.
use Rattle.rt_desk.proofs.Common.{◌≡◌, ◌⊎◌, ℕ, zero, suc, ◌+◌, ◌<◌, ◌≤◌, List, [], ◌∷◌, ◌++◌, take, drop, true, false, Some, None, Result, Ok, Err, inl, inr, refl, sym, ap, subst, ◌∙◌, arith, append_assoc}
use Rattle.std.proofs.Common.{◌≢◌, ⊎_elim, true≢false, bytes_eq, OnErr, IfErr}
use Rattle.std.proofs.lemmas.Bool.{cases_eq, cases_Bool}
use Rattle.std.proofs.lemmas.Slice.Eq.{bytes_eq-Decides}
use Rattle.rt_desk.specs.Desk.{Files}
use Rattle.rt_desk.specs.declared.desk.MakeFault.{MakeFault}
use Rattle.rt_desk.specs.declared.reason.Reason.{Reason}
use Rattle.rt_desk.specs.declared.reason.Reason.TheVariants.{Memory}
use Rattle.rt_desk.specs.declared.desk.MakeFault.TheVariants.{Refused}
use Rattle.rt_desk.specs.making.Disk.{Standing, KeepsTime, After, Calls, Fails, Same, SameBut, Creates, TearsNew, Appends, IsDurable, Moves, Removes}
use Rattle.rt_desk.specs.making.Making.{beside, IsBeside, IsPart, IsOldOrNew, AreTaken, Puts, Tears, MakesFile}
use Rattle.rt_desk.specs.making.Working.Parts.{Fills, PutsPart, IsEmpty, IsRemoved, HasCause}

abbrev Step : Type 1
Step = Files → Files → Type 0

-- no call
pub stays : (done torn : Step) (a : Standing) → done a.files a.files → ((x : Files) → torn x x) → Calls done torn a a
stays done torn a did same = record {
  tells = refl;
  passes = λ tells. record {
    files = did;
    now = λ left may. (left, may, same left);
    later = omega arith;
    since = λ t left le before. inl before;
    keeps = λ t left le before. before;
    faults = omega arith;
  };
}

-- a call, seen as less
pub weaker : {did done tore torn : Step} (a b : Standing) → Calls did tore a b → (did a.files b.files → done a.files b.files) → ((x y : Files) → tore x y → torn x y) → Calls done torn a b
weaker a b call does tears = record {
  tells = call.tells;
  passes = λ tells.
      let p = call.passes tells in
      record {
        files = does p.files;
        now = λ left may. (let s = p.now left may in (s.0, s.1, tears s.0 left s.2));
        later = p.later;
        since = λ t left le now. ⊎_elim inl (λ s. inr (s.0, s.1, tears s.0 left s.2)) (p.since t left le now);
        keeps = p.keeps;
        faults = p.faults;
      };
}

-- one call behind another
pub goes_on : {did₁ tore₁ did₂ tore₂ done torn : Step} (a b c : Standing) → Calls did₁ tore₁ a b → Calls did₂ tore₂ b c
    → (a.tells ≡ true → did₁ a.files b.files → did₂ b.files c.files → done a.files c.files)
    → (a.tells ≡ true → (x y : Files) → tore₁ x y → torn x y)
    → (a.tells ≡ true → (x y z : Files) → tore₁ x y → b.may_leave y → tore₂ y z → torn x z)
    → Calls done torn a c
goes_on {tore₂ = tore₂} {torn = torn} a b c first second does before behind = record {
  tells = second.tells ∙ first.tells;
  passes = λ tells.
      let p = first.passes tells in
      let q = second.passes (first.tells ∙ tells) in
      let tears : (left : Files) → After tore₂ b.may_leave left → After torn a.may_leave left = λ left s. (let r = p.now s.0 s.1 in (r.0, r.1, behind tells r.0 s.0 left r.2 s.1 s.2)) in
      record {
        files = does tells p.files q.files;
        now = λ left may. tears left (q.now left may);
        later = omega (arith, p.later, q.later);
        since = λ t left le now. ⊎_elim (λ mid. ⊎_elim inl (λ s. inr (s.0, s.1, before tells s.0 left s.2)) (p.since t left le mid)) (λ s. inr (tears left s)) (q.since t left (omega (arith, le, p.later)) now);
        keeps = λ t left le past. q.keeps t left (omega (arith, le, p.later)) (p.keeps t left le past);
        faults = omega (arith, p.faults, q.faults);
      };
}

-- what two calls leave but for one path
pub both_but : (path : List ℕ) (x y z : Files) → SameBut path x y → SameBut path y z → SameBut path x z
both_but path x y z first second = λ other ne. second other ne ∙ first other ne

pub both_same : (x y z : Files) → Same x y → Same y z → Same x z
both_same x y z first second = λ path. second path ∙ first path

-- ---- a part is looked for

-- the first so many paths beside a file are taken, and nothing was done
abbrev pub TakenSoFar : List ℕ → ℕ → Files → Files → Type 0
TakenSoFar path n old new = Same old new × ((k : ℕ) → k < n → beside path k ≢ path → old (beside path k) ≢ None)

one_more : (path : List ℕ) (n : ℕ) (x : Files) → ((k : ℕ) → k < n → beside path k ≢ path → x (beside path k) ≢ None) → (beside path n ≢ path → x (beside path n) ≢ None) → (k : ℕ) → k < n + 1 → beside path k ≢ path → x (beside path k) ≢ None
one_more path n x so_far here k low = ⊎_elim (λ e. subst (λ (m : ℕ). beside path m ≢ path → x (beside path m) ≢ None) (sym e) here) (λ ne. so_far k (omega (arith, ne, low))) (cases_eq k n)

pub next_taken : (path part : List ℕ) (n : ℕ) (a b c : Standing) → part ≡ beside path n → Calls (TakenSoFar path n) Same a b → Calls (Creates part (Ok false)) (TearsNew part (Ok false)) b c → Calls (TakenSoFar path (n + 1)) Same a c
next_taken path part n a b c is so_far taken =
    goes_on a b c so_far taken
    (λ _ x y. (both_same a.files b.files c.files x.0 y.1, one_more path n a.files x.1 (λ _ none. y.0 (ap b.files is ∙ x.0 (beside path n) ∙ none))))
    (λ _ x y same. same) (λ _ x y z same _ too. both_same x y z same too)

pub next_is_own : (path : List ℕ) (n : ℕ) (a b : Standing) → beside path n ≡ path → Calls (TakenSoFar path n) Same a b → Calls (TakenSoFar path (n + 1)) Same a b
next_is_own path n a b own so_far = weaker a b so_far (λ x. (x.0, one_more path n a.files x.1 (λ other. absurd (other own)))) (λ x y same. same)

-- ---- a part is filled

take_both : (done count : ℕ) (bytes : List ℕ) → take (done + count) bytes ≡ take done bytes ++ take count (drop done bytes)
take_both zero count bytes = ap (λ (n : ℕ). take n bytes) {x = 0 + count} {y = count} (omega arith)
take_both (suc done) zero [] = ap (λ (n : ℕ). take n []) {x = suc done + 0} {y = suc done} (omega arith)
take_both (suc done) (suc count) [] = ap (λ (n : ℕ). take n []) {x = suc done + suc count} {y = suc (done + suc count)} (omega arith)
take_both (suc done) count (b ∷ bytes) = ap (λ (n : ℕ). take n (b ∷ bytes)) {x = suc done + count} {y = suc (done + count)} (omega arith) ∙ ap (λ (l : List ℕ). b ∷ l) (take_both done count bytes)

pub more_written : (path bytes piece : List ℕ) (done count : ℕ) (a b c : Standing) → piece ≡ drop done bytes → Calls (Fills path (take done bytes) (Ok tt)) (SameBut path) a b → Calls (Appends path piece (Ok count)) (SameBut path) b c
    → Calls (Fills path (take (done + count) bytes) (Ok tt)) (SameBut path) a c
more_written path bytes piece done count a b c is so_far more =
    goes_on a b c so_far more
    (λ _ x y. (
      both_but path a.files b.files c.files x.0 y.0,
      λ whole old. y.1 (whole ++ take done bytes) (x.1 whole old)
          ∙ ap Some (append_assoc whole (take done bytes) (take count piece) ∙ ap (λ (l : List ℕ). whole ++ (take done bytes ++ take count l)) is ∙ ap (λ (l : List ℕ). whole ++ l) (sym (take_both done count bytes))),
    ))
    (λ _ x y same. same) (λ _ x y z same _ too. both_but path x y z same too)

fills_any : (path bytes : List ℕ) (r : Result (Unit {0}) MakeFault) (x y : Files) → Fills path bytes (Ok tt) x y → Fills path bytes r x y
fills_any path bytes (Ok done) x y filled = filled
fills_any path bytes (Err fault) x y filled = filled.0

-- permissions, bytes and a sync
pub all_written : (path bytes : List ℕ) (r : Result (Unit {0}) MakeFault) (a b c d : Standing) → Calls Same (SameBut path) a b → Calls (Fills path bytes (Ok tt)) (SameBut path) b c → Calls Same (SameBut path) c d → Calls (Fills path bytes r) (SameBut path) a d
all_written path bytes r a b c d permitted written synced =
    let so_far : Calls (Fills path bytes (Ok tt)) (SameBut path) a c = goes_on a b c permitted written
    (λ _ x y. (both_but path a.files b.files c.files (λ other _. x other) y.0, λ whole old. y.1 whole (x path ∙ old)))
    (λ _ x y same. same) (λ _ x y z same _ too. both_but path x y z same too) in
    goes_on a c d so_far synced
    (λ _ x y. fills_any path bytes r a.files d.files (both_but path a.files c.files d.files x.0 (λ other _. y other), λ whole old. y path ∙ x.1 whole old))
    (λ _ x y same. same) (λ _ x y z same _ too. both_but path x y z same too)

-- ---- a part takes the place of a file

part_alone : (path bytes part : List ℕ) → part ≢ path → (x y : Files) → SameBut part x y → IsOldOrNew path bytes part x y
part_alone path bytes part apart x y same = record { file = inl (same path (λ e. apart (sym e))); others = λ other _ ne. same other ne }

part_moves : (path bytes part : List ℕ) → part ≢ path → (x y z : Files) → SameBut part x y → y part ≡ Some bytes → Moves part path y z → IsOldOrNew path bytes part x z
part_moves path bytes part apart x y z same whole moves = record {
  file = ⊎_elim (λ old. inl (old ∙ same path (λ e. apart (sym e)))) (λ new. inr (new ∙ whole)) moves.0;
  others = λ other ne beside. moves.1 other beside ne ∙ same other beside;
}

-- a part is filled, and moved as a crash may leave it
pub part_put : {done moved : Step} (path bytes part : List ℕ) → part ≢ path → (a b c : Standing) → IsEmpty part a → Calls (Fills part bytes (Ok tt)) (SameBut part) a b → IsDurable part b → Calls moved (Moves part path) b c
    → (b.files part ≡ Some bytes → SameBut part a.files b.files → moved b.files c.files → done a.files c.files) → Calls done (IsOldOrNew path bytes part) a c
part_put path bytes part apart a b c empty filled durable moves does =
    let whole : a.tells ≡ true → b.files part ≡ Some bytes = λ tells. (filled.passes tells).files.1 [] (empty tells) in
    goes_on a b c filled moves (λ tells x y. does (whole tells) x.0 y) (λ _. part_alone path bytes part apart)
    (λ tells x y z same may move. part_moves path bytes part apart x y z same (durable (filled.tells ∙ tells) y may ∙ whole tells) move)

part_removed : (path bytes part : List ℕ) (x y z : Files) → IsOldOrNew path bytes part x y → part ≢ path → SameBut part y z → IsOldOrNew path bytes part x z
part_removed path bytes part x y z put apart same =
    let kept = same path (λ e. apart (sym e)) in
    record { file = ⊎_elim (λ old. inl (kept ∙ old)) (λ new. inr (kept ∙ new)) put.file; others = λ other ne beside. same other beside ∙ put.others other ne beside }

-- ---- a file is replaced

-- a part is made, and what becomes of it
replaced : {did : Step} (path bytes part : List ℕ) (r : Result (Unit {0}) MakeFault) (a b c : Standing) → IsBeside path part → Calls (Creates part (Ok true)) (SameBut part) a b → Calls did (IsOldOrNew path bytes part) b c
    → (IsPart a.files path part → Creates part (Ok true) a.files b.files → did b.files c.files → Puts path bytes r a.files c.files) → Calls (Puts path bytes r) (Tears a.files path bytes) a c
replaced path bytes part r a b c name made put does =
    let new : a.tells ≡ true → IsPart a.files path part = λ tells. record { name = name; free = (made.passes tells).files.0 } in
    goes_on a b c made put (λ tells x y. does (new tells) x y)
    (λ tells x y same. inr (part, new tells, part_alone path bytes part name.3 x y same))
    (λ tells x y z same _ torn. inr (part, new tells, old_or_new x y z same torn))
  where
    old_or_new : (x y z : Files) → SameBut part x y → IsOldOrNew path bytes part y z → IsOldOrNew path bytes part x z
    old_or_new x y z same torn = record {
      file = ⊎_elim (λ old. inl (old ∙ same path (λ e. name.3 (sym e)))) inr torn.file;
      others = λ other ne beside. torn.others other ne beside ∙ same other beside;
    }

equal_or_not : (xs ys : List ℕ) → (xs ≡ ys) ⊎ (xs ≢ ys)
equal_or_not xs ys =
    let decides = bytes_eq-Decides xs ys in
    ⊎_elim (λ equal. inl (decides.0 equal)) (λ other. inr (λ e. true≢false (sym (decides.1 e) ∙ other))) (cases_Bool (bytes_eq xs ys))

-- nothing stands at the part in the end, as in the beginning
all_but : (part : List ℕ) (x z : Files) → x part ≡ None → z part ≡ None → (other : List ℕ) → (other ≢ part → z other ≡ x other) → z other ≡ x other
all_but part x z free gone other same = ⊎_elim (λ is. ap z is ∙ gone ∙ sym free ∙ ap x (sym is)) same (equal_or_not other part)

-- a part that is moved
pub replaced_whole : (path bytes part : List ℕ) (a b c : Standing) → IsBeside path part → Calls (Creates part (Ok true)) (SameBut part) a b → Calls (PutsPart path bytes part (Ok tt)) (IsOldOrNew path bytes part) b c
    → Calls (Puts path bytes (Ok tt)) (Tears a.files path bytes) a c
replaced_whole path bytes part a b c name made put =
    replaced path bytes part (Ok tt) a b c name made put
    (λ new x y. (y.0, λ other ne. all_but part a.files c.files x.0 y.1 other (λ beside. y.2 other ne beside ∙ x.2 other beside)))

removes : (part : List ℕ) (r : Result (Unit {0}) Reason) (x y : Files) → Removes part r x y → SameBut part x y
removes part (Ok done) x y removed = removed.1
removes part (Err reason) x y removed = removed

-- a part that isn't moved, which is to be removed
pub replaced_not : (path bytes part : List ℕ) (fault : MakeFault) (r : Result (Unit {0}) Reason) (a b c d : Standing) → IsBeside path part → Calls (Creates part (Ok true)) (SameBut part) a b
    → Calls (SameBut part) (IsOldOrNew path bytes part) b c → Calls (Removes part r) (SameBut part) c d → Calls (Puts path bytes (Err fault)) (Tears a.files path bytes) a d
replaced_not path bytes part fault r a b c d name made put removed =
    let gone : Calls (SameBut part) (IsOldOrNew path bytes part) b d = goes_on b c d put removed
    (λ _ x y. both_but part b.files c.files d.files x (removes part r c.files d.files y)) (λ _ x y torn. torn)
    (λ _ x y z torn _ same. part_removed path bytes part x y z torn name.3 same) in
    replaced path bytes part (Err fault) a b d name made gone (λ new x y. inr (part, new, λ other ne. y other ne ∙ x.2 other ne))

-- where it is removed, all is as it was; else two calls have failed
pub is_removed : {tore : Step} (part : List ℕ) (r : Result (Unit {0}) Reason) (a b c d : Standing) → Calls (Creates part (Ok true)) (SameBut part) a b → Calls (SameBut part) tore b c → Fails b c → Calls (Removes part r) (SameBut part) c d → OnErr r (Fails c d) → IsRemoved a d
is_removed part (Ok done) a b c d made put fails removed _ tells few =
    let m = (made.passes tells).files in
    let b_tells = made.tells ∙ tells in
    let p = (put.passes b_tells).files in
    let r = (removed.passes (put.tells ∙ b_tells)).files in
    λ other. all_but part a.files d.files m.0 r.0 other (λ ne. r.1 other ne ∙ p other ne ∙ m.2 other ne)
is_removed part (Err reason) a b c d made put fails removed too tells few =
    let b_tells = made.tells ∙ tells in
    absurd (omega (arith, few, (made.passes tells).faults, fails b_tells, too (put.tells ∙ b_tells)))

-- ---- a file is made

on_err : (r : Result (Unit {0}) MakeFault) (a b : Standing) → OnErr r (IsRemoved a b) → a.tells ≡ true → OnErr r (b.faults ≤ a.faults + 1 → Same a.files b.files)
on_err (Ok done) a b h tells = tt
on_err (Err fault) a b h tells = h tells

if_err : (path target : List ℕ) (r : Result (Unit {0}) MakeFault) (a b : Standing) → IfErr r (HasCause target a b) → a.tells ≡ true
    → IfErr r (λ fault. a.refuses path ⊎ (a.faults < b.faults) ⊎ (fault ≡ Refused Memory) ⊎ AreTaken target a.files)
if_err path target (Ok done) a b h tells = tt
if_err path target (Err fault) a b h tells = inr (h tells)

pub file_made : (path target bytes : List ℕ) (r : Result (Unit {0}) MakeFault) (a b : Standing) → KeepsTime a → Calls (Puts target bytes r) (Tears a.files target bytes) a b → OnErr r (IsRemoved a b) → IfErr r (HasCause target a b) → a.tells ≡ true → MakesFile path target bytes r a b
file_made path target bytes r a b clock made removed cause tells =
    let p = made.passes tells in
    record {
      files = p.files;
      any_moment = λ left now. ⊎_elim (λ before. (left, clock.only_now left before, inl (λ path. refl))) (λ s. s) (p.since a.moment left (omega arith) now);
      removed = on_err r a b removed tells;
      cause = if_err path target r a b cause tells;
    }
