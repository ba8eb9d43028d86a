-- What is read as a request is written for it, where it is one.
use Rattle.rt_packet.proofs.Common.{◌≡◌, ◌≢◌, ℕ, ◌≤◌, Bool, true, false, cond, eqb, List, [], ◌∷◌, ◌++◌, length, take, drop, Option, Some, None, refl, sym, ap, subst, ◌∙◌, inl, inr, arith, eqb-true, eq-eqb, option_map, bytes_eq, both_ways, cases_lt, bytes_eq-Decides, Software, Hardware, cut_at, long_number, two_numbers, resumed, hex_line}
use Rattle.std.specs.Prelude.{codes}
use Rattle.std.specs.Map.{lookup}
use Rattle.std.specs.Option.{unwrap_or}
use Rattle.std.proofs.lemmas.List.{take-append-drop}
use Rattle.rt_words.proofs.Founds.{some_is}
use Rattle.rt_points.specs.declared.point.PointKind.{PointKind}
use Rattle.rt_points.specs.declared.point.PointKind.TheVariants.{Break, Watch}
use Rattle.rt_points.specs.declared.point.WatchKind.TheVariants as watches
use Rattle.rt_packet.specs.declared.request.points.Spot.{Spot}
use Rattle.rt_packet.specs.declared.request.request.Selected.TheVariants.{Shown, Resumed}
use Rattle.rt_packet.specs.declared.request.request.Request.{Request}
use Rattle.rt_packet.specs.declared.request.request.Request.TheVariants.{Resume, Select, IsThere, TaskLine, Description, OtherAnnex, Monitor, Register, Memory, Insert, Remove, Detach, Malformed}
use Rattle.rt_packet.specs.request.Ids.{tasks_of}
use Rattle.rt_packet.specs.request.Points.{spot, spot_of}
use Rattle.rt_packet.specs.request.Requests.{whole_requests, prefixes, or_malformed, supported, resumes, selects, is_there, task_line, attached, of_annex, described, monitors, register, of_bytes, memory, write, inserts, removes, detaches, begins_with, by_prefix, whole_request, request_of}
use Rattle.rt_packet.specs.request.SpelledParts.{Lacks, IsTwo, kind_digit, IsPoint}
use Rattle.rt_packet.specs.request.Spelled.{IsSpelled, IsKnown}
use Rattle.rt_packet.proofs.request.TakenLemmas.{either_some, mapped_some, cut_takes, cut_lacks, long_takes, two_takes, id_takes, actions_take, features_take, line_takes}

-- what was found behind a beginning, where the request isn't malformed
taken : {A : Type 0} (make : A → Request) (o : Option A) (r : Request) → or_malformed (option_map make o) ≡ r → IsKnown r
    → (x : A) × (o ≡ Some x) × (make x ≡ r)
taken make None r e known = absurd (known.0 (sym e))
taken make (Some x) r e known = (x, refl, e)

-- what stands behind a beginning and is read as a request is written for it
abbrev IsTaken : List ℕ → (List ℕ → Request) → Type 0
IsTaken front read = (text : List ℕ) (r : Request) → read text ≡ r → IsKnown r → IsSpelled (front ++ text) r

supported_taken : IsTaken (codes "qSupported:") supported
supported_taken text r e known =
    subst (IsSpelled (codes "qSupported:" ++ text)) e (inr (text, refl, features_take text))

resumes_taken : IsTaken (codes "vCont;") resumes
resumes_taken text r e known =
    let found = taken Resume (resumed text) r e known in
    subst (IsSpelled (codes "vCont;" ++ text)) found.2 (text, refl, actions_take text found.0 found.1)

shown_taken : IsTaken (codes "Hg") (selects Shown)
shown_taken text r e known =
    let found = taken (Select Shown) (tasks_of text) r e known in
    subst (IsSpelled (codes "Hg" ++ text)) found.2 (text, refl, id_takes text found.0 found.1)

resumed_taken : IsTaken (codes "Hc") (selects Resumed)
resumed_taken text r e known =
    let found = taken (Select Resumed) (tasks_of text) r e known in
    subst (IsSpelled (codes "Hc" ++ text)) found.2 (text, refl, id_takes text found.0 found.1)

is_there_taken : IsTaken (codes "T") is_there
is_there_taken text r e known =
    let found = taken IsThere (tasks_of text) r e known in
    subst (IsSpelled (codes "T" ++ text)) found.2 (text, refl, id_takes text found.0 found.1)

task_line_taken : IsTaken (codes "qThreadExtraInfo,") task_line
task_line_taken text r e known =
    let found = taken TaskLine (tasks_of text) r e known in
    subst (IsSpelled (codes "qThreadExtraInfo," ++ text)) found.2 (text, refl, id_takes text found.0 found.1)

attached_taken : IsTaken (codes "qAttached:") attached
attached_taken text r e known = subst (IsSpelled (codes "qAttached:" ++ text)) e (inr (text, refl))

-- of the one annex that is read on
target_taken : (text : List ℕ) (x : List ℕ × List ℕ) (r : Request) → text ≡ x.0 ++ 58 ∷ x.1 → x.0 ≡ codes "target.xml"
    → or_malformed (option_map (λ (n : ℕ × ℕ). Description n.0 n.1) (two_numbers x.1)) ≡ r → IsKnown r
    → IsSpelled (codes "qXfer:features:read:" ++ text) r
target_taken text x r is annex e known =
    let found = taken (λ (n : ℕ × ℕ). Description n.0 n.1) (two_numbers x.1) r e known in
    let whole : text ≡ codes "target.xml" ++ 58 ∷ x.1 = is ∙ ap (λ (a : List ℕ). a ++ 58 ∷ x.1) annex in
    subst (IsSpelled (codes "qXfer:features:read:" ++ text)) found.2
    (x.1, ap (λ (t : List ℕ). codes "qXfer:features:read:" ++ t) whole, two_takes x.1 found.0 found.1)

other_taken : (text : List ℕ) (x : List ℕ × List ℕ) (r : Request) → text ≡ x.0 ++ 58 ∷ x.1 → Lacks 58 x.0
    → bytes_eq x.0 (codes "target.xml") ≡ false → OtherAnnex ≡ r → IsSpelled (codes "qXfer:features:read:" ++ text) r
other_taken text x r is lacks other e =
    let differs : x.0 ≢ codes "target.xml" =
    λ same. both_ways (bytes_eq x.0 (codes "target.xml")) other ((bytes_eq-Decides x.0 (codes "target.xml")).1 same) in
    subst (IsSpelled (codes "qXfer:features:read:" ++ text)) e
    (x.0, x.1, ap (λ (t : List ℕ). codes "qXfer:features:read:" ++ t) is, lacks, differs)

annex_case : (text : List ℕ) (x : List ℕ × List ℕ) (r : Request) (b : Bool) → text ≡ x.0 ++ 58 ∷ x.1 → Lacks 58 x.0
    → bytes_eq x.0 (codes "target.xml") ≡ b
    → cond b (or_malformed (option_map (λ (n : ℕ × ℕ). Description n.0 n.1) (two_numbers x.1))) OtherAnnex ≡ r → IsKnown r
    → IsSpelled (codes "qXfer:features:read:" ++ text) r
annex_case text x r true is lacks same e known =
    target_taken text x r is ((bytes_eq-Decides x.0 (codes "target.xml")).0 same) e known
annex_case text x r false is lacks other e known = other_taken text x r is lacks other e

described_taken : IsTaken (codes "qXfer:features:read:") described
described_taken text r e known =
    let found = taken of_annex (cut_at 58 text) r e known in
    annex_case text found.0 r (bytes_eq found.0.0 (codes "target.xml")) (cut_takes 58 text found.0 found.1)
    (cut_lacks 58 text found.0 found.1) refl found.2 known

monitors_taken : IsTaken (codes "qRcmd,") monitors
monitors_taken text r e known =
    let found = taken Monitor (hex_line text) r e known in
    subst (IsSpelled (codes "qRcmd," ++ text)) found.2 (text, refl, line_takes text found.0 found.1)

register_taken : IsTaken (codes "p") register
register_taken text r e known =
    let found = taken Register (long_number text) r e known in
    subst (IsSpelled (codes "p" ++ text)) found.2 (text, refl, long_takes text found.0 found.1)

bytes_case : (text : List ℕ) (x : ℕ × ℕ) (r : Request) (b : Bool) → eqb x.1 0 ≡ b → IsTwo text x.0 x.1
    → cond b Malformed (Memory x.0 x.1) ≡ r → IsKnown r → IsSpelled (codes "m" ++ text) r
bytes_case text x r true none two e known = absurd (known.0 (sym e))
bytes_case text x r false other two e known =
    let some : 1 ≤ x.1 = elim (cases_lt 0 x.1) [
      | inl above ↦ above
      | inr none ↦ absurd (both_ways (eqb x.1 0) other (eq-eqb x.1 0 (omega (arith, none))))
    ] in
    subst (IsSpelled (codes "m" ++ text)) e (text, refl, two, some)

memory_taken : IsTaken (codes "m") memory
memory_taken text r e known =
    let found = taken of_bytes (two_numbers text) r e known in
    bytes_case text found.0 r (eqb found.0.1 0) refl (two_takes text found.0 found.1) found.2 known

registers_written : IsTaken (codes "G") write
registers_written text r e known = subst (IsSpelled (codes "G" ++ text)) e (inl (text, refl))

register_written : IsTaken (codes "P") write
register_written text r e known = subst (IsSpelled (codes "P" ++ text)) e (inr (inl (text, refl)))

memory_written : IsTaken (codes "M") write
memory_written text r e known = subst (IsSpelled (codes "M" ++ text)) e (inr (inr (inl (text, refl))))

binary_written : IsTaken (codes "X") write
binary_written text r e known = subst (IsSpelled (codes "X" ++ text)) e (inr (inr (inr (text, refl))))

-- the rest of a point of a kind
spot_takes : (letter : ℕ) (kind : PointKind) (text : List ℕ) (s : Spot) → spot_of kind text ≡ Some s
    → IsPoint letter (letter ∷ kind_digit kind ∷ text) s
spot_takes letter kind [] s e = absurd cc
spot_takes letter kind (b ∷ bs) s e = elim (either_some (eqb b 44) (option_map (spot kind) (two_numbers bs)) None s e) [
  | inl found ↦
      let numbers = mapped_some (spot kind) (two_numbers bs) s found.1 in
      subst (IsPoint letter (letter ∷ kind_digit kind ∷ b ∷ bs)) numbers.2
      (bs, ap (λ c. letter ∷ kind_digit kind ∷ c ∷ bs) (eqb-true b 44 found.0), two_takes bs numbers.0 numbers.1)
  | inr found ↦ absurd (let none = found.1 in cc)
]

insert_taken : (kind : PointKind) → IsTaken (90 ∷ kind_digit kind ∷ []) (inserts kind)
insert_taken kind text r e known =
    let found = taken Insert (spot_of kind text) r e known in
    subst (IsSpelled (90 ∷ kind_digit kind ∷ text)) found.2 (spot_takes 90 kind text found.0 found.1)

remove_taken : (kind : PointKind) → IsTaken (122 ∷ kind_digit kind ∷ []) (removes kind)
remove_taken kind text r e known =
    let found = taken Remove (spot_of kind text) r e known in
    subst (IsSpelled (122 ∷ kind_digit kind ∷ text)) found.2 (spot_takes 122 kind text found.0 found.1)

detach_taken : IsTaken (codes "D;") detaches
detach_taken text r e known =
    let found = taken Detach (long_number text) r e known in
    subst (IsSpelled (codes "D;" ++ text)) found.2 (inl (text, refl, long_takes text found.0 found.1))

kill_taken : IsTaken (codes "vKill;") detaches
kill_taken text r e known =
    let found = taken Detach (long_number text) r e known in
    subst (IsSpelled (codes "vKill;" ++ text)) found.2 (inr (text, refl, long_takes text found.0 found.1))

-- ---- the two tables

abbrev AreTaken : List (List ℕ × (List ℕ → Request)) → Type 0
AreTaken [] = Unit {0}
AreTaken (row ∷ rows) = IsTaken row.0 row.1 × AreTaken rows

begin_case : (row : List ℕ × (List ℕ → Request)) (rest r : Request) (payload : List ℕ) (b : Bool) → begins_with row.0 payload ≡ b
    → cond b (row.1 (drop (length row.0) payload)) rest ≡ r → IsTaken row.0 row.1 → IsKnown r
    → (rest ≡ r → IsSpelled payload r) → IsSpelled payload r
begin_case row rest r payload true begins e row_taken known more =
    let front : take (length row.0) payload ≡ row.0 = (bytes_eq-Decides (take (length row.0) payload) row.0).0 begins in
    let whole : row.0 ++ drop (length row.0) payload ≡ payload =
    ap (λ (t : List ℕ). t ++ drop (length row.0) payload) (sym front) ∙ take-append-drop (length row.0) payload in
    subst (λ (p : List ℕ). IsSpelled p r) whole (row_taken (drop (length row.0) payload) r e known)
begin_case row rest r payload false begins e row_taken known more = more e

prefix_takes : (rows : List (List ℕ × (List ℕ → Request))) (payload : List ℕ) (r : Request) → AreTaken rows
    → by_prefix rows payload ≡ r → IsKnown r → IsSpelled payload r
prefix_takes [] payload r rows_taken e known = absurd (known.1 (sym e))
prefix_takes (row ∷ rows) payload r rows_taken e known =
    begin_case row (by_prefix rows payload) r payload (begins_with row.0 payload) refl e rows_taken.0 known
    (λ more. prefix_takes rows payload r rows_taken.1 more known)

abbrev AreWritten : List (List ℕ × Request) → Type 0
AreWritten [] = Unit {0}
AreWritten (row ∷ rows) = IsSpelled row.0 row.1 × AreWritten rows

whole_takes : (rows : List (List ℕ × Request)) (payload : List ℕ) (r : Request) → AreWritten rows
    → lookup (bytes_eq payload) rows ≡ Some r → IsSpelled payload r
whole_takes [] payload r written e = absurd cc
whole_takes (row ∷ rows) payload r written e =
    elim (either_some (bytes_eq payload row.0) (Some row.1) (lookup (bytes_eq payload) rows) r e) [
      | inl found ↦
          let same : payload ≡ row.0 = (bytes_eq-Decides payload row.0).0 found.0 in
          subst (λ (p : List ℕ). IsSpelled p r) (sym same) (subst (IsSpelled row.0) (some_is row.1 r found.1) written.0)
      | inr found ↦ whole_takes rows payload r written.1 found.1
    ]

whole_written : AreWritten whole_requests
unfolding whole_requests
whole_written = (
  inl (refl, refl),
  (refl, (refl, (refl, (refl, (refl, (refl, (refl, (refl, (refl, (inl refl, (refl, (refl, (refl, tt))))))))))))),
)

prefixes_taken : AreTaken prefixes
unfolding prefixes
prefixes_taken = (
  supported_taken,
  (
    resumes_taken,
    (
      shown_taken,
      (
        resumed_taken,
        (
          is_there_taken,
          (
            task_line_taken,
            (
              attached_taken,
              (
                described_taken,
                (
                  monitors_taken,
                  (
                    register_taken,
                    (
                      memory_taken,
                      (
                        registers_written,
                        (
                          register_written,
                          (
                            memory_written,
                            (
                              binary_written,
                              (
                                insert_taken (Break Software),
                                (
                                  insert_taken (Break Hardware),
                                  (
                                    insert_taken (Watch watches.Write),
                                    (
                                      insert_taken (Watch watches.Read),
                                      (
                                        insert_taken (Watch watches.Access),
                                        (
                                          remove_taken (Break Software),
                                          (
                                            remove_taken (Break Hardware),
                                            (
                                              remove_taken (Watch watches.Write),
                                              (
                                                remove_taken (Watch watches.Read),
                                                (
                                                  remove_taken (Watch watches.Access),
                                                  (detach_taken, (kill_taken, tt)),
                                                ),
                                              ),
                                            ),
                                          ),
                                        ),
                                      ),
                                    ),
                                  ),
                                ),
                              ),
                            ),
                          ),
                        ),
                      ),
                    ),
                  ),
                ),
              ),
            ),
          ),
        ),
      ),
    ),
  ),
)

-- ---- a payload

read_case : (payload : List ℕ) (r : Request) (o : Option Request) → whole_request payload ≡ o
    → unwrap_or o (by_prefix prefixes payload) ≡ r → IsKnown r → IsSpelled payload r
read_case payload r None none e known = prefix_takes prefixes payload r prefixes_taken e known
read_case payload r (Some found) is e known = whole_takes whole_requests payload r whole_written (is ∙ ap Some e)

pub spelled_takes : (payload : List ℕ) (r : Request) → request_of payload ≡ r → IsKnown r → IsSpelled payload r
spelled_takes payload r e known = read_case payload r (whole_request payload) refl e known

-- ---- what the two tables give, and so what the parser gives

pub whole_taken : (payload : List ℕ) (found : Request) → Some found ≡ whole_request payload → IsKnown found → IsSpelled payload found
whole_taken payload found is known =
    spelled_takes payload found (sym (ap (λ o. unwrap_or o (by_prefix prefixes payload)) is)) known

pub prefix_taken : (payload : List ℕ) (found : Request) → None ≡ whole_request payload → found ≡ by_prefix prefixes payload
    → IsKnown found → IsSpelled payload found
prefix_taken payload found none is known =
    spelled_takes payload found (sym (is ∙ ap (λ o. unwrap_or o (by_prefix prefixes payload)) none)) known
