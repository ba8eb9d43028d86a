-- What is written for a request is read as it.
use Rattle.rt_packet.proofs.Common.{◌≡◌, ◌≢◌, ℕ, ◌≤◌, Bool, false, eqb, List, ◌∷◌, ◌++◌, Option, Some, None, refl, sym, ap, ◌∙◌, inl, inr, arith, ne_eqb, option_map, bytes_eq, cases_Bool, bytes_eq-Decides, Tasks, Software, Hardware, parts}
use Rattle.std.specs.Prelude.{codes}
use Rattle.std.specs.List.{list_any}
use Rattle.std.specs.Option.{unwrap_or}
use Rattle.rt_points.specs.declared.point.PointKind.{PointKind}
use Rattle.rt_points.specs.declared.point.PointKind.TheVariants.{Break, Watch}
use Rattle.rt_points.specs.declared.point.WatchKind.TheVariants as watches
use Rattle.rt_packet.specs.declared.request.request.Selected.{Selected}
use Rattle.rt_packet.specs.declared.request.request.Selected.TheVariants.{Shown, Resumed}
use Rattle.rt_packet.specs.declared.request.request.Request.{Request}
use Rattle.rt_packet.specs.declared.request.request.Request.TheVariants.{Supported, LastStop, Actions, Resume, Continue, Step, BackStep, BackContinue, Select, IsThere, Current, FirstTasks, MoreTasks, TaskLine, Attached, Description, OtherAnnex, Monitor, Registers, Register, Memory, Write, Insert, Remove, DetachAll, Detach, Kill, Malformed, Unknown}
use Rattle.rt_packet.specs.request.Points.{spot, spot_of}
use Rattle.rt_packet.specs.request.Requests.{whole_requests, prefixes, or_malformed, supported, of_annex, of_bytes, described, inserts, removes, whole_request, by_prefix, request_of}
use Rattle.rt_packet.specs.request.SpelledParts.{IsTwo, IsFeatures, kind_digit, Lacks}
use Rattle.rt_packet.specs.request.Spelled.{IsSelect, IsSpelled}
use Rattle.rt_packet.proofs.request.MarkLemmas.{lacks_by_test, cut_again, parts_again}
use Rattle.rt_packet.proofs.request.SpelledLemmas.{long_again, two_again, id_again, actions_again, line_again}

-- what stands behind a beginning is read as it is there
behind : {A : Type 0} (payload front text : List ℕ) (make : A → Request) (read : Option A) (x : A) → payload ≡ front ++ text
    → request_of (front ++ text) ≡ or_malformed (option_map make read) → read ≡ Some x → request_of payload ≡ make x
behind payload front text make read x is begins found = ap request_of is ∙ begins ∙ ap (λ r. or_malformed (option_map make r)) found

features_again : (text : List ℕ) (has : Bool) → IsFeatures text has → supported text ≡ Supported has
features_again text has (feature, others, is, lacks, any) =
    let cut : parts text ≡ feature ∷ others = ap parts is ∙ parts_again 59 feature others lacks in
    ap (λ (ts : List (List ℕ)). Supported (list_any (λ f. bytes_eq f (codes "multiprocess+")) ts)) cut ∙ ap Supported any

select_again : (payload : List ℕ) (of : Selected) (tasks : Tasks) → IsSelect payload of tasks → request_of payload ≡ Select of tasks
unfolding whole_requests prefixes
select_again payload Shown tasks (id, is, h) =
    behind payload (codes "Hg") id (Select Shown) _ tasks is refl (id_again id tasks h)
select_again payload Resumed tasks (id, is, h) =
    behind payload (codes "Hc") id (Select Resumed) _ tasks is refl (id_again id tasks h)

other_annex : (annex rest : List ℕ) → Lacks 58 annex → annex ≢ codes "target.xml" → described (annex ++ 58 ∷ rest) ≡ OtherAnnex
other_annex annex rest lacks other = elim (cases_Bool (bytes_eq annex (codes "target.xml"))) [
  | inl same ↦ absurd (other ((bytes_eq-Decides annex (codes "target.xml")).0 same))
  | inr differs ↦ ap (λ r. or_malformed (option_map of_annex r)) (cut_again 58 annex rest lacks) ∙ rw differs refl
]

description_again : (text : List ℕ) (o n : ℕ) → IsTwo text o n → described (codes "target.xml" ++ 58 ∷ text) ≡ Description o n
description_again text o n h =
    ap (λ r. or_malformed (option_map of_annex r)) (cut_again 58 (codes "target.xml") text (lacks_by_test 58 (codes "target.xml") refl))
    ∙ ap (λ r. or_malformed (option_map (λ (x : ℕ × ℕ). Description x.0 x.1) r)) (two_again text o n h)

-- the numbers behind a kind
point_again : (kind : PointKind) (numbers : List ℕ) (a n : ℕ) → IsTwo numbers a n → spot_of kind (44 ∷ numbers) ≡ Some (spot kind (a, n))
point_again kind numbers a n h = ap (option_map (spot kind)) (two_again numbers a n h)

insert_again : (kind : PointKind) (numbers : List ℕ) → request_of (90 ∷ kind_digit kind ∷ 44 ∷ numbers) ≡ inserts kind (44 ∷ numbers)
unfolding whole_requests prefixes
insert_again (Break Software) numbers = refl
insert_again (Break Hardware) numbers = refl
insert_again (Watch watches.Write) numbers = refl
insert_again (Watch watches.Read) numbers = refl
insert_again (Watch watches.Access) numbers = refl

remove_again : (kind : PointKind) (numbers : List ℕ) → request_of (122 ∷ kind_digit kind ∷ 44 ∷ numbers) ≡ removes kind (44 ∷ numbers)
unfolding whole_requests prefixes
remove_again (Break Software) numbers = refl
remove_again (Break Hardware) numbers = refl
remove_again (Watch watches.Write) numbers = refl
remove_again (Watch watches.Read) numbers = refl
remove_again (Watch watches.Access) numbers = refl

memory_again : (a n : ℕ) → 1 ≤ n → of_bytes (a, n) ≡ Memory a n
memory_again a n some =
    let other : eqb n 0 ≡ false = ne_eqb n 0 (λ e. omega (arith, e, some)) in rw other refl

pub spelled_again : (payload : List ℕ) (r : Request) → IsSpelled payload r → request_of payload ≡ r
unfolding whole_requests prefixes
spelled_again payload (Supported has) (inl (is, none)) = ap request_of is ∙ ap Supported (sym none)
spelled_again payload (Supported has) (inr (text, is, h)) = ap request_of is ∙ features_again text has h
spelled_again payload LastStop is = ap request_of is
spelled_again payload Actions is = ap request_of is
spelled_again payload (Resume found) (text, is, h) =
    behind payload (codes "vCont;") text Resume _ found is refl (actions_again text found h)
spelled_again payload Continue is = ap request_of is
spelled_again payload Step is = ap request_of is
spelled_again payload BackStep is = ap request_of is
spelled_again payload BackContinue is = ap request_of is
spelled_again payload (Select of tasks) h = select_again payload of tasks h
spelled_again payload (IsThere tasks) (id, is, h) =
    behind payload (codes "T") id IsThere _ tasks is refl (id_again id tasks h)
spelled_again payload Current is = ap request_of is
spelled_again payload FirstTasks is = ap request_of is
spelled_again payload MoreTasks is = ap request_of is
spelled_again payload (TaskLine tasks) (id, is, h) =
    behind payload (codes "qThreadExtraInfo,") id TaskLine _ tasks is refl (id_again id tasks h)
spelled_again payload Attached (inl is) = ap request_of is
spelled_again payload Attached (inr (rest, is)) = ap request_of is
spelled_again payload (Description o n) (text, is, h) = ap request_of is ∙ description_again text o n h
spelled_again payload OtherAnnex (annex, rest, is, lacks, other) = ap request_of is ∙ other_annex annex rest lacks other
spelled_again payload (Monitor line) (text, is, h) =
    behind payload (codes "qRcmd,") text Monitor _ line is refl (line_again text line h)
spelled_again payload Registers is = ap request_of is
spelled_again payload (Register n) (text, is, h) =
    behind payload (codes "p") text Register _ n is refl (long_again text n h)
spelled_again payload (Memory a n) (text, is, h, some) =
    behind payload (codes "m") text of_bytes _ (a, n) is refl (two_again text a n h) ∙ memory_again a n some
spelled_again payload Write (inl (rest, is)) = ap request_of is
spelled_again payload Write (inr (inl (rest, is))) = ap request_of is
spelled_again payload Write (inr (inr (inl (rest, is)))) = ap request_of is
spelled_again payload Write (inr (inr (inr (rest, is)))) = ap request_of is
spelled_again payload (Insert s) (numbers, is, h) =
    ap request_of is ∙ insert_again s.kind numbers
    ∙ ap (λ r. or_malformed (option_map Insert r)) (point_again s.kind numbers s.address s.length h)
spelled_again payload (Remove s) (numbers, is, h) =
    ap request_of is ∙ remove_again s.kind numbers
    ∙ ap (λ r. or_malformed (option_map Remove r)) (point_again s.kind numbers s.address s.length h)
spelled_again payload DetachAll is = ap request_of is
spelled_again payload (Detach n) (inl (text, is, h)) =
    behind payload (codes "D;") text Detach _ n is refl (long_again text n h)
spelled_again payload (Detach n) (inr (text, is, h)) =
    behind payload (codes "vKill;") text Detach _ n is refl (long_again text n h)
spelled_again payload Kill is = ap request_of is
spelled_again payload Malformed h = absurd h
spelled_again payload Unknown h = absurd h

-- ---- what the two tables give, and so what the parser gives

pub whole_is : (payload : List ℕ) (found r : Request) → Some found ≡ whole_request payload → IsSpelled payload r → found ≡ r
whole_is payload found r is h = ap (λ o. unwrap_or o (by_prefix prefixes payload)) is ∙ spelled_again payload r h

pub prefix_is : (payload : List ℕ) (found r : Request) → None ≡ whole_request payload → found ≡ by_prefix prefixes payload
    → IsSpelled payload r → found ≡ r
prefix_is payload found r none is h =
    is ∙ ap (λ o. unwrap_or o (by_prefix prefixes payload)) none ∙ spelled_again payload r h
