-- Parts that were appended one after the other.
use Rattle.rt_image.proofs.Common.{◌≡◌, ℕ, List, [], length, ◌++◌, Result, Ok, Err, sym, ap, ◌∙◌, append_assoc, flat_map, Version, labels, label_spelling, spelling, SetTask, set_task, set_tasks, task_spelling}
use Rattle.std.proofs.Common.{OnOk}
use Rattle.std.specs.Prelude.{is_ok, if◌then◌else◌}
use Rattle.std.proofs.lemmas.List.{length-map}
use Rattle.rt_image.specs.declared.object.Symbol.{Symbol}
use Rattle.rt_image.specs.declared.system.Task.{Task}
use Rattle.rt_image.specs.ObjectFile.{label, header_spelling}
use Rattle.rt_image.specs.SystemFile.{front_spelling, set_front_spelling, system_spelling}

-- two parts and a last one
pub three_parts : {E : Type 0} (r : Result (Unit {0}) E) (old one two three a b c : List ℕ) → a ≡ old ++ one → b ≡ a ++ two → OnOk r (c ≡ b ++ three) → OnOk r (c ≡ old ++ (one ++ two ++ three))
three_parts (Ok u) old one two three a b c p q h =
    h ∙ ap (λ (x : List ℕ). x ++ three) (q ∙ ap (λ (x : List ℕ). x ++ two) p ∙ append_assoc old one two) ∙ append_assoc old (one ++ two) three
three_parts (Err e) old one two three a b c p q h = tt

-- an object: what stands before its bytes, these, and its symbols
pub object_parts : {E : Type 0} (r : Result (Unit {0}) E) (old bytes : List ℕ) (entry : ℕ) (ss : List Symbol) (a b c : List ℕ)
    → a ≡ old ++ header_spelling entry (length bytes) (length ss) → b ≡ a ++ bytes → OnOk r (c ≡ b ++ flat_map label_spelling (labels ss))
    → OnOk r (c ≡ old ++ spelling (record { entry = entry; bytes = bytes; labels = labels ss }))
object_parts r old bytes entry ss a b c p q h =
    three_parts r old (header_spelling entry (length bytes) (length (labels ss))) bytes (flat_map label_spelling (labels ss)) a b c
    (p ∙ ap (λ (n : ℕ). old ++ header_spelling entry (length bytes) n) (sym (length-map ss label))) q h

-- a task: its object is spelled first, so that its length is known
pub task_parts : {E : Type 0} (r : Result (Unit {0}) E) (old : List ℕ) (version : Version) (t : SetTask) (none file text a c : List ℕ)
    → none ≡ [] → file ≡ none ++ spelling t.object → text ≡ file → a ≡ old ++ front_spelling version t.budget t.period t.start t.split t.ram (length text) → c ≡ (if is_ok r then a ++ text else a)
    → OnOk r (c ≡ old ++ task_spelling version t)
unfolding task_spelling
task_parts (Ok u) old version t none file text a c n f g p h =
    h ∙ ap (λ (x : List ℕ). x ++ text) p ∙ append_assoc old (front_spelling version t.budget t.period t.start t.split t.ram (length text)) text
    ∙ ap (λ (x : List ℕ). old ++ (front_spelling version t.budget t.period t.start t.split t.ram (length x) ++ x)) (g ∙ f ∙ ap (λ (x : List ℕ). x ++ spelling t.object) n)
task_parts (Err e) old version t none file text a c n f g p h = tt

-- a system: what stands before its tasks, and these
pub system_parts : {E : Type 0} (r : Result (Unit {0}) E) (old : List ℕ) (version : Version) (hyper : ℕ) (ts : List Task) (a c : List ℕ)
    → a ≡ old ++ set_front_spelling version hyper (length ts) → OnOk r (c ≡ a ++ flat_map (task_spelling version) (set_tasks ts))
    → OnOk r (c ≡ old ++ system_spelling (record { version = version; hyper = hyper; tasks = set_tasks ts }))
system_parts (Ok u) old version hyper ts a c p h =
    h ∙ ap (λ (x : List ℕ). x ++ flat_map (task_spelling version) (set_tasks ts)) (p ∙ ap (λ (n : ℕ). old ++ set_front_spelling version hyper n) (sym (length-map ts set_task)))
    ∙ append_assoc old (set_front_spelling version hyper (length (set_tasks ts))) (flat_map (task_spelling version) (set_tasks ts))
system_parts (Err e) old version hyper ts a c p h = tt
