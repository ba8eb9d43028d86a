-- What holds of results.
use Rattle.rt_certify.proofs.Common.{ℕ, Option, Some, None}
use Rattle.std.proofs.Common.{IfSome, Result, Ok, Err, OnOk, IfErr}

pub on_ok : {T E : Type 0} (r : Result T E) (P : Type 0) → P → OnOk r P
on_ok (Ok x) P holds = holds
on_ok (Err e) P holds = tt

pub ok_map : {T E : Type 0} (r : Result T E) (P Q : Type 0) → (P → Q) → OnOk r P → OnOk r Q
ok_map (Ok x) P Q step holds = step holds
ok_map (Err e) P Q step holds = tt

pub err_map : {T E : Type 0} (r : Result T E) (P Q : E → Type 0) → ((e : E) → P e → Q e) → IfErr r P → IfErr r Q
err_map (Ok x) P Q step holds = tt
err_map (Err e) P Q step holds = step e holds

pub if_some : (o : Option ℕ) (P : Type 0) → P → IfSome o (λ w. P)
if_some (Some w) P holds = holds
if_some None P holds = tt
