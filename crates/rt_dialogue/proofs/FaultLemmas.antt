-- A session ends early.
use Rattle.rt_dialogue.proofs.Common.{◌≡◌, inl, inr, ℕ, List, Result, Err, sym, ap, subst, ◌∙◌, arith, Seen, DeviceFault, BufferedSink, Device, DebugFault, Sim, Input, IsOfInput, HasSaid, SaysLess, EndsBy}
use Rattle.rt_opening.specs.declared.fault.SimFault.TheVariants.{Memory}

-- a fault of the input is none of the device
pub no_device : {X G : Type 0} (r : Result X DebugFault) (fault : DebugFault) (device : DeviceFault) → (e : DebugFault) × (r ≡ Err e) × (e ≡ fault) → IsOfInput fault → r ≡ Err (Sim (Device device)) → G
no_device {X = X} r fault device is which at = elim which [
  | inl i ↦ absurd (let same : ◌≡◌ {A = Result X DebugFault} (Err Input) (Err (Sim (Device device))) = ap Err (sym (is.2 ∙ i)) ∙ sym is.1 ∙ at in cc)
  | inr m ↦ absurd (let same : ◌≡◌ {A = Result X DebugFault} (Err (Sim Memory)) (Err (Sim (Device device))) = ap Err (sym (is.2 ∙ m)) ∙ sym is.1 ∙ at in cc)
]

module _ {S : Type 0} (seen : S → Seen) where
  -- a failing device
  pub by_device : (text : List ℕ) (fault : DeviceFault) (out : BufferedSink S) → SaysLess seen text fault out → EndsBy seen (Sim (Device fault)) text out.inner
  by_device text fault out speaks = λ limit. let part = speaks (omega (arith, limit)) in (omega (arith, part.0), part.1)

  -- a failing input
  pub by_input : (text : List ℕ) (fault : DebugFault) (out : BufferedSink S) → IsOfInput fault → HasSaid seen text out → EndsBy seen fault text out.inner
  by_input text fault out which said = elim which [
    | inl at ↦ subst (λ (f : DebugFault). EndsBy seen f text out.inner) (sym at) said.arrived
    | inr at ↦ subst (λ (f : DebugFault). EndsBy seen f text out.inner) (sym at) said.arrived
  ]
