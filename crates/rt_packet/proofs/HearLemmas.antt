-- One byte, by where it stands.
use Rattle.rt_packet.proofs.Common.{◌≡◌, ◌≢◌, ℕ, refl, sym, ap, ◌∙◌, ne_eqb, dollar, hash, Heard}
use Rattle.rt_packet.specs.Frame.{Frame, Payload, Outside, Within, Half, kept_of, with_byte, verdict, hears}
use Rattle.rt_packet.specs.declared.decoder.Heard.TheVariants.{Nothing}

-- a byte of a payload
pub hears_plain : (payload : Payload) (b : ℕ) → b ≢ dollar → b ≢ hash → hears (Within payload) b ≡ (Within (with_byte payload b), Nothing)
hears_plain payload b other goes_on = rw (ne_eqb b dollar other, ne_eqb b hash goes_on) refl

pub grown : (old new : Frame) (payload : Payload) (b : ℕ) → old ≡ Within payload → b ≢ dollar → b ≢ hash
    → ((p : Payload) → old ≡ Within p → new ≡ Within (with_byte p b)) → (new, Nothing) ≡ hears old b
grown old new payload b is other goes_on keeps =
    ap (λ (f : Frame). (f, Nothing)) (keeps payload is) ∙ sym (ap (λ (f : Frame). hears f b) is ∙ hears_plain payload b other goes_on)

-- the second byte behind '#'
pub ended : (old new : Frame) (payload : Payload) (first b : ℕ) (heard : Heard) → old ≡ Half payload first → new ≡ Outside (kept_of old)
    → ((p : Payload) → old ≡ Half p first → heard ≡ verdict p first b) → (new, heard) ≡ hears old b
ended old new payload first b heard is leaves says =
    ap (λ (f : Frame). (f, heard)) (leaves ∙ ap (λ (f : Frame). Outside (kept_of f)) is)
    ∙ ap (λ (h : Heard). (Outside payload.kept, h)) (says payload is) ∙ sym (ap (λ (f : Frame). hears f b) is)
