-- Where the bytes of a right packet come from.
use Rattle.rt_packet.proofs.Common.{◌≡◌, ◌≢◌, ℕ, ◌≤◌, Bool, true, false, cond, eqb, List, [], ◌∷◌, ◌++◌, length, refl, sym, ap, subst, ◌∙◌, inl, inr, eqb-true, take_all, append_assoc, cases_Bool, payload_limit, dollar, hash, Heard}
use Rattle.std.proofs.Common.{append-nil}
use Rattle.std.proofs.lemmas.Bool.{eqb-false, ltb-false}
use Rattle.std.proofs.lemmas.List.Elements.{All-nil, All-push}
use Rattle.rt_packet.specs.Packet.{minus, interrupt}
use Rattle.rt_packet.specs.Frame.{Frame, Payload, Outside, Within, Ended, Half, begun, with_byte, says, verdict, hears}
use Rattle.rt_packet.specs.Framed.{heard_all, IsPlain, EndWithPacket}
use Rattle.rt_packet.specs.declared.decoder.Heard.TheVariants.{Nothing, Right, TooLong, Wrong, Again, Interrupt}
use Rattle.rt_packet.proofs.PayloadLemmas.{known_of, known_more}

-- bytes that end with '$', this payload and this rest of a packet
record Read (bytes payload rest : List ℕ) : Type 0 where
  before : List ℕ
  parts : bytes ≡ before ++ ((dollar ∷ payload) ++ rest)
  plain : IsPlain payload

-- what is known of a payload is right, and the bytes end with it and this rest
record Knows (bytes : List ℕ) (known : Payload) (rest : List ℕ) : Type 0 where
  payload : List ℕ
  is : known ≡ known_of payload
  read : Read bytes payload rest

-- the bytes so far end with what a frame says
abbrev Tracks : List ℕ → Frame → Type 0
Tracks bytes (Outside kept) = Unit {0}
Tracks bytes (Within known) = Knows bytes known []
Tracks bytes (Ended known) = Knows bytes known (hash ∷ [])
Tracks bytes (Half known first) = Knows bytes known (hash ∷ first ∷ [])

parts_on : (bytes before packet rest : List ℕ) (b : ℕ) → bytes ≡ before ++ (packet ++ rest) → bytes ++ b ∷ [] ≡ before ++ (packet ++ (rest ++ b ∷ []))
parts_on bytes before packet rest b parts =
    ap (λ (l : List ℕ). l ++ b ∷ []) parts ∙ append_assoc before (packet ++ rest) (b ∷ []) ∙ ap (λ (l : List ℕ). before ++ l) (append_assoc packet rest (b ∷ []))

read_on : (bytes payload rest : List ℕ) (b : ℕ) → Read bytes payload rest → Read (bytes ++ b ∷ []) payload (rest ++ b ∷ [])
read_on bytes payload rest b read = record {
  before = read.before;
  parts = parts_on bytes read.before (dollar ∷ payload) rest b read.parts;
  plain = read.plain;
}

knows_on : (bytes : List ℕ) (known : Payload) (rest : List ℕ) (b : ℕ) → Knows bytes known rest → Knows (bytes ++ b ∷ []) known (rest ++ b ∷ [])
knows_on bytes known rest b knows = record { payload = knows.payload; is = knows.is; read = read_on bytes knows.payload rest b knows.read }

-- behind '$'
begins : (bytes : List ℕ) (b : ℕ) → b ≡ dollar → Tracks (bytes ++ b ∷ []) begun
begins bytes b is = record {
  payload = [];
  is = refl;
  read = record {
    before = bytes;
    parts = ap (λ (x : ℕ). bytes ++ x ∷ []) is;
    plain = All-nil (λ x. (x ≢ dollar) × (x ≢ hash));
  };
}

-- behind one byte more of a payload
grows : (bytes : List ℕ) (known : Payload) (b : ℕ) → b ≢ dollar → b ≢ hash → Tracks bytes (Within known) → Tracks (bytes ++ b ∷ []) (Within (with_byte known b))
grows bytes known b other goes_on knows = record {
  payload = knows.payload ++ b ∷ [];
  is = ap (λ (k : Payload). with_byte k b) knows.is ∙ known_more knows.payload b;
  read = record {
    before = knows.read.before;
    parts =
        parts_on bytes knows.read.before (dollar ∷ knows.payload) [] b knows.read.parts
        ∙ ap (λ (l : List ℕ). knows.read.before ++ l) (sym (append-nil (dollar ∷ (knows.payload ++ b ∷ []))));
    plain = All-push (λ x. (x ≢ dollar) × (x ≢ hash)) knows.payload b knows.read.plain (other, goes_on);
  };
}

ends : (bytes : List ℕ) (known : Payload) (b : ℕ) → b ≡ hash → Tracks bytes (Within known) → Tracks (bytes ++ b ∷ []) (Ended known)
ends bytes known b is knows = subst (λ (x : ℕ). Knows (bytes ++ b ∷ []) known (x ∷ [])) is (knows_on bytes known [] b knows)

track_one : (bytes : List ℕ) (frame : Frame) (b : ℕ) → Tracks bytes frame → Tracks (bytes ++ b ∷ []) (hears frame b).0
track_one bytes (Outside kept) b tracks = elim (cases_Bool (eqb b dollar)) [
  | inl is ↦ rw is (begins bytes b (eqb-true b dollar is))
  | inr other ↦ rw other tt
]
track_one bytes (Within known) b tracks = elim (cases_Bool (eqb b dollar)) [
  | inl is ↦ rw is (begins bytes b (eqb-true b dollar is))
  | inr other ↦ rw other (elim (cases_Bool (eqb b hash)) [
    | inl is ↦ rw is (ends bytes known b (eqb-true b hash is) tracks)
    | inr goes_on ↦ rw goes_on (grows bytes known b (eqb-false b dollar other) (eqb-false b hash goes_on) tracks)
  ])
]
track_one bytes (Ended known) b tracks = knows_on bytes known (hash ∷ []) b tracks
track_one bytes (Half known first) b tracks = tt

track_on : (seen : List ℕ) (frame : Frame) (bytes : List ℕ) → Tracks seen frame → Tracks (seen ++ bytes) (heard_all frame bytes).0
track_on seen frame [] tracks = subst (λ (l : List ℕ). Tracks l frame) (sym (append-nil seen)) tracks
track_on seen frame (b ∷ bs) tracks =
    subst (λ (l : List ℕ). Tracks l (heard_all (hears frame b).0 bs).0) (append_assoc seen (b ∷ []) bs)
    (track_on (seen ++ b ∷ []) (hears frame b).0 bs (track_one seen frame b tracks))

-- ---- what a right packet says

says_right : (right long : Bool) → (cond right (cond long TooLong Right) Wrong) ≡ Right → (right ≡ true) × (long ≡ false)
says_right true true is = cc
says_right true false is = (refl, refl)
says_right false long is = cc

-- the byte that completes a right packet
abbrev IsRight : List ℕ → Frame → Type 0
IsRight bytes frame = (payload : List ℕ) × EndWithPacket bytes payload × (length payload ≤ payload_limit) × (frame ≡ Outside payload)

right_at_half : (bytes : List ℕ) (known : Payload) (first b : ℕ) → Knows bytes known (hash ∷ first ∷ []) → verdict known first b ≡ Right → IsRight (bytes ++ b ∷ []) (Outside known.kept)
right_at_half bytes known first b knows right =
    let payload : List ℕ = knows.payload in
    let tests = says_right (says first b known.total) known.is_long right in
    let whole = read_on bytes payload (hash ∷ first ∷ []) b knows.read in
    let short : length payload ≤ payload_limit = ltb-false payload_limit (length payload) (sym (ap (λ (k : Payload). k.is_long) knows.is) ∙ tests.1) in
    let packet : List ℕ = (dollar ∷ payload) ++ (hash ∷ first ∷ b ∷ []) in (
      payload,
      record {
        before = whole.before;
        packet = packet;
        ends = whole.parts;
        is_packet = record {
          first = first;
          second = b;
          parts = refl;
          plain = whole.plain;
          sum = sym (ap (λ (k : Payload). says first b k.total) knows.is) ∙ tests.0;
        };
      },
      short,
      ap (λ (k : Payload). Outside k.kept) knows.is ∙ ap Outside (take_all payload_limit payload short),
    )

nothing_outside : (t u v : Bool) (kept : List ℕ) → (cond {A = Frame × Heard} t (begun, Nothing) (Outside kept, cond u Again (cond v Interrupt Nothing))).1 ≢ Right
nothing_outside true u v kept is = cc
nothing_outside false true v kept is = cc
nothing_outside false false true kept is = cc
nothing_outside false false false kept is = cc

nothing_within : (t u : Bool) (known : Payload) (b : ℕ) → (cond {A = Frame × Heard} t (begun, Nothing) (cond u (Ended known, Nothing) (Within (with_byte known b), Nothing))).1 ≢ Right
nothing_within true u known b is = cc
nothing_within false true known b is = cc
nothing_within false false known b is = cc

right_at : (bytes : List ℕ) (frame : Frame) (b : ℕ) → Tracks bytes frame → (hears frame b).1 ≡ Right → IsRight (bytes ++ b ∷ []) (hears frame b).0
right_at bytes (Outside kept) b tracks right = absurd (nothing_outside (eqb b dollar) (eqb b minus) (eqb b interrupt) kept right)
right_at bytes (Within known) b tracks right = absurd (nothing_within (eqb b dollar) (eqb b hash) known b right)
right_at bytes (Ended known) b tracks right = cc
right_at bytes (Half known first) b tracks right = right_at_half bytes known first b tracks right

-- from outside of a packet on
pub right_is_packet : (kept bytes : List ℕ) (b : ℕ) → (hears (heard_all (Outside kept) bytes).0 b).1 ≡ Right
    → (payload : List ℕ) × EndWithPacket (bytes ++ b ∷ []) payload × (length payload ≤ payload_limit) × ((hears (heard_all (Outside kept) bytes).0 b).0 ≡ Outside payload)
right_is_packet kept bytes b right = right_at bytes (heard_all (Outside kept) bytes).0 b (track_on [] (Outside kept) bytes tt) right
