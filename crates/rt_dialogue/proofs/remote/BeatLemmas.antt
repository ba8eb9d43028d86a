-- Bytes that answer beats, one after the other.
use Rattle.rt_dialogue.proofs.Common.{◌≡◌, inl, inr, ℕ, zero, suc, List, [], ◌∷◌, ◌++◌, append-nil, append_assoc, Option, Some, None, refl, sym, ap, subst, ◌∙◌, Beaten, GoesOn, Interrupted, Begun, Ended, OneBeat}
use Rattle.std.proofs.Common.{◌⊎◌}
use Rattle.rt_dialogue.specs.remote.Beats.{beat, beaten_by, said_to, BeatAnswer, answered_by, answer_to_beat, Behind, ManyBeats, Beats}

-- ---- the bytes of one beat

-- these bytes don't answer it, and this is said to them
pub record SoFar (used more : List ℕ) : Type 0 where
  pub beaten : (tail : List ℕ) → (answer_to_beat (used ++ tail)).beaten ≡ (answer_to_beat tail).beaten
  pub said : (tail : List ℕ) → (answer_to_beat (used ++ tail)).said ≡ more ++ (answer_to_beat tail).said
  pub left : (tail : List ℕ) → (answer_to_beat (used ++ tail)).left ≡ (answer_to_beat tail).left

pub none_so_far : SoFar [] []
none_so_far = record { beaten = λ tail. refl; said = λ tail. refl; left = λ tail. refl }

-- the next byte
one_more : (b : ℕ) (tail : List ℕ) → beaten_by b ≡ None → answer_to_beat (b ∷ tail) ≡ answered_by None b tail (answer_to_beat tail)
one_more b tail is = ap (λ (by : Option Beaten). answered_by by b tail (answer_to_beat tail)) is

one_last : (b : ℕ) (tail : List ℕ) (beaten : Beaten) → beaten_by b ≡ Some beaten → answer_to_beat (b ∷ tail) ≡ record { beaten = beaten; said = []; left = tail }
one_last b tail beaten is = ap (λ (by : Option Beaten). answered_by by b tail (answer_to_beat tail)) is

pub more_so_far : (used more : List ℕ) (b : ℕ) → beaten_by b ≡ None → SoFar used more → SoFar (used ++ b ∷ []) (more ++ said_to b)
more_so_far used more b is s = record {
  beaten = λ tail. ap (λ (l : List ℕ). (answer_to_beat l).beaten) (append_assoc used (b ∷ []) tail) ∙ s.beaten (b ∷ tail) ∙ ap (λ (a : BeatAnswer). a.beaten) (one_more b tail is);
  said = λ tail. ap (λ (l : List ℕ). (answer_to_beat l).said) (append_assoc used (b ∷ []) tail) ∙ s.said (b ∷ tail)
      ∙ ap (λ (a : BeatAnswer). more ++ a.said) (one_more b tail is) ∙ sym (append_assoc more (said_to b) (answer_to_beat tail).said);
  left = λ tail. ap (λ (l : List ℕ). (answer_to_beat l).left) (append_assoc used (b ∷ []) tail) ∙ s.left (b ∷ tail) ∙ ap (λ (a : BeatAnswer). a.left) (one_more b tail is);
}

-- it answers
pub answers_here : (used more : List ℕ) (b : ℕ) (beaten : Beaten) → beaten_by b ≡ Some beaten → SoFar used more → (tail : List ℕ) → OneBeat ((used ++ b ∷ []) ++ tail) (beat ++ more) beaten tail
answers_here used more b beaten is s tail = (
  ap (λ (l : List ℕ). beat ++ l) (sym (ap (λ (l : List ℕ). (answer_to_beat l).said) (append_assoc used (b ∷ []) tail) ∙ s.said (b ∷ tail) ∙ ap (λ (a : BeatAnswer). more ++ a.said) (one_last b tail beaten is) ∙ append-nil more)),
  ap (λ (l : List ℕ). (answer_to_beat l).beaten) (append_assoc used (b ∷ []) tail) ∙ s.beaten (b ∷ tail) ∙ ap (λ (a : BeatAnswer). a.beaten) (one_last b tail beaten is),
  ap (λ (l : List ℕ). (answer_to_beat l).left) (append_assoc used (b ∷ []) tail) ∙ s.left (b ∷ tail) ∙ ap (λ (a : BeatAnswer). a.left) (one_last b tail beaten is),
)

-- the input ends
pub ends_here : (used more : List ℕ) → SoFar used more → OneBeat used (beat ++ more) Ended []
ends_here used more s = (
  ap (λ (l : List ℕ). beat ++ l) (sym (ap (λ (l : List ℕ). (answer_to_beat l).said) (sym (append-nil used)) ∙ s.said [] ∙ append-nil more)),
  ap (λ (l : List ℕ). (answer_to_beat l).beaten) (sym (append-nil used)) ∙ s.beaten [],
  ap (λ (l : List ℕ). (answer_to_beat l).left) (sym (append-nil used)) ∙ s.left [],
)

-- ---- beats

behind_of : (k : Beaten) (on paused : Type 0) → (k ≡ GoesOn → on) → paused → Behind k on paused
behind_of GoesOn on paused o p = o refl
behind_of Interrupted on paused o p = p
behind_of Begun on paused o p = p
behind_of Ended on paused o p = p

on_behind : (k : Beaten) (on paused : Type 0) → k ≡ GoesOn → on → Behind k on paused
on_behind GoesOn on paused is o = o
on_behind Interrupted on paused is o = absurd cc
on_behind Begun on paused is o = absurd cc
on_behind Ended on paused is o = absurd cc

either_behind : (k : Beaten) (on paused : Type 0) → Behind k on paused → ((k ≡ GoesOn) × on) ⊎ ((k ≡ GoesOn → ⊥) × paused)
either_behind GoesOn on paused b = inl (refl, b)
either_behind Interrupted on paused b = inr (λ e. absurd cc, b)
either_behind Begun on paused b = inr (λ e. absurd cc, b)
either_behind Ended on paused b = inr (λ e. absurd cc, b)

-- none
pub no_beats : (bytes : List ℕ) → Beats bytes [] GoesOn bytes
no_beats bytes = (0, (refl, refl, refl))

-- one
pub one_is_beats : (bytes text : List ℕ) (beaten : Beaten) (left : List ℕ) → OneBeat bytes text beaten left → Beats bytes text beaten left
one_is_beats bytes text beaten left one = (
  1,
  (
    [],
    one.0 ∙ ap (λ (l : List ℕ). beat ++ l) (sym (append-nil (answer_to_beat bytes).said)),
    behind_of (answer_to_beat bytes).beaten _ _ (λ on. (refl, sym one.1 ∙ on, sym one.2)) (refl, refl, sym one.1, sym one.2),
  ),
)

-- and more behind some that are answered by going on
more_beats : (n : ℕ) (bytes first : List ℕ) (mid second : List ℕ) (beaten : Beaten) (left : List ℕ) → ManyBeats n bytes first GoesOn mid → Beats mid second beaten left → Beats bytes (first ++ second) beaten left
more_beats zero bytes first mid second beaten left many more =
    let here : Beats bytes second beaten left = subst (λ (l : List ℕ). Beats l second beaten left) many.2 more in
    subst (λ (l : List ℕ). Beats bytes l beaten left) (ap (λ (l : List ℕ). l ++ second) (sym many.0)) here
more_beats (suc n) bytes first mid second beaten left many more = elim (either_behind (answer_to_beat bytes).beaten _ _ many.2) [
  | inl on ↦
      let rest = more_beats n (answer_to_beat bytes).left many.0 mid second beaten left on.1 more in (
        suc rest.0,
        (
          many.0 ++ second,
          ap (λ (l : List ℕ). l ++ second) many.1 ∙ append_assoc beat ((answer_to_beat bytes).said ++ many.0) second ∙ ap (λ (l : List ℕ). beat ++ l) (append_assoc (answer_to_beat bytes).said many.0 second),
          on_behind (answer_to_beat bytes).beaten _ _ on.0 rest.1,
        ),
      )
  | inr paused ↦ absurd (paused.0 (sym paused.1.2))
]

pub join_beats : (bytes first mid second : List ℕ) (beaten : Beaten) (left : List ℕ) → Beats bytes first GoesOn mid → Beats mid second beaten left → Beats bytes (first ++ second) beaten left
join_beats bytes first mid second beaten left many more = more_beats many.0 bytes first mid second beaten left many.1 more
