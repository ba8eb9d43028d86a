-- A session replies to one byte more.
use Rattle.rt_dialogue.proofs.Common.{◌≡◌, inl, inr, ℕ, suc, Bool, true, false, List, [], ◌∷◌, ◌++◌, append-nil, append_assoc, Option, Some, Result, Ok, Err, refl, sym, ap, subst, ◌∙◌, Seen, BufferedSink, DebugFault, IsNextByte, EndsBy, Responds, DialogueState, RepliesFrom, Took}
use Rattle.rt_dialogue.specs.remote.Dialogue.{Step, Hears, Next, Talks}

either_so : (more end : Type 0) (goes : Bool) → (goes ≡ true → more) → end → Next goes more end
either_so more end true m e = m refl
either_so more end false m e = e

module _ (now : DialogueState) (b : ℕ) where
  -- and then to others
  replies_more : (new : DialogueState) (used left more : List ℕ) → ((tail : List ℕ) → Hears now b (used ++ tail) (record { text = more; left = tail; state = new; goes = true }))
      → (text : List ℕ) (is_all : Bool) → RepliesFrom new left text is_all → RepliesFrom now (b ∷ (used ++ left)) (more ++ text) is_all
  replies_more new used left more hears text true says = (suc says.0, (record { text = more; left = left; state = new; goes = true }, text, hears left, refl, says.1))
  replies_more new used left more hears text false says = (
    b ∷ (used ++ says.0),
    says.1,
    ap (λ (l : List ℕ). b ∷ l) (ap (λ (l : List ℕ). used ++ l) says.2 ∙ sym (append_assoc used says.0 says.1)),
    (suc says.3.0, (record { text = more; left = says.0; state = new; goes = true }, text, hears says.0, refl, says.3.1)),
  )

  -- to it last
  replies_last : (bytes : List ℕ) (step : Step) → Hears now b bytes step → (step.goes ≡ true → step.left ≡ []) → (steps : ℕ) × Talks now (b ∷ bytes) steps step.text
  replies_last bytes step hears all = (1, (step, [], hears, sym (append-nil step.text), either_so _ _ step.goes (λ goes. (refl, all goes)) (refl, refl)))

module _ {S : Type 0} (seen : S → Seen) (now : DialogueState) (bytes text : List ℕ) (b : ℕ) (mid : Option (List ℕ)) (next : IsNextByte bytes (Some b) mid) (input : Option (List ℕ)) (out : BufferedSink S) (new : DialogueState) where
  -- what came of it, as a session sees it
  pub responds : (result : Result Bool DebugFault) → Took seen (Hears now b) next.0 text result input out new → Responds seen (RepliesFrom now bytes) text result input out (RepliesFrom new)
  responds (Ok true) went = record {
    left = went.left;
    more = went.more;
    unread = went.unread;
    said = went.said;
    leads = λ rest is_all says.
        subst (λ (l : List ℕ). RepliesFrom now l (went.more ++ rest) is_all) (sym (next.1 ∙ ap (λ (l : List ℕ). b ∷ l) went.parts)) (replies_more now b new went.used went.left went.more went.does rest is_all says);
  }
  responds (Ok false) ended = (
    ended.step.text,
    subst (λ (l : List ℕ). (steps : ℕ) × Talks now l steps ended.step.text) (sym next.1) (replies_last now b next.0 ended.step ended.does (λ goes. absurd (let no : true ≡ false = sym goes ∙ ended.ends in cc))),
    ended.arrived,
  )
  responds (Err fault) took = elim took [
    | inl nothing ↦ ([], ([], bytes, refl, (0, (refl, refl))), subst (λ (l : List ℕ). EndsBy seen fault l out.inner) (sym (append-nil text)) nothing)
    | inr broke ↦ (
      broke.step.text,
      (b ∷ broke.used, broke.left, next.1 ∙ ap (λ (l : List ℕ). b ∷ l) broke.parts, replies_last now b broke.used broke.step broke.does broke.all),
      broke.by,
    )
  ]
