-- What the loop over the tokens of a line needs.
use Rattle.std.proofs.Common.{◌≡◌, ℕ, zero, suc, false, ◌+◌, ◌-◌, ◌<◌, List, [], ◌∷◌, ◌++◌, drop, take, refl, arith, sym, ◌∙◌, ap, Option, Some, None, append_assoc, eqb}
use Rattle.std.specs.Option.{option_map}
use Rattle.rt_token.specs.Tokens.{is_blank, token, token_at, tokens, with_front}
use Rattle.rt_token.specs.declared.tokens.Kind.{Kind}
use Rattle.rt_token.specs.declared.tokens.Token.{Token}

-- the bytes that belong to the token before are passed over
pub tokens_skip : (n place : ℕ) (bs : List ℕ) → tokens place n bs ≡ tokens (place + n) 0 (drop n bs)
tokens_skip zero place bs = ap (λ p. tokens p 0 bs) (omega arith)
tokens_skip (suc n) place [] = refl
tokens_skip (suc n) place (b ∷ bs) = tokens_skip n (place + 1) bs ∙ ap (λ p. tokens p 0 (drop n bs)) (omega arith)

regrouped : (front : List Token) (x : Token) (rest : Option (List Token)) → option_map (λ ts. (front ++ x ∷ []) ++ ts) rest ≡ option_map (λ ts. front ++ ts) (with_front x rest)
regrouped front x None = refl
regrouped front x (Some ts) = ap Some (append_assoc front (x ∷ []) ts)

-- a token that is found goes behind those before it
pub token_step : (front : List Token) (place b len : ℕ) (bs : List ℕ) (kind : Kind) → is_blank b ≡ false → eqb b 35 ≡ false → token_at b bs ≡ Some (kind, suc len) → option_map (λ ts. (front ++ token place (kind, suc len) (b ∷ bs) ∷ []) ++ ts) (tokens (place + suc len) 0 (drop (suc len) (b ∷ bs))) ≡ option_map (λ ts. front ++ ts) (tokens place 0 (b ∷ bs))
token_step front place b len bs kind blank comment here =
    let skip : tokens (place + suc len) 0 (drop len bs) ≡ tokens (place + 1) len bs = ap (λ p. tokens p 0 (drop len bs)) (omega arith) ∙ sym (tokens_skip len (place + 1) bs) in
    regrouped front (token place (kind, suc len) (b ∷ bs)) _ ∙ ap (λ rest. option_map (λ ts. front ++ ts) (with_front (token place (kind, suc len) (b ∷ bs)) rest)) skip ∙ (let e : suc len - 1 ≡ len = omega arith in rw (blank, comment, here, e) refl)

-- the same of a list and bytes that are known by equations
pub token_kept : (front after : List Token) (start b len : ℕ) (kind : Kind) (bs rest text left : List ℕ) (whole : Option (List Token)) → rest ≡ b ∷ bs → text ≡ take len rest → left ≡ drop len rest → 0 < len → is_blank b ≡ false → eqb b 35 ≡ false → Some (kind, len) ≡ token_at b bs → after ≡ front ++ record { kind = kind; slice = record { start = start; text = text } } ∷ [] → option_map (λ ts. front ++ ts) (tokens start 0 rest) ≡ whole → option_map (λ ts. after ++ ts) (tokens (start + len) 0 left) ≡ whole
token_kept front after start b zero kind bs rest text left whole is_rest is_text is_left some blank comment here is_after same = absurd (omega arith)
token_kept front after start b (suc len) kind bs rest text left whole is_rest is_text is_left some blank comment here is_after same =
    rw (is_after, is_left, is_text, is_rest) (token_step front start b len bs kind blank comment (sym here) ∙ (rw is_rest at same))
