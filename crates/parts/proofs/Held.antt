-- Tokens of the code and the tokens of the definitions that they stand for.
use mathlib.Core.Path.{◌≡◌, refl, ap, sym, ◌∙◌, subst}
use mathlib.Core.List.{List}
use Prim.Native.Nat.{ℕ, zero, suc, ◌+◌, ◌-◌, ◌<◌, ◌≤◌, min}
use native.Mathlib.Omega.{arith}
use lib.ListN.{length, length-drop}
use lib.Seq.{drop-drop}
use Rattle.tokens.specs.Answers.{refusal}
use Rattle.tokens.specs.Calls.{text_limit, next_token}
use Rattle.tokens.specs.declared.Refusal.{Refusal}
use Rattle.tokens.specs.declared.Token.{Token as Answer}
use Rattle.tokens.proofs.Faults.{admits}
use Rattle.tokens.proofs.Again.{found-fits}
use Rattle.records.specs.Tree.{leaf}
use Rattle.sources.specs.Source.{Source, opened, past, Lexeme, start, end, after, LexResult, tok, bad, lex, token_of}
use Rattle.sources.specs.code.Answered.{answer_of}
use Rattle.sources.proofs.Standing.{Standing, Sound, lex-sound, next-token-same}
use Rattle.answers.specs.Reading.{Ans, no, look, leaf_of, refused_at}
use Rattle.forms.specs.code.Spots.{word_of}
use Rattle.parts.specs.code.Meets.{Fits, held}
use Rattle.std.specs.Prelude.{Ok, Err}

module _ (ed : ℕ) (text : List ℕ) where
  -- n bytes on
  pub past-opened : (n p q : ℕ) → p + n ≡ q → past n (opened ed text p) ≡ opened ed text q
  past-opened n p q h = rw (drop-drop n p text, h)

  module _ (a : Answer) (f : Fits text a) where
    held_to : a.start + (a.end - a.start) ≡ a.end
    held_to = omega (arith, f.1)

    pub held-end : end (held ed text a) ≡ a.end
    held-end = held_to

    pub held_after : after (held ed text a) ≡ opened ed text a.end
    held_after = past-opened (a.end - a.start) a.start a.end held_to

    pub token-refused : (n : ℕ) → refused_at n (held ed text a) ≡ refusal n a.start a.end
    token-refused n = rw held_to

    pub held-leaf : (c : ℕ) → leaf_of c (held ed text a) ≡ leaf c a.start a.end (word_of text a)
    held-leaf c = rw held_to

  -- the token that is found at a place
  pub record Next (at : ℕ) (b : Answer) : Type 0 where
    pub fits : Fits text b
    pub from : at ≤ b.start
    pub is : lex (opened ed text at) ≡ tok (held ed text b)

  takes-some : (k s n : ℕ) → (0 < k → 0 < n) → s + min 1 k ≤ s + n
  takes-some zero s n f = omega arith
  takes-some (suc k) s n f = let g = f (omega arith) in omega arith

  module _ (at : ℕ) (short : length text ≤ text_limit) (inside : at ≤ length text) where
    token-next : (t : Lexeme) → Standing (opened ed text at) t → lex (opened ed text at) ≡ tok t → Next at (token_of t)
    token-next t d l =
        let h : start t ≡ at + d.gap = ap (λ (u : Source). u.at) d.here in
        let w : d.gap + t.len ≤ length text - at = rw length-drop at d.within in
        let z : t.len ≡ start t + t.len - start t = omega arith in
        let y : t.here ≡ opened ed text (start t) = d.here ∙ past-opened d.gap at (start t) (sym h) in
        record {
          fits = (short, takes-some t.kind (start t) t.len d.takes, omega arith);
          from = omega arith;
          is = l ∙ ap tok (λ i. record { kind = t.kind; here = y i; len = z i });
        }

    scanned-next : (l : LexResult) → lex (opened ed text at) ≡ l → Sound (opened ed text at) l → (b : Answer) → answer_of l ≡ Ok b → Next at b
    unfolding answer_of
    scanned-next (tok t) l d b h = let y : token_of t ≡ b = cc in subst (Next at) y (token-next t d l)
    scanned-next (bad r) l d b h = let z : ◌≡◌ {A = ℕ} 0 1 = cc in absurd (omega arith)

    scanned-bad : (l : LexResult) → (r : Refusal) → answer_of l ≡ Err r → l ≡ bad r
    unfolding answer_of
    scanned-bad (tok t) r h = let z : ◌≡◌ {A = ℕ} 0 1 = cc in absurd (omega arith)
    scanned-bad (bad r₂) r h = let y : r₂ ≡ r = cc in ap bad y

    answer : answer_of (lex (opened ed text at)) ≡ next_token ed text at
    answer = sym (next-token-same ed text at ∙ admits text at Err (answer_of (lex (opened ed text at))) short inside)

    pub next-refused : (r : Refusal) → next_token ed text at ≡ Err r → lex (opened ed text at) ≡ bad r
    next-refused r h = scanned-bad (lex (opened ed text at)) r (answer ∙ h)

  pub next-found : (at : ℕ) (b : Answer) → next_token ed text at ≡ Ok b → Next at b
  next-found at b h =
      let f = found-fits ed text at b h in
      scanned-next at f.0 f.1 (lex (opened ed text at)) refl (lex-sound (opened ed text at)) b (answer at f.0 f.1 ∙ h)

  -- looking behind a token
  module _ {A : Type 0} (d : Answer) (f : Fits text d) (g : Lexeme → Ans A) where
    pub look-found : (b : Answer) → next_token ed text d.end ≡ Ok b → look (lex (after (held ed text d))) g ≡ g (held ed text b)
    unfolding look
    look-found b h = rw (held_after d f, (next-found d.end b h).is)

    pub look-refused : (r : Refusal) → next_token ed text d.end ≡ Err r → look (lex (after (held ed text d))) g ≡ no r
    unfolding look
    look-refused r h = rw (held_after d f, next-refused d.end f.0 f.2 r h)
