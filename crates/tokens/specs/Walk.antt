-- The tokens of a text in an edition, from its first byte to EOF or to a refusal.
use Rattle.std.specs.Prelude.{ℕ, zero, suc, ◌≡◌, cond, List, eqb, length, drop}
use Rattle.words.specs.Kinds.{EOF}
use Rattle.tokens.specs.Answers.{token}
use Rattle.tokens.specs.Token.{Scanned, tok, bad, scan}
use Rattle.tokens.specs.Calls.{place_fault, unless}
use Rattle.tokens.specs.declared.Refusal.{Refusal}
use Rattle.tokens.specs.declared.Token.{Token}

pub data Listed : Type 0 where
  eof : Token → Listed
  refused : Refusal → Listed
  next : Token → Listed → Listed

-- a scanned token, and what `go` gives of the bytes behind it, unless it is EOF
abbrev pub listed : Scanned → (ℕ → List ℕ → Listed) → Listed
listed (bad r) go = refused r
listed (tok k s e w r) go = cond (eqb k EOF) (eof (token k s e)) (next (token k s e) (go e r))

-- the tokens from a scanned one on, n of them at most before EOF; where `tokens_from` asks for them, what stands behind a
-- token at `zero` is never reached (`walk_ends` in proofs/Walks.antt)
unfoldable pub walk : ℕ → ℕ → Scanned → Listed
walk ed zero l = listed l (λ e r. eof (token EOF e e))
walk ed (suc n) l = listed l (λ e r. walk ed n (scan ed e r))

-- every token but EOF takes a byte, so as many steps as there are bytes are enough
unfoldable pub tokens_from : ℕ → ℕ → List ℕ → Listed
tokens_from ed p s = walk ed (length s) (scan ed p s)

-- the tokens of a text from an offset on, with refusals 1 and 2; and those of edition 1 from its first byte on
unfoldable pub tokens_at : ℕ → List ℕ → ℕ → Listed
tokens_at ed text at = unless refused (place_fault text at) (tokens_from ed at (drop at text))

unfoldable pub tokens_of : List ℕ → Listed
tokens_of text = tokens_at 1 text 0

-- how many entries a list has, its last one counted
unfoldable pub entries : Listed → ℕ
entries (eof t) = 1
entries (refused r) = 1
entries (next t l) = suc (entries l)

-- the list's last entry is EOF at (n,n), or a refusal
unfoldable pub Ends : ℕ → Listed → Type 0
Ends n (eof t) = t ≡ token EOF n n
Ends n (refused r) = Unit {0}
Ends n (next t l) = Ends n l
