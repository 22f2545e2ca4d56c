-- The frame that most facts need: trees of one shape, with the same kinds and words. A shape says when two places and two sources are alike
-- and what is asked of kinds, words and numbers; the rest is made of that.
use Rattle.std.specs.Prelude.{◌≡◌, false, List, [], ℕ, ◌<◌, ◌≤◌, eqb}
use Rattle.words.specs.Kinds.{EOF, ByteStringValue}
use Rattle.tokens.specs.declared.Refusal.{Refusal}
use Rattle.records.specs.Kinds.{RecHexString, RecByteString}
use Rattle.records.specs.Tree.{Tree, leaf, node, Trees, none, more}
use Rattle.sources.specs.Source.{Source, Lexeme, start, end, word, lex}
use Rattle.grammar.specs.Types.{bracketed}
use Rattle.forms.specs.Unprintable.{is_string}
use Rattle.frames.specs.code.Related.{Frame, Met}

-- what is chosen: where tokens start, where they end, sources, and what is asked of the kinds of records, of a token's kind and word with
-- the two places where it starts, and of the numbers of refusals
pub record Shape : Type 1 where
  pub starts : ℕ → ℕ → Type 0
  pub ends : ℕ → ℕ → Type 0
  pub source : Source → Source → Type 0
  pub kind : ℕ → Type 0
  pub word : ℕ → List ℕ → ℕ → ℕ → Type 0
  pub number : ℕ → Type 0
  pub quits : Refusal → Type 0

-- a leaf has the word of a token, a string that of a string's
mutual
  pub data Alike (S : Shape) : Tree → Tree → Type 0 where
    leaves : {c s e s₂ e₂ k : ℕ} {w w₂ : List ℕ} → S.kind c → is_string c ≡ eqb k ByteStringValue → S.word k w s s₂ → w ≡ w₂ → S.starts s s₂ → S.ends e e₂ → Alike S (leaf c s e w) (leaf c s₂ e₂ w₂)
    nodes : {c s e s₂ e₂ : ℕ} {ts us : Trees} → S.kind c → S.starts s s₂ → S.ends e e₂ → AllAlike S ts us → Alike S (node c s e ts) (node c s₂ e₂ us)

  pub data AllAlike (S : Shape) : Trees → Trees → Type 0 where
    nones : AllAlike S none none
    mores : {t u : Tree} {ts us : Trees} → Alike S t u → AllAlike S ts us → AllAlike S (more t ts) (more u us)

pub record Refused (S : Shape) (r r₂ : Refusal) : Type 0 where
  pub same : r.number ≡ r₂.number
  pub good : S.number r.number
  pub from : S.starts r.place.start r₂.place.start
  pub to : S.ends r.place.end r₂.place.end
  pub from₂ : S.starts r.second.start r₂.second.start
  pub to₂ : S.ends r.second.end r₂.second.end

pub record Placed (S : Shape) (t t₂ : Lexeme) : Type 0 where
  pub good : S.word t.kind (word t) (start t) (start t₂)
  pub from : S.starts (start t) (start t₂)
  pub to : S.ends (end t) (end t₂)

abbrev pub framed : Shape → Frame
framed S =
    record {
      source = S.source;
      token = Placed S;
      refusal = Refused S;
      quits = S.quits;
      wrap = bracketed;
      tree = λ s a a₂ u u₂ x y. Alike S x y;
      row = λ r a a₂ u u₂ xs ys. AllAlike S xs ys;
      items = λ s c u u₂ v v₂ xs ys. AllAlike S xs ys;
    }

-- what a shape must satisfy
pub record Shapely (S : Shape) : Type 0 where
  pub point : (s s₂ : ℕ) → S.starts s s₂ → S.ends s s₂
  pub ended : (u u₂ : Source) → S.source u u₂ → S.ends u.at u₂.at
  pub next : (u u₂ : Source) → S.source u u₂ → Met (framed S) (lex u) (lex u₂)
  pub kinds : (c : ℕ) → c < 256 → is_string c ≡ false → S.kind c
  pub wordless : (s s₂ : ℕ) → S.word EOF [] s s₂
  pub numbers : (n : ℕ) → 10 ≤ n → n ≤ 14 → S.number n

-- and, where values are read, of strings
pub record Strings (S : Shape) : Type 0 where
  pub hex : S.kind RecHexString
  pub byte : S.kind RecByteString
