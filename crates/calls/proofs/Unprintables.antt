-- The display's look over a string: what the run of bytes that show says of the item that was read.
use mathlib.Core.Path.{◌≡◌, refl, ap, sym, ◌∙◌, subst}
use mathlib.Core.Bool.{Bool, true, false, cond, ◌&&◌}
use mathlib.Core.List.{List}
use Rattle.forms.specs.Unprintable.{FirstByte, clean, found_at, unprintable_in, unprintable}
use Prim.Native.Nat.{ℕ, ◌+◌, ◌-◌}
use native.Mathlib.Omega.{arith}
use borrow.Author.Tests.{eqb-true, lt-ltb, le-ltb, ltb-true, ltb-false}
use lib.Dec.{eqb, ltb}
use lib.ListN.{length, take, drop, length-take, length-drop}
use Rattle.classes.specs.Class.{is_ascii, shows}
use Rattle.classes.specs.Run.{run_len, run_end, all_of}
use Rattle.classes.proofs.Cut.{drop-cut}
use Rattle.words.specs.Kinds.{ByteStringValue}
use Rattle.tokens.specs.Refusals.{LineUnprintable}
use Rattle.tokens.specs.Answers.{refusal}
use Rattle.tokens.specs.declared.Refusal.{Refusal}
use Rattle.tokens.specs.Calls.{unless}
use Rattle.tokens.specs.declared.Token.{Token as First}
use Rattle.tokens.proofs.Legible.{legible}
use Rattle.records.specs.Tree.{Tree}
use Rattle.sources.specs.Source.{opened, Lexeme, LexResult, tok, bad, lex}
use Rattle.sources.proofs.Standing.{Sound, lex-sound}
use Rattle.answers.specs.Reading.{Ans, ok, no, look, when}
use Rattle.grammar.specs.Values.{value}
use Rattle.grammar.specs.Items.{Item, item, refused, read_kind, followed, finished, Asked, fault_of, reading, read_item}
use Rattle.grammar.proofs.Asked.{in_order_lem}
use Rattle.forms.specs.code.Spots.{word_of}
use Rattle.forms.proofs.Unprintables.{word-run}
use Rattle.frames.proofs.Words.{Unprintables, IsClean, other-clean, value-clean, value-string}
use Rattle.parts.specs.code.Meets.{Fits, held}
use Rattle.parts.proofs.Held.{next-found, next-refused}
use Rattle.calls.specs.Calls.{unless_unprintable, if_printable}
use Rattle.calls.specs.code.Given.{item_from, first_of, shown_end, unprintable_first, unprintable_at, in_place}
use Rattle.std.specs.Prelude.{Option, Some, None, Result, Ok, Err, ⊤}

-- two items that are one have one tree
pub item-only : (x y : Tree) (t u : Lexeme) → item x t ≡ item y u → x ≡ y
item-only x y t u e = ap of e
  where
    of : Item → Tree
    of (item z v) = z
    of (refused r) = x

pub not-item : (x : Tree) (t : Lexeme) (r : Refusal) → refused r ≡ item x t → ⊥
not-item x t r e = subst IsRefused e tt
  where
    IsRefused : Item → Type 0
    IsRefused (item z v) = ⊥
    IsRefused (refused r₂) = Unit {0}

-- what is known of what was read is known of the item
unprintable-item : (P : FirstByte → Type 0) (x : Tree) (t : Lexeme) (a : Ans Tree) → Unprintables P a → finished a ≡ item x t → P (unprintable x)
unfolding finished followed
unprintable-item P x t (ok y u) h e = go (lex u) e
  where
    go : (l : LexResult) → followed y l ≡ item x t → P (unprintable x)
    go (tok v) e = subst (λ (z : Tree). P (unprintable z)) (item-only y x v t e) h
    go (bad r) e = absurd (not-item x t r e)
unprintable-item P x t (no r) h e = absurd (not-item x t r e)

-- a string that is found is below 128
abbrev Ascii : List ℕ → First → Type 0
Ascii text a = a.kind ≡ ByteStringValue → all_of is_ascii (word_of text a) ≡ true

found-ascii : (ed : ℕ) (text : List ℕ) (at : ℕ) (a : First) → lex (opened ed text at) ≡ tok (held ed text a) → Ascii text a
unfolding legible
found-ascii ed text at a e k =
    let d : legible a.kind (word_of text a) ≡ true = (subst (Sound (opened ed text at)) e (lex-sound (opened ed text at))).readable in
    subst (λ (n : ℕ). cond (eqb n ByteStringValue) (all_of is_ascii (word_of text a)) (all_of shows (word_of text a)) ≡ true) k d

kind-two : (kind : ℕ) (t : Lexeme) → eqb kind 2 ≡ true → read_kind kind t ≡ value t
unfolding read_kind when
kind-two kind t h = rw (eqb-true kind 2 h)

module _ (ask : Asked) (a : First) (f : Fits ask.text a) (g : Ascii ask.text a) where
  abbrev text : List ℕ
  text = ask.text

  w : List ℕ
  w = word_of text a

  -- the run over the word, and where it ends
  ends : shown_end text a ≡ a.start + run_len shows w
  unfolding run_end w
  ends =
      let z : a.start + (a.end - a.start) ≡ a.end = omega (arith, f.1) in
      ap (λ (n : ℕ). a.start + run_len shows (drop a.start (take n text))) (sym z) ∙ ap (λ (v : List ℕ). a.start + run_len shows v) (drop-cut a.start (a.end - a.start) text)

  long : length w ≡ a.end - a.start
  unfolding w
  long = length-take (a.end - a.start) (drop a.start text) ∙ omega (arith, length-drop a.start text, f.1, f.2)

  abbrev there : FirstByte
  there = cond (ltb (shown_end text a) a.end) (found_at (shown_end text a)) clean

  word-there : a.kind ≡ ByteStringValue → unprintable_in a.start w ≡ there
  unfolding w
  word-there k = word-run a.start w (g k) ∙ go (ltb (run_len shows w) (length w)) refl
    where
      go : (b : Bool) → ltb (run_len shows w) (length w) ≡ b → cond b (found_at (a.start + run_len shows w)) clean ≡ there
      go true e = let h = ltb-true (run_len shows w) (length w) e in rw (lt-ltb (shown_end text a) a.end (omega (arith, ends, long, f.1, h))) (ap found_at (sym ends))
      go false e = let h = ltb-false (run_len shows w) (length w) e in rw (le-ltb (shown_end text a) a.end (omega (arith, ends, long, f.1, h)))

  module _ (x : Tree) (t : Lexeme) (e : item_from ask a ≡ item x t) where
    -- a string, or an item without one
    unprintable-is : unprintable x ≡ cond (eqb ask.kind 2 && eqb a.kind ByteStringValue) there clean
    unfolding w
    unprintable-is = go (eqb ask.kind 2) refl (eqb a.kind ByteStringValue) refl
      where
        go : (b : Bool) → eqb ask.kind 2 ≡ b → (c : Bool) → eqb a.kind ByteStringValue ≡ c → unprintable x ≡ cond (b && c) there clean
        go true p true q =
            unprintable-item (λ (o : FirstByte). o ≡ unprintable_in a.start w) x t (value (held ask.edition ask.text a)) (value-string (held ask.edition ask.text a) q) (ap finished (sym (kind-two ask.kind (held ask.edition ask.text a) p)) ∙ e)
            ∙ word-there (eqb-true a.kind ByteStringValue q)
        go true p false q = unprintable-item IsClean x t (value (held ask.edition ask.text a)) (value-clean (held ask.edition ask.text a) q) (ap finished (sym (kind-two ask.kind (held ask.edition ask.text a) p)) ∙ e)
        go false p c q = unprintable-item IsClean x t (read_kind ask.kind (held ask.edition ask.text a)) (other-clean ask.kind (held ask.edition ask.text a) p) e

-- the first byte of what has an unprintable one there, where it has one
abbrev first_byte : Option ℕ → FirstByte
first_byte (Some b) = found_at b
first_byte None = clean

-- an item that is read is that of the token that is found at its offset
record Begun (ask : Asked) (first : Result First Refusal) (x : Tree) (t : Lexeme) : Type 0 where
  token : First
  found : first ≡ Ok token
  fits : Fits ask.text token
  ascii : Ascii ask.text token
  from : item_from ask token ≡ item x t

module _ (ask : Asked) where
  abbrev of : List ℕ
  of = ask.text

  -- no refusal of the caller
  admitted : (x : Tree) (t : Lexeme) → read_item ask ≡ item x t → (fault_of ask ≡ (Ok tt)) × (finished (reading ask) ≡ item x t)
  unfolding read_item unless
  admitted x t e = go (fault_of ask) refl e
    where
      go : (f : Result ⊤ Refusal) → fault_of ask ≡ f → unless refused f (finished (reading ask)) ≡ item x t → (fault_of ask ≡ (Ok tt)) × (finished (reading ask) ≡ item x t)
      go (Ok tt) p h = (p, h)
      go (Err r) p h = absurd (not-item x t r h)

  begun : (first : Result First Refusal) → first ≡ first_of ask → (x : Tree) (t : Lexeme) → read_item ask ≡ item x t → Begun ask first x t
  unfolding finished look
  begun (Ok a) f x t e =
      let n = next-found ask.edition of ask.at a (sym f) in
      record { token = a; found = refl; fits = n.fits; ascii = found-ascii ask.edition of ask.at a n.is; from = ap (λ (l : LexResult). finished (look l (read_kind ask.kind))) (sym n.is) ∙ (admitted x t e).1 }
  begun (Err r) f x t e =
      let g = admitted x t e in
      let d = in_order_lem ask g.0 in
      absurd (not-item x t r (ap (λ (l : LexResult). finished (look l (read_kind ask.kind))) (sym (next-refused ask.edition of ask.at d.short d.inside r (sym f))) ∙ g.1))

  module _ (first : Result First Refusal) (f : first ≡ first_of ask) where
    -- where it stands, by the item's first token
    at-token : (b : Option ℕ) → b ≡ unprintable_at ask.kind of first → (a : First) → first ≡ Ok a
        → b ≡ cond (eqb ask.kind 2) (cond (eqb a.kind ByteStringValue && ltb (shown_end of a) a.end) (Some (shown_end of a)) None) None
    unfolding unprintable_first
    at-token b h a e = h ∙ ap (unprintable_at ask.kind of) e

    -- the first byte of an item, as it was found by its first token
    item-byte : (b : Option ℕ) → b ≡ unprintable_at ask.kind of first → (x : Tree) (t : Lexeme) → read_item ask ≡ item x t → unprintable x ≡ first_byte b
    item-byte b h x t e =
        let d = begun first f x t e in
        let a = d.token in
        unprintable-is ask a d.fits d.ascii x t d.from ∙ go a (eqb ask.kind 2) (eqb a.kind ByteStringValue) (ltb (shown_end of a) a.end) (at-token b h a d.found)
      where
        go : (a : First) → (p q r : Bool) → b ≡ cond p (cond (q && r) (Some (shown_end of a)) None) None → cond (p && q) (cond r (found_at (shown_end of a)) clean) clean ≡ first_byte b
        go a true true true j = ap first_byte (sym j)
        go a true true false j = ap first_byte (sym j)
        go a true false r j = ap first_byte (sym j)
        go a false q r j = ap first_byte (sym j)

    pub read-clean : None ≡ unprintable_at ask.kind of first → if_printable (read_item ask) ≡ read_item ask
    unfolding if_printable unless_unprintable
    read-clean h = go (read_item ask) refl
      where
        go : (i : Item) → read_item ask ≡ i → if_printable i ≡ i
        go (item x t) e = ap (λ (o : FirstByte). unless_unprintable o (item x t)) (item-byte None h x t e)
        go (refused r) e = refl

    pub read-unprintable : (b : ℕ) → Some b ≡ unprintable_at ask.kind of first → (q : Refusal) → q ≡ refusal LineUnprintable b (b + 1) → if_printable (read_item ask) ≡ in_place q (read_item ask)
    unfolding if_printable unless_unprintable in_place
    read-unprintable b h q g = go (read_item ask) refl
      where
        go : (i : Item) → read_item ask ≡ i → if_printable i ≡ in_place q i
        go (item x t) e = ap (λ (o : FirstByte). unless_unprintable o (item x t)) (item-byte (Some b) h x t e) ∙ ap refused (sym g)
        go (refused r) e = refl
