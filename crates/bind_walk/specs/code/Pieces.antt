-- Pieces of bindings as they are laid down, and contracts of functions that read a part of a binding.
use Rattle.std.specs.Prelude.{ℕ, ◌≡◌, Bool, false, cond, not, ◌||◌, List, [], ◌∷◌, ◌++◌, eqb, length, Result, Ok, Err}
use Rattle.std.proofs.lemmas.List.Edits.{sets}
use Rattle.classes.specs.Bytes.{bytes}
use Rattle.words.specs.Kinds.{Identifier, Colon, ColonColon, Less, Greater, LBrace}
use Rattle.tokens.specs.Calls.{next_token}
use Rattle.tokens.specs.declared.Token.{Token}
use Rattle.records.specs.Kinds.{RecName, RecVariable}
use Rattle.records.specs.Tree.{Tree, Trees}
use Rattle.sources.specs.Source.{Lexeme, after, lex}
use Rattle.answers.specs.Reading.{Ans, ok, look, when, leaf_of, Reader, list_behind}
use Rattle.grammar.specs.Types.{read_type}
use Rattle.grammar.specs.Binds.{read_field, read_bind}
use Rattle.forms.specs.Forms.{laid}
use Rattle.forms.specs.code.Constructs.{mark_in, laid_items}
use Rattle.forms.specs.code.Spots.{moved_by, sealed}
use Rattle.forms.specs.declared.Spot.{Spot}
use Rattle.parts.specs.declared.Part.{Part}
use Rattle.parts.specs.declared.Way.{Way}
use Rattle.parts.specs.code.Meets.{held, Reads, ReadsBy}
use Rattle.chains.specs.code.Parts.{leaf_at, Past}
use Rattle.tokens.specs.declared.Refusal.{Refusal}

-- the kind of the token behind an identifier: the binding is no variable
abbrev pub struct_kind : ℕ → Bool
struct_kind k = eqb k LBrace || eqb k Less || eqb k ColonColon

-- a binding is a variable, by the kinds of its first token and of the one behind it
abbrev pub variable_kinds : ℕ → ℕ → Bool
variable_kinds a n = cond (eqb a Identifier) (not (struct_kind n)) false

-- the reader of a field where n levels are left
abbrev pub field_at : ℕ → Reader
field_at n = read_field n (read_bind n)

-- what a field named a binds, by the token t behind its name: behind `:` a binding, else a variable of the same name
unfoldable pub bound_by : ℕ → Lexeme → Lexeme → Ans Tree
bound_by n a t = when (eqb t.kind Colon) (λ _. look (lex (after t)) (read_bind n)) λ _. ok (leaf_of RecVariable a) (after a)

-- the name of a field, and what stands behind it
abbrev pub field_name : ℕ → List ℕ → Token → List ℕ
field_name f text a = laid f (leaf_at RecName text a) ++ mark_in f (bytes ": ")

-- what stands between two marks, of which the second is one byte; the types and the fields of a struct
abbrev pub enclosed : ℕ → List ℕ → ℕ → List ℕ → List ℕ
enclosed f xs b body = mark_in f xs ++ (body ++ mark_in f (b ∷ []))

abbrev pub angled : ℕ → Trees → List ℕ
angled f ts = enclosed f (bytes "<") 62 (laid_items f ts)

abbrev pub braced : ℕ → Trees → List ℕ
braced f fs = enclosed f (bytes " {") 125 (laid_items f fs)

-- a part with a mark of one byte behind it: the answer, and the buffer
unfoldable pub ended_by : ℕ → ℕ → Result Part Refusal → Result Part Refusal
ended_by f b (Ok p) = Ok (record { to = moved_by p.to (length (mark_in f (b ∷ []))); end = p.end; next = p.next })
ended_by f b (Err r) = Err r

unfoldable pub marked_by : ℕ → ℕ → Result Part Refusal → List ℕ → List ℕ
marked_by f b (Ok p) l = sets l p.to.pos (mark_in f (b ∷ []))
marked_by f b (Err r) l = l

-- the buffer with the head of a record of kind k that starts at s and whose last part is p
unfoldable pub headed_by : ℕ → ℕ → ℕ → Spot → Result Part Refusal → List ℕ → List ℕ
headed_by f k start s (Ok p) l = sealed f k start p.end s p.to l
headed_by f k start s (Err r) l = l

-- the contract of a function that is given a field's name a, and n: what the field binds, where n stands behind a
abbrev pub ReadsBound : Way → List ℕ → Token → Token → Spot → List ℕ → Result Part Refusal → List ℕ → Type 0
ReadsBound w text a n s l r m = next_token w.edition text a.end ≡ Ok n → Reads w text (λ t. bound_by w.left t (held w.edition text n)) a s l r m

-- the types of a struct behind its name p: none where no `<` stands there; and, whatever stands there, reading does not go on before it
pub record TypesBehind (w : Way) (text : List ℕ) (p : Part) (l : List ℕ) (r : Result Part Refusal) (m : List ℕ) : Type 0 where
  pub plain : ((p.next.kind ≡ Less → ⊥) → (r ≡ Ok p) × (m ≡ l))
  pub typed : (p.next.kind ≡ Less → ReadsBy (angled w.form) w.edition text (list_behind (read_type w.left) Greater) p.next p.to l r m)
  pub past : Past p.next.end r
