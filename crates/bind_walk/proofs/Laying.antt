-- What is laid down, piece by piece.
use mathlib.Core.Path.{◌≡◌, refl, sym, subst}
use mathlib.Core.List.{List}
use Prim.Native.Nat.{ℕ, ◌≤◌}
use lib.ListN.{length}
use Rattle.classes.specs.Bytes.{bytes}
use Rattle.tokens.specs.declared.Token.{Token}
use Rattle.records.specs.Kinds.{RecName}
use Rattle.forms.specs.Forms.{laid}
use Rattle.forms.specs.code.Constructs.{mark_in, spelt}
use Rattle.forms.specs.code.Spots.{last, inside, Placed, word_of}
use Rattle.forms.specs.declared.Spot.{Spot}
use Rattle.forms.proofs.Placing.{placed-as, placed-both}
use Rattle.chains.specs.code.Parts.{leaf_at}
use Rattle.chains.proofs.Names.{leaf-laid}
use Rattle.bind_walk.specs.code.Pieces.{field_name}

module _ (f : ℕ) (text : List ℕ) (a : Token) where
  abbrev word : ℕ → List ℕ
  word c = spelt f c a.start a.end (word_of text a)

  pub name-placed : (l m₁ m : List ℕ) (s i p r : Spot) → length l ≤ last → i ≡ inside f s → Placed l i (word RecName) p m₁ → Placed m₁ p (mark_in f (bytes ": ")) r m → Placed l (inside f s) (field_name f text a) r m
  name-placed l m₁ m s i p r h e x y =
      subst (λ (j : Spot). Placed l j (field_name f text a) r m) e
      (placed-both l m₁ m (laid f (leaf_at RecName text a)) (mark_in f (bytes ": ")) i p r h (placed-as l m₁ (word RecName) (laid f (leaf_at RecName text a)) i p (sym (leaf-laid f text RecName a refl)) x) y)
