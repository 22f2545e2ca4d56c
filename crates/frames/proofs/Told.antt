-- An instance of the law: the tree of a field is one, and any other is none. So a struct's types and fields are told by their kinds alone.
use mathlib.Core.Path.{◌≡◌, refl, subst}
use mathlib.Core.Bool.{true}
use Prim.Native.Nat.{ℕ}
use lib.Dec.{eqb}
use Rattle.words.specs.Kinds.{Greater, LBrace, RBrace}
use Rattle.records.specs.Tree.{Trees, none, more, build}
use Rattle.sources.specs.Source.{Source, Lexeme}
use Rattle.answers.specs.Reading.{Ans, ok, list_behind}
use Rattle.answers.proofs.Sure.{when-sure}
use Rattle.grammar.specs.Types.{bracketed, read_type}
use Rattle.grammar.specs.Binds.{fields, read_field, read_bind}
use Rattle.forms.specs.Line.{is_field, is_type, kind_of_build}
use Rattle.forms.proofs.Constructs.{Every}
use Rattle.frames.specs.code.Related.{Sort, a_type, a_field, Role, Lone, a_part, a_variable, kind_of, Frame, Lawful, Short}
use Rattle.frames.proofs.Readers.{type-same, field-same}
use Rattle.frames.proofs.Facts.{Facts, about, Fact, Of, list_of, met}
use Rattle.frames.proofs.Shapes.{due, kind_fits}

abbrev facts : Facts
facts =
    record {
      source = λ u. Unit {0};
      token = λ t. Unit {0};
      refusal = λ r. Unit {0};
      tree = λ s a u x. due s (kind_of_build (build x)) ≡ true;
      row = λ r a u xs. Unit {0};
      items = λ s c u v xs. Every (due s) xs;
    }

abbrev F : Frame
F = about facts

token-itself : (t : Lexeme) → Fact facts t
token-itself t = record { good = tt; on = tt; half = λ _. tt }

lone-due : {s : Sort} {l : Role} → Lone s l → (t : Lexeme) → due s (kind_of l t) ≡ true
unfolding is_type is_field
lone-due a_part t = refl
lone-due a_variable t = refl

bracketed-due : (a : Lexeme) (u : Source) (ts : Trees) → is_type (kind_of_build (build (bracketed a u ts))) ≡ true
unfolding build kind_of_build is_type is_field bracketed
bracketed-due a u none = refl
bracketed-due a u (more x none) = refl
bracketed-due a u (more x (more y ts)) = refl

law : Lawful F
unfolding build kind_of_build
law =
    record {
      next = met facts (λ u t h l. token-itself t) (λ u r h l. tt);
      refused_at = λ n t t₂ h g d. tt;
      refused_before = λ n t t₂ o o₂ h g d e. tt;
      colons_due = λ t t₂ a a₂ d e. tt;
      begin = λ x. tt;
      mark = λ k h m. tt;
      leaf = λ l h p f. tt;
      one = λ s h p x. tt;
      many = λ s c h i. tt;
      empty = λ s c p o j. tt;
      last = λ s c p n x q o j. (x, tt);
      more = λ s c p n x q xs. (x, xs);
      lone = λ s l i x f o. lone-due i _;
      made = λ s c r i x z h o. (kind_fits i).3;
      brackets = λ {a = a} {u = u} {xs = xs} n x k h o. bracketed-due a u xs;
    }

short : Short F
unfolding build kind_of_build is_field
short n a a₂ x k o = refl

-- as the law of the record of kind 22 takes them
pub types-behind : (n : ℕ) (o : Lexeme) (ts : Trees) (u : Source) → list_behind (read_type n) Greater o ≡ ok ts u → Every is_type ts
types-behind n o ts u h = (subst (Of facts (λ v xs. Every is_type xs)) h (list_of facts (a_type n) law (read_type n) (type-same F law refl n) Greater refl o (token-itself o))).0

pub fields-every : (n : ℕ) (o : Lexeme) (fs : Trees) (u : Source) → fields (read_type n) (read_field n (read_bind n)) o ≡ ok fs u → Every is_field fs
unfolding fields
fields-every n o fs u h =
    (subst Fields h (when-sure Fields (eqb o.kind LBrace) _ _ (λ _. list_of facts (a_field n) law (read_field n (read_bind n)) (field-same F law refl short n) RBrace refl o (token-itself o)) (λ _. tt))).0
  where
    Fields : Ans Trees → Type 0
    Fields = Of facts (λ v xs. Every is_field xs)
