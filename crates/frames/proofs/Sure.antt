-- An instance of the law: what holds of every answer of the readers, whatever levels are left. Trees start where their first token does and
-- end where reading goes on, spans are nested, and a tree has at most 24 stored bytes for each byte read; refusals lie in the text.
use mathlib.Core.Path.{◌≡◌, refl, ◌∙◌, subst}
use mathlib.Core.List.{List, []}
use Prim.Native.Nat.{ℕ, ◌+◌, ◌*◌, ◌<◌, ◌≤◌}
use native.Mathlib.Omega.{arith}
use borrow.Author.Tests.{eqb-true}
use lib.ListN.{length, get_or}
use Rattle.tokens.specs.declared.Refusal.{Refusal}
use Rattle.records.specs.Kinds.{RecName, RecVariable, RecField, RecUnit}
use Rattle.records.specs.Tree.{Tree, node, Trees, none, more, behind, joined}
use Rattle.records.specs.Spans.{start_of, end_of, Nested, Within}
use Rattle.records.specs.code.Narrow.{stored, stored_all}
use Rattle.records.proofs.Nesting.{wider, nested-order}
use Rattle.records.proofs.Sizes.{leaf-size, node-size, size_none, size-more}
use Rattle.sources.specs.Source.{Source, Lexeme, start, end, word, after, bad, lex}
use Rattle.sources.proofs.Standing.{Sound, lex-sound}
use Rattle.answers.specs.Reading.{Ans, ok, no, leaf_of, Reader}
use Rattle.answers.proofs.Further.{Frugal}
use Rattle.answers.proofs.Sure.{stop, Blamed, Tok, Read, Sure, SureReader, standing-tok, after_stop, split-stop, token-blamed, frugal}
use Rattle.grammar.specs.Values.{value_kind}
use Rattle.grammar.specs.Types.{bracketed, read_type}
use Rattle.grammar.specs.Binds.{read_field, read_bind}
use Rattle.grammar.specs.Items.{read_kind}
use Rattle.frames.specs.code.Related.{Sort, a_name, a_pair, a_value, a_type, a_field, a_bind, a_bind_list, a_lambda_list, Lone, a_part, a_variable, Role, Fits, kind_of, Part, Rule, pair, two, three, address, shared, mutable, function, plain, applied, struct, typed, field, several, alone, lambda, Frame, RelReader, Lawful, Literal, Short}
use Rattle.frames.proofs.Ways.{goes_some}
use Rattle.frames.proofs.Readers.{fits-goes, leaf-goes, sort_of, type-same, field-same, bind-same, kind-same}
use Rattle.frames.proofs.Facts.{Facts, about, Fact, stands, Of, reader-of, met, weigh}

-- trees put together
behind-size : (ts : Trees) (u : Tree) → length (stored_all (behind ts u)) ≡ length (stored_all ts) + length (stored u)
unfolding behind
behind-size none u = size-more u none ∙ omega (arith, size_none)
behind-size (more t ts) u = size-more t (behind ts u) ∙ omega (arith, behind-size ts u, size-more t ts)

behind-within : (ts : Trees) (u : Tree) (p q e : ℕ) → p ≤ q → Within p ts q → q ≤ start_of u → end_of u ≤ e → q ≤ e → Nested u → Within p (behind ts u) e
unfolding behind Within
behind-within none u p q e i d h g j n = (omega arith, g, n, tt)
behind-within (more t ts) u p q e i d h g j n =
    (d.0, omega (arith, d.1), d.2, behind-within ts u (start_of t) q e (omega (arith, nested-order t d.2, d.1)) d.3 h g j n)

joined-size : (ts us : Trees) → length (stored_all (joined ts us)) ≡ length (stored_all ts) + length (stored_all us)
unfolding joined
joined-size none us = omega (arith, size_none)
joined-size (more t ts) us = size-more t (joined ts us) ∙ omega (arith, joined-size ts us, size-more t ts)

joined-within : (ts us : Trees) (p q e : ℕ) → p ≤ q → q ≤ e → Within p ts q → Within q us e → Within p (joined ts us) e
unfolding joined Within
joined-within none us p q e i j d h = wider us q p e e i (omega arith) h
joined-within (more t ts) us p q e i j d h =
    (d.0, omega (arith, d.1), d.2, joined-within ts us (start_of t) q e (omega (arith, nested-order t d.2, d.1)) j d.3 h)

-- the bytes of 24 for each byte read that a tree leaves, and the parts of a record. A record's head takes eight of them
abbrev pub spare : Sort → ℕ
spare a_name = 16
spare a_pair = 16
spare a_value = 16
spare (a_type n) = 0
spare (a_field n) = 0
spare (a_bind n) = 16
spare a_bind_list = 0
spare a_lambda_list = 0

abbrev pub credit : List Part → ℕ
credit r = weigh 24 16 spare r

enough : {s : Sort} {c : ℕ} {r : List Part} → Rule s c r → spare s + 8 ≤ credit r
enough pair = omega arith
enough two = omega arith
enough three = omega arith
enough address = omega arith
enough shared = omega arith
enough mutable = omega arith
enough function = omega arith
enough plain = omega arith
enough applied = omega arith
enough struct = omega arith
enough typed = omega arith
enough field = omega arith
enough several = omega arith
enough alone = omega arith
enough lambda = omega arith

-- trees that were read from p up to q, and what they leave
pub record Reads (n p : ℕ) (ts : Trees) (q : ℕ) : Type 0 where
  pub order : Within p ts q
  pub small : length (stored_all ts) + n + 24 * p ≤ 24 * q

module _ (e : ℕ) where
  nothing : (p : ℕ) → Reads 0 p none p
  unfolding Within
  nothing p = record { order = tt; small = omega (arith, size_none) }

  loosen : (n m p q q₂ : ℕ) (ts : Trees) → Reads n p ts q → q ≤ q₂ → m + 24 * q ≤ n + 24 * q₂ → Reads m p ts q₂
  loosen n m p q q₂ ts d h g = record { order = wider ts p p q q₂ (omega arith) h d.order; small = omega (arith, d.small) }

  put : (n m p q s : ℕ) (ts : Trees) (x : Tree) (v : Source) → Reads n p ts q → q ≤ s → Read e m s x v → Reads (m + n) p (behind ts x) v.at
  put n m p q s ts x v d h k =
      record {
        order = behind-within ts x p q v.at (omega (arith, d.small)) d.order (omega (arith, k.from)) (omega (arith, k.to)) (omega (arith, k.on.further)) k.nested;
        small = omega (arith, behind-size ts x, d.small, k.small);
      }

  join : (n p q q₂ w : ℕ) (ts us : Trees) → Reads n p ts q → q ≤ q₂ → Reads 0 q₂ us w → Reads n p (joined ts us) w
  join n p q q₂ w ts us d h k =
      record {
        order = joined-within ts us p q w (omega (arith, d.small)) (omega (arith, k.small)) d.order (wider us q₂ q w w h (omega arith) k.order);
        small = omega (arith, joined-size ts us, d.small, k.small);
      }

  made : (n m c s : ℕ) (ts : Trees) (v : Source) → stop v ≡ e → m + 8 ≤ n → Reads n s ts v.at → Read e m s (node c s v.at ts) v
  unfolding start_of end_of Nested
  made n m c s ts v g h d =
      record { on = record { stops = g; further = omega (arith, d.small) }; from = refl; to = refl; nested = (omega (arith, d.small), d.order); small = omega (arith, node-size c s v.at ts, d.small) }

  leaf-read : (c : ℕ) (t : Lexeme) → Tok e t → 0 < t.kind → Read e 16 (start t) (leaf_of c t) (after t)
  unfolding start_of end_of Nested
  leaf-read c t d k = let h = d.takes k in record { on = record { stops = after_stop e t d; further = h }; from = refl; to = refl; nested = omega arith; small = omega (arith, leaf-size c (start t) (end t) (word t)) }

  bracketed-read : (a : Lexeme) (v : Source) (ts : Trees) → start a < end a → stop v ≡ e → Reads 0 (end a) ts v.at → Read e 0 (start a) (bracketed a v ts) v
  unfolding bracketed start_of end_of Nested joined
  bracketed-read a v none h g d = record { on = record { stops = g; further = omega (arith, d.small) }; from = refl; to = refl; nested = omega (arith, d.small); small = omega (arith, leaf-size RecUnit (start a) v.at [], d.small) }
  bracketed-read a v (more x none) h g d = made 24 0 16 (start a) (more x none) v g (omega arith) (join 24 (start a) (end a) (end a) v.at none (more x none) (loosen 0 24 (start a) (start a) (end a) none (nothing (start a)) (omega arith) (omega arith)) (omega arith) d)
  bracketed-read a v (more x (more y ts)) h g d = made 24 0 15 (start a) (more x (more y ts)) v g (omega arith) (join 24 (start a) (end a) (end a) v.at none (more x (more y ts)) (loosen 0 24 (start a) (start a) (end a) none (nothing (start a)) (omega arith) (omega arith)) (omega arith) d)

  -- a field's name binds itself
  short-reads : (a : Lexeme) → start a < end a → Reads 8 (start a) (more (leaf_of RecName a) (more (leaf_of RecVariable a) none)) (end a)
  unfolding start_of end_of Nested Within
  short-reads a h =
      record {
        order = (omega arith, omega arith, omega arith, (omega arith, omega arith, omega arith, tt));
        small = omega (arith, size-more (leaf_of RecName a) (more (leaf_of RecVariable a) none), size-more (leaf_of RecVariable a) none, size_none, leaf-size RecName (start a) (end a) (word a), leaf-size RecVariable (start a) (end a) (word a));
      }

  abbrev facts : Facts
  facts =
      record {
        source = λ u. stop u ≡ e;
        token = Tok e;
        refusal = Blamed e;
        tree = λ s a u x. Read e (spare s) (start a) x u;
        row = λ r a u xs. Reads (credit r) (start a) xs u.at;
        items = λ s c u v xs. Reads 0 u.at xs v.at;
      }

  abbrev F : Frame
  F = about facts

  token-fact : (t : Lexeme) → Tok e t → Fact facts t
  token-fact t d = record { good = d; on = after_stop e t d; half = λ k. split-stop e t d (omega (arith, d.takes (omega arith))) }

  fault : (u : Source) (r : Refusal) → stop u ≡ e → lex u ≡ bad r → Blamed e r
  fault u r h l = let d : Sound u (bad r) = subst (Sound u) l (lex-sound u) in ((d.0.0, omega (arith, d.0.1)), (d.1.0, omega (arith, d.1.1)))

  lone-read : (s : Sort) (l : Role) → Lone s l → (a : Lexeme) → Tok e a → Fits l a → Read e (spare s) (start a) (leaf_of (kind_of l a) a) (after a)
  lone-read s l a_part a d f = leaf-read (kind_of l a) a d (goes_some a.kind (fits-goes l a f))
  lone-read s l a_variable a d f = leaf-read (kind_of l a) a d (goes_some a.kind (fits-goes l a f))

  law : Lawful F
  unfolding behind joined
  law =
      record {
        next = met facts (λ u t h l. token-fact t (standing-tok u t (stands u t l) e h)) fault;
        refused_at = λ n t t₂ h g d. token-blamed e t d.good n;
        refused_before = λ n t t₂ o o₂ h g d x. ((omega arith, omega (arith, d.good.within)), (omega arith, omega (arith, x.good.within)));
        colons_due = λ t t₂ a a₂ d x. ((omega arith, d.good.within), (omega arith, x.good.within));
        begin = λ {a = a} x. nothing (start a);
        mark = λ {r = r} {a = a} {t = t} {u = u} {xs = xs} k h m. let g = m.here.step.good.takes (goes_some t.kind m.goes) in loosen (credit r) (24 + credit r) (start a) u.at (end t) xs h (omega (arith, m.here.from)) (omega (arith, m.here.from));
        leaf = λ {r = r} {a = a} {t = t} {u = u} {xs = xs} l h p f. put (credit r) 16 (start a) u.at (start t) xs (leaf_of (kind_of l t) t) (after t) h p.from (leaf-read (kind_of l t) t p.step.good (goes_some t.kind (fits-goes l t f)));
        one = λ {r = r} {a = a} {t = t} {u = u} {v = v} {xs = xs} {x = x} s h p d. put (credit r) (spare s) (start a) u.at (start t) xs x v h p.from d;
        many = λ {r = r} {a = a} {u = u} {v = v} {xs = xs} {ts = ts} s c h i. join (credit r) (start a) u.at u.at v.at xs ts h (omega arith) i;
        empty = λ {u = u} {w = w} s c p o j. loosen 0 0 u.at u.at w.at none (nothing u.at) (omega (arith, p.from)) (omega (arith, p.from));
        last = λ {u = u} {v = v} {w = w} {t = t} {x = x} s c p n d q o j. loosen (spare s + 0) 0 u.at v.at w.at (more x none) (put 0 (spare s) u.at u.at (start t) none x v (nothing u.at) p.from d) (omega (arith, q.from)) (omega (arith, q.from));
        more = λ {u = u} {v = v} {w = w} {t = t} {c = q} {x = x} {xs = xs} s c p n d m i.
            join 0 u.at (end q) (end q) w.at (more x none) xs
            (loosen (spare s + 0) 0 u.at v.at (end q) (more x none) (put 0 (spare s) u.at u.at (start t) none x v (nothing u.at) p.from d) (omega (arith, m.here.from)) (omega (arith, m.here.from))) (omega arith) i;
        lone = λ {a = a} s l i x f o. lone-read s l i a x.good f;
        made = λ {a = a} {u = u} {xs = xs} s c r i x z h o. made (credit r) (spare s) c (start a) xs u o.1 (enough i) h;
        brackets = λ {a = a} {u = u} {xs = xs} n x k h o. bracketed-read a u xs (x.good.takes (omega (arith, eqb-true a.kind 11 k))) o.1 h;
      }

  literal : Literal F
  literal a a₂ x c o = leaf-read (value_kind a) a x.good (goes_some a.kind (leaf-goes a.kind (get_or (word a) 0 0) c))

  short : Short F
  short n a a₂ x k o = made 8 0 RecField (start a) _ (after a) o.1 (omega arith) (short-reads a (x.good.takes (omega (arith, eqb-true a.kind 4 k))))

  sure : (s : Sort) (item : Reader) → RelReader F s item item → SureReader e item
  sure s item h t d = go (item t) (reader-of facts s item h t (token-fact t d))
    where
      go : (a : Ans Tree) → Of facts (λ u x. Read e (spare s) (start t) x u) a → Sure e 0 (start t) a
      go (ok x v) r = let y = r.0 in record { on = y.on; from = y.from; to = y.to; nested = y.nested; small = omega (arith, y.small) }
      go (no q) r = r

  pub type-sure : (n : ℕ) → SureReader e (read_type n)
  type-sure n = sure (a_type n) (read_type n) (type-same F law refl n)

  pub bind-sure : (n : ℕ) → SureReader e (read_bind n)
  bind-sure n = sure (a_bind n) (read_bind n) (bind-same F law refl short n)

  pub field-sure : (n : ℕ) → SureReader e (read_field n (read_bind n))
  field-sure n = sure (a_field n) (read_field n (read_bind n)) (field-same F law refl short n)

  -- every kind of item
  pub kind-sure : (kind : ℕ) → SureReader e (read_kind kind)
  kind-sure kind = sure (sort_of kind) (read_kind kind) (kind-same F law refl short kind (λ _. literal))

-- every item takes a byte
pub type-frugal : (n : ℕ) → Frugal (read_type n)
type-frugal n = frugal (read_type n) (λ e. type-sure e n)

pub bind-frugal : (n : ℕ) → Frugal (read_bind n)
bind-frugal n = frugal (read_bind n) (λ e. bind-sure e n)

pub field-frugal : (n : ℕ) → Frugal (read_field n (read_bind n))
field-frugal n = frugal (read_field n (read_bind n)) (λ e. field-sure e n)
