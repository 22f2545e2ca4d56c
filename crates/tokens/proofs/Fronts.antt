-- What stands at the front of the bytes lies in them: a token but EOF takes a byte, and EOF stands only where none is left.
use mathlib.Core.Path.{◌≡◌, refl, subst}
use mathlib.Core.Bool.{Bool, true, false, cond, ◌||◌}
use mathlib.Core.List.{List, [], ◌∷◌}
use Prim.Native.Nat.{ℕ, ◌+◌, ◌<◌, ◌≤◌}
use native.Mathlib.Omega.{arith}
use borrow.Author.Tests.{eqb-false, ltb-true}
use lib.Dec.{eqb, ltb}
use lib.ListN.{length, get_or, take, drop, length-drop}
use Rattle.classes.specs.Bytes.{bytes, begins}
use Rattle.classes.specs.Class.{is_digit, is_hex, is_letter, is_name, is_ascii}
use Rattle.classes.specs.Run.{run_len}
use Rattle.classes.proofs.Bools.{false-true, and_right}
use Rattle.classes.proofs.Cut.{begins-short}
use Rattle.classes.proofs.Runs.{run_short}
use Rattle.words.specs.Search.{mark_of, suffix_len}
use Rattle.words.specs.Quote.{Quote, quote_from}
use Rattle.std.proofs.Common.{Ok as Found, Err as Missing}
use Rattle.words.proofs.Suffix.{suffix-short}
use Rattle.words.proofs.Quotes.{Within, within}
use Rattle.words.proofs.Above.{name-above, mark-above}
use Rattle.words.proofs.Marks.{mark-short}
use Rattle.tokens.specs.Token.{Front, sized, fault, typed, digits_len, more_digits, more_hex, decimal_len, decimal, hex_typed, hex_len, hex_number, number_token, string_by, string, opens_string, string_refusal, name, word_token, mark, find_token}
use Rattle.tokens.proofs.Digits.{digits-short, digits-take}

-- in n bytes, of which a token takes one, and its kind is not EOF's
abbrev pub Takes : ℕ → Front → Type 0
Takes n (sized k m) = (0 < k) × (0 < m) × (m ≤ n)
Takes n (fault m i j) = (i ≤ j) × (j ≤ n)

takes-cond : (n : ℕ) (b : Bool) (x y : Front) → (b ≡ true → Takes n x) → (b ≡ false → Takes n y) → Takes n (cond b x y)
takes-cond n true x y f g = f refl
takes-cond n false x y f g = g refl

kind-positive : (b : Bool) → 0 < cond b 1 2
kind-positive true = omega arith
kind-positive false = omega arith

typed-takes : (n m v : ℕ) → 0 < m + v → m + v ≤ n → Takes n (typed m v)
unfolding typed
typed-takes n m v h g = (kind-positive (eqb v 0), h, g)

-- a run that begins with a byte of its class takes it
pub run-takes : (f : ℕ → Bool) (a : ℕ) (s : List ℕ) → f a ≡ true → 0 < run_len f (a ∷ s)
unfolding run_len
run-takes f a s e = rw e (omega arith)

module _ (ed : ℕ) where
  decimal-short : (s : List ℕ) → decimal_len ed s ≤ length s
  unfolding decimal_len
  decimal-short s = digits-short is_digit (more_digits ed) s

  decimal-some : (a : ℕ) (s : List ℕ) → is_digit a ≡ true → 0 < decimal_len ed (a ∷ s)
  unfolding decimal_len
  decimal-some a s e = digits-take is_digit (more_digits ed) a s e

  decimal-takes : (a : ℕ) (s : List ℕ) → is_digit a ≡ true → Takes (length (a ∷ s)) (decimal ed (a ∷ s))
  unfolding decimal
  decimal-takes a s e =
      let r : 0 < decimal_len ed (a ∷ s) = decimal-some a s e in
      typed-takes (length (a ∷ s)) (decimal_len ed (a ∷ s)) (suffix_len ed (drop (decimal_len ed (a ∷ s)) (a ∷ s))) (omega arith)
      (omega (arith, decimal-short (a ∷ s), suffix-short ed (drop (decimal_len ed (a ∷ s)) (a ∷ s)), length-drop (decimal_len ed (a ∷ s)) (a ∷ s)))

  hex-fits : (s : List ℕ) → 2 ≤ length s → hex_len ed s + suffix_len ed (drop (hex_len ed s) s) ≤ length s
  unfolding hex_len
  hex-fits s h =
      omega
      (arith, digits-short is_hex (more_hex ed) (drop 2 s), length-drop 2 s, suffix-short ed (drop (2 + digits_len is_hex (more_hex ed) (drop 2 s)) s), length-drop (2 + digits_len is_hex (more_hex ed) (drop 2 s)) s)

  hex-some : (s : List ℕ) (v : ℕ) → 0 < hex_len ed s + v
  unfolding hex_len
  hex-some s v = omega arith

  hex-takes : (s : List ℕ) → begins (bytes "0x") s ≡ true → Takes (length s) (hex_number ed s)
  unfolding hex_number hex_typed
  hex-takes s e =
      let h : 2 ≤ length s = begins-short (bytes "0x") s e in
      takes-cond (length s) (eqb (hex_len ed s + suffix_len ed (drop (hex_len ed s) s)) 2) (sized 1 1) (typed (hex_len ed s) (suffix_len ed (drop (hex_len ed s) s)))
      (λ _. (omega arith, omega arith, omega arith))
      (λ _. typed-takes (length s) (hex_len ed s) (suffix_len ed (drop (hex_len ed s) s)) (hex-some s (suffix_len ed (drop (hex_len ed s) s))) (hex-fits s h))

  number-takes : (a : ℕ) (s : List ℕ) → is_digit a ≡ true → Takes (length (a ∷ s)) (number_token ed (a ∷ s))
  unfolding number_token
  number-takes a s e =
      takes-cond (length (a ∷ s)) (begins (bytes "0x") (a ∷ s)) (hex_number ed (a ∷ s)) (decimal ed (a ∷ s)) (hex-takes (a ∷ s)) (λ _. decimal-takes a s e)

by-takes : (n m h : ℕ) (q : Quote) → Within 2 n q → Takes (2 + n) (string_by m h q)
unfolding string_by
by-takes n m h (Missing e) b = (omega arith, omega arith)
by-takes n m h (Found q) b =
    takes-cond (2 + n) (ltb h q) (fault 9 h (h + 1)) (sized 3 (q + 1))
    (λ c. (omega arith, omega (arith, ltb-true h q c))) (λ _. (omega arith, omega arith, omega arith))

-- a string has two bytes
string-takes : (m a b : ℕ) (s : List ℕ) → Takes (length (a ∷ b ∷ s)) (string m (a ∷ b ∷ s))
unfolding string
string-takes m a b s =
    let n : 2 + length s ≡ length (a ∷ b ∷ s) = omega arith in
    subst (λ (l : ℕ). Takes l (string m (a ∷ b ∷ s))) n (by-takes (length s) m (2 + run_len is_ascii s) (quote_from false 2 s) (within s false 2))

pub letter-in-name : (a : ℕ) → is_letter a ≡ true → is_name a ≡ true
unfolding is_name
letter-in-name a e = rw e

name-takes : (a : ℕ) (s : List ℕ) → is_letter a ≡ true → Takes (length (a ∷ s)) (name (a ∷ s))
unfolding name
name-takes a s e =
    (omega (arith, name-above (take (run_len is_name (a ∷ s)) (a ∷ s))), run-takes is_name a s (letter-in-name a e), run_short is_name (a ∷ s))

opened-takes : (a : ℕ) (s : List ℕ) → opens_string a (get_or s 0 0) ≡ true → Takes (length (a ∷ s)) (string (string_refusal a) (a ∷ s))
unfolding opens_string
opened-takes a [] h = false-true _ (and_right (eqb a 120 || eqb a 98) false h)
opened-takes a (b ∷ s) h = string-takes (string_refusal a) a b s

word-takes : (a : ℕ) (s : List ℕ) → is_letter a ≡ true → Takes (length (a ∷ s)) (word_token (a ∷ s))
unfolding word_token
word-takes a s e =
    takes-cond (length (a ∷ s)) (opens_string a (get_or s 0 0)) (string (string_refusal a) (a ∷ s)) (name (a ∷ s)) (opened-takes a s) (λ _. name-takes a s e)

mark-takes : (s : List ℕ) → Takes (length s) (mark (mark_of s))
unfolding mark
mark-takes s =
    takes-cond (length s) (eqb (mark_of s).len 0) (fault 5 0 0) (sized (mark_of s).kind (mark_of s).len)
    (λ _. (omega arith, omega arith))
    (λ e. let h : 0 < (mark_of s).len = omega (arith, eqb-false (mark_of s).len 0 e) in (omega (arith, mark-above s h), h, mark-short s))

pub find-takes : (ed a : ℕ) (s : List ℕ) → Takes (length (a ∷ s)) (find_token ed (a ∷ s))
unfolding find_token
find-takes ed a s =
    takes-cond (length (a ∷ s)) (is_digit a) _ _ (number-takes ed a s)
    (λ _. takes-cond (length (a ∷ s)) (is_letter a) _ _ (word-takes a s) (λ _. mark-takes (a ∷ s)))
