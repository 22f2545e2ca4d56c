-- From the input to what is written: the program reads one byte more than the longest input, which suffices to tell a longer one.
use mathlib.Core.Path.{◌≡◌, refl, ap, ◌∙◌}
use mathlib.Core.Bool.{Bool, true, false}
use mathlib.Core.List.{List}
use Prim.Native.Nat.{ℕ, ◌<◌}
use native.Mathlib.Omega.{arith}
use borrow.Author.Tests.{lt-ltb, ltb-true, ltb-false}
use lib.Dec.{ltb}
use lib.ListN.{length, take, length-take}
use lib.Seq.{take_all}
use Rattle.std.specs.Prelude.{IfSome, Some, None}
use Rattle.std.specs.Io.KnownBytes.{Appends}
use Rattle.std.specs.declared.option.Option.{Option}
use Rattle.token_program.specs.Printed.{output, input_limit}

-- what is printed of the bytes that are read is what is printed of the whole input
pub read-enough : (n : ℕ) (xs : List ℕ) → input_limit < n → output (take n xs) ≡ output xs
unfolding output
read-enough n xs h = go (ltb input_limit (length xs)) refl
  where
    go : (b : Bool) → ltb input_limit (length xs) ≡ b → output (take n xs) ≡ output xs
    go true e =
        let k : input_limit < length (take n xs) = omega (arith, length-take n xs, ltb-true input_limit (length xs) e) in
        rw (lt-ltb input_limit (length (take n xs)) k, e)
    go false e = ap output (take_all n xs (omega (arith, ltb-false input_limit (length xs) e)))

-- where the bytes of the input are known, the lines of the first n of them are what is printed of the input
pub passed-on : (n : ℕ) (known old new : Option (List ℕ)) (text lines : List ℕ) → input_limit < n
    → IfSome known (λ xs. text ≡ take n xs) → lines ≡ output text → Appends old new lines → IfSome known (λ xs. Appends old new (output xs))
passed-on n None old new text lines q r w a = _
passed-on n (Some xs) old new text lines q r w a = let k : lines ≡ output xs = w ∙ ap output r ∙ read-enough n xs q in rw k at a
