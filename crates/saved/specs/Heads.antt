-- What bytes say of their form and of the record at an offset.
use Rattle.std.specs.Prelude.{ℕ, zero, suc, ◌+◌, ◌*◌, cond, List, get_or, drop}
use Rattle.classes.specs.Bytes.{begins}
use Rattle.forms.specs.Forms.{FormNarrow, FormWide, front, width}
use Rattle.saved.specs.declared.Head.{Head}

-- the form, told by the first four bytes
unfoldable pub form_told : List ℕ → ℕ
form_told bytes = cond (begins (front FormWide) bytes) FormWide FormNarrow

-- the number in the first w bytes, the low one first
unfoldable pub number_in : ℕ → List ℕ → ℕ
number_in zero bytes = 0
number_in (suc w) bytes = get_or bytes 0 0 + 256 * number_in w (drop 1 bytes)

unfoldable pub number_at : (w : ℕ) → List ℕ → (p : ℕ) → ℕ
number_at w bytes p = number_in w (drop p bytes)

-- the head of the record at an offset, with numbers of w bytes and the kind in two
unfoldable pub head_in : (w : ℕ) → List ℕ → (p : ℕ) → Head
head_in w bytes p =
    record {
      len = number_at w bytes p;
      kind = number_at 2 bytes (p + w);
      start = number_at w bytes (p + w + 2);
      end = number_at w bytes (p + w + 2 + w);
    }

abbrev pub head_at : (f : ℕ) → List ℕ → (p : ℕ) → Head
head_at f bytes p = head_in (width f) bytes p
