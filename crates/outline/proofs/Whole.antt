-- The call from its portions: over a buffer of its own, copied or read again, and behind the tests of its arguments.
use mathlib.Core.Path.{◌≡◌, refl, ap, sym, ◌∙◌}
use mathlib.Core.List.{List, ◌++◌}
use Prim.Native.Nat.{ℕ, ◌≤◌}
use native.Mathlib.Omega.{arith}
use native.Mathlib.Nat.{zero-add}
use lib.ListN.{length, take, drop}
use lib.Seq.{sets, sets-eq, length-sets, take-append-le, take_all}
use Rattle.tokens.specs.Calls.{call_fault}
use Rattle.tokens.specs.declared.Refusal.{Refusal}
use Rattle.tokens.proofs.Faults.{unless-faulty}
use Rattle.outline.specs.Entry.{records_of}
use Rattle.outline.specs.Outline.{handed, Outlined, accepted, rejected, outlined}
use Rattle.outline.specs.Calls.{answered, outline_buffer}
use Rattle.outline.specs.code.Steps.{asked, Filled, Lays}
use Rattle.outline.specs.declared.Pending.{Pending}
use Rattle.outline.specs.declared.Summary.{Summary}
use Rattle.outline.proofs.Asked.{asks}
use Rattle.std.specs.Prelude.{Result, Ok, Err, ⊤}

-- a run at the front of a buffer that has room for it, and what is taken from there
sets-whole : (xs l : List ℕ) → length xs ≤ length l → sets l 0 xs ≡ xs ++ drop (length xs) l
sets-whole xs l h = sets-eq xs l 0 (omega arith) ∙ ap (λ (n : ℕ). xs ++ drop n l) (zero-add (length xs))

take_whole : (xs l : List ℕ) → length xs ≤ length l → take (length xs) (sets l 0 xs) ≡ xs
take_whole xs l h = ap (take (length xs)) (sets-whole xs l h) ∙ take-append-le (length xs) xs (drop (length xs) l) (omega arith) ∙ take_all (length xs) xs (omega arith)

-- what is answered, and what the lent buffer l holds then
module _ (text l : List ℕ) (room : ℕ) (long : room ≡ length l) where
  abbrev Gives : Outlined → Result Summary Refusal → List ℕ → Type 0
  Gives x a m = (a ≡ answered text x) × (m ≡ outline_buffer text x l)

  refused-by : (x : Outlined) (r : Refusal) → Err r ≡ answered text x → l ≡ outline_buffer text x l
  unfolding answered outline_buffer
  refused-by (accepted a) r e = let z : ◌≡◌ {A = ℕ} 0 1 = cc in absurd (omega arith)
  refused-by (rejected q) r e = refl

  again_by : (x : Outlined) (s : Summary) (m : List ℕ) → Ok s ≡ answered text x → Filled text room l x m → m ≡ outline_buffer text x l
  unfolding answered outline_buffer Filled
  again_by (accepted a) s m e f = f.0 ∙ sets-whole (records_of text a.entries) l (omega (arith, f.1, long))
  again_by (rejected r) s m e f = let z : ◌≡◌ {A = ℕ} 0 1 = cc in absurd (omega arith)

  copied-by : (x : Outlined) (s : Summary) (z made : List ℕ) → Ok s ≡ answered text x → Filled text room z x made → s.length ≤ length made
      → sets l 0 (take s.length made) ≡ outline_buffer text x l
  unfolding answered outline_buffer Filled
  copied-by (accepted a) s z made e f h =
      let xs = records_of text a.entries in
      let n : s.length ≡ length xs = cc in
      let k : length made ≡ length z = ap length f.0 ∙ length-sets z 0 xs in
      ap (λ (j : ℕ). sets l 0 (take j made)) n ∙ ap (λ (y : List ℕ). sets l 0 (take (length xs) y)) f.0 ∙ ap (sets l 0) (take_whole xs z (omega arith)) ∙ sets-whole xs l (omega (arith, f.1, long))
  copied-by (rejected r) s z made e f h = let y : ◌≡◌ {A = ℕ} 0 1 = cc in absurd (omega arith)

  module _ (x : Outlined) (a : Result Summary Refusal) (e : a ≡ answered text x) where
    pub over-refused : (r : Refusal) → a ≡ Err r → Gives x (Err r) l
    over-refused r f = (sym f ∙ e, refused-by x r (sym f ∙ e))

    pub over-again : (s : Summary) (b : Result Summary Refusal) (m : List ℕ) → a ≡ Ok s → b ≡ answered text x → Filled text room l x m → Gives x b m
    over-again s b m f g h = (g, again_by x s m (sym f ∙ e) h)

    pub over-whole : (s : Summary) (z made m : List ℕ) → a ≡ Ok s → Filled text room z x made → s.length ≤ length made → m ≡ sets l 0 (take s.length made) → Gives x (Ok s) m
    over-whole s z made m f h i k = (sym f ∙ e, k ∙ copied-by x s z made (sym f ∙ e) h i)

-- the call
module _ (ed : ℕ) (text : List ℕ) (at limit : ℕ) (p : Pending) (l : List ℕ) (f : Result ⊤ Refusal) (e : f ≡ call_fault ed text at) where
  abbrev Outlines : Result Summary Refusal → List ℕ → Type 0
  Outlines a m = (a ≡ answered text (outlined ed text at limit p (length l))) × (m ≡ outline_buffer text (outlined ed text at limit p (length l)) l)

  faulty-by : (r : Refusal) (x : Outlined) → x ≡ rejected r → (Err r ≡ answered text x) × (l ≡ outline_buffer text x l)
  unfolding answered outline_buffer
  faulty-by r x g = rw g (refl, refl)

  pub faulty-way : (r : Refusal) → f ≡ Err r → Outlines (Err r) l
  unfolding outlined
  faulty-way r g = faulty-by r (outlined ed text at limit p (length l)) (unless-faulty rejected (call_fault ed text at) _ r (sym e ∙ g))

  pub fine-way : (q : Pending) (a : Result Summary Refusal) (m : List ℕ) → f ≡ Ok tt → q ≡ handed text p → Lays ed text at limit q l a m → Outlines a m
  fine-way q a m g h w =
      let x : asked ed text at limit q (length l) ≡ outlined ed text at limit p (length l) =
      ap (λ (y : Pending). asked ed text at limit y (length l)) h ∙ sym (asks ed text at limit p (length l) (sym e ∙ g)) in
      (w.0 ∙ ap (answered text) x, w.1 ∙ ap (λ (y : Outlined). outline_buffer text y l) x)
