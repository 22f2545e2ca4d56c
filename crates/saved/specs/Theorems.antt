-- What is proved of opening saved trees.
use Rattle.std.specs.Prelude.{ℕ, ◌-◌, ◌%◌, ◌<◌, ◌≤◌, ◌≡◌, Bool, true, false, List, ◌↔◌, length, get_or}
use Rattle.tokens.specs.Answers.{refusal}
use Rattle.tokens.specs.Calls.{text_limit}
use Rattle.tokens.specs.Refusals.{TextTooLong}
use Rattle.tokens.specs.RefusalSets.{among}
use Rattle.tokens.specs.declared.Refusal.{Refusal}
use Rattle.records.specs.Tree.{Tree}
use Rattle.records.specs.Spans.{unspelled}
use Rattle.forms.specs.Forms.{FormNarrow, FormWide, is_line, written}
use Rattle.forms.specs.Sizes.{Fitting}
use Rattle.saved.specs.Refusals.{open_refusals}
use Rattle.saved.specs.Heads.{form_told}
use Rattle.saved.specs.Open.{whole, damaged, Parent, children_at, open_tree}
use Rattle.saved.specs.Child.{child_in, starts_at, child_of}
use Rattle.saved.specs.Legal.{Legal}

-- bytes are numbers below 256
abbrev pub Bytes : List ℕ → Type 0
Bytes l = (i : ℕ) → get_or l i 0 < 256

-- exactly the bytes of one record with legal children are accepted, as the tree whose bytes they are
abbrev pub Exactly : Type 0
Exactly =
    (bytes text : List ℕ) → Bytes bytes → length text ≤ text_limit → (t : Tree) → unspelled t ≡ t
    → (open_tree bytes text ≡ whole t) ↔ ((bytes ≡ written (form_told bytes) t) × Fitting (form_told bytes) t × Legal text t)

-- by a record's offset and an index the bytes hand back the tree's child, none past the last or where no record starts
abbrev pub ChildrenAre : Type 0
ChildrenAre =
    (bytes text : List ℕ) → Bytes bytes → (t : Tree) → open_tree bytes text ≡ whole t
    → (p index : ℕ) → child_in bytes p index ≡ child_of (form_told bytes) t p index

-- a record starts at each multiple of 8, in the wide form at each multiple of 14 behind the four bytes in front, and nowhere else
abbrev pub RecordsStart : Type 0
RecordsStart =
    (bytes text : List ℕ) → Bytes bytes → (t : Tree) → open_tree bytes text ≡ whole t → (p : ℕ)
    → (form_told bytes ≡ FormNarrow → (starts_at FormNarrow t p ≡ true) ↔ ((p < length bytes) × (p % 8 ≡ 0)))
    × (form_told bytes ≡ FormWide → (starts_at FormWide t p ≡ true) ↔ ((4 ≤ p) × (p < length bytes) × ((p - 4) % 14 ≡ 0)))

-- a text over the limit comes first, whatever the bytes
abbrev pub TextFirst : Type 0
TextFirst = (bytes text : List ℕ) → text_limit < length text → open_tree bytes text ≡ damaged (refusal TextTooLong 0 0)

-- opening meets these refusals and no other
abbrev pub OpenRefusals : Type 0
OpenRefusals = (bytes text : List ℕ) (r : Refusal) → open_tree bytes text ≡ damaged r → among open_refusals r.number ≡ true

-- the bound of the recursion does not matter: every one that is not under the bytes left gives the same
abbrev pub BoundEnough : Type 0
BoundEnough =
    (f : ℕ) → is_line f ≡ false → (bytes : List ℕ) (m n : ℕ) (P : Parent) (index : ℕ) (field : Bool) (p room : ℕ) → room ≤ m → room ≤ n
    → children_at f bytes m P index field p room ≡ children_at f bytes n P index field p room
