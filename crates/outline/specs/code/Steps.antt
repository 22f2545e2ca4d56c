-- What the private functions of the outline answer: one step, and a portion with the records that it writes.
use Rattle.std.specs.Prelude.{ℕ, ◌+◌, ◌-◌, ◌<◌, ◌≤◌, ◌≡◌, Bool, true, false, cond, List, eqb, length, Result, Ok, Err}
use Rattle.std.proofs.lemmas.List.Edits.{sets}
use Rattle.tokens.specs.Answers.{place}
use Rattle.tokens.specs.Walk.{tokens_at}
use Rattle.tokens.specs.declared.Place.{Place}
use Rattle.outline.specs.Entry.{Entry, entry as entry_of, width_in, size_of, entry_bytes, records_of, fitting}
use Rattle.outline.specs.Outline.{pending_after, Outlined, accepted, rejected, stopped, joined, portion}
use Rattle.tokens.specs.declared.Token.{Token}
use Rattle.outline.specs.Calls.{answered, outline_buffer}
use Rattle.outline.specs.declared.Pending.{Pending}
use Rattle.outline.specs.declared.State.{State}
use Rattle.outline.specs.declared.Summary.{Summary}
use Rattle.outline.specs.declared.Step.{Step}
use Rattle.outline.specs.declared.Step.TheVariants.{GoOn, End, Full}
use Rattle.tokens.specs.declared.Refusal.{Refusal}

-- the doc comment of a gap, or the pending one
unfoldable pub comment_or : Place → Place → Place
comment_or doc c = cond (eqb doc.end 0) c doc

-- the state behind the token t, for which the comment c holds, where the records have n bytes
abbrev pub behind : Token → Place → ℕ → State
behind t c n = record { at = t.end; length = n; pending = pending_after t.kind c }

-- what is read where a portion of n tokens ends in the state s
abbrev pub summary : State → ℕ → Bool → Summary
summary s n full = record { full = full; count = n; length = s.length; end = s.at; pending = s.pending }

-- the step of a name: there is no room for its record, or it is written behind the others
unfoldable pub Named : List ℕ → ℕ → State → Token → Place → List ℕ → Step → List ℕ → Type 0
Named text room s t c entry (GoOn u) exit =
    (s.length + size_of (width_in text) ≤ room) × (u ≡ behind t c (s.length + size_of (width_in text)))
    × (exit ≡ sets entry s.length (entry_bytes (width_in text) (entry_of s.pending.keyword (place t.start t.end) c)))
Named text room s t c entry Full exit = (room - s.length < size_of (width_in text)) × (exit ≡ entry)
Named text room s t c entry End exit = ⊥

-- the portion of at most `limit` tokens from `at` on, where p is pending, with records of at most `room` bytes
abbrev pub asked : (ed : ℕ) (text : List ℕ) (at limit : ℕ) → Pending → (room : ℕ) → Outlined
asked ed text at limit p room = portion text at p (fitting text room) limit (tokens_at ed text at)

-- the buffer holds a portion's records in front, as far as it reaches, and they are in the room; of a refused one nothing is said
unfoldable pub Filled : List ℕ → ℕ → List ℕ → Outlined → List ℕ → Type 0
Filled text room entry (accepted a) exit = (exit ≡ sets entry 0 (records_of text a.entries)) × (length (records_of text a.entries) ≤ room)
Filled text room entry (rejected r) exit = Unit {0}

-- what a portion answers, and what it leaves in the lent buffer, whose length is the room
abbrev pub Lays : (ed : ℕ) (text : List ℕ) (at limit : ℕ) → Pending → List ℕ → Result Summary Refusal → List ℕ → Type 0
Lays ed text at limit p entry a exit =
    (a ≡ answered text (asked ed text at limit p (length entry))) × (exit ≡ outline_buffer text (asked ed text at limit p (length entry)) entry)

module _ (ed : ℕ) (text : List ℕ) (room : ℕ) where
  -- what is still to be read from a state on, n tokens at most
  abbrev pub ahead : State → ℕ → Outlined
  ahead s n = asked ed text s.at n s.pending (room - s.length)

  -- a state in the text whose records are in the room
  abbrev pub Standing : State → Type 0
  Standing s = (s.at ≤ length text) × (s.length ≤ room)

  -- from the state s to the state t, c tokens behind it, with these entries; their records are written behind those of before
  pub record Went (s t : State) (c : ℕ) (es : List Entry) (entry exit : List ℕ) : Type 0 where
    pub standing : Standing t
    pub long : t.length ≡ s.length + length (records_of text es)
    pub holds : exit ≡ sets entry s.length (records_of text es)
    pub goes : ((n : ℕ) → ahead s (c + n) ≡ joined c es (ahead t n))

  unfoldable pub Stepped : State → List ℕ → Result Step Refusal → List ℕ → Type 0
  Stepped s entry (Ok (GoOn t)) exit = (es : List Entry) × Went s t 1 es entry exit
  Stepped s entry (Ok End) exit = (exit ≡ entry) × ((n : ℕ) → ahead s (1 + n) ≡ stopped false s.at s.pending)
  Stepped s entry (Ok Full) exit = (exit ≡ entry) × ((n : ℕ) → ahead s (1 + n) ≡ stopped true s.at s.pending)
  Stepped s entry (Err r) exit = (n : ℕ) → ahead s (1 + n) ≡ rejected r
