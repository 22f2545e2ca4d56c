-- The kinds of items, and their numbers.
use Rattle.std.specs.Prelude.{ℕ, ◌≡◌, true, Result, MatchResult}
use Rattle.tokens.specs.Refusals.{NoSuchKind}
use Rattle.tokens.specs.Answers.{refusal}
use Rattle.tokens.specs.declared.Refusal.{Refusal}
use Rattle.grammar.specs.Items.{no_kind}
use Rattle.calls.specs.declared.ItemKind.{ItemKind}
use Rattle.calls.specs.declared.ItemKind.TheVariants.{Name, Value, «Type», BindList, LambdaBindList}

-- the number that a call takes for a kind
abbrev pub number : ItemKind → ℕ
number Name = 1
number Value = 2
number «Type» = 3
number BindList = 4
number LambdaBindList = 5

-- the kind with the number n; or refusal 3, of a number that is no kind
abbrev pub Numbered : ℕ → Result ItemKind Refusal → Type 0
Numbered n r = MatchResult r (λ kind. number kind ≡ n) (λ e. (no_kind n ≡ true) × (e ≡ refusal NoSuchKind 0 0))
