-- The Rust's trees, where brackets round one type are no record of their own. Its readers are those of the grammar but for brackets,
-- where the one type inside takes their place and their span.
use Rattle.std.specs.Prelude.{ℕ, zero, suc}
use Rattle.words.specs.Kinds.{RParen}
use Rattle.tokens.specs.Refusals.{TooDeep}
use Rattle.tokens.specs.Calls.{unless}
use Rattle.records.specs.Tree.{Tree, Trees, none, more}
use Rattle.records.specs.Rust.{respan, unbracketed}
use Rattle.sources.specs.Source.{Source, Lexeme, start}
use Rattle.answers.specs.Reading.{ok, no, then, refused_at, Reader, list_behind}
use Rattle.grammar.specs.Types.{levels, bracketed, type_by}
use Rattle.grammar.specs.Binds.{bind_over, read_field, bind_list_over, lambda_list_over}
use Rattle.grammar.specs.Items.{Item, item, refused, kind_over, finished, Asked, fault_of, reading_over}

-- brackets round one; round none or more they are what they were
unfoldable pub rust_bracketed : Lexeme → Source → Trees → Tree
rust_bracketed a u none = bracketed a u none
rust_bracketed a u (more x none) = respan (start a) u.at x
rust_bracketed a u (more x (more y xs)) = bracketed a u (more x (more y xs))

-- over the reader of a type one level deeper
unfoldable pub rust_brackets : Reader → Reader
rust_brackets type a = then (list_behind type RParen a) λ xs u. ok (rust_bracketed a u xs) u

unfoldable pub rust_over : Reader → Reader
rust_over type a = type_by type (rust_brackets type) a

-- types and bindings where n levels are left, their own among them
unfoldable pub rust_type : ℕ → Reader
rust_type zero a = no (refused_at TooDeep a)
rust_type (suc n) a = rust_over (rust_type n) a

unfoldable pub rust_bind : ℕ → Reader
rust_bind zero a = no (refused_at TooDeep a)
rust_bind (suc n) a = bind_over (rust_type n) (read_field n (rust_bind n)) a

-- the five kinds of items
unfoldable pub rust_kind : ℕ → Reader
rust_kind kind a = kind_over (rust_type levels) (bind_list_over (rust_bind levels)) (lambda_list_over (rust_bind levels)) kind a

unfoldable pub rust_item : Asked → Item
rust_item q = unless refused (fault_of q) (finished (reading_over rust_kind q))

-- an item with its tree unbracketed
unfoldable pub unbracketed_item : Item → Item
unbracketed_item (item x t) = item (unbracketed x) t
unbracketed_item (refused r) = refused r
