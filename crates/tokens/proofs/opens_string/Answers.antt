use mathlib.Core.Bool.{◌||◌}
use lib.Dec.{eqb}
use mathlib.Core.Path.{sym}
use borrow.Author.Tests.{eq-eqb, ne_eqb}
use Rattle.classes.proofs.Bools.{and-true, and-false}
use Rattle.tokens.specs.Token.{opens_string}
use Rattle.tokens.proofs.opens_string.Goals as goal

pub returns-then-a-eq120 : goal.returns-then-a-eq120
unfolding opens_string
returns-then-a-eq120 c = rw (eq-eqb _ _ c.if-b-eq34.true, eq-eqb _ _ c.if-a-eq120.true)

pub returns-else-a-eq120 : goal.returns-else-a-eq120
unfolding opens_string
returns-else-a-eq120 c = rw (eq-eqb _ _ c.if-b-eq34.true, ne_eqb _ _ c.if-a-eq120.false) (sym (and-true _))

pub returns-else-b-eq34 : goal.returns-else-b-eq34
unfolding opens_string
returns-else-b-eq34 c = rw (ne_eqb _ _ c.if-b-eq34.false) (sym (and-false (eqb c.args.a 120 || eqb c.args.a 98)))
