use native.Mathlib.Omega.{arith}
use Rattle.parts.proofs.Contracts.{reads_as}
use Rattle.calls.proofs.Answers.{kind-name, kind-value, kind-type, kind-bind, kind-lambda}
use Rattle.calls.proofs.parse_item.Goals as goal

pub returns-in-Name : goal.returns-in-Name
returns-in-Name c = reads_as (omega arith) (λ f. f) (λ _. kind-name c.args.q.kind _ c.in-Name.is) c.parse_name_access_chain.ensures

pub returns-in-Value : goal.returns-in-Value
returns-in-Value c = reads_as (omega arith) (λ f. f) (λ _. kind-value c.args.q.kind _ c.in-Value.is) c.maybe_parse_value.ensures

pub returns-in-Type : goal.returns-in-Type
returns-in-Type c = reads_as (omega arith) (λ f. f) (λ _. kind-type c.args.q.kind _ c.in-Type.is) c.parse_type.ensures

pub returns-in-BindList : goal.returns-in-BindList
returns-in-BindList c = reads_as (omega arith) (λ f. f) (λ _. kind-bind c.args.q.kind _ c.in-BindList.is) c.parse_bind_list.ensures

pub returns-in-LambdaBindList : goal.returns-in-LambdaBindList
returns-in-LambdaBindList c = reads_as (omega arith) (λ f. f) (λ _. kind-lambda c.args.q.kind _ c.in-LambdaBindList.is) c.parse_lambda_bind_list.ensures
