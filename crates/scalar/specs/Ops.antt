-- The operations of a scalar, as one value, with no laws: a table or a form is written over the operations, whatever they obey. Assumes nothing.
use Rattle.std.specs.Prelude.{Bool}

pub record Ops (S : Type 0) : Type 0 where
  pub zero : S
  pub one : S
  pub add : S → S → S
  pub sub : S → S → S
  pub mul : S → S → S
  pub neg : S → S
  pub div : S → S → S
  pub eq : S → S → Bool
