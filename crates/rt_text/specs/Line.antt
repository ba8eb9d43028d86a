-- What a line of assembly text holds.
use Rattle.std.specs.Prelude.{List, Option}
use Rattle.rt_token.specs.Slice.{Slice}
use Rattle.rt_text.specs.declared.meaning.Meaning.{Meaning}
use Rattle.rt_text.specs.declared.operands.Operand.{Operand}

-- a statement: its name, its operands as they are written, and what it means
pub record SourceStatement : Type 0 where
  pub name : Slice
  pub operands : List Operand
  pub meaning : Meaning

-- a line: its labels in order, and its statement where it has one
pub record SourceLine : Type 0 where
  pub labels : List Slice
  pub statement : Option SourceStatement
