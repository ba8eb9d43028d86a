-- The names that three or more files of these proofs cite, passed on from one place. Declares nothing.
pub use Rattle.std.proofs.Common.{append_assoc, ◌≡◌, ℕ, zero, suc, ◌+◌, ◌-◌, ◌/◌, ◌%◌, ◌<◌, ◌≤◌, ◌==◌, false, List, [], ◌∷◌, ◌++◌, length, drop, take, get_or, refl, sym, ap, ◌∙◌, arith, nat_lt, slice_get, Bool, not, true, decimal, Option, Some, None, IfSome, inl, inr, subst, ◌*◌, ℤ, ◌^◌, cond, Result, Ok, Err}
pub use Rattle.rt_core.specs.Plain.{plain_attempt}
pub use Rattle.rt_effects.specs.Did.{source, did}
pub use Rattle.rt_effects.specs.TraceText.{TaskWords, state_before, words_of, words_in, place_text, instruction_text}
pub use Rattle.rt_effects.specs.Working.Kept.{middle_text, name_text}
pub use Rattle.rt_exec.specs.State.{State, register, with_register}
pub use Rattle.rt_exec.specs.declared.mem.access_fault.AccessFault.{AccessFault}
pub use Rattle.rt_exec.specs.declared.outcome.Call.{Call}
pub use Rattle.rt_exec.specs.declared.outcome.Fault.TheVariants.{JumpMisaligned}
pub use Rattle.rt_history.specs.Legal.{state_at}
pub use Rattle.rt_image.specs.SystemFile.{TaskSet}
pub use Rattle.rt_isa.specs.Bits.{signed}
pub use Rattle.rt_isa.specs.declared.instruction.Ins.{Ins}
pub use Rattle.rt_isa.specs.declared.instruction.Ins.TheVariants.{Lb, Lh, Lw, Lbu, Lhu, Sb, Sh, Sw, Lui, Auipc, Jal, Jalr, Beq, Bne, Blt, Bge, Bltu, Bgeu, Addi, Slti, Sltiu, Xori, Ori, Andi, Slli, Srli, Srai, Add, Sub, Sll, Slt, Sltu, Xor, Srl, Sra, Or, And, Fence, Ecall, Ebreak}
pub use Rattle.rt_points.specs.Access.{accessed}
unfoldable pub use Rattle.rt_words.specs.Hex.{hex}
pub use Rattle.std.specs.Option.{option_map}
pub use Rattle.std.specs.Prelude.{is_some}
