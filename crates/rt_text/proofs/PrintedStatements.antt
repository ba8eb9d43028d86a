-- What each printed statement means.
use Rattle.rt_text.proofs.Common.{◌≡◌, ℕ, ℤ, pos, negsuc, ◌≤ℤ◌, true, ◌&&◌, ◌^◌, ◌<◌, List, [], ◌∷◌, ◌++◌, length, refl, arith, Some, decimal, signed_decimal, list_all, and_parts, hex, register, letters, form_of, is_printable, is_word, Form}
use Rattle.std.proofs.Common.{leb}
use Rattle.std.specs.Prelude.{codes}
use Rattle.rt_isa.specs.Print.{data_text}
use Rattle.rt_text.specs.Forms.{forms}
use Rattle.rt_text.specs.declared.forms.Form.TheVariants as form
use Rattle.rt_text.specs.declared.forms.OperationForm.TheVariants as operation
use Rattle.rt_text.specs.declared.forms.TransferForm.TheVariants as transfer
use Rattle.rt_text.specs.declared.forms.DirectiveForm.TheVariants as directive
use Rattle.rt_text.specs.declared.meaning.Meaning.TheVariants as meaning
use Rattle.rt_text.specs.declared.meaning.Operation.TheVariants as operations
use Rattle.rt_text.specs.declared.meaning.Transfer.TheVariants as transfers
use Rattle.rt_text.specs.declared.meaning.Directive.TheVariants as directives
use Rattle.rt_text.specs.declared.meaning.Target.TheVariants as targets
use Rattle.rt_text.specs.declared.operations.UpperOp.{UpperOp}
use Rattle.rt_text.specs.declared.operations.BranchOp.{BranchOp}
use Rattle.rt_text.specs.declared.operations.LoadOp.{LoadOp}
use Rattle.rt_text.specs.declared.operations.StoreOp.{StoreOp}
use Rattle.rt_text.specs.declared.operations.ImmediateOp.{ImmediateOp}
use Rattle.rt_text.specs.declared.operations.ShiftOp.{ShiftOp}
use Rattle.rt_text.specs.declared.operations.RegisterOp.{RegisterOp}
use Rattle.rt_text.specs.declared.operations.PlainOp.{PlainOp}
use Rattle.rt_text.specs.declared.operations.PlainOp.TheVariants as plain
use Rattle.rt_text.proofs.PrintedNumbers.{number_decimal, number_signed, number_hex}
use Rattle.rt_text.proofs.PrintedPieces.{register_back, letters_back, decimal_piece, signed_piece, hex_piece, is_short_word, word_piece}
use Rattle.rt_text.proofs.PrintedShapes.{Names, pair_text, triple_text, memory_text, none_read, number_read, register_number_read, registers_number_read, registers_read, sets_read, memory_read}
use Rattle.rt_text.proofs.PrintedTokens.{Means}

-- a name of six bytes at most, found in the table of names
pub named : (name : List ℕ) (f : Form) → is_short_word 6 name ≡ true → form_of name ≡ Some f → Names name f
named name f short formed =
    record { piece = word_piece 6 name short; some = filled name (and_parts (is_word name) (list_all is_printable name && leb (length name) 6) short).0; formed = formed }
  where
    filled : (name : List ℕ) → is_word name ≡ true → 0 < length name
    filled [] is = absurd cc
    filled (b ∷ bs) is = omega arith

-- the names of each kind of operation
abbrev pub IsRegisterName : List ℕ → RegisterOp → Type 0
IsRegisterName name op = Names name (form.Operation (operation.Register op))

abbrev pub IsShiftName : List ℕ → ShiftOp → Type 0
IsShiftName name op = Names name (form.Operation (operation.Shift op))

abbrev pub IsImmediateName : List ℕ → ImmediateOp → Type 0
IsImmediateName name op = Names name (form.Operation (operation.Immediate op))

abbrev pub IsUpperName : List ℕ → UpperOp → Type 0
IsUpperName name op = Names name (form.Operation (operation.Upper op))

abbrev pub IsLoadName : List ℕ → LoadOp → Type 0
IsLoadName name op = Names name (form.Operation (operation.Load op))

abbrev pub IsStoreName : List ℕ → StoreOp → Type 0
IsStoreName name op = Names name (form.Operation (operation.Store op))

abbrev pub IsBranchName : List ℕ → BranchOp → Type 0
IsBranchName name op = Names name (form.Transfer (transfer.Branch op))

abbrev pub IsPlainName : List ℕ → PlainOp → Type 0
IsPlainName name op = Names name (form.Plain op)

-- ---- operations

pub register_statement : (name : List ℕ) (op : RegisterOp) (d a b : ℕ) → IsRegisterName name op → d < 32 → a < 32 → b < 32 → Means (name ++ triple_text (register d) (register a) (register b)) (meaning.Operation (operations.Register op d a b))
register_statement name op d a b is is_d is_a is_b =
    registers_read name _ _ d a b is is_d is_a is_b (λ p q r. rw (register_back d is_d, register_back a is_a, register_back b is_b) refl)

pub shift_statement : (name : List ℕ) (op : ShiftOp) (d a n : ℕ) → IsShiftName name op → d < 32 → a < 32 → n < 32 → Means (name ++ triple_text (register d) (register a) (decimal n)) (meaning.Operation (operations.Shift op d a (pos n)))
shift_statement name op d a n is is_d is_a is_n =
    registers_number_read name _ _ d a 4 (decimal n) (pos n) is is_d is_a (decimal_piece n (omega arith)) (number_decimal n (omega arith)) (omega arith) (λ p q r. rw (register_back d is_d, register_back a is_a) refl)

pub immediate_statement : (name : List ℕ) (op : ImmediateOp) (d a : ℕ) (i : ℤ) → IsImmediateName name op → d < 32 → a < 32 → negsuc 2047 ≤ℤ i → i ≤ℤ pos 2047 → Means (name ++ triple_text (register d) (register a) (signed_decimal i)) (meaning.Operation (operations.Immediate op d a i))
immediate_statement name op d a i is is_d is_a low high =
    registers_number_read name _ _ d a 5 (signed_decimal i) i is is_d is_a (signed_piece i low high) (number_signed i low high) (omega arith) (λ p q r. rw (register_back d is_d, register_back a is_a) refl)

pub upper_statement : (name : List ℕ) (op : UpperOp) (d i : ℕ) → IsUpperName name op → d < 32 → i < 2 ^ 20 → Means (name ++ pair_text (register d) (48 ∷ 120 ∷ hex 5 i)) (meaning.Operation (operations.Upper op d (pos i)))
upper_statement name op d i is is_d is_i =
    register_number_read name _ _ d 7 (48 ∷ 120 ∷ hex 5 i) (pos i) is is_d (hex_piece 5 i) (number_hex 5 i (omega arith) (omega arith) (omega arith)) (omega arith) (λ p q. rw (register_back d is_d) refl)

pub load_statement : (name : List ℕ) (op : LoadOp) (d a : ℕ) (i : ℤ) → IsLoadName name op → d < 32 → a < 32 → negsuc 2047 ≤ℤ i → i ≤ℤ pos 2047 → Means (name ++ memory_text (register d) (signed_decimal i) (register a)) (meaning.Operation (operations.Load op d (record { offset = i; base = a })))
load_statement name op d a i is is_d is_a low high =
    memory_read name _ _ d a i is is_d is_a low high (λ p span. rw (register_back d is_d) refl)

pub store_statement : (name : List ℕ) (op : StoreOp) (b a : ℕ) (i : ℤ) → IsStoreName name op → b < 32 → a < 32 → negsuc 2047 ≤ℤ i → i ≤ℤ pos 2047 → Means (name ++ memory_text (register b) (signed_decimal i) (register a)) (meaning.Operation (operations.Store op b (record { offset = i; base = a })))
store_statement name op b a i is is_b is_a low high =
    memory_read name _ _ b a i is is_b is_a low high (λ p span. rw (register_back b is_b) refl)

-- ---- transfers

pub jump_statement : (d address : ℕ) → d < 32 → address < 2 ^ 32 → Means (codes "jal" ++ pair_text (register d) (48 ∷ 120 ∷ hex 8 address)) (meaning.Transfer (transfers.JumpAndLink d (targets.Number (pos address))))
unfolding forms
jump_statement d address is_d is_address =
    register_number_read (codes "jal") (form.Transfer transfer.JumpAndLink) _ d 10 (48 ∷ 120 ∷ hex 8 address) (pos address) (named (codes "jal") _ refl refl) is_d (hex_piece 8 address) (number_hex 8 address (omega arith) (omega arith) (omega arith)) (omega arith) (λ p q. rw (register_back d is_d) refl)

pub jump_register_statement : (d a : ℕ) (i : ℤ) → d < 32 → a < 32 → negsuc 2047 ≤ℤ i → i ≤ℤ pos 2047 → Means (codes "jalr" ++ memory_text (register d) (signed_decimal i) (register a)) (meaning.Transfer (transfers.JumpAndLinkRegister d (record { offset = i; base = a })))
unfolding forms
jump_register_statement d a i is_d is_a low high =
    memory_read (codes "jalr") (form.Transfer transfer.JumpAndLinkRegister) _ d a i (named (codes "jalr") _ refl refl) is_d is_a low high (λ p span. rw (register_back d is_d) refl)

pub branch_statement : (name : List ℕ) (op : BranchOp) (a b address : ℕ) → IsBranchName name op → a < 32 → b < 32 → address < 2 ^ 32 → Means (name ++ triple_text (register a) (register b) (48 ∷ 120 ∷ hex 8 address)) (meaning.Transfer (transfers.Branch op a b (targets.Number (pos address))))
branch_statement name op a b address is is_a is_b is_address =
    registers_number_read name _ _ a b 10 (48 ∷ 120 ∷ hex 8 address) (pos address) is is_a is_b (hex_piece 8 address) (number_hex 8 address (omega arith) (omega arith) (omega arith)) (omega arith) (λ p q r. rw (register_back a is_a, register_back b is_b) refl)

-- ---- the others

pub plain_statement : (name : List ℕ) (op : PlainOp) → IsPlainName name op → Means name (meaning.Plain op)
plain_statement name op is = none_read name _ _ is refl

pub fence_statement : Means (codes "fence") (meaning.Plain plain.Fence)
unfolding forms
fence_statement = none_read (codes "fence") form.Fence _ (named (codes "fence") _ refl refl) refl

pub sets_statement : (before after : ℕ) → 0 < before → before < 16 → 0 < after → after < 16 → Means (codes "fence" ++ pair_text (letters before) (letters after)) (meaning.Fence before after)
unfolding forms
sets_statement before after some_before is_before some_after is_after =
    sets_read (codes "fence") form.Fence _ before after (named (codes "fence") _ refl refl) some_before is_before some_after is_after (λ p q. rw (letters_back before some_before is_before, letters_back after some_after is_after) refl)

pub data_statement : (w : ℕ) → w < 2 ^ 32 → Means (data_text w) (meaning.Directive (directives.Words (targets.Number (pos w) ∷ [])))
unfolding forms
data_statement w is_w =
    number_read (codes ".word") (form.Directive directive.Words) _ 10 (48 ∷ 120 ∷ hex 8 w) (pos w) (named (codes ".word") _ refl refl) (hex_piece 8 w) (number_hex 8 w (omega arith) (omega arith) (omega arith)) (omega arith) (λ p. refl)
