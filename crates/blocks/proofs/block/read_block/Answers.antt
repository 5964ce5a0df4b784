use Rattle.std.proofs.Common.{subst}
use Rattle.std.proofs.lemmas.Result.{err_from_is_err_and}
use Rattle.refusal.proofs.Arrays.{array_found, array_refused}
use Rattle.blocks.specs.Faults.{block_refusal}
use Rattle.blocks.specs.Blocks.{ReadRefused}
use Rattle.blocks.specs.declared.faults.BlockFault.{BlockFault}
use Rattle.blocks.proofs.Invalid.{Refused}
use Rattle.blocks.proofs.block.read_block.Goals as goal

pub returns-in_err-block-clause-encoded_ten_or_refused :
    goal.returns-in_err-block-clause-encoded_ten_or_refused
returns-in_err-block-clause-encoded_ten_or_refused c =
    let p = err_from_is_err_and c.from_residual.result c.from_residual.ensures.1 in
    let h = array_refused (λ y. y.now) c.args.block.now c.as_array.ensures.cases c.in_err-block.ensures.ok_part c.in_err-block.ensures.value in
    let Told : BlockFault → Type 0 = λ fault. ReadRefused c.args.block.now c.args.characters.now (block_refusal fault) in
    rw (p.1, p.2) (subst Told h.1 (ReadRefused.input_length h.0))

pub returns-in_err-characters-clause-encoded_ten_or_refused :
    goal.returns-in_err-characters-clause-encoded_ten_or_refused
returns-in_err-characters-clause-encoded_ten_or_refused c =
    let p = err_from_is_err_and c.from_residual-in_err-characters.result c.from_residual-in_err-characters.ensures.1 in
    let eleven = array_found (λ y. y.now) c.as_array.ensures.cases c.in_ok-block.ensures.ok_part in
    let h = array_refused (λ y. y.now) c.args.characters.now c.as_mut_array.ensures.cases c.in_err-characters.ensures.ok_part c.in_err-characters.ensures.value in
    let Told : BlockFault → Type 0 = λ fault. ReadRefused c.args.block.now c.args.characters.now (block_refusal fault) in
    rw (p.1, p.2) (subst Told h.1 (ReadRefused.output_length eleven.0 h.0))

pub returns-in_err-read-clause-encoded_ten_or_refused :
    goal.returns-in_err-read-clause-encoded_ten_or_refused
returns-in_err-read-clause-encoded_ten_or_refused c =
    let p = err_from_is_err_and c.from_residual-in_err-read.result c.from_residual-in_err-read.ensures.1 in
    let eleven = array_found (λ y. y.now) c.as_array.ensures.cases c.in_ok-block.ensures.ok_part in
    let ten = array_found (λ y. y.now) c.as_mut_array.ensures.cases c.in_ok-characters.ensures.ok_part in
    let why : Refused c.args.block.now c.in_err-read.field-0.0 = subst (λ b. Refused b c.in_err-read.field-0.0) eleven.1 c.in_err-read.ensures in
    rw (p.1, p.2) (ReadRefused.invalid_field eleven.0 ten.0 why.0 why.1)
