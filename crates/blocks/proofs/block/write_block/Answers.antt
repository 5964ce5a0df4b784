use Rattle.std.proofs.Common.{subst}
use Rattle.std.proofs.lemmas.Result.{err_from_is_err_and}
use Rattle.refusal.proofs.Arrays.{array_found, array_refused}
use Rattle.blocks.specs.Characters.{FirstNoCharacter}
use Rattle.blocks.specs.Faults.{block_refusal}
use Rattle.blocks.specs.Blocks.{WriteRefused}
use Rattle.blocks.specs.declared.faults.BlockFault.{BlockFault}
use Rattle.blocks.proofs.block.write_block.Goals as goal

pub returns-in_err-numbers-clause-block_they_make_or_refused :
    goal.returns-in_err-numbers-clause-block_they_make_or_refused
returns-in_err-numbers-clause-block_they_make_or_refused c =
    let p = err_from_is_err_and c.from_residual.result c.from_residual.ensures.1 in
    let h = array_refused (λ y. y.now) c.args.characters.now c.as_array.ensures.cases c.in_err-numbers.ensures.ok_part c.in_err-numbers.ensures.value in
    let Told : BlockFault → Type 0 = λ fault. WriteRefused c.args.characters.now c.args.block.now (block_refusal fault) in
    rw (p.1, p.2) (subst Told h.1 (WriteRefused.input_length h.0))

pub returns-in_err-block-clause-block_they_make_or_refused :
    goal.returns-in_err-block-clause-block_they_make_or_refused
returns-in_err-block-clause-block_they_make_or_refused c =
    let p = err_from_is_err_and c.from_residual-in_err-block.result c.from_residual-in_err-block.ensures.1 in
    let ten = array_found (λ y. y.now) c.as_array.ensures.cases c.in_ok-numbers.ensures.ok_part in
    let h = array_refused (λ y. y.now) c.args.block.now c.as_mut_array.ensures.cases c.in_err-block.ensures.ok_part c.in_err-block.ensures.value in
    let Told : BlockFault → Type 0 = λ fault. WriteRefused c.args.characters.now c.args.block.now (block_refusal fault) in
    rw (p.1, p.2) (subst Told h.1 (WriteRefused.output_length ten.0 h.0))

pub returns-in_err-ten-clause-block_they_make_or_refused :
    goal.returns-in_err-ten-clause-block_they_make_or_refused
returns-in_err-ten-clause-block_they_make_or_refused c =
    let p = err_from_is_err_and c.from_residual-in_err-ten.result c.from_residual-in_err-ten.ensures.1 in
    let ten = array_found (λ y. y.now) c.as_array.ensures.cases c.in_ok-numbers.ensures.ok_part in
    let eleven = array_found (λ y. y.now) c.as_mut_array.ensures.cases c.in_ok-block.ensures.ok_part in
    let (place, first, is) = c.in_err-ten.ensures.their_characters_or_first_place in
    rw (p.1, p.2, is) (WriteRefused.no_character ten.0 eleven.0 (subst (λ ns. FirstNoCharacter ns place) ten.1 first))
