use Rattle.std.proofs.Common.{◌≡◌, ℕ, ◌<◌, ◌≢◌, List, Some, None, Option, length, sym, ap, ◌∙◌, subst, arith, length-set, below_more, get_or-set_same, get_or-set_other}
use Rattle.std.proofs.lemmas.Result.{err_from_is_err_and}
use Rattle.std.specs.Option.{option_map}
use Rattle.refusal.proofs.Arrays.{array_found, array_refused, none_told}
use Rattle.blocks.specs.Cycles.{CharactersOf, CyclesRefused}
use Rattle.blocks.specs.Faults.{cycle_refusal}
use Rattle.blocks.specs.Numbers.{number_of}
use Rattle.blocks.specs.declared.cycle.Cycle.{Cycle}
use Rattle.blocks.specs.declared.faults.CycleFault.{CycleFault}
use Rattle.blocks.proofs.cycle.read_cycles.Goals as goal

some_not_none : (o : Option ℕ) (x : ℕ) → o ≡ Some x → o ≡ None → ⊥
some_not_none o x e f = cc

pub returns-in_err-cycles-clause-their_characters_or_refused :
    goal.returns-in_err-cycles-clause-their_characters_or_refused
returns-in_err-cycles-clause-their_characters_or_refused c =
    let p = err_from_is_err_and c.from_residual.result c.from_residual.ensures.1 in
    let h = array_refused (λ y. y.now) c.args.cycles.now c.as_array.ensures.cases c.in_err-cycles.ensures.ok_part c.in_err-cycles.ensures.value in
    let Told : CycleFault → Type 0 = λ fault. CyclesRefused c.args.ready c.args.cycles.now c.args.characters.now (cycle_refusal fault) in
    rw (p.1, p.2) (subst Told h.1 (CyclesRefused.input_length h.0))

pub returns-in_err-characters-clause-their_characters_or_refused :
    goal.returns-in_err-characters-clause-their_characters_or_refused
returns-in_err-characters-clause-their_characters_or_refused c =
    let p = err_from_is_err_and c.from_residual-in_err-characters.result c.from_residual-in_err-characters.ensures.1 in
    let found = array_found (λ y. y.now) c.as_array.ensures.cases c.in_ok-cycles.ensures.ok_part in
    let h = array_refused (λ y. y.now) c.args.characters.now c.as_mut_array.ensures.cases c.in_err-characters.ensures.ok_part c.in_err-characters.ensures.value in
    let Told : CycleFault → Type 0 = λ fault. CyclesRefused c.args.ready c.args.cycles.now c.args.characters.now (cycle_refusal fault) in
    rw (p.1, p.2) (subst Told h.1 (CyclesRefused.output_length found.0 h.0))

pub returns-in_err-c-clause-their_characters_or_refused :
    goal.returns-in_err-c-clause-their_characters_or_refused
returns-in_err-c-clause-their_characters_or_refused c =
    let p = err_from_is_err_and c.from_residual-in_err-c.result c.from_residual-in_err-c.ensures.1 in
    let found = array_found (λ y. y.now) c.as_array.ensures.cases c.in_ok-cycles.ensures.ok_part in
    let room = array_found (λ y. y.now) c.as_mut_array.ensures.cases c.in_ok-characters.ensures.ok_part in
    let none = sym c.character.ensures.what_it_stands_for ∙ ap (option_map number_of) c.in_err-c.ensures.ok_part in
    let Told : CycleFault → Type 0 = λ fault. CyclesRefused c.args.ready c.in_ok-cycles.cycles.now c.args.characters.now (cycle_refusal fault) in
    let refused : Told c.in_err-c.field-0.0 = subst Told (none_told c.in_err-c.ensures.ok_part c.in_err-c.ensures.value)
    (CyclesRefused.reserved (ap length found.1 ∙ found.0) room.0 (omega arith) (λ j h e. some_not_none _ _ (c.loop-place.invariant.so_far j h) e) none) in
    let Of : List Cycle → Type 0 = λ cycles. CyclesRefused c.args.ready cycles c.args.characters.now (cycle_refusal c.in_err-c.field-0.0) in
    rw (p.1, p.2) (subst Of found.1 refused)

pub loop-place-preserved : goal.loop-place-preserved
loop-place-preserved c =
    let read = c.loop-place.read in
    let place = c.loop-place.place in
    let x = c.from.result in
    let inside : place < length read = omega (arith, c.loop-place.invariant.as_long) in
    let here = sym c.character.ensures.what_it_stands_for ∙ ap (option_map number_of) c.in_ok-c.ensures.ok_part ∙ ap Some (sym c.from.ensures) in
    record {
      as_long = simp length-set c.loop-place.invariant.as_long;
      so_far = below_more _ _
          (λ j h. let ne : j ≢ place = omega arith in c.loop-place.invariant.so_far j h ∙ ap Some (sym (get_or-set_other read place j x 0 ne)))
          (here ∙ ap Some (sym (get_or-set_same read place x 0 inside)));
    }

pub returns-clause-their_characters_or_refused : goal.returns-clause-their_characters_or_refused
returns-clause-their_characters_or_refused c =
    let found = array_found (λ y. y.now) c.as_array.ensures.cases c.in_ok-cycles.ensures.ok_part in
    subst (λ cycles. CharactersOf c.args.ready cycles c.loop-place.read) found.1
    (record { as_many_cycles = ap length found.1 ∙ found.0; as_many_characters = c.loop-place.invariant.as_long; at_each_place = λ k h. c.loop-place.invariant.so_far k (omega arith) })
