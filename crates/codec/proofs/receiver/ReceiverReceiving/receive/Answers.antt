use Rattle.std.proofs.Common.{◌≡◌, ◌<◌, [], length, get_or, replicate, Some, sym, refl, ap, ◌∙◌, ap₂, subst, inl, inr}
use Rattle.std.specs.List.{prefix_len}
use Rattle.lines.specs.LineCodes.{is_line_symbol}
use Rattle.codec.specs.Calls.{receive, receiver_end, beyond_repair, faults}
use Rattle.codec.specs.declared.faults.LineFault.{LineFault}
use Rattle.codec.specs.declared.faults.EndFault.{EndFault}
use Rattle.codec.specs.Lines.{NoneNear, padded}
use Rattle.codec.specs.Demapping.{Repairs}
use Rattle.refusal.proofs.Arrays.{array_found, array_refused}
use Rattle.codec.proofs.Answering as answering
use Rattle.codec.proofs.Faulted as faulted
use Rattle.codec.proofs.receiver.ReceiverReceiving.receive.Given.{Over}
use Rattle.codec.proofs.receiver.ReceiverReceiving.receive.Goals as goal
use Rattle.codec.proofs.receiver.ReceiverReceiving.receive.Goals.{In_ok-check_line}

-- all checks passed
no_fault : (g : Over) (c : In_ok-check_line g) → faults c.args.self.now.lock (receive c.args.line.now c.args.characters.now c.args.places.now) ≡ []
no_fault g c =
    let room = array_found (λ y. y.now) c.as_mut_array.ensures.cases c.in_ok-characters.ensures.ok_part in
    let places = array_found (λ y. y.now) c.as_mut_array-2.ensures.cases c.in_ok-places.ensures.ok_part in
    let symbols = subst (λ l. prefix_len is_line_symbol l ≡ length l) c.in_ok-line.ensures.1 c.in_ok-check_line.ensures in
    faulted.receive_no_fault c.args.line.now c.args.characters.now c.args.places.now c.args.self.now.lock c.in_ok-check_lock.ensures c.in_ok-line.ensures.0 room.0 places.0 symbols

pub returns-in_err-check_lock : goal.returns-in_err-check_lock
returns-in_err-check_lock g c =
    let h = c.in_err-check_lock.ensures in
    let first = faulted.receive_no_lock c.args.line.now c.args.characters.now c.args.places.now c.args.self.now.lock h.0 ∙ ap Some (sym h.1) in
    answering.receive_refused _ _ _ _ first _ c.from_residual.ensures.1

pub returns-in_err-line : goal.returns-in_err-line
returns-in_err-line g c =
    let h = c.in_err-line.ensures in
    let first = faulted.receive_line_length c.args.line.now c.args.characters.now c.args.places.now c.args.self.now.lock c.in_ok-check_lock.ensures h.0 ∙ ap Some (sym h.1) in
    answering.receive_refused _ _ _ _ first _ c.from_residual-in_err-line.ensures.1

pub returns-in_err-characters : goal.returns-in_err-characters
returns-in_err-characters g c =
    let h = array_refused (λ y. y.now) c.args.characters.now c.as_mut_array.ensures.cases c.in_err-characters.ensures.ok_part c.in_err-characters.ensures.value in
    let first = faulted.receive_characters_length c.args.line.now c.args.characters.now c.args.places.now c.args.self.now.lock c.in_ok-check_lock.ensures c.in_ok-line.ensures.0 h.0 ∙ ap Some h.1 in
    answering.receive_refused _ _ _ _ first _ c.from_residual-in_err-characters.ensures.1

pub returns-in_err-places : goal.returns-in_err-places
returns-in_err-places g c =
    let room = array_found (λ y. y.now) c.as_mut_array.ensures.cases c.in_ok-characters.ensures.ok_part in
    let h = array_refused (λ y. y.now) c.args.places.now c.as_mut_array-2.ensures.cases c.in_err-places.ensures.ok_part c.in_err-places.ensures.value in
    let first = faulted.receive_places_length c.args.line.now c.args.characters.now c.args.places.now c.args.self.now.lock c.in_ok-check_lock.ensures c.in_ok-line.ensures.0 room.0 h.0 ∙ ap Some h.1 in
    rw room.1 (answering.receive_refused _ _ _ _ first _ c.from_residual-in_err-places.ensures.1)

pub returns-in_err-check_line : goal.returns-in_err-check_line
returns-in_err-check_line g c =
    let room = array_found (λ y. y.now) c.as_mut_array.ensures.cases c.in_ok-characters.ensures.ok_part in
    let places = array_found (λ y. y.now) c.as_mut_array-2.ensures.cases c.in_ok-places.ensures.ok_part in
    let h = subst (λ l. (prefix_len is_line_symbol l < length l) × (c.in_err-check_line.field-0.0 ≡ LineFault.NoLineSymbol (prefix_len is_line_symbol l))) c.in_ok-line.ensures.1 c.in_err-check_line.ensures in
    let first = faulted.receive_no_line_symbol c.args.line.now c.args.characters.now c.args.places.now c.args.self.now.lock c.in_ok-check_lock.ensures (prefix_len is_line_symbol c.args.line.now) c.in_ok-line.ensures.0 room.0 places.0 refl h.0 ∙ ap Some (ap EndFault.Line (sym h.1)) in
    rw (room.1, places.1) (answering.receive_refused _ _ _ _ first _ c.from_residual-in_err-check_line.ensures.1)

pub returns-in-Ok : goal.returns-in-Ok
returns-in-Ok g c =
    let end = receiver_end g.A.Arithmetic.field g.S.Stream.mask g.L.LineCode.pair c.args.self.now in
    let word = c.in-Ok.repaired.word.symbols in
    let none = no_fault g (goal.at.returns-in-Ok g c).In_ok-check_line in
    let m : Repairs end c.args.line.now word c.in-Ok.repaired.places.items = subst (λ l. Repairs end l word c.in-Ok.repaired.places.items) c.in_ok-line.ensures.1 c.in-Ok.ensures.near_or_none in
    let listed = c.deref.ensures.0 ∙ m.places in
    record {
      answers_by_its_rule = answering.performed _ _ _ _ _ _ none
          (inl (record {
            word = word;
            near = m.near;
            characters = c.read_frame-told.new.characters;
            report = record { symbol = get_or word 405 0; places = c.len.result; invalid = c.read_frame-told.result.invalid; fault = c.read_frame-told.result.fault };
            told = record { symbol = refl; count = c.len.ensures.value ∙ ap length m.places; frame = c.read_frame-told.ensures };
            leaves = ap (receive c.args.line.now c.read_frame-told.new.characters) (c.write_places.ensures ∙ ap padded listed);
            reports = refl;
          }));
      stands_later = c.in-Ok.ensures.stands_later;
      lock_moves = c.note.ensures;
    }

pub returns-in-Err : goal.returns-in-Err
returns-in-Err g c =
    let room = array_found (λ y. y.now) c.as_mut_array.ensures.cases c.in_ok-characters.ensures.ok_part in
    let places = array_found (λ y. y.now) c.as_mut_array-2.ensures.cases c.in_ok-places.ensures.ok_part in
    let none = no_fault g (goal.at.returns-in-Err g c).In_ok-check_line in
    let end = receiver_end g.A.Arithmetic.field g.S.Stream.mask g.L.LineCode.pair c.args.self.now in
    let e : c.from-in-Err.result ≡ beyond_repair = c.from-in-Err.ensures ∙ ap EndFault.Code c.from.ensures in
    let errors = c.fill.ensures.after (λ y q. q) ∙ ap (λ k. replicate k 257) (ap length room.1 ∙ room.0) in
    let no_places = c.fill-in-Err.ensures.after (λ y q. q) ∙ ap (λ k. replicate k 450) (ap length places.1 ∙ places.0) in
    rw e (record {
      answers_by_its_rule = answering.performed _ _ _ _ _ _ none
          (inr (record { none_near = subst (λ l. NoneNear end 0 l) c.in_ok-line.ensures.1 c.in-Err.ensures.near_or_none; leaves = ap₂ (receive c.args.line.now) errors no_places; reports = refl }));
      stands_later = c.in-Err.ensures.stands_later;
      lock_moves = c.note-in-Err.ensures;
    })
